-- What a line gives, as it is judged.
use Rattle.std.specs.Prelude.{◌≡◌, ◌+◌, ℕ, false, List, ◌++◌, Result, Ok, Err, Vec}
use Rattle.std.specs.Global.{Global}
use Rattle.line_words.specs.Rules.{Words}
use Rattle.pb_rules.specs.Linear.{Linear}
use Rattle.pb_rules.specs.Frames.{Given, with_derived}
use Rattle.spec_model.specs.Spec.{SpecValue}
use Rattle.encode_model.specs.Block.{block_of}
use Rattle.front_model.specs.declared.refusals.ProofWhy.{ProofWhy}
use Rattle.front_model.specs.Judging.{Stand, is_clash, numbers_of, judge_cover}
use Rattle.proof_checker.specs.Answers.{Halts}
use Rattle.proof_checker.specs.declared.faults.Halt.{Halt}
use Rattle.proof_checker.specs.declared.lines.Taken.{Taken}
use Rattle.proof_checker.specs.declared.lines.Taken.TheVariants.{Header, Derived, Block}

abbrev pub given_of : List Linear → ℕ → Given
given_of cs covers = record { constraints = cs; covers = covers }

-- what was given after a line
abbrev pub stand_of : Given → Taken → Stand
stand_of g Header = record { given = g; closed = false }
stand_of g (Derived c) = record { given = with_derived g c; closed = is_clash c }
stand_of g (Block block) = record { given = record { constraints = g.constraints ++ block.items; covers = g.covers + 1 }; closed = false }

-- what is judged of a line is what it gives
abbrev pub GivesTaken : Given → Result Stand ProofWhy → Result Taken Halt → Type 0
GivesTaken g judged (Ok taken) = judged ≡ Ok (stand_of g taken)
GivesTaken g judged (Err fault) = Halts judged fault

-- the block of a cover that may stand
pub record IsBlockOf (s : SpecValue) (us : List (List ℕ)) (covers : ℕ) (ws : Words) (block : List Linear) : Type 0 where
  pub cover : List ℕ
  pub judged : judge_cover s us (numbers_of ws) ≡ Ok cover
  pub value : block ≡ block_of s (covers + 1) cover

abbrev pub GivesBlock : SpecValue → List (List ℕ) → ℕ → Words → Result (Vec Linear Global) Halt → Type 0
GivesBlock s us covers ws (Ok block) = IsBlockOf s us covers ws block.items
GivesBlock s us covers ws (Err fault) = Halts (judge_cover s us (numbers_of ws)) fault
