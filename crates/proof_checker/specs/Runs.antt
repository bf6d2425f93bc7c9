-- Words that weaken, one after another.
use Rattle.std.specs.Prelude.{◌≡◌, ℕ, ◌+◌, ◌<◌, ◌≤◌, List, length, take, drop, map, All, Option, Some, Result, Ok, Err}
use Rattle.std.specs.List.Sorted.{IsNonDecreasing}
use Rattle.std.specs.Borrow.{Bor}
use Rattle.line_words.specs.Rules.{said}
use Rattle.pb_rules.specs.declared.Op.{Op}
use Rattle.pb_rules.specs.declared.Op.TheVariants.{Weaken}
use Rattle.pb_rules.specs.Linear.{Linear}
use Rattle.pb_rules.specs.Operations.{Context, Fault, for_top}
use Rattle.cutting_planes.specs.Weakened.{weaken_each}
use Rattle.proof_words.specs.Words.{op_of}
use Rattle.front_model.specs.Judging.{judge_words}
use Rattle.proof_checker.specs.Answers.{StepHalts}
use Rattle.proof_checker.specs.declared.faults.StepFault.{StepFault}

abbrev pub word_op : Bor (List ℕ) → Option Op
word_op w = op_of w.now

abbrev pub weakening : ℕ → Option Op
weakening x = Some (Weaken x)

-- the word weakens by this variable, which is there and not below the least that may follow
pub record Follows (known least : ℕ) (w : List ℕ) (x : ℕ) : Type 0 where
  pub says : op_of w ≡ Some (Weaken x)
  pub after : least ≤ x
  pub there : x < known

-- words from a place on weaken by these variables: each is there, and none is below the one before it
pub record IsRun (known : ℕ) (ws : List (Bor (List ℕ))) (from : ℕ) (xs : List ℕ) : Type 0 where
  pub says : map word_op (take (length xs) (drop from ws)) ≡ map weakening xs
  pub within : from + length xs ≤ length ws
  pub there : All (λ x. x < known) xs
  pub rising : IsNonDecreasing xs

-- the top weakened by each variable of a list
abbrev pub weakened : List ℕ → Linear → Result Linear Fault
weakened xs a = Ok (weaken_each xs a)

abbrev pub weaken_run : List ℕ → List Linear → Result (List Linear) Fault
weaken_run xs st = for_top (weakened xs) st

-- words from a place on are carried out up to the next place, from where judging goes on over what is left; or the first fault of the words is answered
abbrev pub StepReaches : Context → List (Bor (List ℕ)) → ℕ → List Linear → List Linear → Result ℕ StepFault → Type 0
StepReaches context ws from old new (Ok next) = judge_words context (said (drop from ws)) old ≡ judge_words context (said (drop next ws)) new
StepReaches context ws from old new (Err fault) = StepHalts (judge_words context (said (drop from ws)) old) fault
