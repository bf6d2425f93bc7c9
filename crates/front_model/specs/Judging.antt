-- A proof file judged line by line, with the first fault.
use Rattle.std.specs.Prelude.{ℕ, ◌+◌, ◌==◌, nat_lt, nat_le, Bool, false, ◌&&◌, if◌then◌else◌, List, [], ◌∷◌, length, Option, Some, None, Result, Ok, Err, codes, slice_index}
use Rattle.std.specs.List.{list_any, list_all, position_or_len}
use Rattle.std.specs.Str.{bytes_eq}
use Rattle.line_words.specs.Rules.{Words}
use Rattle.pb_rules.specs.declared.Op.{Op}
use Rattle.pb_rules.specs.Linear.{Linear}
use Rattle.pb_rules.specs.Operations.{Context, Fault, unknown, zero_divisor, too_large, no_step, and_then, apply, only_one}
use Rattle.pb_rules.specs.Frames.{Given, context_of, base_of, with_derived, with_block}
use Rattle.proof_words.specs.Words.{op_of, numeral_number}
use Rattle.spec_model.specs.Spec.{SpecValue, below}
use Rattle.encode_model.specs.Block.{total_weight, cover_frame}
use Rattle.spelled_lines.specs.Lines.{words_of}
use Rattle.proof_log.specs.Text.{header}
use Rattle.proof_log.specs.Files.{each_said, is_misshapen}
use Rattle.front_model.specs.declared.refusals.ProofWhy.{ProofWhy}
use Rattle.front_model.specs.declared.refusals.ProofWhy.TheVariants.{BadStep, UnknownId, ZeroDivisor, TooLarge, CoverAboveWeight, CoverNotDominated, NoContradiction}
use Rattle.front_model.specs.declared.refusals.Refused.{Refused}
use Rattle.front_model.specs.declared.refusals.Verdict.{Verdict}
use Rattle.front_model.specs.declared.refusals.Verdict.TheVariants as verdicts

-- ---- the words of a derived line

-- what a file is refused for where an operation has a fault
abbrev pub why_of : Fault → ProofWhy
why_of (unknown n) = UnknownId n
why_of zero_divisor = ZeroDivisor
why_of (too_large n) = TooLarge n
why_of no_step = BadStep

-- what a word does to a stack; a word that says no operation is no step
abbrev pub judge_op : Context → List Linear → Option Op → Result (List Linear) Fault
judge_op context st None = Err no_step
judge_op context st (Some op) = apply context op st

-- words from left to right over a stack, its top first, up to the first fault
abbrev pub judge_words : Context → Words → List Linear → Result (List Linear) Fault
judge_words context [] st = Ok st
judge_words context (w ∷ ws) st = and_then (judge_words context ws) (judge_op context st (op_of w))

-- the constraint that the words of a derived line give
abbrev pub judge_derivation : Context → Words → Result Linear Fault
judge_derivation context ws = and_then only_one (judge_words context ws [])

-- ---- the words of a cover

-- the numbers that words write, where each is a numeral
abbrev pub numbers_of : Words → Option (List ℕ)
numbers_of ws = each_said numeral_number ws

-- number j is above its objective's weights
abbrev pub is_above : SpecValue → List ℕ → ℕ → Bool
is_above s v j = nat_lt (total_weight s j) (slice_index v j)

-- the first such place, or how many numbers there are
abbrev pub first_above : SpecValue → List ℕ → ℕ
first_above s v = position_or_len (is_above s v) (below (length v))

-- one vector is at most another in a place, and in each place
abbrev pub is_at_most_at : List ℕ → List ℕ → ℕ → Bool
is_at_most_at u v j = nat_le (slice_index u j) (slice_index v j)

abbrev pub is_at_most : List ℕ → List ℕ → Bool
is_at_most v u = list_all (is_at_most_at u v) (below (length u))

-- the tests of a cover of numbers, one after another
abbrev pub judge_numbers : SpecValue → List (List ℕ) → List ℕ → Result (List ℕ) ProofWhy
judge_numbers s us v =
    if length v == length s.objectives
    then (if nat_lt (first_above s v) (length v) then Err (CoverAboveWeight (first_above s v))
    else (if list_any (is_at_most v) us then Ok v else Err (CoverNotDominated v)))
    else Err BadStep

abbrev pub judge_cover : SpecValue → List (List ℕ) → Option (List ℕ) → Result (List ℕ) ProofWhy
judge_cover s us None = Err BadStep
judge_cover s us (Some v) = judge_numbers s us v

-- ---- lines

-- what was given so far, and whether the last line derived a clash
pub record Stand : Type 0 where
  pub given : Given
  pub closed : Bool

abbrev pub is_clash : Linear → Bool
is_clash c = (length c.terms == 0) && nat_lt 0 c.degree

abbrev pub after_derived : Given → Result Linear Fault → Result Stand ProofWhy
after_derived g (Ok c) = Ok (record { given = with_derived g c; closed = is_clash c })
after_derived g (Err fault) = Err (why_of fault)

abbrev pub after_cover : SpecValue → Given → Result (List ℕ) ProofWhy → Result Stand ProofWhy
after_cover s g (Ok v) = Ok (record { given = with_block (cover_frame s) g v; closed = false })
after_cover s g (Err why) = Err why

-- the words of a line
abbrev pub judge_line : SpecValue → List (List ℕ) → Given → Words → Result Stand ProofWhy
judge_line s us g [] = Err BadStep
judge_line s us g (k ∷ ws) =
    if bytes_eq k (codes "p") then after_derived g (judge_derivation (context_of g) ws)
    else (if bytes_eq k (codes "c") then after_cover s g (judge_cover s us (numbers_of ws))
    else Err BadStep)

-- a line is tried by its form before its words
abbrev pub judge_piece : SpecValue → List (List ℕ) → Given → List ℕ → Result Stand ProofWhy
judge_piece s us g piece = if is_misshapen piece then Err BadStep else judge_line s us g (words_of piece)

-- ---- the file

-- how far a proof file was taken: how many lines, what they gave, whether the last one derived a clash, and the first fault
pub record Progress : Type 0 where
  pub lines : ℕ
  pub given : Given
  pub closed : Bool
  pub refused : Option Refused

-- nothing was taken
abbrev pub begun : SpecValue → Progress
begun s = record { lines = 0; given = base_of (cover_frame s); closed = false; refused = None }

abbrev pub refusal_at : ℕ → ProofWhy → Refused
refusal_at line why = record { line = line; why = why }

-- one line more, by what was judged of it
abbrev pub judged : Progress → Result Stand ProofWhy → Progress
judged p (Ok stand) = record { lines = p.lines + 1; given = stand.given; closed = stand.closed; refused = None }
judged p (Err why) = record p { refused = Some (refusal_at (p.lines + 1) why) }

-- the first line
abbrev pub judge_header : Given → List ℕ → Result Stand ProofWhy
judge_header g piece = if bytes_eq piece header then Ok (record { given = g; closed = false }) else Err BadStep

abbrev pub judge_next : SpecValue → List (List ℕ) → ℕ → Given → List ℕ → Result Stand ProofWhy
judge_next s us lines g piece = if lines == 0 then judge_header g piece else judge_piece s us g piece

-- a line more is taken; after a fault nothing changes
abbrev pub take_if : SpecValue → List (List ℕ) → Progress → List ℕ → Option Refused → Progress
take_if s us p piece None = judged p (judge_next s us p.lines p.given piece)
take_if s us p piece (Some r) = p

abbrev pub take_line : SpecValue → List (List ℕ) → Progress → List ℕ → Progress
take_line s us p piece = take_if s us p piece p.refused

abbrev pub take_lines : SpecValue → List (List ℕ) → Progress → List (List ℕ) → Progress
take_lines s us p [] = p
take_lines s us p (piece ∷ more) = take_lines s us (take_line s us p piece) more

-- what is said at the end
abbrev pub verdict_if : Progress → Option Refused → Verdict
verdict_if p (Some r) = verdicts.Refused r
verdict_if p None =
    if p.lines == 0 then verdicts.Refused (refusal_at 1 BadStep)
    else (if p.closed then verdicts.Accepted
    else verdicts.Refused (refusal_at (p.lines + 1) NoContradiction))

abbrev pub verdict_of : Progress → Verdict
verdict_of p = verdict_if p p.refused
