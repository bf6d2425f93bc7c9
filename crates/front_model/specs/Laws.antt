-- What accepting means, and that lines are judged as it says.
use Rattle.std.specs.Prelude.{◌≡◌, ℕ, ◌+◌, ◌<◌, ◌≤◌, true, Some, List, [], ◌∷◌, ◌++◌, length, All, ◌↔◌}
use Rattle.std.specs.List.{position_or_len, list_any, concat}
use Rattle.line_words.specs.Front.{is_lf}
use Rattle.block_encode.specs.Laws.{variables_to, KnowsBelow}
use Rattle.spec_model.specs.Spec.{SpecValue, Bits}
use Rattle.spec_model.specs.Rules.{IsValid}
use Rattle.spec_model.specs.Vectors.{vector_of}
use Rattle.spec_model.specs.WellFormed.{IsWellFormed}
use Rattle.spelled_lines.specs.Lines.{pieces}
use Rattle.result_text.specs.Fronts.{FrontValue}
use Rattle.front_model.specs.Fronts.{vectors_of, IsClaim, IsFrontOf}
use Rattle.front_model.specs.Proofs.{HasBelow, Proves, Accepts, AcceptsTexts}
use Rattle.front_model.specs.Judging.{Progress, begun, take_line, take_lines, verdict_of}
use Rattle.front_model.specs.declared.refusals.Refused.{Refused}
use Rattle.front_model.specs.declared.refusals.Verdict.TheVariants as verdicts

-- a front that may be checked, and of which each valid design's vector has one at most it, is the front of the specification
abbrev pub ClaimIsFront : Type 0
ClaimIsFront = (s : SpecValue) (front : FrontValue) → IsClaim s front → ((f : Bits) → IsValid s f → HasBelow (vectors_of front) (vector_of s f)) → IsFrontOf s front

-- a front that is accepted with a proof text is the front of the specification
abbrev pub AcceptedIsFront : Type 0
AcceptedIsFront = (s : SpecValue) (front : FrontValue) (text : List ℕ) → IsWellFormed s → Accepts s front text → IsFrontOf s front

-- and so is the front whose bytes are accepted
abbrev pub AcceptedTextIsFront : Type 0
AcceptedTextIsFront = (s : SpecValue) (front_bytes proof_bytes : List ℕ) → IsWellFormed s → (a : AcceptsTexts s front_bytes proof_bytes) → IsFrontOf s a.front

-- the lines of a text are accepted exactly where the text proves the front
abbrev pub JudgedExactly : Type 0
JudgedExactly = (s : SpecValue) (us : List (List ℕ)) (text : List ℕ) → (verdict_of (take_lines s us (begun s) (pieces text)) ≡ verdicts.Accepted) ↔ Proves s us text

-- a line with its LF, or the last line without: no LF stands before the last byte
pub record IsPiece (bytes : List ℕ) : Type 0 where
  pub some : 0 < length bytes
  pub one_lf : length bytes ≤ position_or_len is_lf bytes + 1

-- pieces of a text, each but the last with its LF
abbrev pub AreCut : List (List ℕ) → Type 0
AreCut [] = Unit {0}
AreCut (p ∷ []) = IsPiece p
AreCut (p ∷ q ∷ ps) = IsPiece p × (list_any is_lf p ≡ true) × AreCut (q ∷ ps)

-- they are the pieces of what they join to
abbrev pub CutIsPieces : Type 0
CutIsPieces = (ps : List (List ℕ)) → AreCut ps → pieces (concat ps) ≡ ps

-- a piece with its LF
pub record IsEnded (bytes : List ℕ) : Type 0 where
  pub piece : IsPiece bytes
  pub ends : list_any is_lf bytes ≡ true

-- pieces with their LF are the first ones of each text that begins with what they join to
abbrev pub EndedAreFirst : Type 0
EndedAreFirst = (ps : List (List ℕ)) (more : List ℕ) → All IsEnded ps → pieces (concat ps ++ more) ≡ ps ++ pieces more

-- ---- taken line by line

-- how far a proof was taken is what some pieces of a text led to
pub record IsReached (s : SpecValue) (us : List (List ℕ)) (p : Progress) : Type 0 where
  pub pieces : List (List ℕ)
  pub each : All IsPiece pieces
  pub is : take_lines s us (begun s) pieces ≡ p

-- where a proof that was taken is accepted, the front is that of the specification
abbrev pub ReachedIsFront : Type 0
ReachedIsFront = (s : SpecValue) (front : FrontValue) (p : Progress) → IsWellFormed s → IsClaim s front → IsReached s (vectors_of front) p → verdict_of p ≡ verdicts.Accepted → IsFrontOf s front

-- a line more
abbrev pub ReachesOn : Type 0
ReachesOn = (s : SpecValue) (us : List (List ℕ)) (p : Progress) (piece : List ℕ) → IsReached s us p → IsPiece piece → IsReached s us (take_line s us p piece)

-- nothing was taken
abbrev pub BeginsReached : Type 0
BeginsReached = (s : SpecValue) (us : List (List ℕ)) → IsReached s us (begun s)

-- after a refusal no line changes anything
abbrev pub RefusalStays : Type 0
RefusalStays = (s : SpecValue) (us ps : List (List ℕ)) (p : Progress) (r : Refused) → p.refused ≡ Some r → take_lines s us p ps ≡ p

-- the variables that are there once a proof was taken so far
abbrev pub IsKnown : SpecValue → Progress → Type 0
IsKnown s p = KnowsBelow p.given.constraints (variables_to s p.given.covers)

abbrev pub BeginsKnown : Type 0
BeginsKnown = (s : SpecValue) → IsWellFormed s → IsKnown s (begun s)

abbrev pub StaysKnown : Type 0
StaysKnown = (s : SpecValue) (us : List (List ℕ)) (p : Progress) (piece : List ℕ) → IsPiece piece → IsKnown s p → IsKnown s (take_line s us p piece)
