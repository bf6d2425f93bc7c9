-- What found lists come to: the next design of a search, the front that is written, and the covers of a log that refutes.
use Rattle.std.specs.Prelude.{◌≡◌, ℕ, ◌≤◌, Bool, true, List, [], ◌∷◌, ◌++◌, length, take, All, Contains}
use Rattle.pb_rules.specs.Literal.{Literal}
use Rattle.pb_rules.specs.Linear.{Linear, HasNoModel}
use Rattle.pb_rules.specs.Order.{IsFirstModel}
use Rattle.pb_rules.specs.Frames.{Line, blocks_by}
use Rattle.proof_log.specs.Text.{proof_text}
use Rattle.genotype.specs.Order.{IsOrderOf}
use Rattle.spec_model.specs.Spec.{SpecValue, Bits, bits_of, design_variables}
use Rattle.spec_model.specs.Rules.{IsValid}
use Rattle.spec_model.specs.Vectors.{vector_of}
use Rattle.spec_model.specs.Genotypes.{IsSameDesign, natural}
use Rattle.spec_model.specs.WellFormed.{IsWellFormed}
use Rattle.encode_model.specs.Encoding.{encoding}
use Rattle.encode_model.specs.Block.{cover_frame}
use Rattle.result_text.specs.Answers.{EntryValue}
use Rattle.result_text.specs.Fronts.{front_text, IsShaped}
use Rattle.front_model.specs.Fronts.{IsClaim, IsFrontOf}
use Rattle.front_model.specs.Proofs.{HasBelow, Refute, AcceptsTexts}
use Rattle.front_lists.specs.Lists.{FoundPrefix, FoundWhole, IsNext, vectors_in, AreUndominated, front_with, covers_of}

-- ---- what is found

-- the constraints of a search after some lines: the encoding, and the blocks of their covers
abbrev pub searched : SpecValue → List Line → List Linear
searched s ls = encoding s ++ blocks_by (cover_frame s) ls

-- their first model is of the design that is found next
abbrev pub FirstModelIsNext : Type 0
FirstModelIsNext =
    (s : SpecValue) (found : List EntryValue) (ls : List Line) (n : ℕ) (order : List Literal) (m : ℕ → Bool) (design : List Bool)
    → IsWellFormed s → FoundPrefix s found → covers_of ls ≡ vectors_in found → design_variables s ≤ n → IsOrderOf (natural (design_variables s)) n order
    → IsFirstModel (searched s ls) order m → length design ≡ design_variables s → IsSameDesign s m (bits_of design)
    → IsNext s (vectors_in found) (record { design = design; vector = vector_of s (bits_of design) })

-- where there is none the found list is whole
abbrev pub NoModelIsWhole : Type 0
NoModelIsWhole =
    (s : SpecValue) (found : List EntryValue) (ls : List Line) → IsWellFormed s → FoundPrefix s found → covers_of ls ≡ vectors_in found
    → HasNoModel (searched s ls) → FoundWhole s found

-- what is found next makes the found list longer
abbrev pub NextIsFound : Type 0
NextIsFound = (s : SpecValue) (found : List EntryValue) (e : EntryValue) → FoundPrefix s found → IsNext s (vectors_in found) e → FoundPrefix s (found ++ e ∷ [])

-- there are at most as many found entries as a list has vectors that has each valid design's
abbrev pub FoundAreFew : Type 0
FoundAreFew =
    (s : SpecValue) (found : List EntryValue) (vs : List (List ℕ)) → FoundPrefix s found → ((f : Bits) → IsValid s f → Contains vs (vector_of s f))
    → length found ≤ length vs

-- each found entry is one of the specification
abbrev pub FoundAreShaped : Type 0
FoundAreShaped = (s : SpecValue) (found : List EntryValue) → IsWellFormed s → FoundPrefix s found → All (IsShaped s) found

-- of two found lists the shorter one is the beginning of the longer one,
abbrev pub FoundIsOne : Type 0
FoundIsOne = (s : SpecValue) (found more : List EntryValue) → FoundPrefix s found → FoundPrefix s more → length found ≤ length more → found ≡ take (length found) more

-- and no found list is longer than a whole one
abbrev pub WholeIsLongest : Type 0
WholeIsLongest = (s : SpecValue) (whole found : List EntryValue) → FoundWhole s whole → FoundPrefix s found → length found ≤ length whole

-- ---- the front

-- each found vector has an undominated one at most it
abbrev pub FoundHaveBelow : Type 0
FoundHaveBelow =
    (s : SpecValue) (found front : List EntryValue) (v : List ℕ) → FoundPrefix s found → AreUndominated found front
    → Contains (vectors_in found) v → HasBelow (vectors_in front) v

-- the undominated ones are a front that a proof may be checked against
abbrev pub UndominatedAreClaim : Type 0
UndominatedAreClaim = (s : SpecValue) (found front : List EntryValue) → FoundPrefix s found → AreUndominated found front → IsClaim s (front_with front true)

-- there is one such list
abbrev pub UndominatedIsOne : Type 0
UndominatedIsOne = (found front other : List EntryValue) → AreUndominated found front → AreUndominated found other → front ≡ other

-- the undominated ones of a whole list are the front of the specification
abbrev pub WholeIsFront : Type 0
WholeIsFront = (s : SpecValue) (found front : List EntryValue) → FoundWhole s found → AreUndominated found front → IsFrontOf s (front_with front true)

-- ---- the proof

-- lines that refute all but what the found vectors cover refute all but what the undominated ones do
abbrev pub UndominatedRefute : Type 0
UndominatedRefute =
    (s : SpecValue) (found front : List EntryValue) (ls : List Line) → FoundPrefix s found → AreUndominated found front
    → Refute s (vectors_in found) ls → Refute s (vectors_in front) ls

-- so their text is accepted with that of the front
abbrev pub TextsAreAccepted : Type 0
TextsAreAccepted =
    (s : SpecValue) (found front : List EntryValue) (ls : List Line) → IsWellFormed s → FoundPrefix s found → AreUndominated found front
    → Refute s (vectors_in found) ls → AcceptsTexts s (front_text s (front_with front true)) (proof_text ls)
