-- Found lists: which designs a search finds one after another, and which of them no other one dominates.
use Rattle.std.specs.Prelude.{◌≡◌, ℕ, ◌<◌, Bool, List, [], ◌∷◌, length, map, take, All, Contains, slice_index_or}
use Rattle.pb_rules.specs.Frames.{Line, derived, cover}
use Rattle.spec_model.specs.Spec.{SpecValue, Bits, bits_of, design_variables}
use Rattle.spec_model.specs.Rules.{IsValid}
use Rattle.spec_model.specs.Vectors.{vector_of, Dominates}
use Rattle.spec_model.specs.Genotypes.{natural, IsFirstAmong}
use Rattle.result_text.specs.Answers.{EntryValue}
use Rattle.result_text.specs.Fronts.{FrontValue}
use Rattle.front_model.specs.Fronts.{vector_in, Rise}
use Rattle.front_model.specs.Proofs.{HasBelow}

-- a valid design whose vector none of some vectors covers
pub record IsLeft (s : SpecValue) (us : List (List ℕ)) (f : Bits) : Type 0 where
  pub valid : IsValid s f
  pub uncovered : ¬ HasBelow us (vector_of s f)

-- what is found after some vectors: the first design that they leave, in the order of the natural genotype, and its vector
pub record IsNext (s : SpecValue) (us : List (List ℕ)) (e : EntryValue) : Type 0 where
  pub one_each : length e.design ≡ design_variables s
  pub stated : vector_of s (bits_of e.design) ≡ e.vector
  pub first : IsFirstAmong (IsLeft s us) (design_variables s) (natural (design_variables s)) (bits_of e.design)

-- the vectors of entries
abbrev pub vectors_in : List EntryValue → List (List ℕ)
vectors_in es = map vector_in es

-- vectors of one length
abbrev pub AreLong : ℕ → List (List ℕ) → Type 0
AreLong n us = All (λ u. length u ≡ n) us

-- each entry is what is found after those before it
abbrev pub FoundPrefix : SpecValue → List EntryValue → Type 0
FoundPrefix s found = (i : ℕ) (d : EntryValue) → i < length found → IsNext s (vectors_in (take i found)) (slice_index_or found i d)

-- and they leave no design
pub record FoundWhole (s : SpecValue) (found : List EntryValue) : Type 0 where
  pub prefix : FoundPrefix s found
  pub none_left : (f : Bits) → ¬ IsLeft s (vectors_in found) f

-- no vector of a list dominates the vector
abbrev pub IsUndominated : List (List ℕ) → List ℕ → Type 0
IsUndominated us v = (u : List ℕ) → Contains us u → ¬ Dominates u v

-- an entry that was found and that no found one dominates
pub record IsKept (found : List EntryValue) (e : EntryValue) : Type 0 where
  pub there : Contains found e
  pub undominated : IsUndominated (vectors_in found) e.vector

-- the entries of a found list that no entry of it dominates, each once, in rising order of their vectors
pub record AreUndominated (found front : List EntryValue) : Type 0 where
  pub only : All (IsKept found) front
  pub each : (e : EntryValue) → IsKept found e → Contains front e
  pub rising : Rise (vectors_in front)

-- the front of entries, which is said to be whole or not
abbrev pub front_with : List EntryValue → Bool → FrontValue
front_with entries complete = record { entries = entries; complete = complete }

-- the vectors of the covers of lines, in order
abbrev pub covers_of : List Line → List (List ℕ)
covers_of [] = []
covers_of (derived ops ∷ ls) = covers_of ls
covers_of (cover v ∷ ls) = v ∷ covers_of ls
