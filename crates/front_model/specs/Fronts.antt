-- Which fronts may be checked against a proof, and the front of a specification.
use Rattle.std.specs.Prelude.{◌≡◌, ◌≢◌, ℕ, ◌<◌, true, List, length, map, All, Contains, slice_index, slice_index_or}
use Rattle.spec_model.specs.Spec.{SpecValue, bits_of}
use Rattle.spec_model.specs.Rules.{IsValid}
use Rattle.spec_model.specs.Vectors.{vector_of, IsAtMost, IsInFront}
use Rattle.result_text.specs.Answers.{EntryValue}
use Rattle.result_text.specs.Fronts.{FrontValue}

-- the vectors of entries
abbrev pub vector_in : EntryValue → List ℕ
vector_in e = e.vector

abbrev pub vectors_of : FrontValue → List (List ℕ)
vectors_of front = map vector_in front.entries

-- u stands before v: at the first place at which they differ it is less
pub record StandsBefore (u v : List ℕ) : Type 0 where
  pub place : ℕ
  pub same : (j : ℕ) → j < place → slice_index u j ≡ slice_index v j
  pub less : slice_index u place < slice_index v place

-- an entry has a valid design, and states its vector
pub record IsEntry (s : SpecValue) (e : EntryValue) : Type 0 where
  pub valid : IsValid s (bits_of e.design)
  pub stated : vector_of s (bits_of e.design) ≡ e.vector

-- each vector stands before the later ones
abbrev pub Rise : List (List ℕ) → Type 0
Rise us = (i j : ℕ) (d : List ℕ) → i < j → j < length us → StandsBefore (slice_index_or us i d) (slice_index_or us j d)

-- no vector is at most another in each place
abbrev pub AreApart : List (List ℕ) → Type 0
AreApart us = (i j : ℕ) (d : List ℕ) → i < length us → j < length us → i ≢ j → ¬ IsAtMost (slice_index_or us i d) (slice_index_or us j d)

-- a front that a proof may be checked against; that nothing is missing is what the proof shows
pub record IsClaim (s : SpecValue) (front : FrontValue) : Type 0 where
  pub entries : All (IsEntry s) front.entries
  pub rising : Rise (vectors_of front)
  pub apart : AreApart (vectors_of front)
  pub complete : front.complete ≡ true

-- the front of a specification: each entry has a valid design and its vector, the vectors are those that no valid design's vector dominates, and none stands twice
pub record IsFrontOf (s : SpecValue) (front : FrontValue) : Type 0 where
  pub entries : All (IsEntry s) front.entries
  pub only : All (IsInFront s) (vectors_of front)
  pub each : (v : List ℕ) → IsInFront s v → Contains (vectors_of front) v
  pub once : (i j : ℕ) (d : List ℕ) → i < j → j < length front.entries → slice_index_or (vectors_of front) i d ≢ slice_index_or (vectors_of front) j d
