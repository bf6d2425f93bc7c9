-- What an entry of a front is refused for, and which refusal is the first.
use Rattle.std.specs.Prelude.{◌≡◌, ◌≢◌, ℕ, ◌+◌, ◌-◌, ◌<◌, false, List, length, take, slice_index, slice_index_or}
use Rattle.spec_model.specs.Spec.{SpecValue, bits_of}
use Rattle.spec_model.specs.Rules.{IsValid}
use Rattle.spec_model.specs.Vectors.{vector_of, IsAtMost}
use Rattle.impl_rules.specs.Broken.{IsFirstBroken}
use Rattle.result_text.specs.Answers.{EntryValue}
use Rattle.result_text.specs.Fronts.{FrontValue}
use Rattle.front_model.specs.Fronts.{StandsBefore, IsEntry, vectors_of}
use Rattle.front_model.specs.declared.refusals.FrontWhy.{FrontWhy}
use Rattle.front_model.specs.declared.refusals.FrontWhy.TheVariants.{Invalid, VectorDiffers, NotRising, CoveredBy, Open}
use Rattle.front_model.specs.declared.refusals.FrontRefused.{FrontRefused}

-- the first place at which two vectors differ
pub record DifferFirst (u v : List ℕ) (j : ℕ) : Type 0 where
  pub in_range : j < length u
  pub differ : slice_index u j ≢ slice_index v j
  pub same : (i : ℕ) → i < j → slice_index u i ≡ slice_index v i

-- a vector stands after the last of those before it, if there is one
abbrev pub StandsAfter : List (List ℕ) → List ℕ → Type 0
StandsAfter us v = (d : List ℕ) → 0 < length us → StandsBefore (slice_index_or us (length us - 1) d) v

-- number i, from 1, is the first of the vectors that is at most the given one
pub record CoversFirst (us : List (List ℕ)) (v : List ℕ) (i : ℕ) : Type 0 where
  pub from_one : 0 < i
  pub in_range : i < length us + 1
  pub covers : (d : List ℕ) → IsAtMost (slice_index_or us (i - 1) d) v
  pub first : (k : ℕ) (d : List ℕ) → k + 1 < i → ¬ IsAtMost (slice_index_or us k d) v

-- an entry has no fault after these vectors
pub record IsFine (s : SpecValue) (us : List (List ℕ)) (e : EntryValue) : Type 0 where
  pub entry : IsEntry s e
  pub after : StandsAfter us e.vector
  pub apart : (k : ℕ) (d : List ℕ) → k < length us → ¬ IsAtMost (slice_index_or us k d) e.vector

-- the first fault of an entry after these vectors
abbrev pub HasFault : SpecValue → List (List ℕ) → EntryValue → FrontWhy → Type 0
HasFault s us e (Invalid rule) = IsFirstBroken s (bits_of e.design) rule
HasFault s us e (VectorDiffers j) = IsValid s (bits_of e.design) × DifferFirst (vector_of s (bits_of e.design)) e.vector j
HasFault s us e NotRising = IsEntry s e × ¬ StandsAfter us e.vector
HasFault s us e (CoveredBy i) = IsEntry s e × StandsAfter us e.vector × CoversFirst us e.vector i
HasFault s us e Open = ⊥

-- the vectors of the entries before a place
abbrev pub earlier : FrontValue → ℕ → List (List ℕ)
earlier front i = take i (vectors_of front)

-- the first entry with a fault, from 1; or no entry has one, and the front isn't said to be complete
pub record IsFaultAt (s : SpecValue) (front : FrontValue) (i : ℕ) (why : FrontWhy) : Type 0 where
  pub in_range : i < length front.entries
  pub fault : (d : EntryValue) → HasFault s (earlier front i) (slice_index_or front.entries i d) why
  pub first : (k : ℕ) (d : EntryValue) → k < i → IsFine s (earlier front k) (slice_index_or front.entries k d)

pub record IsOpen (s : SpecValue) (front : FrontValue) : Type 0 where
  pub open_end : front.complete ≡ false
  pub each : (k : ℕ) (d : EntryValue) → k < length front.entries → IsFine s (earlier front k) (slice_index_or front.entries k d)

-- entry number n, from 1, is the first with a fault; `Open` is said of entry 0
abbrev pub FaultOf : SpecValue → FrontValue → ℕ → FrontWhy → Type 0
FaultOf s front n (Invalid rule) = (0 < n) × IsFaultAt s front (n - 1) (Invalid rule)
FaultOf s front n (VectorDiffers j) = (0 < n) × IsFaultAt s front (n - 1) (VectorDiffers j)
FaultOf s front n NotRising = (0 < n) × IsFaultAt s front (n - 1) NotRising
FaultOf s front n (CoveredBy i) = (0 < n) × IsFaultAt s front (n - 1) (CoveredBy i)
FaultOf s front n Open = (n ≡ 0) × IsOpen s front

abbrev pub IsFirstFault : SpecValue → FrontValue → FrontRefused → Type 0
IsFirstFault s front r = FaultOf s front r.entry r.why
