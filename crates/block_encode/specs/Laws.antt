-- What blocks say of designs, and that they make a frame.
use Rattle.std.specs.Prelude.{◌≡◌, ◌≢◌, ◌↔◌, ◌⊎◌, ℕ, ◌+◌, ◌*◌, ◌<◌, ◌≤◌, nat_lt, List, [], ◌∷◌, ◌++◌, length, All}
use Rattle.pb_rules.specs.Linear.{Linear, IsModel}
use Rattle.pb_rules.specs.Frames.{any_mentions, Line, derived, cover, IsFrame, CoversHave, blocks_by}
use Rattle.pb_constraints.specs.Sets.{IsBelow}
use Rattle.spec_model.specs.Spec.{SpecValue, Bits, all_variables}
use Rattle.spec_model.specs.Vectors.{vector_of, IsAtMost}
use Rattle.spec_model.specs.WellFormed.{IsWellFormed}
use Rattle.encode_model.specs.Encoding.{encoding}
use Rattle.encode_model.specs.Block.{IsWithinWeights, below_var, block_of, cover_frame}

-- two assignments differ in a block's own variables alone
abbrev pub AgreeOutside : SpecValue → ℕ → Bits → Bits → Type 0
AgreeOutside s b f g = (x : ℕ) → ((j : ℕ) → j < length s.objectives → x ≢ below_var s b j) → f x ≡ g x

-- values of a block's own variables make an assignment a model of the block
pub record Extends (s : SpecValue) (b : ℕ) (v : List ℕ) (f : Bits) : Type 0 where
  pub values : Bits
  pub agree : AgreeOutside s b values f
  pub model : IsModel (block_of s b v) values

-- an assignment can be made a model of a block exactly where the cover's vector doesn't cover its vector
abbrev pub UncoveredExtend : Type 0
UncoveredExtend =
    (s : SpecValue) (b : ℕ) (v : List ℕ) (f : Bits) → length v ≡ length s.objectives → IsWithinWeights s v
    → Extends s b v f ↔ ¬ IsAtMost v (vector_of s f)

-- the cover's vector covers the vector of no model of the block
abbrev pub ModelsAreUncovered : Type 0
ModelsAreUncovered = (s : SpecValue) (b : ℕ) (v : List ℕ) (f : Bits) → length v ≡ length s.objectives → IsModel (block_of s b v) f → ¬ IsAtMost v (vector_of s f)

-- the variables of a block are no other block's and not the encoding's
pub record IsFresh (s : SpecValue) (b c i j : ℕ) : Type 0 where
  pub of_encoding : all_variables s ≤ below_var s b i
  pub of_later : below_var s b i < below_var s c j

abbrev pub BlocksAreFresh : Type 0
BlocksAreFresh = (s : SpecValue) (b c i j : ℕ) → 0 < b → b < c → i < length s.objectives → IsFresh s b c i j

-- how many variables the encoding and the blocks up to cover number b have
abbrev pub variables_to : SpecValue → ℕ → ℕ
variables_to s b = all_variables s + b * length s.objectives

-- a block has no other variables than these
abbrev pub BlocksAreInRange : Type 0
BlocksAreInRange = (s : SpecValue) (b : ℕ) (v : List ℕ) → 0 < b → length v ≡ length s.objectives → All (IsBelow (variables_to s b)) (block_of s b v)

-- the encoding and the blocks are a frame
abbrev pub BlocksMakeFrame : Type 0
BlocksMakeFrame = (s : SpecValue) → IsWellFormed s → IsFrame (cover_frame s)

-- how many covers lines have
abbrev pub covers_in : List Line → ℕ
covers_in [] = 0
covers_in (derived ops ∷ ls) = covers_in ls
covers_in (cover v ∷ ls) = covers_in ls + 1

-- what is asked of the vector of a line that is a cover
abbrev pub OfCover : (List ℕ → Type 0) → Line → Type 0
OfCover P (derived ops) = Unit {0}
OfCover P (cover v) = P v

-- a cover's vector that doesn't cover the vector of an assignment
pub record LeavesOpen (s : SpecValue) (f : Bits) (v : List ℕ) : Type 0 where
  pub one_each : length v ≡ length s.objectives
  pub within : IsWithinWeights s v
  pub uncovered : ¬ IsAtMost v (vector_of s f)

-- values of the variables of the blocks of lines make an assignment a model of the encoding and all these blocks
pub record ExtendsAll (s : SpecValue) (ls : List Line) (f : Bits) : Type 0 where
  pub values : Bits
  pub agree : (x : ℕ) → (x < all_variables s) ⊎ (variables_to s (covers_in ls) ≤ x) → values x ≡ f x
  pub model : IsModel (encoding s ++ blocks_by (cover_frame s) ls) values

-- a model of the encoding whose vector no cover of the lines covers can be made a model of all their blocks too
abbrev pub AllExtend : Type 0
AllExtend = (s : SpecValue) (ls : List Line) (f : Bits) → IsWellFormed s → IsModel (encoding s) f → All (OfCover (LeavesOpen s f)) ls → ExtendsAll s ls f

-- the variables of constraints are those below a number
abbrev pub KnowsBelow : List Linear → ℕ → Type 0
KnowsBelow cs n = (x : ℕ) → any_mentions cs x ≡ nat_lt x n

-- the variables that are there over the encoding and the blocks of covers
abbrev pub FramesKnow : Type 0
FramesKnow = (s : SpecValue) (ls : List Line) → IsWellFormed s → CoversHave (length s.objectives) ls → KnowsBelow (encoding s ++ blocks_by (cover_frame s) ls) (variables_to s (covers_in ls))
