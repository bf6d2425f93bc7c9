-- Which proof texts are accepted with a front.
use Rattle.std.specs.Prelude.{◌≡◌, ℕ, ◌<◌, List, [], ◌∷◌, ◌++◌, Ok, Some, length, All, Contains}
use Rattle.pb_rules.specs.declared.Op.{Op}
use Rattle.pb_rules.specs.Linear.{Linear}
use Rattle.pb_rules.specs.Operations.{line_gives}
use Rattle.pb_rules.specs.Frames.{Line, derived, cover, Given, context_of, given_by}
use Rattle.proof_log.specs.Text.{proof_text}
use Rattle.spec_model.specs.Spec.{SpecValue}
use Rattle.spec_model.specs.Vectors.{IsAtMost}
use Rattle.encode_model.specs.Block.{IsWithinWeights, cover_frame}
use Rattle.result_text.specs.Fronts.{FrontValue, IsFrontText}
use Rattle.front_model.specs.Fronts.{IsClaim, vectors_of}

-- some vector of a list is at most v in each place
pub record HasBelow (us : List (List ℕ)) (v : List ℕ) : Type 0 where
  pub vector : List ℕ
  pub there : Contains us vector
  pub below : IsAtMost vector v

-- a cover has a number for each objective, none above its objective's weights, and a vector of the front is at most the cover
pub record MayCover (s : SpecValue) (us : List (List ℕ)) (v : List ℕ) : Type 0 where
  pub one_each : length v ≡ length s.objectives
  pub within : IsWithinWeights s v
  pub dominated : HasBelow us v

abbrev pub MayStand : SpecValue → List (List ℕ) → Line → Type 0
MayStand s us (derived ops) = Unit {0}
MayStand s us (cover v) = MayCover s us v

-- no assignment satisfies it: no terms, and a degree of at least 1
pub record IsClash (c : Linear) : Type 0 where
  pub no_terms : c.terms ≡ []
  pub asks : 0 < c.degree

-- lines that refute all but what a front's vectors cover: each is legal at its place, each cover is one of the front's, and the last line derives a clash
pub record Refute (s : SpecValue) (us : List (List ℕ)) (ls : List Line) : Type 0 where
  pub covers : All (MayStand s us) ls
  pub early : List Line
  pub last : List Op
  pub whole : ls ≡ early ++ derived last ∷ []
  pub before : Given
  pub legal : given_by (cover_frame s) early ≡ Some before
  pub clash : Linear
  pub gives : line_gives (context_of before) last ≡ Ok clash
  pub clashes : IsClash clash

-- a proof text is the text of lines that refute
pub record Proves (s : SpecValue) (us : List (List ℕ)) (text : List ℕ) : Type 0 where
  pub lines : List Line
  pub is : text ≡ proof_text lines
  pub refute : Refute s us lines

-- a front and a proof text that are accepted together
pub record Accepts (s : SpecValue) (front : FrontValue) (text : List ℕ) : Type 0 where
  pub claim : IsClaim s front
  pub proof : Proves s (vectors_of front) text

-- the bytes of a front file and those of a proof file that are accepted together
pub record AcceptsTexts (s : SpecValue) (front_bytes proof_bytes : List ℕ) : Type 0 where
  pub front : FrontValue
  pub text : IsFrontText s front_bytes front
  pub accepted : Accepts s front proof_bytes
