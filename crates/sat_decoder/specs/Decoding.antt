-- What an answer of a decoder says of the designs, of the number of new lines, and of the lines in each frame.
use Rattle.std.specs.Prelude.{ℕ, Bool, Option, Some, ◌≡◌, ◌≢◌, ◌<◌, ◌≤◌, ◌^◌, ◌++◌, List, length}
use Rattle.pb_rules.specs.Linear.{Linear}
use Rattle.pb_rules.specs.Partial.{IsClosedFor}
use Rattle.pb_rules.specs.Frames.{Line, Frame, Given, given_by, derived_by}
use Rattle.proof_log.specs.Log.{LogValue}
use Rattle.spec_model.specs.Spec.{SpecValue, Bits, bits_of, design_variables, all_variables}
use Rattle.spec_model.specs.Genotypes.{GeneValue, gene_at, StandsBefore, IsFirstValid, HasNoValid}
use Rattle.encode_model.specs.Encoding.{encoding}
use Rattle.ordered_solver.specs.Answers.{AreHonestSteps, IsRefutation, new_lines}
use Rattle.sat_decoder.specs.Decoder.{IsFrameOf}
use Rattle.sat_decoder.specs.declared.decoded.Decoded.{Decoded}
use Rattle.sat_decoder.specs.declared.decoded.Decoded.TheVariants.{First, Nothing, Budget}

-- a bit for each design variable, and the first valid design in a genotype's order
pub record IsFirstDesign (s : SpecValue) (genes : List GeneValue) (design : List Bool) : Type 0 where
  pub one_each : length design ≡ design_variables s
  pub first : IsFirstValid s genes (bits_of design)

-- the first valid design; or none is valid; or nothing is said
abbrev pub DecodedSays : SpecValue → List GeneValue → Decoded → Type 0
DecodedSays s genes (First design) = IsFirstDesign s genes design
DecodedSays s genes Nothing = HasNoValid s
DecodedSays s genes Budget = Unit {0}

-- how many lines an answer took, one for each conflict: fewer than the encoding's variables have assignments, unless no design is valid
abbrev pub LineCountSays : SpecValue → ℕ → ℕ → Decoded → Type 0
LineCountSays s budget n (First design) = (n < budget) × (n < 2 ^ all_variables s)
LineCountSays s budget n Nothing = (1 ≤ n) × ((n ≤ budget) × (n ≤ 2 ^ all_variables s))
LineCountSays s budget n Budget = (n ≡ budget) × (n < 2 ^ all_variables s)

-- constraints show a design to be the first: where a variable hasn't its gene's phase,
-- each closed partial assignment that agrees with the design at the variables before it takes the design's value there too
abbrev pub ShowsFirstDesign : List Linear → List GeneValue → Bits → Type 0
ShowsFirstDesign cs genes x =
    (v : ℕ) → v < length genes → x v ≢ (gene_at genes v).phase → (p : ℕ → Option Bool) → IsClosedFor cs p → ((w : ℕ) → w < length genes → StandsBefore genes w v → p w ≡ Some (x w)) → p v ≡ Some (x v)

-- honest lines, after which the encoding and all derived lines show that the design is the first one
pub record ShowsDesign (f : Frame) (before : Given) (s : SpecValue) (genes : List GeneValue) (design : List Bool) (ls whole : List Line) : Type 0 where
  pub honest : AreHonestSteps f before (encoding s) ls
  pub shows : ShowsFirstDesign (encoding s ++ derived_by f whole) genes (bits_of design)

-- what an answer says of the new lines, and of those of the whole log
abbrev pub NewLinesSay : Frame → Given → SpecValue → List GeneValue → List Line → List Line → Decoded → Type 0
NewLinesSay f before s genes ls whole (First design) = ShowsDesign f before s genes design ls whole
NewLinesSay f before s genes ls whole Nothing = IsRefutation f before (encoding s) ls
NewLinesSay f before s genes ls whole Budget = AreHonestSteps f before (encoding s) ls

-- in a frame the lines before are legal and those after too, and what the answer says of the new ones
pub record IsShownIn (f : Frame) (s : SpecValue) (genes : List GeneValue) (old new : LogValue) (decoded : Decoded) : Type 0 where
  pub before : Given
  pub legal_before : given_by f old.lines ≡ Some before
  pub after : Given
  pub legal_after : given_by f new.lines ≡ Some after
  pub lines : NewLinesSay f before s genes (new_lines old new) new.lines decoded

-- the same in each frame of the specification
abbrev pub IsShown : SpecValue → List GeneValue → LogValue → LogValue → Decoded → Type 0
IsShown s genes old new decoded = (f : Frame) → IsFrameOf s f → IsShownIn f s genes old new decoded
