-- That there is one run, what its log shows in the end, and how often the places of a rising list are chosen.
use Rattle.std.specs.Prelude.{◌≡◌, ◌≢◌, ℕ, ◌+◌, ◌^◌, ◌<◌, ◌≤◌, ◌++◌, List, length, All, slice_index}
use Rattle.pb_rules.specs.Frames.{Frame, derived_by}
use Rattle.proof_log.specs.Log.{LogValue}
use Rattle.spec_model.specs.Spec.{SpecValue, Bits, bits_of}
use Rattle.encode_model.specs.Encoding.{encoding}
use Rattle.sat_decoder.specs.Decoder.{IsFrameOf}
use Rattle.sat_decoder.specs.Decoding.{ShowsFirstDesign}
use Rattle.front_archive.specs.declared.member.Member.{Member}
use Rattle.evo_explore.specs.Counts.{times, HasRoom, AreRising}
use Rattle.evo_explore.specs.Run.{AreDecodings, IsRunOf, no_lines}
use Rattle.evo_explore.specs.declared.run.Run.{Run}
use Rattle.evo_explore.specs.declared.run.End.{End}

-- two runs found the same, ended alike and left the same words
pub record AreAlike {S : Type 0} (one other : Run) (left more : S) (d e : End) : Type 0 where
  pub history : one.history ≡ other.history
  pub members : one.archive.members ≡ other.archive.members
  pub end : d ≡ e
  pub words : left ≡ more

-- there is one run of a specification, of what is measured, of the words and of a number of rounds
abbrev pub RunIsOne : {S : Type 0} → (S → ℕ) → (S → S) → Type 0
RunIsOne {S} gives after =
    (s : SpecValue) (measured : Bits → List ℕ) (start words more : S) (rounds : ℕ) (one other : Run)
    → IsRunOf s gives after measured start words rounds one → IsRunOf s gives after measured start more rounds other
    → AreAlike one other words more one.end other.end

-- the encoding and all that a log derives show a member's design to be the first one of its genotype
abbrev pub IsShownBy : SpecValue → Frame → LogValue → Member → Type 0
IsShownBy s f log member = ShowsFirstDesign (encoding s ++ derived_by f log.lines) member.genotype (bits_of member.design)

-- what each decoding showed when it came, the whole log shows in the end
abbrev pub DecodingsStayShown : Type 0
DecodingsStayShown =
    (s : SpecValue) (entries : List Member) (log : LogValue) → AreDecodings s entries (no_lines s) log
    → (f : Frame) → IsFrameOf s f → All (IsShownBy s f log) entries

-- each place of a rising list is chosen once,
abbrev pub ChosenOnce : Type 0
ChosenOnce = (chosen : List ℕ) (i : ℕ) → AreRising chosen → i < length chosen → times (slice_index chosen i) chosen ≡ 1

-- and no other place is chosen
abbrev pub OthersNever : Type 0
OthersNever = (chosen : List ℕ) (k : ℕ) → ((i : ℕ) → i < length chosen → slice_index chosen i ≢ k) → times k chosen ≡ 0

-- so there is room for the rounds where each chosen tool's count allows them
abbrev pub RoomForRising : Type 0
RoomForRising =
    (rounds : ℕ) (chosen counts : List ℕ) → AreRising chosen
    → ((i : ℕ) → i < length chosen → slice_index counts (slice_index chosen i) + rounds ≤ 2 ^ 63)
    → HasRoom rounds chosen counts
