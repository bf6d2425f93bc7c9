-- What the desks in memory hold.
use Rattle.std.specs.Prelude.{◌≡◌, ◌==◌, ◌↔◌, ℕ, Bool, IsTrue, List, map, String, Vec, Result, string_bytes, if◌then◌else◌}
use Rattle.std.specs.Global.{Global}
use Rattle.std.specs.List.{list_any}
use Rattle.std.specs.Result.{IsErrOf}
use Rattle.std.specs.Str.{bytes_eq}
use Rattle.desk_io.specs.Causes.{counted}
use Rattle.desk_io.specs.Files.{Files}
use Rattle.desk_io.specs.declared.desk.DeskError.{DeskError}
use Rattle.desk_io.specs.declared.desk.DeskError.TheVariants.{Failed}

-- a desk in memory: its files, what was said, the numbers of the calls that fail, and two counts
pub record MemoryState : Type 0 where
  pub files : Files
  pub said : List ℕ
  pub failing : List ℕ
  pub calls : ℕ
  pub faults : ℕ

-- a desk whose calls never fail
pub record SureState : Type 0 where
  pub files : Files
  pub said : List ℕ

-- the next call fails by its number
abbrev pub fails_next : MemoryState → Bool
fails_next desk = list_any (λ k. counted desk.calls == k) desk.failing

-- a call is counted; it fails, with one more fault, exactly where it is to fail
pub record TakesTurn {T : Type 0} (old new : MemoryState) (fails : Bool) (result : Result T DeskError) : Type 0 where
  pub calls : new.calls ≡ counted old.calls
  pub failing : new.failing ≡ old.failing
  pub failed : IsErrOf result Failed ↔ IsTrue fails
  pub faults : new.faults ≡ (if fails then counted old.faults else old.faults)

-- a file as the code holds it
abbrev pub HeldFile : Type 0
HeldFile = String Global × Vec ℕ Global

-- its name and its bytes
abbrev pub entry_of : HeldFile → List ℕ × List ℕ
entry_of file = (string_bytes file.0, file.1.items)

-- the files that are held
abbrev pub entries : List HeldFile → Files
entries files = map entry_of files

-- a held file has this name
abbrev pub has_name : List ℕ → HeldFile → Bool
has_name name file = bytes_eq name (string_bytes file.0)
