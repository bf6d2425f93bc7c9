-- What a timetable holds of the tasks that are placed.
use Rattle.std.specs.Prelude.{◌≡◌, ℕ, ◌<◌, ◌≤◌, List, length, map, All, slice_index_or}
use Rattle.spec_model.specs.Spec.{SpecValue}
use Rattle.spec_model.specs.Schedule.{Slot, greatest, end_of, free_from}
use Rattle.evaluators.specs.declared.timetable.Timetable.{Timetable}

abbrev pub finish_of : Slot → ℕ
finish_of slot = slot.finish

-- when each task ends, of those that are placed
abbrev pub AreEnds : SpecValue → List Slot → List ℕ → Type 0
AreEnds s slots ends = (t : ℕ) → t < length s.tasks → slice_index_or ends t 0 ≡ end_of slots t

-- there is a place for each task and each resource
pub record IsSized (s : SpecValue) (table : Timetable) : Type 0 where
  pub each_task : length table.ends.items ≡ length s.tasks
  pub each_resource : length table.free.items ≡ length s.resources

-- a timetable of these slots
pub record ArePlaced (s : SpecValue) (slots : List Slot) (table : Timetable) : Type 0 where
  pub ends : AreEnds s slots table.ends.items
  pub free : (r : ℕ) → r < length s.resources → slice_index_or table.free.items r 0 ≡ free_from slots r
  pub last : table.last ≡ greatest (map finish_of slots)

abbrev pub IsNoLater : ℕ → ℕ → Type 0
IsNoLater time n = n ≤ time

-- no task ends after a time
pub record EndsBy (time : ℕ) (table : Timetable) : Type 0 where
  pub tasks : All (IsNoLater time) table.ends.items
  pub resources : All (IsNoLater time) table.free.items
