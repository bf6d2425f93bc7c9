use Rattle.std.proofs.Common.{length, ◌-◌, ◌≤◌, ◌<◌, ◌≡◌, ℕ, false}
use Rattle.tgff_reader.specs.Rows.{is_of_kind, row_in}
use Rattle.tgff_reader.proofs.rows.find_by_place.Given as goal

-- no row so far is of the kind
abbrev pub invariant-rows : goal.invariant-rows
invariant-rows l = record {
  later : l.from ≤ l.place;
  none : (i : ℕ) → l.from ≤ i → i < l.place → is_of_kind l.kind (row_in l.fn.rows i) ≡ false;
}

abbrev pub decreases-rows : goal.decreases-rows
decreases-rows l = length l.fn.rows - l.place
