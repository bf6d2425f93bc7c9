use Rattle.std.proofs.Common.{◌*◌, ◌/◌, ◌≡◌, ◌<◌, ◌∙◌, false, inl, inr, arith, map, get_or, vec_items, length}
use Rattle.std.proofs.lemmas.Bool.{cases_lt}
use Rattle.dominance_lanes.specs.Groups.{is_above_at}
use Rattle.dominance_lanes.proofs.ColumnEdits.{seen_long}
use Rattle.dominance_lanes.proofs.Rows.{mark_is, length-rows}
use Rattle.dominance_lanes.proofs.scans.mark_above.Goals as goal

pub mark_groups-requires-clause-room : goal.mark_groups-requires-clause-room
mark_groups-requires-clause-room c k d h = omega (arith, seen_long c.args.columns.now (length c.args.marks.now) c.requires.room.even k d h)

pub mark_rest-requires-clause-room : goal.mark_rest-requires-clause-room
mark_rest-requires-clause-room c k d h = omega (arith, c.mark_groups.auto.marks, seen_long c.args.columns.now (length c.args.marks.now) c.requires.room.even k d h)

pub returns : goal.returns
returns c k h =
    let columns = map vec_items c.args.columns.now in
    let within : k < length c.args.marks.now = omega (arith, length-rows columns (length c.args.marks.now)) in
    let marked : get_or c.mark_rest.new.marks k false ≡ is_above_at columns c.args.v.now k = elim (cases_lt k (length c.args.marks.now / 8 * 8)) [
      | inl lt ↦ c.mark_rest.ensures.before k lt ∙ c.mark_groups.ensures k lt
      | inr ge ↦ c.mark_rest.ensures.here k ge (omega (arith, c.mark_groups.auto.marks))
    ] in
    mark_is columns c.args.v.now (length c.args.marks.now) k (get_or c.mark_rest.new.marks k false) within marked
