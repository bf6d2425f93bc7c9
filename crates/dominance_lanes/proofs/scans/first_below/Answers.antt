use Rattle.std.proofs.Common.{◌*◌, ◌/◌, ◌∙◌, arith, map, vec_items}
use Rattle.std.proofs.lemmas.List.{length-map}
use Rattle.dominance_lanes.proofs.ColumnEdits.{seen_long}
use Rattle.dominance_lanes.proofs.Rows.{first_found, found_or_none}
use Rattle.dominance_lanes.proofs.scans.first_below.Goals as goal

pub first_in_groups-requires-clause-room : goal.first_in_groups-requires-clause-room
first_in_groups-requires-clause-room c k d h = omega (arith, seen_long c.args.columns.now c.args.len c.requires.room.even k d h)

pub first_in_rest-requires-clause-room : goal.first_in_rest-requires-clause-room
first_in_rest-requires-clause-room c k d h = omega (arith, seen_long c.args.columns.now c.args.len c.requires.room.even k d h)

pub returns-in-Some : goal.returns-in-Some
returns-in-Some c =
    let found = c.in-Some.ensures in
    first_found (map vec_items c.args.columns.now) c.args.v.now c.args.len c.in-Some.k (length-map c.args.columns.now vec_items ∙ c.requires.width) (omega (arith, found.to)) found.here found.before

pub returns-in-None : goal.returns-in-None
returns-in-None c =
    found_or_none (map vec_items c.args.columns.now) c.args.v.now (c.args.len / 8 * 8) c.args.len c.first_in_rest.result (length-map c.args.columns.now vec_items ∙ c.requires.width)
    c.in-None.ensures c.first_in_rest.ensures
