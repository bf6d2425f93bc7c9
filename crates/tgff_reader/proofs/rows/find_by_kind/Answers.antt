use Rattle.std.proofs.Common.{◌≤◌, ◌^◌, length, arith}
use Rattle.tgff_reader.proofs.RowKinds.{entry, none_past, none_there, found_kind}
use Rattle.tgff_reader.proofs.rows.find_by_kind.Goals as goal

pub returns-then-at-kinds : goal.returns-then-at-kinds
returns-then-at-kinds c = none_past c.args.rows.now c.args.kinds.now c.args.from c.args.kind c.entries_before-at.result c.requires c.entries_before-at.ensures (omega arith)

pub returns-then-kinds-at : goal.returns-then-kinds-at
returns-then-kinds-at c =
    let few : length c.args.rows.now ≤ 2 ^ 64 = omega arith in
    none_there c.args.rows.now c.args.kinds.now c.args.from c.args.kind c.entries_before-at.result (entry 0 0) c.requires c.entries_before-at.ensures (omega arith) few c.if-kinds-at.true

pub returns : goal.returns
returns c = found_kind c.args.rows.now c.args.kinds.now c.args.from c.args.kind c.entries_before-at.result (entry 0 0) c.requires c.entries_before-at.ensures (omega arith) c.if-kinds-at.false
