use Rattle.std.proofs.Common.{◌<◌, ◌∙◌, sym, map, length, vec_items, arith}
use Rattle.std.proofs.lemmas.Bool.{lt-ltb, le-ltb}
use Rattle.dominance_lanes.specs.Columns.{row_at}
use Rattle.dominance_lanes.proofs.OneGroup.{read_at, fails, goes_on}
use Rattle.dominance_lanes.proofs.places.is_above.Goals as goal

pub returns-then-v-j : goal.returns-then-v-j
returns-then-v-j c =
    let row = row_at (map vec_items c.args.columns.now) c.args.k in
    let read = read_at c.args.columns.now c.loop-j.j c.args.k c.index-columns-j.result c.index.result.now c.loop-j-test.true c.index-columns-j.is
    (c.requires.room c.loop-j.j c.index-columns-j.result c.loop-j-test.true) c.index.ensures in
    let inside : c.loop-j.j < length c.args.v.now = omega arith in
    sym (fails (length c.args.v.now) c.loop-j.j c.args.v.now row inside (lt-ltb _ _ (omega (arith, read, c.if-v-j.true))))

pub loop-j-preserved : goal.loop-j-preserved
loop-j-preserved c =
    let row = row_at (map vec_items c.args.columns.now) c.args.k in
    let read = read_at c.args.columns.now c.loop-j.j c.args.k c.index-columns-j.result c.index.result.now c.loop-j-test.true c.index-columns-j.is
    (c.requires.room c.loop-j.j c.index-columns-j.result c.loop-j-test.true) c.index.ensures in
    goes_on c.loop-j.j c.args.v.now row (le-ltb _ _ (omega (arith, read, c.if-v-j.false))) ∙ c.loop-j.invariant
