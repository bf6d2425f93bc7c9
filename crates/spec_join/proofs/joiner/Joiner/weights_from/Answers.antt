use Rattle.std.proofs.Common.{◌≡◌, arith, rules, refl, sym, ap, ◌∙◌, to_z, of_z}
use Rattle.std.specs.Int.{w128}
use Rattle.tgff_reader.specs.Looking.{table_at, row_at}
use Rattle.table_cells.specs.Cells.{amount_in}
use Rattle.spec_join.proofs.Making.{key_fits, weighed_more}
use Rattle.spec_join.proofs.joiner.Joiner.weights_from.Goals as goal

pub weight_for-weight-requires : goal.weight_for-weight-requires
weight_for-weight-requires c =
    let s = c.args.self.now in
    let amount = to_z w128 (of_z w128 c.amount_in-amount.result) in
    let same : amount ≡ c.amount_in-amount.result = search rules in
    key_fits s (row_at (table_at s.tables c.args.table) c.args.row) c.args.keys.now c.loop-key.key-index c.key-item.result c.list-name.result.now amount
    (omega arith) c.key-item.is c.list-name.ensures (sym c.is_table_key.ensures ∙ c.if-is_table_key.false) (same ∙ c.amount_in-amount.ensures ∙ ap amount_in c.cell.ensures) c.requires.known
    c.requires.unbroken

pub loop-key-preserved : goal.loop-key-preserved
loop-key-preserved c =
    let s = c.args.self.now in
    let amount = to_z w128 (of_z w128 c.amount_in-amount.result) in
    let same : amount ≡ c.amount_in-amount.result = search rules in
    let weight = c.weight_for-weight.result in
    record {
      value =
          weighed_more s (row_at (table_at s.tables c.args.table) c.args.row) c.args.keys.now c.loop-key.key-index c.key-item.result c.list-name.result.now amount c.loop-key.weights.items _
          weight.objective weight.value
          (omega arith) c.key-item.is c.list-name.ensures (sym c.is_table_key.ensures ∙ c.if-is_table_key.false) (same ∙ c.amount_in-amount.ensures ∙ ap amount_in c.cell.ensures)
          c.weight_for-weight.ensures.objective c.weight_for-weight.ensures.value refl c.loop-key.invariant.value;
      one_each = search rules;
      small = search rules;
    }
