use Rattle.std.proofs.Common.{◌≤◌, ◌^◌, sym, subst, ℕ}
use Rattle.tgff_reader.specs.Looking.{table_at, row_at}
use Rattle.spec_join.specs.Quantities.{message_row}
use Rattle.spec_join.proofs.TableLines.{small_quantity}
use Rattle.spec_join.proofs.joiner.Joiner.set_quantity.Goals as goal

pub quantity_from-quantity-requires-clause-small : goal.quantity_from-quantity-requires-clause-small
quantity_from-quantity-requires-clause-small c =
    let table = table_at c.args.self.now.tables c.args.table in
    small_quantity c.args.column (message_row c.args.self.now table c.args.rows c.args.m) (row_at table c.in-Some.row) c.in-Some.ensures.found_is c.requires.unbroken

pub change_message-requires-clause-small : goal.change_message-requires-clause-small
change_message-requires-clause-small c =
    let table = table_at c.args.self.now.tables c.args.table in
    subst (λ (n : ℕ). n ≤ 2 ^ 40) (sym c.quantity_from-quantity.ensures)
    (small_quantity c.args.column (message_row c.args.self.now table c.args.rows c.args.m) (row_at table c.in-Some.row) c.in-Some.ensures.found_is c.requires.unbroken)
