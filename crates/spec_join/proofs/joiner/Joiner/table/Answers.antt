use Rattle.std.proofs.Common.{length, inl, inr, ap}
use Rattle.tgff_reader.specs.Looking.{table_at}
use Rattle.table_cells.specs.Rows.{table_called}
use Rattle.spec_join.specs.Joining.{Joining}
use Rattle.spec_join.proofs.Making.{table_found, line_refused, places_known, places_unbroken, line_done}
use Rattle.spec_join.proofs.joiner.Joiner.table.Goals as goal

pub returns-in-Some-line_fault-clause-refused : goal.returns-in-Some-line_fault-clause-refused
returns-in-Some-line_fault-clause-refused c =
    let s = c.args.self.now in
    let found = table_found s c.self.inside.tgff.now.tables c.args.name.now c.args.index c.in-Some.table (ap (λ (x : Joining). x.tables) c.self.view_is) c.in-Some.ensures in
    line_refused s (table_called s.tables c.args.name.now c.args.index) (table_at s.tables c.in-Some.table) c.args.resource.now c.args.keys.now c.args.places.now c.in-Some-line_fault.why found
    c.in-Some-line_fault.ensures

pub add_options-requires-clause-unbroken : goal.add_options-requires-clause-unbroken
add_options-requires-clause-unbroken c = λ why x. c.in_default-line_fault.ensures why (inl (inr x))

pub set_places-requires-clause-known : goal.set_places-requires-clause-known
set_places-requires-clause-known c =
    let s = c.args.self.now in
    places_known s c.add_options.new.self c.in-Some.table c.args.resource.now c.args.keys.now c.args.places.now (length s.task_kinds) c.in_ok-add_options.ensures c.requires.places_known

pub set_places-requires-clause-unbroken : goal.set_places-requires-clause-unbroken
set_places-requires-clause-unbroken c =
    let s = c.args.self.now in
    places_unbroken s c.add_options.new.self c.in-Some.table c.args.resource.now c.args.keys.now c.args.places.now (length s.task_kinds) c.in_ok-add_options.ensures c.in_default-line_fault.ensures

pub returns-clause-done : goal.returns-clause-done
returns-clause-done c =
    let s = c.args.self.now in
    let found = table_found s c.self.inside.tgff.now.tables c.args.name.now c.args.index c.in-Some.table (ap (λ (x : Joining). x.tables) c.self.view_is) c.in-Some.ensures in
    line_done s c.add_options.new.self c.set_places.new.self (table_called s.tables c.args.name.now c.args.index) c.in-Some.table c.args.resource.now c.args.keys.now c.args.places.now found
    c.in_ok-add_options.ensures c.set_places.ensures
