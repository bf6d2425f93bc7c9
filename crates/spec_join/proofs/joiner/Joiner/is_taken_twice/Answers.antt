use Rattle.std.proofs.Common.{IsTrue, ◌↔◌, subst}
use Rattle.tgff_reader.specs.Looking.{table_at, row_at}
use Rattle.spec_graph.specs.Refusals.{IsMapped}
use Rattle.spec_join.specs.Joining.{Joining}
use Rattle.spec_join.specs.Tables.{chosen_row}
use Rattle.spec_join.proofs.TableLines.{taken_of}
use Rattle.spec_join.proofs.joiner.Joiner.is_taken_twice.Goals as goal

pub returns-in-Some : goal.returns-in-Some
returns-in-Some c =
    let s = c.args.self.now in
    let table = table_at s.tables c.args.table in
    taken_of (chosen_row s table c.args.keys.now c.args.t) (row_at table c.in-Some.field-0) (IsMapped s.plan c.args.t c.args.resource.0) c.is_mapped.result c.in-Some.ensures.found_is
    (subst (λ (j : Joining). IsTrue c.is_mapped.result ↔ IsMapped j.plan c.args.t c.args.resource.0) c.self.view_is c.is_mapped.ensures)
