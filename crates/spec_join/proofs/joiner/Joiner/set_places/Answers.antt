use Rattle.std.proofs.Common.{◌≡◌, arith, rules, ap, ◌∙◌, to_z, of_z}
use Rattle.std.specs.Int.{w128}
use Rattle.table_cells.specs.Cells.{amount_in}
use Rattle.spec_join.specs.Joining.{Joining}
use Rattle.spec_join.proofs.Making.{place_fits}
use Rattle.spec_join.proofs.joiner.Joiner.set_places.Goals as goal

pub weight_for-weight-requires : goal.weight_for-weight-requires
weight_for-weight-requires c =
    let amount = to_z w128 (of_z w128 c.amount_in-amount.result) in
    let same : amount ≡ c.amount_in-amount.result = search rules in
    place_fits c.args.self.now c.loop-place.self c.self.inside.tgff.now.tables c.args.table c.args.resource.now c.args.places.now c.loop-place.place-index c.place-item.result c.list.result.now amount
    (omega arith) c.place-item.is c.list.ensures (ap (λ (s : Joining). s.tables) c.self.view_is) (same ∙ c.amount_in-amount.ensures ∙ ap amount_in c.first_cell.ensures) c.requires.known
    c.requires.unbroken c.loop-place.invariant
