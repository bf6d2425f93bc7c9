use Rattle.std.proofs.Common.{ℕ, ◌≤◌, ◌^◌, List, All, inr, sym, ap, subst}
use Rattle.names.specs.Names.{number_by_name}
use Rattle.tgff_reader.specs.Looking.{table_at, row_at}
use Rattle.spec_join.specs.Joining.{Joining}
use Rattle.spec_join.proofs.Making.{time_small, only_memory}
use Rattle.spec_join.proofs.joiner.Joiner.add_from.Goals as goal

pub time_from-time-requires-clause-small : goal.time_from-time-requires-clause-small
time_from-time-requires-clause-small c = time_small c.args.self.now c.args.keys.now (row_at (table_at c.args.self.now.tables c.args.table) c.args.row) c.requires.unbroken

pub weights_from-requires-clause-unbroken : goal.weights_from-requires-clause-unbroken
weights_from-requires-clause-unbroken c = λ why x. c.requires.unbroken why (inr x)

pub unreachable-requires : goal.unreachable-requires
unreachable-requires c =
    let s = c.args.self.now in
    let small = time_small s c.args.keys.now (row_at (table_at s.tables c.args.table) c.args.row) c.requires.unbroken in
    c.in_default.not-NoMemory (only_memory c.self.inside.plan s.plan c.args.t c.resource_there-place.result.0 c.time_from-time.result (number_by_name s.plan.resources c.args.resource.now)
    c.deref.result.now c.in-Err.fault
    (ap (λ (x : Joining). x.plan) c.self.view_is) c.resource_there-place.ensures.first c.in-Err.ensures.refused c.requires.new
    (subst (λ (n : ℕ). n ≤ 2 ^ 40) (sym c.time_from-time.ensures) small)
    (subst (λ (row : List ℕ). All (λ w. w ≤ 2 ^ 40) row) (sym c.deref.ensures.value) c.in_ok-weights.ensures.small) c.requires.room)
