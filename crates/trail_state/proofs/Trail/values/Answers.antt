use Rattle.trail_state.proofs.Tabled.{values_part}
use Rattle.trail_state.proofs.Trail.values.Goals as goal

pub returns-clause-values : goal.returns-clause-values
returns-clause-values c =
    let i = c.self.inside in
    rw (← c.self.view_is, c.deref.ensures.value, c.variables-variables.ensures.value) (values_part i.stack i.values.items i.levels.items c.self.invariant c.assigned-assigned.ensures.in_range)
