use Rattle.trail_state.proofs.Tabled.{levels_part}
use Rattle.trail_state.proofs.Trail.levels.Goals as goal

pub returns-clause-levels : goal.returns-clause-levels
returns-clause-levels c =
    let i = c.self.inside in
    rw (← c.self.view_is, c.deref.ensures.value, c.variables-variables.ensures.value) (levels_part i.stack i.values.items i.levels.items c.self.invariant c.assigned-assigned.ensures.in_range)
