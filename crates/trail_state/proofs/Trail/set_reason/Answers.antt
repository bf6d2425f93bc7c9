use Rattle.std.proofs.Common.{◌∙◌, refl, ap, arith, List}
use Rattle.trail_state.specs.Trail.{Entry, value_in}
use Rattle.trail_state.proofs.Entries.{value_in-with_reason}
use Rattle.trail_state.proofs.Tabled.{tables_same}
use Rattle.trail_state.proofs.Trail.set_reason.Goals as goal

pub invariant_of-self : goal.invariant_of-self
invariant_of-self c =
    let i = c.self.inside in
    let h = c.self.invariant in
    let values = h.values_room in
    let levels = h.levels_room in
    let same = c.set_reason.ensures.variables in
    tables_same i.stack c.set_reason.new.self i.values.items i.values.items i.levels.items i.levels.items h (omega arith) (omega arith) (λ x. refl) (λ x. refl)
    (λ x. ap (λ (es : List Entry). value_in es x) c.set_reason.ensures.entries ∙ value_in-with_reason c.args.var c.args.reason i.stack.entries x) c.set_reason.ensures.levels
