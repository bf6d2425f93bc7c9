use Rattle.std.proofs.Common.{◌≡◌, ◌∙◌, sym, ap, arith, None, Some, get_or, is_some}
use Rattle.std.proofs.lemmas.List.{get_or_read}
use Rattle.trail_state.specs.Trail.{TrailView}
use Rattle.trail_state.specs.Fields.{entries_of}
use Rattle.trail_state.proofs.Fields.{among_first, value_none, value_past}
use Rattle.trail_state.proofs.Entries.{none-take}
use Rattle.trail_state.proofs.stack.Stack.is_among_first.Goals as goal

pub returns-else-var-len : goal.returns-else-var-len
returns-else-var-len c =
    let i = c.self.inside in
    let es = entries_of i.lits.items i.reasons.items i.used in
    sym (rw (← c.self.view_is) (ap is_some (none-take es c.args.count c.args.var (value_past i.lits.items i.reasons.items i.places.items i.used i.depth c.self.invariant c.args.var (omega arith)))))

pub returns-in-None : goal.returns-in-None
returns-in-None c =
    let i = c.self.inside in
    let es = entries_of i.lits.items i.reasons.items i.used in
    let v = ap (λ (v : TrailView). v.variables) c.self.view_is in
    let e : get_or i.places.items c.args.var None ≡ None = sym (get_or_read i.places.items c.args.var c.index.result.now (omega arith) c.index.ensures None) ∙ c.in-None.is in
    sym (rw (← c.self.view_is) (ap is_some (none-take es c.args.count c.args.var (value_none i.lits.items i.reasons.items i.places.items i.used i.depth c.self.invariant c.args.var e))))

pub returns-in-Some : goal.returns-in-Some
returns-in-Some c =
    let i = c.self.inside in
    let v = ap (λ (v : TrailView). v.variables) c.self.view_is in
    let e : get_or i.places.items c.args.var None ≡ Some c.in-Some.place = sym (get_or_read i.places.items c.args.var c.index.result.now (omega arith) c.index.ensures None) ∙ c.in-Some.is in
    rw (← c.self.view_is) (among_first i.lits.items i.reasons.items i.places.items i.used i.depth c.self.invariant c.args.var c.in-Some.place c.args.count e)
