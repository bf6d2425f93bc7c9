use Rattle.std.proofs.Common.{◌≡◌, sym, ap, arith, None, true, false, ◌+◌, cond, is_none}
use Rattle.std.proofs.lemmas.Grind.{common_steps}
use Rattle.trail_state.specs.Trail.{TrailView}
use Rattle.trail_state.proofs.Fields.{IsTrail-push, entries-push, room_and_level}
use Rattle.trail_state.proofs.stack.Stack.put.Goals as goal

pub index_mut-requires : goal.index_mut-requires
index_mut-requires c =
    let i = c.self.inside in
    let v = ap (λ (v : TrailView). v.variables) c.self.view_is in
    let free = rw (← c.self.view_is) at c.requires.unassigned in
    omega (arith, room_and_level i.lits.items i.reasons.items i.places.items i.used i.depth c.self.invariant c.args.lit.var c.args.lit None (omega arith) free)

pub index_mut-requires-2 : goal.index_mut-requires-2
index_mut-requires-2 c =
    let i = c.self.inside in
    let v = ap (λ (v : TrailView). v.variables) c.self.view_is in
    let free = rw (← c.self.view_is) at c.requires.unassigned in
    omega (arith, room_and_level i.lits.items i.reasons.items i.places.items i.used i.depth c.self.invariant c.args.lit.var c.args.lit None (omega arith) free)

pub overflow_add-self-then-is_none : goal.overflow_add-self-then-is_none
overflow_add-self-then-is_none c =
    let i = c.self.inside in
    let v = ap (λ (v : TrailView). v.variables) c.self.view_is in
    let free = rw (← c.self.view_is) at c.requires.unassigned in
    omega (arith, room_and_level i.lits.items i.reasons.items i.places.items i.used i.depth c.self.invariant c.args.lit.var c.args.lit None (omega arith) free)

pub invariant_of-self : goal.invariant_of-self
invariant_of-self c =
    let i = c.self.inside in
    let v = ap (λ (v : TrailView). v.variables) c.self.view_is in
    let free = rw (← c.self.view_is) at c.requires.unassigned in
    let none : is_none c.args.reason ≡ true = grind (arith, common_steps) in
    rw c.var.ensures.value (IsTrail-push i.lits.items i.reasons.items i.places.items i.used i.depth c.self.invariant c.args.lit c.args.reason _ (omega arith) free
    (ap (λ b. i.depth + cond b 1 0) (sym none)))

pub invariant_of-self-else-is_none : goal.invariant_of-self-else-is_none
invariant_of-self-else-is_none c =
    let i = c.self.inside in
    let v = ap (λ (v : TrailView). v.variables) c.self.view_is in
    let free = rw (← c.self.view_is) at c.requires.unassigned in
    let some : is_none c.args.reason ≡ false = grind (arith, common_steps) in
    rw c.var.ensures.value (IsTrail-push i.lits.items i.reasons.items i.places.items i.used i.depth c.self.invariant c.args.lit c.args.reason _ (omega arith) free (rw some (omega arith)))

pub returns-then-is_none-clause-entries : goal.returns-then-is_none-clause-entries
returns-then-is_none-clause-entries c =
    let i = c.self.inside in
    let t = c.self.invariant in
    let v = ap (λ (v : TrailView). v.variables) c.self.view_is in
    let free = rw (← c.self.view_is) at c.requires.unassigned in
    let room = room_and_level i.lits.items i.reasons.items i.places.items i.used i.depth t c.args.lit.var c.args.lit None (omega arith) free in
    rw (← c.self.view_is) (entries-push i.lits.items i.reasons.items i.used c.args.lit c.args.reason (omega (arith, t.lits_room)) (omega (arith, t.reasons_room)))

pub returns-else-is_none-clause-entries : goal.returns-else-is_none-clause-entries
returns-else-is_none-clause-entries c =
    let i = c.self.inside in
    let t = c.self.invariant in
    let v = ap (λ (v : TrailView). v.variables) c.self.view_is in
    let free = rw (← c.self.view_is) at c.requires.unassigned in
    let room = room_and_level i.lits.items i.reasons.items i.places.items i.used i.depth t c.args.lit.var c.args.lit None (omega arith) free in
    rw (← c.self.view_is) (entries-push i.lits.items i.reasons.items i.used c.args.lit c.args.reason (omega (arith, t.lits_room)) (omega (arith, t.reasons_room)))
