use Rattle.std.proofs.Common.{◌≡◌, arith, true, false, ◌-◌, is_none}
use Rattle.std.proofs.lemmas.Grind.{common_steps}
use Rattle.trail_state.proofs.Fields.{IsTrail-pop_read, used_positive, none_before_last}
use Rattle.trail_state.proofs.stack.Stack.pop.Goals as goal

pub overflow_sub-self-then-is_none : goal.overflow_sub-self-then-is_none
overflow_sub-self-then-is_none c =
    let i = c.self.inside in
    let some-there = rw (← c.self.view_is) at c.requires in
    let pos = used_positive i.lits.items i.reasons.items i.places.items i.used i.depth c.self.invariant some-there in
    let l = c.index.result.now in
    let r = c.index-2.result.now in
    let q = IsTrail-pop_read i.lits.items i.reasons.items i.places.items i.used i.depth pos c.self.invariant l r c.index.ensures c.index-2.ensures in
    let b : is_none r ≡ true = grind (arith, common_steps) in
    let q1 = rw b at q.1 in omega arith

pub invariant_of-self : goal.invariant_of-self
invariant_of-self c =
    let i = c.self.inside in
    let some-there = rw (← c.self.view_is) at c.requires in
    let pos = used_positive i.lits.items i.reasons.items i.places.items i.used i.depth c.self.invariant some-there in
    let l = c.index.result.now in
    let r = c.index-2.result.now in
    let q = IsTrail-pop_read i.lits.items i.reasons.items i.places.items i.used i.depth pos c.self.invariant l r c.index.ensures c.index-2.ensures in
    let b : is_none r ≡ true = grind (arith, common_steps) in
    let q1 = rw b at q.1 in
    rw c.var.ensures.value (q.2 (i.depth - 1) (rw b (omega arith)))

pub invariant_of-self-else-is_none : goal.invariant_of-self-else-is_none
invariant_of-self-else-is_none c =
    let i = c.self.inside in
    let some-there = rw (← c.self.view_is) at c.requires in
    let pos = used_positive i.lits.items i.reasons.items i.places.items i.used i.depth c.self.invariant some-there in
    let l = c.index.result.now in
    let r = c.index-2.result.now in
    let q = IsTrail-pop_read i.lits.items i.reasons.items i.places.items i.used i.depth pos c.self.invariant l r c.index.ensures c.index-2.ensures in
    let b : is_none r ≡ false = grind (arith, common_steps) in
    rw c.var.ensures.value (q.2 i.depth (rw b (omega arith)))

pub returns-then-is_none-clause-entries : goal.returns-then-is_none-clause-entries
returns-then-is_none-clause-entries c =
    let i = c.self.inside in
    let some-there = rw (← c.self.view_is) at c.requires in
    let pos = used_positive i.lits.items i.reasons.items i.places.items i.used i.depth c.self.invariant some-there in
    let l = c.index.result.now in
    let r = c.index-2.result.now in
    let q = IsTrail-pop_read i.lits.items i.reasons.items i.places.items i.used i.depth pos c.self.invariant l r c.index.ensures c.index-2.ensures in
    (r, rw (← c.self.view_is) q.0)

pub returns-else-is_none-clause-entries : goal.returns-else-is_none-clause-entries
returns-else-is_none-clause-entries c =
    let i = c.self.inside in
    let some-there = rw (← c.self.view_is) at c.requires in
    let pos = used_positive i.lits.items i.reasons.items i.places.items i.used i.depth c.self.invariant some-there in
    let l = c.index.result.now in
    let r = c.index-2.result.now in
    let q = IsTrail-pop_read i.lits.items i.reasons.items i.places.items i.used i.depth pos c.self.invariant l r c.index.ensures c.index-2.ensures in
    (r, rw (← c.self.view_is) q.0)

pub returns-then-is_none-clause-gone : goal.returns-then-is_none-clause-gone
returns-then-is_none-clause-gone c =
    let i = c.self.inside in
    let some-there = rw (← c.self.view_is) at c.requires in
    let pos = used_positive i.lits.items i.reasons.items i.places.items i.used i.depth c.self.invariant some-there in
    none_before_last i.lits.items i.reasons.items i.places.items i.used i.depth pos c.self.invariant c.index.result.now c.index-2.result.now c.index.ensures c.index-2.ensures

pub returns-else-is_none-clause-gone : goal.returns-else-is_none-clause-gone
returns-else-is_none-clause-gone c =
    let i = c.self.inside in
    let some-there = rw (← c.self.view_is) at c.requires in
    let pos = used_positive i.lits.items i.reasons.items i.places.items i.used i.depth c.self.invariant some-there in
    none_before_last i.lits.items i.reasons.items i.places.items i.used i.depth pos c.self.invariant c.index.result.now c.index-2.result.now c.index.ensures c.index-2.ensures
