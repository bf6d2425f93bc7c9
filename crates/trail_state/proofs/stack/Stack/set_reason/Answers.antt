use Rattle.std.proofs.Common.{◌≡◌, ◌∙◌, sym, arith, None, Some, false, get_or, is_none}
use Rattle.std.proofs.lemmas.Grind.{common_steps}
use Rattle.std.proofs.lemmas.List.{get_or_read}
use Rattle.trail_state.specs.Trail.{reason_in}
use Rattle.trail_state.specs.Fields.{entries_of}
use Rattle.trail_state.proofs.Fields.{room, place_some, place_there, entries-reason, levels_reason, IsTrail-reason}
use Rattle.trail_state.proofs.stack.Stack.set_reason.Goals as goal

pub index-requires : goal.index-requires
index-requires c =
    let i = c.self.inside in
    let pushed = rw (← c.self.view_is) at c.requires in
    let some : is_none (reason_in (entries_of i.lits.items i.reasons.items i.used) c.args.var) ≡ false = grind (arith, common_steps) in
    omega (arith, place_there i.lits.items i.reasons.items i.places.items i.used i.depth c.self.invariant c.args.var some)

pub index_mut-requires : goal.index_mut-requires
index_mut-requires c =
    let i = c.self.inside in
    let pushed = rw (← c.self.view_is) at c.requires in
    let some : is_none (reason_in (entries_of i.lits.items i.reasons.items i.used) c.args.var) ≡ false = grind (arith, common_steps) in
    let there = place_there i.lits.items i.reasons.items i.places.items i.used i.depth c.self.invariant c.args.var some in
    let e : get_or i.places.items c.args.var None ≡ Some c.in-Some.place = sym (get_or_read i.places.items c.args.var c.index.result.now there c.index.ensures None) ∙ c.in-Some.is in
    omega (arith, c.self.invariant.within c.args.var c.in-Some.place e, (room i.lits.items i.reasons.items i.places.items i.used i.depth c.self.invariant).reasons)

pub invariant_of-self : goal.invariant_of-self
invariant_of-self c =
    let i = c.self.inside in
    let pushed = rw (← c.self.view_is) at c.requires in
    let some : is_none (reason_in (entries_of i.lits.items i.reasons.items i.used) c.args.var) ≡ false = grind (arith, common_steps) in
    let there = place_there i.lits.items i.reasons.items i.places.items i.used i.depth c.self.invariant c.args.var some in
    let e : get_or i.places.items c.args.var None ≡ Some c.in-Some.place = sym (get_or_read i.places.items c.args.var c.index.result.now there c.index.ensures None) ∙ c.in-Some.is in
    IsTrail-reason i.lits.items i.reasons.items i.places.items i.used i.depth c.self.invariant c.args.var c.in-Some.place c.args.reason e some

pub returns-in-Some-clause-entries : goal.returns-in-Some-clause-entries
returns-in-Some-clause-entries c =
    let i = c.self.inside in
    let pushed = rw (← c.self.view_is) at c.requires in
    let some : is_none (reason_in (entries_of i.lits.items i.reasons.items i.used) c.args.var) ≡ false = grind (arith, common_steps) in
    let there = place_there i.lits.items i.reasons.items i.places.items i.used i.depth c.self.invariant c.args.var some in
    let e : get_or i.places.items c.args.var None ≡ Some c.in-Some.place = sym (get_or_read i.places.items c.args.var c.index.result.now there c.index.ensures None) ∙ c.in-Some.is in
    rw (← c.self.view_is) (entries-reason i.lits.items i.reasons.items i.places.items i.used i.depth c.self.invariant c.args.var c.in-Some.place c.args.reason e)

pub returns-in_default-clause-entries : goal.returns-in_default-clause-entries
returns-in_default-clause-entries c =
    let i = c.self.inside in
    let pushed = rw (← c.self.view_is) at c.requires in
    let some : is_none (reason_in (entries_of i.lits.items i.reasons.items i.used) c.args.var) ≡ false = grind (arith, common_steps) in
    let there = place_there i.lits.items i.reasons.items i.places.items i.used i.depth c.self.invariant c.args.var some in
    let e : get_or i.places.items c.args.var None ≡ c.index.result.now = sym (get_or_read i.places.items c.args.var c.index.result.now there c.index.ensures None) in
    let none : c.index.result.now ≡ None = grind (arith, common_steps) in
    absurd (place_some i.lits.items i.reasons.items i.places.items i.used i.depth c.self.invariant c.args.var some (e ∙ none))

pub returns-in-Some-clause-levels : goal.returns-in-Some-clause-levels
returns-in-Some-clause-levels c =
    let i = c.self.inside in
    let pushed = rw (← c.self.view_is) at c.requires in
    let some : is_none (reason_in (entries_of i.lits.items i.reasons.items i.used) c.args.var) ≡ false = grind (arith, common_steps) in
    let there = place_there i.lits.items i.reasons.items i.places.items i.used i.depth c.self.invariant c.args.var some in
    let e : get_or i.places.items c.args.var None ≡ Some c.in-Some.place = sym (get_or_read i.places.items c.args.var c.index.result.now there c.index.ensures None) ∙ c.in-Some.is in
    rw (← c.self.view_is) (levels_reason i.lits.items i.reasons.items i.places.items i.used i.depth c.self.invariant c.args.var c.in-Some.place c.args.reason e some)
