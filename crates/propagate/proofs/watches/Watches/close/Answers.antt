use Rattle.std.proofs.Common.{◌≡◌, ◌∙◌, ◌<◌, ℕ, List, length, get_or, sym, ap, subst, arith}
use Rattle.std.proofs.lemmas.List.{length-map}
use Rattle.pb_rules.specs.Literal.{Literal}
use Rattle.pb_rules.specs.Partial.{is_false}
use Rattle.trail_state.specs.Trail.{Entry, value_in}
use Rattle.propagate.specs.Watches.{watched_in, AreWatched, AreSettled}
use Rattle.propagate.proofs.Tying.{lits_of, next_below}
use Rattle.propagate.proofs.Visiting.{appends_more, keeps_more, opposite_false, guarded_on, guarded_next, guarded_all}
use Rattle.propagate.proofs.watches.Watches.close.Goals as goal

pub visit-requires-clause-below : goal.visit-requires-clause-below
visit-requires-clause-below c =
    let es = c.loop-visited.trail.entries in
    let k = c.loop-visited.visited in
    let l = c.index-literals-visited.result in
    let at : l ≡ get_or (lits_of es) k l = c.index-literals-visited.is ∙ ap (λ (us : List Literal). get_or us k l) c.literals-in-loop-visited.ensures in
    let len : length c.literals.result.now ≡ length es = ap (λ (us : List Literal). length us) c.literals.ensures ∙ length-map es (λ (e : Entry). e.lit) in
    let n = c.loop-visited.trail.variables in
    let below : l.var < n = next_below es n k l c.assigned-assigned.ensures.in_range (omega (arith, c.loop-visited-test.true, len)) at in
    let P : Literal → Type 0 = λ m. m.var < n in
    subst P (sym c.opposite-gone.ensures) below

pub visit-requires-clause-falsified : goal.visit-requires-clause-falsified
visit-requires-clause-falsified c =
    let es = c.loop-visited.trail.entries in
    let k = c.loop-visited.visited in
    let l = c.index-literals-visited.result in
    let at : l ≡ get_or (lits_of es) k l = c.index-literals-visited.is ∙ ap (λ (us : List Literal). get_or us k l) c.literals-in-loop-visited.ensures in
    let len : length c.literals.result.now ≡ length es = ap (λ (us : List Literal). length us) c.literals.ensures ∙ length-map es (λ (e : Entry). e.lit) in
    ap (is_false (value_in es)) c.opposite-gone.ensures ∙ opposite_false es k l c.assigned-assigned.ensures.distinct (omega (arith, c.loop-visited-test.true, len)) at

pub loop-visited-preserved : goal.loop-visited-preserved
loop-visited-preserved c =
    let held = watched_in c.loop-visited.self in
    let start = c.args.trail.now.entries in
    let es = c.loop-visited.trail.entries in
    let fs = c.visit.new.trail.entries in
    let first = c.args.self.now.slots.items in
    let old = c.loop-visited.self.slots.items in
    let new = c.visit.new.self.slots.items in
    let k = c.loop-visited.visited in
    let l = c.index-literals-visited.result in
    let i = c.loop-visited.invariant in
    let e = c.visit.ensures in
    let at : l ≡ get_or (lits_of es) k l = c.index-literals-visited.is ∙ ap (λ (us : List Literal). get_or us k l) c.literals-in-loop-visited.ensures in
    let len : length c.literals.result.now ≡ length es = ap (λ (us : List Literal). length us) c.literals.ensures ∙ length-map es (λ (e : Entry). e.lit) in
    let lt : k < length es = omega (arith, c.loop-visited-test.true, len) in
    let longer = e.appends.longer in
    let S : Literal → Type 0 = λ m. AreSettled (value_in fs) m new in
    let B : ℕ → Type 0 = λ n. AreWatched n c.visit.new.self in
    record {
      built = subst B (sym e.variables) e.built;
      wholes = e.wholes ∙ i.wholes;
      closed = e.closed ∙ i.closed;
      guards = keeps_more (watched_in c.args.self.now) start es first old new i.appends i.guards e.guards;
      variables = e.variables ∙ i.variables;
      appends = appends_more first old start es fs i.wholes i.appends e.appends;
      few = omega (arith, lt, longer);
      guarded = guarded_next held es fs k l new e.appends c.assigned-assigned.ensures.distinct lt at (subst S c.opposite-gone.ensures (e.done c.in-Done.is))
          (guarded_on held es fs k old new e.appends i.few e.guards i.guarded);
    }

pub returns-in-Conflict-clause-guards : goal.returns-in-Conflict-clause-guards
returns-in-Conflict-clause-guards c = keeps_more (watched_in c.args.self.now) c.args.trail.now.entries c.loop-visited.trail.entries c.args.self.now.slots.items c.loop-visited.self.slots.items
    c.visit.new.self.slots.items c.loop-visited.invariant.appends c.loop-visited.invariant.guards c.visit.ensures.guards

pub returns-in-Conflict-clause-appends : goal.returns-in-Conflict-clause-appends
returns-in-Conflict-clause-appends c = appends_more c.args.self.now.slots.items c.loop-visited.self.slots.items c.args.trail.now.entries c.loop-visited.trail.entries c.visit.new.trail.entries
    c.loop-visited.invariant.wholes c.loop-visited.invariant.appends c.visit.ensures.appends

pub returns-in-Conflict-clause-guarded : goal.returns-in-Conflict-clause-guarded
returns-in-Conflict-clause-guarded c = guarded_on (watched_in c.loop-visited.self) c.loop-visited.trail.entries c.visit.new.trail.entries c.loop-visited.visited c.loop-visited.self.slots.items
    c.visit.new.self.slots.items c.visit.ensures.appends c.loop-visited.invariant.few c.visit.ensures.guards c.loop-visited.invariant.guarded

pub returns-in-Starves-clause-guards : goal.returns-in-Starves-clause-guards
returns-in-Starves-clause-guards c = keeps_more (watched_in c.args.self.now) c.args.trail.now.entries c.loop-visited.trail.entries c.args.self.now.slots.items c.loop-visited.self.slots.items
    c.visit.new.self.slots.items c.loop-visited.invariant.appends c.loop-visited.invariant.guards c.visit.ensures.guards

pub returns-in-Starves-clause-appends : goal.returns-in-Starves-clause-appends
returns-in-Starves-clause-appends c =
    let start = c.args.trail.now.entries in
    let es = c.loop-visited.trail.entries in
    let fs = c.visit.new.trail.entries in
    let first = c.args.self.now.slots.items in
    let old = c.loop-visited.self.slots.items in
    let new = c.visit.new.self.slots.items in
    let i = c.loop-visited.invariant in
    let e = c.visit.ensures in
    appends_more first new start fs c.close_plainly.new.trail.entries (e.wholes ∙ i.wholes) (appends_more first old start es fs i.wholes i.appends e.appends) c.close_plainly.ensures.appends

pub returns-in-Starves-clause-guarded : goal.returns-in-Starves-clause-guarded
returns-in-Starves-clause-guarded c =
    let es = c.loop-visited.trail.entries in
    let fs = c.visit.new.trail.entries in
    let old = c.loop-visited.self.slots.items in
    let new = c.visit.new.self.slots.items in
    let k = c.loop-visited.visited in
    let i = c.loop-visited.invariant in
    let e = c.visit.ensures in
    let few = i.few in
    let longer = e.appends.longer in
    guarded_on (watched_in c.visit.new.self) fs c.close_plainly.new.trail.entries k new new c.close_plainly.ensures.appends (omega (arith, few, longer)) (λ q p g h. h)
    (guarded_on (watched_in c.loop-visited.self) es fs k old new e.appends few e.guards i.guarded)

pub returns-clause-all_closed : goal.returns-clause-all_closed
returns-clause-all_closed c =
    let es = c.loop-visited.trail.entries in
    let i = c.loop-visited.invariant in
    let len : length c.literals.result.now ≡ length es = ap (λ (us : List Literal). length us) c.literals.ensures ∙ length-map es (λ (e : Entry). e.lit) in
    guarded_all c.loop-visited.trail.variables c.loop-visited.visited es c.args.self.now.slots.items c.loop-visited.self.slots.items (omega (arith, c.loop-visited-test.false, len))
    i.built.kept i.wholes i.guarded
