use Rattle.std.proofs.Common.{◌≡◌, ◌∙◌, ◌+◌, ◌<◌, Some, None, List, [], length, get_or, set, drop, refl, sym, ap, subst, arith, get_or-set_same}
use Rattle.std.proofs.lemmas.List.{length-set}
use Rattle.trail_state.specs.Trail.{value_in}
use Rattle.propagate.specs.declared.lists.Watch.{Watch}
use Rattle.propagate.specs.Counters.{literal_number}
use Rattle.propagate.specs.Watched.{WatchedView}
use Rattle.propagate.specs.Watched.{Watches as WatchesLiteral}
use Rattle.propagate.specs.Watches.{watches_of, watched_in, AreListed, AreSettledBut}
use Rattle.propagate.proofs.Weights.{number_below}
use Rattle.propagate.proofs.Guarding.{false_later}
use Rattle.propagate.proofs.Appending.{appends_goes_on}
use Rattle.propagate.proofs.Visiting.{appends_more, keeps_more, listed_set, listed_out, settled_stays, settled_leaves, settled_end, taken_is, watched_relisted}
use Rattle.propagate.proofs.watches.Watches.visit.Goals as goal

pub loop-place-preserved-in-Stays : goal.loop-place-preserved-in-Stays
loop-place-preserved-in-Stays c =
    let start = c.args.trail.now.entries in
    let s = c.loop-place.self in
    let d = c.visit_at.new.self in
    let es = c.loop-place.trail.entries in
    let fs = c.visit_at.new.trail.entries in
    let gone = c.args.gone in
    let n = literal_number gone in
    let place = c.loop-place.place in
    let i = c.loop-place.invariant in
    let e = c.visit_at.ensures in
    let one = c.index-of-place.result in
    let named : Watch = record { slot = one.slot; other = c.in-Stays.other } in
    let list = watches_of d.lists n in
    let at : one ≡ get_or list place one = c.index-of-place.is ∙ ap (λ (us : List Watch). get_or us place one) (c.of-in-loop-place.ensures ∙ sym e.list) in
    let len : length c.of.result.now ≡ length list = ap (λ (us : List Watch). length us) (c.of.ensures ∙ sym e.list) in
    let lt : place < length list = omega (arith, c.loop-place-test.true, len) in
    let room = number_below gone c.loop-place.trail.variables (length d.lists) (omega (arith, c.requires.below, i.variables)) e.built.wide in
    let none : List Watch = [] in
    let now : watches_of c.set.new.self n ≡ set list place named = ap (λ (ls : List (List Watch)). watches_of ls n) c.set.ensures ∙ get_or-set_same d.lists n (set list place named) none room in
    let goes = appends_goes_on (watched_in s) es fs e.appends in
    let R : List Watch → Type 0 = λ us. AreSettledBut (drop place us) (value_in es) gone s.slots.items in
    let R' : List Watch → Type 0 = λ us. AreSettledBut (drop (place + 1) us) (value_in fs) gone d.slots.items in
    let L : List (List Watch) → Type 0 = λ ls. AreListed d.slots.items ls in
    let same : length c.set.new.self ≡ length d.lists = ap (λ (ls : List (List Watch)). length ls) c.set.ensures ∙ length-set d.lists n (set list place named) in
    record {
      built = watched_relisted c.loop-place.trail.variables c.visit_at.new.trail.variables d c.set.new.self e.variables same
          (subst L (sym c.set.ensures) (listed_set d.slots.items d.lists gone place one named room lt at refl
          (λ w here m x. (e.stays c.in-Stays.other w c.in-Stays.is here m x).named_there) e.built.listed))
          e.built;
      wholes = e.wholes ∙ i.wholes;
      closed = e.closed ∙ i.closed;
      guards = keeps_more (watched_in c.args.self.now) start es c.args.self.now.slots.items s.slots.items d.slots.items i.appends i.guards e.guards;
      variables = e.variables ∙ i.variables;
      appends = appends_more c.args.self.now.slots.items s.slots.items start es fs i.wholes i.appends e.appends;
      falsified = false_later (value_in es) (value_in fs) gone goes i.falsified;
      rest = subst R' (sym now) (settled_stays list (value_in es) (value_in fs) gone s.slots.items d.slots.items place one named at lt goes e.wholes e.others e.before
          (λ w here m x. (e.stays c.in-Stays.other w c.in-Stays.is here m x).true_there) (subst R (sym e.list) i.rest));
    }

pub loop-place-preserved : goal.loop-place-preserved
loop-place-preserved c =
    let start = c.args.trail.now.entries in
    let s = c.loop-place.self in
    let d = c.visit_at.new.self in
    let es = c.loop-place.trail.entries in
    let fs = c.visit_at.new.trail.entries in
    let gone = c.args.gone in
    let n = literal_number gone in
    let place = c.loop-place.place in
    let i = c.loop-place.invariant in
    let e = c.visit_at.ensures in
    let t = c.take_out-out.ensures in
    let one = c.index-of-place.result in
    let list = watches_of d.lists n in
    let list' = watches_of c.take_out-out.new.self n in
    let at : one ≡ get_or list place one = c.index-of-place.is ∙ ap (λ (us : List Watch). get_or us place one) (c.of-in-loop-place.ensures ∙ sym e.list) in
    let len : length c.of.result.now ≡ length list = ap (λ (us : List Watch). length us) (c.of.ensures ∙ sym e.list) in
    let is : c.take_out-out.result ≡ one = taken_is list place c.take_out-out.result one (omega (arith, c.loop-place-test.true, len)) t.value at in
    let goes = appends_goes_on (watched_in s) es fs e.appends in
    let leaves : (w : WatchedView) → get_or d.slots.items one.slot None ≡ Some w → WatchesLiteral w gone → ⊥ = λ w here m. e.leaves w c.in-Leaves.is here m in
    let R : List Watch → Type 0 = λ us. AreSettledBut (drop place us) (value_in es) gone s.slots.items in
    record {
      built = watched_relisted c.loop-place.trail.variables c.visit_at.new.trail.variables d c.take_out-out.new.self e.variables t.same_length
          (listed_out d.slots.items d.lists c.take_out-out.new.self gone one t.others (λ x ne. t.rest x (λ q. ne (q ∙ is))) leaves e.built.listed) e.built;
      wholes = e.wholes ∙ i.wholes;
      closed = e.closed ∙ i.closed;
      guards = keeps_more (watched_in c.args.self.now) start es c.args.self.now.slots.items s.slots.items d.slots.items i.appends i.guards e.guards;
      variables = e.variables ∙ i.variables;
      appends = appends_more c.args.self.now.slots.items s.slots.items start es fs i.wholes i.appends e.appends;
      falsified = false_later (value_in es) (value_in fs) gone goes i.falsified;
      rest = settled_leaves list list' (value_in es) (value_in fs) gone s.slots.items d.slots.items place one goes e.others leaves (λ x ne. t.ahead x (λ q. ne (q ∙ is))) (subst R (sym e.list) i.rest);
    }

pub returns-in-Conflict-clause-guards : goal.returns-in-Conflict-clause-guards
returns-in-Conflict-clause-guards c = keeps_more (watched_in c.args.self.now) c.args.trail.now.entries c.loop-place.trail.entries c.args.self.now.slots.items c.loop-place.self.slots.items
    c.visit_at.new.self.slots.items c.loop-place.invariant.appends c.loop-place.invariant.guards c.visit_at.ensures.guards

pub returns-in-Conflict-clause-appends : goal.returns-in-Conflict-clause-appends
returns-in-Conflict-clause-appends c = appends_more c.args.self.now.slots.items c.loop-place.self.slots.items c.args.trail.now.entries c.loop-place.trail.entries c.visit_at.new.trail.entries
    c.loop-place.invariant.wholes c.loop-place.invariant.appends c.visit_at.ensures.appends

pub returns-in-Starves-clause-guards : goal.returns-in-Starves-clause-guards
returns-in-Starves-clause-guards c = keeps_more (watched_in c.args.self.now) c.args.trail.now.entries c.loop-place.trail.entries c.args.self.now.slots.items c.loop-place.self.slots.items
    c.visit_at.new.self.slots.items c.loop-place.invariant.appends c.loop-place.invariant.guards c.visit_at.ensures.guards

pub returns-in-Starves-clause-appends : goal.returns-in-Starves-clause-appends
returns-in-Starves-clause-appends c = appends_more c.args.self.now.slots.items c.loop-place.self.slots.items c.args.trail.now.entries c.loop-place.trail.entries c.visit_at.new.trail.entries
    c.loop-place.invariant.wholes c.loop-place.invariant.appends c.visit_at.ensures.appends

pub returns-clause-done : goal.returns-clause-done
returns-clause-done c = λ _.
    let list = watches_of c.loop-place.self.lists (literal_number c.args.gone) in
    let len : length c.of.result.now ≡ length list = ap (λ (us : List Watch). length us) c.of.ensures in
    settled_end c.loop-place.self.slots.items list c.loop-place.place c.args.gone (value_in c.loop-place.trail.entries) (omega (arith, c.loop-place-test.false, len)) c.loop-place.invariant.rest
