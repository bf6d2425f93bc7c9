use Rattle.std.proofs.Common.{ℕ, set, arith, ◌≡◌, ◌<◌, ◌∙◌, Option, Some, None, List, length, get_or, sym, ap, refl, subst}
use Rattle.std.proofs.lemmas.List.{set-get_or}
use Rattle.std.specs.Vec.{with_item}
use Rattle.trail_state.specs.Trail.{value_in}
use Rattle.propagate.specs.Watched.{WatchedView, Watches, wholes}
use Rattle.propagate.specs.Watches.{IsSettledAt}
use Rattle.propagate.proofs.Tying.{appends_slot}
use Rattle.propagate.proofs.Wholes.{whole_is}
use Rattle.propagate.proofs.Passing.{watched_is}
use Rattle.propagate.proofs.Running.{watched_same}
use Rattle.propagate.proofs.Turning.{turned_here, wholes_turned, watched_turned, conflict_here}
use Rattle.propagate.proofs.watches.Watches.visit_at.Goals as goal

-- the clause that was found stands in the slot
found : (slots : List (Option WatchedView)) (slot n : ℕ) (o : Option WatchedView) (w : WatchedView) → slot < n → n ≡ length slots → o ≡ get_or slots slot o → o ≡ Some w
    → get_or slots slot None ≡ Some w
found slots slot n o w lt len at is = watched_is slots slot o w (omega (arith, lt, len)) at is

pub watch_another-turn-requires-clause-in_range : goal.watch_another-turn-requires-clause-in_range
watch_another-turn-requires-clause-in_range c =
    let slots = c.args.self.now.slots.items in
    let here = found slots c.args.one.slot c.len.result c.index_mut.result.now c.in-Some.c c.if-one-len.false (c.len.ensures ∙ c.args.self.now.slots.ok.0) c.index_mut.ensures.value c.in-Some.is in
    (c.requires.built.kept c.args.one.slot c.in-Some.c here).in_range

pub returns-in-None-clause-built : goal.returns-in-None-clause-built
returns-in-None-clause-built c =
    let old = c.args.self.now in
    let o = c.index_mut.result.now in
    let i = c.args.one.slot in
    let e = ap (set old.slots.items i) c.index_mut.ensures.value ∙ set-get_or old.slots.items i o in
    watched_same c.args.trail.now.variables old (record { slots = with_item old.slots i o; lists = old.lists; closed = old.closed }) e refl c.requires.built

pub returns-in-Some-clause-built : goal.returns-in-Some-clause-built
returns-in-Some-clause-built c =
    let old = c.args.self.now in
    let i = c.args.one.slot in
    let t = c.watch_another-turn in
    let here = found old.slots.items i c.len.result c.index_mut.result.now c.in-Some.c c.if-one-len.false (c.len.ensures ∙ c.args.self.now.slots.ok.0) c.index_mut.ensures.value c.in-Some.is in
    let lt : i < length old.slots.items = subst (λ n. i < n) (c.len.ensures ∙ c.args.self.now.slots.ok.0) c.if-one-len.false in
    watched_turned c.args.trail.now.variables i old (record { slots = with_item old.slots i (Some t.new.c); lists = t.new.lists; closed = old.closed }) (value_in c.args.trail.now.entries) c.args.gone
    c.in-Some.c t.new.c lt here refl t.ensures.turned c.terms-terms.ensures.watched c.requires.built

pub returns-in-Some-clause-wholes : goal.returns-in-Some-clause-wholes
returns-in-Some-clause-wholes c =
    let slots = c.args.self.now.slots.items in
    let here = found slots c.args.one.slot c.len.result c.index_mut.result.now c.in-Some.c c.if-one-len.false (c.len.ensures ∙ c.args.self.now.slots.ok.0) c.index_mut.ensures.value c.in-Some.is in
    wholes_turned slots c.args.one.slot c.in-Some.c c.watch_another-turn.new.c here c.watch_another-turn.ensures.turned.whole

pub returns-in-Some-clause-appends : goal.returns-in-Some-clause-appends
returns-in-Some-clause-appends c =
    let slots = c.args.self.now.slots.items in
    let i = c.args.one.slot in
    let here = found slots i c.len.result c.index_mut.result.now c.in-Some.c c.if-one-len.false (c.len.ensures ∙ c.args.self.now.slots.ok.0) c.index_mut.ensures.value c.in-Some.is in
    appends_slot (wholes slots) i c.in-Some.c.whole c.args.trail.now.entries c.watch_another-turn.new.trail.entries (whole_is slots i c.in-Some.c here) c.watch_another-turn.ensures.appends

pub returns-in-Some-clause-stays : goal.returns-in-Some-clause-stays
returns-in-Some-clause-stays c = λ l w e at m named.
    (let t = c.watch_another-turn in
    let lt = subst (λ n. c.args.one.slot < n) (c.len.ensures ∙ c.args.self.now.slots.ok.0) c.if-one-len.false in
    let P : WatchedView → Type 0 = λ v. IsSettledAt (value_in t.new.trail.entries) l v in
    subst P (turned_here c.args.self.now.slots.items c.args.one.slot t.new.c w lt at) (t.ensures.stays l e))

pub returns-in-Some-clause-conflict : goal.returns-in-Some-clause-conflict
returns-in-Some-clause-conflict c = λ e.
    (let slots = c.args.self.now.slots.items in
    let i = c.args.one.slot in
    let t = c.watch_another-turn in
    let here = found slots i c.len.result c.index_mut.result.now c.in-Some.c c.if-one-len.false (c.len.ensures ∙ c.args.self.now.slots.ok.0) c.index_mut.ensures.value c.in-Some.is in
    conflict_here slots i c.in-Some.c t.new.c t.new.trail.entries here t.ensures.turned.whole (t.ensures.conflict e))

pub returns-in-Some-clause-before : goal.returns-in-Some-clause-before
returns-in-Some-clause-before c = λ w v at was m.
    (let slots = c.args.self.now.slots.items in
    let i = c.args.one.slot in
    let t = c.watch_another-turn in
    let lt = subst (λ n. i < n) (c.len.ensures ∙ c.args.self.now.slots.ok.0) c.if-one-len.false in
    let here = found slots i c.len.result c.index_mut.result.now c.in-Some.c c.if-one-len.false (c.len.ensures ∙ c.args.self.now.slots.ok.0) c.index_mut.ensures.value c.in-Some.is in
    let W : WatchedView → Type 0 = λ u. Watches u c.args.gone in
    let old : Some c.in-Some.c ≡ Some v = sym here ∙ was in
    let back : c.in-Some.c ≡ v = cc in
    subst W back (t.ensures.turned.before (subst W (sym (turned_here slots i t.new.c w lt at)) m)))
