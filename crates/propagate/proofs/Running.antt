-- What a propagator keeps from call to call.
use Rattle.std.proofs.Common.{All, ◌≡◌, ℕ, ◌*◌, ◌≤◌, Option, get_or, arith, List, length, take, sym, ap, ◌∙◌, subst}
use Rattle.std.proofs.lemmas.List.{take-take}
use Rattle.pb_rules.specs.Literal.{Literal}
use Rattle.propagate.specs.declared.counters.Counters.{Counters}
use Rattle.propagate.specs.declared.watches.Watches.{Watches}
use Rattle.propagate.specs.Counters.{counted_of, value_given}
use Rattle.propagate.specs.declared.lists.Watch.{Watch}
use Rattle.propagate.specs.Watched.{WatchedView, AreKept, AreGuarded}
use Rattle.propagate.specs.Watches.{AreListed, AreWatched, IsClosedAt, AreClosedAt}

-- the counted literals, by the fields that have them
pub counted_same : (c d : Counters) → d.lits ≡ c.lits → d.used ≡ c.used → counted_of c ≡ counted_of d
counted_same c d e f = sym (ap (λ us. take d.used us.items) e ∙ ap (λ (n : ℕ). take n c.lits.items) f)

-- what watches keep over so many variables, they do over as many
pub watched_over : (n m : ℕ) (w : Watches) → m ≡ n → AreWatched n w → AreWatched m w
watched_over n m w e h = (let P : ℕ → Type 0 = λ k. AreWatched k w in subst P (sym e) h)

-- lengths that equal literals leave closed
pub closed_over : (ls ms : List Literal) (w : Watches) → ls ≡ ms → AreClosedAt ls w → AreClosedAt ms w
closed_over ls ms w e h = (let P : List Literal → Type 0 = λ us. AreClosedAt us w in subst P e h)

-- fewer of the same literals are counted
pub counted_fewer : (c d : Counters) (kept : ℕ) → d.lits ≡ c.lits → d.used ≡ kept → kept ≤ c.used → take kept (counted_of c) ≡ counted_of d
counted_fewer c d kept e f h = take-take kept c.used c.lits.items h ∙ sym (ap (λ us. take d.used us.items) e ∙ ap (λ (n : ℕ). take n c.lits.items) f)

-- what the clauses keep, where the slots and lists are the same
pub watched_same : (n : ℕ) (old new : Watches) → new.slots.items ≡ old.slots.items → new.lists ≡ old.lists → AreWatched n old → AreWatched n new
watched_same n old new e f h =
    let P : List (List Watch) → Type 0 = λ us. 2 * n ≤ length us in
    let Q : List (List Watch) → Type 0 = λ us. AreListed old.slots.items us in
    record {
      few = h.few;
      wide = subst P (sym f) h.wide;
      kept = subst (AreKept n) (sym e) h.kept;
      listed = subst (λ (ss : List (Option WatchedView)). AreListed ss new.lists) (sym e) (subst Q (sym f) h.listed);
    }

-- and that watches with the same slots do
pub closed_with : (ls : List Literal) (w v : Watches) → v.slots ≡ w.slots → v.closed ≡ w.closed → AreClosedAt ls w → AreClosedAt ls v
closed_with ls w v e f h =
    let slots : v.slots.items ≡ w.slots.items = ap (λ us. us.items) e in
    let lengths : v.closed.items ≡ w.closed.items = ap (λ us. us.items) f in
    let P : List (Option WatchedView) → Type 0 = λ us. All (IsClosedAt ls us) w.closed.items in
    let Q : List ℕ → Type 0 = λ ns. All (IsClosedAt ls v.slots.items) ns in
    subst Q (sym lengths) (subst P (sym slots) h)

-- longer literals leave each length closed
pub closed_longer : (ls ms : List Literal) (w : Watches) → length ls ≤ length ms → take (length ls) ms ≡ ls → AreClosedAt ls w → AreClosedAt ms w
closed_longer ls ms w l k h j d lt =
    let n = get_or w.closed.items j d in
    let c : IsClosedAt ls w.slots.items n = h j d lt in
    let below = c.below in
    let t : take n ls ≡ take n ms = ap (take n) (sym k) ∙ take-take n (length ls) ms below in
    let P : List Literal → Type 0 = λ us. AreGuarded (value_given us) (value_given us) w.slots.items in
    record { below = omega (arith, below); guarded = subst P t c.guarded }
