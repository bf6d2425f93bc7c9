-- What holds between the two parts of a run: all counters closed, then all watched clauses, as long as something was pushed.
use Rattle.std.proofs.Common.{◌≡◌, ℕ, ◌<◌, ◌≤◌, Option, List, ◌++◌, get_or, length, take, min, refl, sym, ap, ◌∙◌, subst, arith}
use Rattle.std.proofs.lemmas.List.{take-map, take-take, take_all, length-take, length-take-le, length-map}
use Rattle.std.specs.Prelude.{Bool}
use Rattle.pb_rules.specs.Literal.{Literal}
use Rattle.pb_rules.specs.Partial.{GoesOn}
use Rattle.trail_state.specs.Trail.{Entry, TrailView, value_in}
use Rattle.trail_state.proofs.Entries.{GoesOn-take}
use Rattle.propagate.specs.declared.counters.Counters.{Counters}
use Rattle.propagate.specs.declared.watches.Watches.{Watches}
use Rattle.propagate.specs.Attached.{Attached}
use Rattle.propagate.specs.Forced.{Appends}
use Rattle.propagate.specs.Counters.{AreBuilt, AreInStep, counted_of, value_given, attached_from}
use Rattle.propagate.specs.Watched.{WatchedView, AreGuarded, wholes}
use Rattle.propagate.specs.Watches.{watched_in, AreWatched, IsClosedAt, AreClosedAt, KeepsGuards}
use Rattle.propagate.specs.Propagator.{PropagatorView, attached_in, AreApart, IsPropagator}
use Rattle.propagate.proofs.Weights.{value_given_entries}
use Rattle.propagate.proofs.Steps.{step_later}
use Rattle.propagate.proofs.Tying.{lits_of}
use Rattle.propagate.proofs.Looking.{later_all, later_counted}
use Rattle.propagate.proofs.Appending.{Appends-none, Appends-trans, appends_goes_on}
use Rattle.propagate.proofs.Guarding.{guarded_later, guarded_fewer}
use Rattle.propagate.proofs.Joining.{appends_first, appends_second}
use Rattle.propagate.proofs.Running.{watched_over, watched_same, closed_over, closed_longer}

-- between the first trail, with these counters and watches, and the trail of now, of which so many literals were visited
pub record IsRunning (s : Counters) (w : Watches) (old : TrailView) (t : Counters) (v : Watches) (now : TrailView) (visited : ℕ) : Type 0 where
  pub built : AreBuilt t
  pub step : AreInStep t (value_given (counted_of t))
  pub variables : t.variables ≡ now.variables
  pub same_variables : now.variables ≡ old.variables
  pub slots : t.slots ≡ s.slots
  pub counted : counted_of t ≡ take t.used (lits_of now.entries)
  pub used : t.used ≤ length now.entries
  pub watched : AreWatched now.variables v
  pub wholes : wholes v.slots.items ≡ wholes w.slots.items
  pub closed : AreClosedAt (counted_of t) v
  pub few : visited ≤ length now.entries
  pub guarded : AreGuarded (value_in (take visited now.entries)) (value_in now.entries) v.slots.items
  pub appends : Appends (attached_in s w) old.entries now.entries

guards_later : (q p p' : ℕ → Option Bool) (slots : List (Option WatchedView)) → GoesOn p p' → AreGuarded q p slots → AreGuarded q p' slots
guards_later q p p' slots g h i w e = guarded_later q p p' w g (h i w e)

guards_fewer : (q q' p : ℕ → Option Bool) (slots : List (Option WatchedView)) → GoesOn q' q → AreGuarded q p slots → AreGuarded q' p slots
guards_fewer q q' p slots g h i w e = guarded_fewer q q' p w g (h i w e)

given_taken : (es : List Entry) (n x : ℕ) → value_given (take n (lits_of es)) x ≡ value_in (take n es) x
given_taken es n x = ap (λ (ls : List Literal). value_given ls x) (take-map (λ (e : Entry). e.lit) n es) ∙ value_given_entries (take n es) x

-- what the first literals of a trail give, the trail does
given_goes_on : (es : List Entry) (n : ℕ) → GoesOn (value_given (take n (lits_of es))) (value_in es)
given_goes_on es n x b h = GoesOn-take es n x b (sym (given_taken es n x) ∙ h)

-- clauses that watch other literals that the trail leaves open keep each length closed
closed_kept : (es : List Entry) (w v : Watches) → v.closed ≡ w.closed → KeepsGuards (value_in es) w.slots.items v.slots.items → AreClosedAt (lits_of es) w → AreClosedAt (lits_of es) v
closed_kept es w v e keeps h =
    let at : (n : ℕ) → IsClosedAt (lits_of es) w.slots.items n → IsClosedAt (lits_of es) v.slots.items n = λ n c. record {
      below = c.below;
      guarded = keeps (value_given (take n (lits_of es))) (value_given (take n (lits_of es))) (given_goes_on es n) c.guarded;
    } in
    let same : v.closed.items ≡ w.closed.items = ap (λ us. us.items) e in
    let P : List ℕ → Type 0 = λ ns. (k : ℕ) (d : ℕ) → k < length ns → IsClosedAt (lits_of es) v.slots.items (get_or ns k d) in
    subst P (sym same) (λ k d lt. at (get_or w.closed.items k d) (h k d lt))

-- as many literals as are counted
counted_length : (t : Counters) (ls : List Literal) → AreBuilt t → counted_of t ≡ ls → t.used ≡ length ls
counted_length t ls b e = sym (length-take-le t.used t.lits.items b.used) ∙ ap (λ (us : List Literal). length us) e

-- before the first look
pub run_begins : (s : Counters) (w : Watches) (old : TrailView) (visited : ℕ) → IsPropagator s w → s.variables ≡ old.variables → counted_of s ≡ take s.used (lits_of old.entries)
    → visited ≤ length (counted_of s) → AreGuarded (value_given (take visited (counted_of s))) (value_given (take visited (counted_of s))) w.slots.items → IsRunning s w old s w old visited
run_begins s w old visited i variables counted few guarded =
    let es = old.entries in
    let ls = counted_of s in
    let len : length ls ≡ s.used = length-take-le s.used s.lits.items i.built.used in
    let len' : length (take s.used (lits_of es)) ≡ min s.used (length (lits_of es)) = length-take s.used (lits_of es) in
    let len'' : length (lits_of es) ≡ length es = length-map es (λ (e : Entry). e.lit) in
    let same : length ls ≡ length (take s.used (lits_of es)) = ap (λ (us : List Literal). length us) counted in
    let t : take visited ls ≡ take visited (lits_of es) = ap (take visited) counted ∙ take-take visited s.used (lits_of es) (omega (arith, few, len)) in
    let q : GoesOn (value_in (take visited es)) (value_given (take visited ls)) = λ x b h. ap (λ (us : List Literal). value_given us x) t ∙ given_taken es visited x ∙ h in
    let p : GoesOn (value_given (take visited ls)) (value_in es) = λ x b h. given_goes_on es visited x b (ap (λ (us : List Literal). value_given us x) (sym t) ∙ h) in
    record {
      built = i.built;
      step = i.step;
      variables = variables;
      same_variables = refl;
      slots = refl;
      counted = counted;
      used = omega (arith, len, len', len'', same);
      watched = watched_over s.variables old.variables w (sym variables) i.watched;
      wholes = refl;
      closed = i.closed;
      few = omega (arith, few, len, len', len'', same);
      guarded = guards_later (value_in (take visited es)) (value_given (take visited ls)) (value_in es) w.slots.items p
          (guards_fewer (value_given (take visited ls)) (value_in (take visited es)) (value_given (take visited ls)) w.slots.items q guarded);
      appends = Appends-none (attached_in s w) es;
    }

-- after the counters were closed
pub run_counted : (s t u : Counters) (w v : Watches) (old now next : TrailView) (visited : ℕ) → IsRunning s w old t v now visited → AreBuilt u → AreInStep u (value_in next.entries)
    → counted_of u ≡ lits_of next.entries → u.slots ≡ t.slots → u.variables ≡ t.variables → next.variables ≡ now.variables → Appends (attached_from 0 t.slots.items) now.entries next.entries
    → IsRunning s w old u v next visited
run_counted s t u w v old now next visited r built step counted slots variables same a =
    let es = now.entries in
    let fs = next.entries in
    let lit : Entry → Literal = λ e. e.lit in
    let used : u.used ≡ length (lits_of fs) = counted_length u (lits_of fs) built counted in
    let len : length (lits_of fs) ≡ length fs = length-map fs lit in
    let few = r.few in
    let longer = a.longer in
    let taken : take visited fs ≡ take visited es = sym (take-take visited (length es) fs few) ∙ ap (take visited) a.kept in
    let P : List Entry → Type 0 = λ us. AreGuarded (value_in us) (value_in fs) v.slots.items in
    let from : Appends (attached_from 0 s.slots.items) es fs = (let Q : List Attached → Type 0 = λ us. Appends us es fs in subst Q (ap (λ us. attached_from 0 us.items) r.slots) a) in
    let old_counted : take (length (counted_of t)) (lits_of fs) ≡ counted_of t =
    (let n : length (counted_of t) ≡ t.used = length-take-le t.used t.lits.items r.built.used in
    ap (λ (m : ℕ). take m (lits_of fs)) n ∙ sym (take-take t.used (length es) (lits_of fs) r.used) ∙ ap (take t.used) (take-map lit (length es) fs ∙ ap lits_of a.kept) ∙ sym r.counted) in
    let n : length (counted_of t) ≡ t.used = length-take-le t.used t.lits.items r.built.used in
    let few' = r.used in
    record {
      built = built;
      step = step_later u.variables u.slots.items u.rooms.items u.waiting (counted_of u) (value_in fs) (value_given (counted_of u)) (later_all (counted_of u) fs counted) step;
      variables = variables ∙ r.variables ∙ sym same;
      same_variables = same ∙ r.same_variables;
      slots = slots ∙ r.slots;
      counted = counted ∙ sym (take_all u.used (lits_of fs) (omega (arith, used)));
      used = omega (arith, used, len);
      watched = watched_over now.variables next.variables v same r.watched;
      wholes = r.wholes;
      closed = closed_over (lits_of fs) (counted_of u) v (sym counted) (closed_longer (counted_of t) (lits_of fs) v (omega (arith, n, few', longer, len)) old_counted r.closed);
      few = omega (arith, few, longer);
      guarded = subst P (sym taken) (guards_later (value_in (take visited es)) (value_in es) (value_in fs) v.slots.items (appends_goes_on (attached_from 0 t.slots.items) es fs a) r.guarded);
      appends = Appends-trans (attached_in s w) old.entries es fs r.appends (appends_first (attached_from 0 s.slots.items) (watched_in w) es fs from);
    }

-- after the watched clauses were closed
pub run_watched : (s t : Counters) (w v u : Watches) (old now next : TrailView) (visited further : ℕ) → IsRunning s w old t v now visited → AreApart (attached_from 0 s.slots.items) (watched_in w)
    → counted_of t ≡ lits_of now.entries → AreWatched now.variables u → wholes u.slots.items ≡ wholes v.slots.items → u.closed ≡ v.closed
    → KeepsGuards (value_in now.entries) v.slots.items u.slots.items → next.variables ≡ now.variables → Appends (watched_in v) now.entries next.entries → further ≤ length next.entries
    → AreGuarded (value_in (take further next.entries)) (value_in next.entries) u.slots.items → IsRunning s w old t u next further
run_watched s t w v u old now next visited further r apart counted watched whole closed keeps same a few guarded =
    let es = now.entries in
    let fs = next.entries in
    let lit : Entry → Literal = λ e. e.lit in
    let longer = a.longer in
    let used = r.used in
    let from : Appends (watched_in w) es fs = (let Q : List Attached → Type 0 = λ us. Appends us es fs in subst Q (ap (attached_from 0) r.wholes) a) in
    let firsts : take t.used (lits_of fs) ≡ take t.used (lits_of es) = sym (take-take t.used (length es) (lits_of fs) used) ∙ ap (take t.used) (take-map lit (length es) fs ∙ ap lits_of a.kept) in
    record {
      built = r.built;
      step = r.step;
      variables = r.variables ∙ sym same;
      same_variables = same ∙ r.same_variables;
      slots = r.slots;
      counted = r.counted ∙ sym firsts;
      used = omega (arith, used, longer);
      watched = watched_over now.variables next.variables u same watched;
      wholes = whole ∙ r.wholes;
      closed = closed_over (lits_of es) (counted_of t) u (sym counted) (closed_kept es v u closed keeps (closed_over (counted_of t) (lits_of es) v counted r.closed));
      few = few;
      guarded = guarded;
      appends = Appends-trans (attached_in s w) old.entries es fs r.appends (appends_second (attached_from 0 s.slots.items) (watched_in w) es fs apart from);
    }

-- after the length was kept
pub run_closed : (s t : Counters) (w v u : Watches) (old now : TrailView) (visited reached : ℕ) → IsRunning s w old t v now visited → counted_of t ≡ lits_of now.entries → reached ≡ length now.entries
    → u.slots ≡ v.slots → u.lists ≡ v.lists
    → ((ls : List Literal) → reached ≤ length ls → (visited ≡ reached → AreGuarded (value_given (take reached ls)) (value_given (take reached ls)) v.slots.items) → AreClosedAt ls v → AreClosedAt ls u)
    → IsRunning s w old t u now visited
run_closed s t w v u old now visited reached r counted is slots lists closed =
    let es = now.entries in
    let len : length (lits_of es) ≡ length es = length-map es (λ (e : Entry). e.lit) in
    let count : length (counted_of t) ≡ length (lits_of es) = ap (λ (ls : List Literal). length ls) counted in
    let same : (x : ℕ) → value_given (take reached (counted_of t)) x ≡ value_in es x = λ x.
    ap (λ (ls : List Literal). value_given (take reached ls) x) counted ∙ given_taken es reached x ∙ ap (λ (us : List Entry). value_in us x) (take_all reached es (omega (arith, is))) in
    let all : visited ≡ reached → AreGuarded (value_given (take reached (counted_of t))) (value_given (take reached (counted_of t))) v.slots.items = λ e.
    (let whole : take visited es ≡ es = take_all visited es (omega (arith, e, is)) in
    guards_later (value_given (take reached (counted_of t))) (value_in es) (value_given (take reached (counted_of t))) v.slots.items (λ x b h. same x ∙ h)
    (guards_fewer (value_in (take visited es)) (value_given (take reached (counted_of t))) (value_in es) v.slots.items
    (λ x b h. ap (λ (us : List Entry). value_in us x) whole ∙ sym (same x) ∙ h) r.guarded)) in
    let P : List (Option WatchedView) → Type 0 = λ us. AreGuarded (value_in (take visited es)) (value_in es) us in
    record {
      built = r.built;
      step = r.step;
      variables = r.variables;
      same_variables = r.same_variables;
      slots = r.slots;
      counted = r.counted;
      used = r.used;
      watched = watched_same now.variables v u (ap (λ us. us.items) slots) lists r.watched;
      wholes = ap (λ us. wholes us.items) slots ∙ r.wholes;
      closed = closed (counted_of t) (omega (arith, is, len, count)) all r.closed;
      few = r.few;
      guarded = subst P (sym (ap (λ us. us.items) slots)) r.guarded;
      appends = r.appends;
    }

-- the counters are in step with the trail of now
pub run_step : (s t : Counters) (w v : Watches) (old now : TrailView) (visited : ℕ) → IsRunning s w old t v now visited → AreInStep t (value_in now.entries)
run_step s t w v old now visited r =
    let es = now.entries in
    step_later t.variables t.slots.items t.rooms.items t.waiting (counted_of t) (value_given (counted_of t)) (value_in es) (later_counted (counted_of t) t.used es r.counted) r.step

-- what a run leaves
pub run_ends : (s t : Counters) (w v : Watches) (old now : TrailView) (visited : ℕ) → IsRunning s w old t v now visited → AreApart (attached_from 0 s.slots.items) (watched_in w) → IsPropagator t v
run_ends s t w v old now visited r apart =
    let a : attached_from 0 t.slots.items ≡ attached_from 0 s.slots.items = ap (λ us. attached_from 0 us.items) r.slots in
    let b : watched_in v ≡ watched_in w = ap (attached_from 0) r.wholes in
    let P : List Attached → Type 0 = λ us. AreApart us (watched_in w) in
    let Q : List Attached → Type 0 = λ us. AreApart (attached_from 0 t.slots.items) us in
    record {
      built = r.built;
      step = r.step;
      watched = watched_over now.variables t.variables v r.variables r.watched;
      closed = r.closed;
      apart = subst Q (sym b) (subst P (sym a) apart);
    }

-- what is attached stays
pub run_held : (s t : Counters) (w v : Watches) (old now : TrailView) (visited : ℕ) → IsRunning s w old t v now visited → attached_in t v ≡ attached_in s w
run_held s t w v old now visited r = ap (λ us. attached_from 0 us.items ++ watched_in v) r.slots ∙ ap (λ us. attached_from 0 s.slots.items ++ attached_from 0 us) r.wholes

abbrev view_of : ℕ → List Attached → List Literal → PropagatorView
view_of n held ls = record { variables = n; attached = held; counted = ls }

-- a view by its parts
pub view_by : (n m : ℕ) (us vs : List Attached) (ls : List Literal) → n ≡ m → us ≡ vs → view_of n us ls ≡ view_of m vs ls
view_by n m us vs ls e f = ap (λ (k : ℕ). view_of k us ls) e ∙ ap (λ (held : List Attached). view_of m held ls) f
