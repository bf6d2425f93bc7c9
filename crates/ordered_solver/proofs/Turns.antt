-- A turn of the search: what its parts need, and how far it has come after it.
use Rattle.std.proofs.Common.{◌≡◌, ℕ, ◌+◌, ◌-◌, ◌<◌, ◌≤◌, ◌^◌, Some, List, [], ◌∷◌, ◌++◌, length, get_or, take, refl, sym, ap, ◌∙◌, subst, arith, inl, inr}
use Rattle.std.proofs.lemmas.List.{get_or-map, length-map}
use Rattle.pb_constraints.specs.declared.ConId.{ConId}
use Rattle.pb_rules.specs.Literal.{Literal}
use Rattle.pb_rules.specs.Linear.{Linear}
use Rattle.pb_rules.specs.Partial.{Forces}
use Rattle.proof_log.specs.Log.{LogValue}
use Rattle.constraint_store.specs.Live.{Live, live_at, constraint_of}
use Rattle.trail_state.specs.Trail.{Entry, TrailView, value_in, level_of}
use Rattle.propagate.specs.Attached.{Attached, attached_at}
use Rattle.propagate.specs.Forced.{IsConflict}
use Rattle.propagate.specs.Propagator.{PropagatorView}
use Rattle.conflict_graph.specs.Conditions.{IsUsable, IsForcedBy, AllForced, HasCurrent}
use Rattle.conflict_graph.specs.Learned.{constraints_in}
use Rattle.ordered_solver.specs.Engines.{IsInRange, IsLoaded}
use Rattle.ordered_solver.specs.Lessons.{Learns, HasLearned, IsCounted}
use Rattle.ordered_solver.specs.Marks.{word, marks}
use Rattle.ordered_solver.specs.Trails.{IsOrdered, GoesOnFrom}
use Rattle.ordered_solver.proofs.Asserting.{back_below, has_current}
use Rattle.ordered_solver.proofs.Ends.{AreHeld}
use Rattle.ordered_solver.proofs.Lessons.{learned_more, ordered_learns}
use Rattle.ordered_solver.proofs.Loading.{live-all, live_place}
use Rattle.ordered_solver.proofs.Words.{word_goes_on, word_learn, word-lt}

-- an attached constraint can be used
pub usable : (live : List Live) (p : PropagatorView) (t : TrailView) (c : ConId) (k : Linear) → IsLoaded live p t → attached_at p.attached c ≡ Some k → IsUsable live t.variables c
usable live p t c k l at = record { live_there = l.ready.live c k at; in_range = live-all (IsInRange t.variables) live c l.in_range (l.ready.live c k at) }

some_same : (a b : ConId) → Some a ≡ Some b → a ≡ b
some_same a b e = cc

-- each implied literal was forced by its reason, as the analysis of a conflict needs it
pub all_forced : (live : List Live) (p : PropagatorView) (t : TrailView) (order : List Literal) → IsLoaded live p t → IsOrdered p.attached order t.entries → AllForced live t.variables t.entries
all_forced live p t order l o k d r h e = elim (o.search k d h) [
  | inl f ↦ (let same : f.reason ≡ r = some_same f.reason r (sym f.there ∙ e) in
      let P : ConId → Type 0 = λ x. IsForcedBy live t.variables (take k t.entries) (get_or t.entries k d) x in
      let F : Linear → Type 0 = λ q. Forces (value_in (take k t.entries)) q (get_or t.entries k d).lit in
      subst P same (record { usable = usable live p t f.reason f.constraint l f.attached; forces = subst F (sym (l.ready.stored f.reason f.constraint f.attached)) f.forces }))
  | inr g ↦ absurd (let none = g.no_reason in cc)
]

-- a conflict above level 0 has a false literal of the current level
pub current : (live : List Live) (p : PropagatorView) (t : TrailView) (order : List Literal) (c : ConId) → IsLoaded live p t → IsOrdered p.attached order t.entries
    → IsConflict p.attached t.entries c → 0 < level_of t.entries → HasCurrent t.entries (constraint_of live c).terms
current live p t order c l o k h =
    let P : Linear → Type 0 = λ q. HasCurrent t.entries q.terms in
    subst P (sym (l.ready.stored c k.constraint k.attached)) (has_current p.attached t.entries c k.constraint o.closed_below k.attached k.conflict h)

-- each attached constraint is one of the live ones
pub are_held : (live : List Live) (p : PropagatorView) (t : TrailView) → IsLoaded live p t → AreHeld live p.attached
are_held live p t l c k at =
    let r = live_place live c (l.ready.live c k at) in
    let d : Live = live_at live c in
    let len : length (constraints_in live) ≡ length live = length-map live (λ (e : Live). e.constraint) in
    let within = r.within in
    (r.place, omega arith, get_or-map (λ (e : Live). e.constraint) live r.place d k r.within ∙ ap (λ (e : Live). e.constraint) (r.there d) ∙ l.ready.stored c k at)

-- how far a search has come, where nothing has changed
pub learned_same : (start live after : List Live) (first ids ids_after : List ConId) (old log log_after : LogValue) (n : ℕ) → after ≡ live → ids_after ≡ ids → log_after ≡ log
    → HasLearned start live first ids old log n → HasLearned start after first ids_after old log_after n
learned_same start live after first ids ids_after old log log_after n a b c h =
    let P : List Live → Type 0 = λ ls. HasLearned start ls first ids_after old log_after n in
    let Q : List ConId → Type 0 = λ is. HasLearned start live first is old log_after n in
    let R : LogValue → Type 0 = λ v. HasLearned start live first ids old v n in
    subst P (sym a) (subst Q (sym b) (subst R (sym c) h))

-- after a lesson
pub turn_learned : (start live after : List Live) (first ids ids_after : List ConId) (p : PropagatorView) (t : TrailView) (bs : List Attached) (order : List Literal) (now : List Entry)
    (old log log_after : LogValue) (n : ℕ) (id : ConId) → IsLoaded live p t → IsOrdered p.attached order t.entries → 0 < level_of t.entries → HasLearned start live first ids old log n
    → Learns live after p.attached bs t.entries now log log_after id → ids_after ≡ ids ++ id ∷ [] → HasLearned start after first ids_after old log_after (n + 1)
turn_learned start live after first ids ids_after p t bs order now old log log_after n id l o h s r e =
    let P : List ConId → Type 0 = λ is. HasLearned start after first is old log_after (n + 1) in
    subst P (sym e) (learned_more start live after first ids p.attached bs order t.entries now old log log_after n id l.attached h o s r)

pub turn_ordered : (live after : List Live) (p : PropagatorView) (t : TrailView) (bs : List Attached) (order : List Literal) (now : List Entry) (log log_after : LogValue) (id : ConId)
    → IsLoaded live p t → IsOrdered p.attached order t.entries → 0 < level_of t.entries → Learns live after p.attached bs t.entries now log log_after id → IsOrdered bs order now
turn_ordered live after p t bs order now log log_after id l o h r = ordered_learns live after p.attached bs order t.entries now log log_after id l.ready.live h o r

-- the trail's word rose in the turn
pub turn_word : (live after : List Live) (held bs : List Attached) (first es now : List Entry) (log log_after : LogValue) (id : ConId) (v : ℕ) → GoesOnFrom first es → length es ≤ v
    → 0 < level_of es → Learns live after held bs es now log log_after id → word v (marks first) < word v (marks now)
turn_word live after held bs first es now log log_after id v goes few h r =
    let up = word_goes_on v first es goes in
    let below = back_below es r.clause.constraint.terms r.back r.level_below h in
    let e : Entry = record { lit = r.lit; reason = Some r.clause.id } in
    let more = word_learn v r.back es e below few refl in
    let P : List Entry → Type 0 = λ us. word v (marks first) < word v (marks us) in
    subst P (sym r.pushed) (omega arith)

-- and stays below its bound
pub turn_smaller : (v0 v : ℕ) (first now : List Entry) → v ≡ v0 → word v0 (marks first) < word v0 (marks now) → 2 ^ v - word v (marks now) < 2 ^ v0 - word v0 (marks first)
turn_smaller v0 v first now e h =
    let top = word-lt v0 (marks now) in
    let P : ℕ → Type 0 = λ m. 2 ^ m - word m (marks now) < 2 ^ v0 - word v0 (marks first) in
    subst P (sym e) (omega arith)

pub turn_counted : (v0 v : ℕ) (first now : List Entry) (n : ℕ) → v ≡ v0 → word v0 (marks first) < word v0 (marks now) → IsCounted v0 first n → IsCounted v now (n + 1)
turn_counted v0 v first now n e h counted =
    let P : ℕ → Type 0 = λ m. IsCounted m now (n + 1) in
    subst P (sym e) (omega arith)

-- going on leaves the count
pub still_counted : (v0 v : ℕ) (first now : List Entry) (n : ℕ) → v ≡ v0 → GoesOnFrom first now → IsCounted v0 first n → IsCounted v now n
still_counted v0 v first now n e goes counted =
    let up = word_goes_on v0 first now goes in
    let P : ℕ → Type 0 = λ m. IsCounted m now n in
    subst P (sym e) (omega arith)

-- an empty trail is one of every search
pub empty_ordered : (held : List Attached) (order : List Literal) (es : List Entry) → es ≡ [] → IsOrdered held order es
empty_ordered held order es e =
    let P : List Entry → Type 0 = λ us. IsOrdered held order us in
    subst P (sym e) (record { search = λ k d h. absurd (omega arith); closed_below = λ n h. absurd (omega arith) })
