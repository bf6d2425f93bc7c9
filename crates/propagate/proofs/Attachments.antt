-- What is attached, once a slot was put or emptied.
use Rattle.std.proofs.Common.{◌≡◌, ◌∙◌, ℕ, ◌≤◌, true, false, Option, Some, None, List, length, take, refl, sym, ap, is_some}
use Rattle.std.specs.Prelude.{Result, Ok, Err, OnOk, OnErr}
use Rattle.std.specs.declared.alloc.AllocError.{AllocError}
use Rattle.std.proofs.lemmas.List.{length-take-le}
use Rattle.pb_rules.specs.declared.Term.{Term}
use Rattle.pb_rules.specs.Linear.{Linear}
use Rattle.pb_rules.specs.Literal.{Literal}
use Rattle.pb_constraints.specs.declared.ConId.{ConId}
use Rattle.trail_state.specs.Trail.{Entry}
use Rattle.propagate.specs.Attached.{Attached, attached_at, ChangesOnly}
use Rattle.propagate.specs.Counters.{attached_from, IsPut}
use Rattle.propagate.proofs.Attaching.{attached_at_slot, same_id}
use Rattle.propagate.proofs.Tying.{lits_of}

pub changes_put : (old new : List (Option Linear)) (c : ConId) (o : Option Linear) → IsPut c.0 o old new → ChangesOnly (attached_from 0 old) (attached_from 0 new) c o
changes_put old new c o p = record {
  here = attached_at_slot new c ∙ p.here;
  others = λ d n. attached_at_slot new d ∙ p.others d.0 (λ z. n (same_id d c z)) ∙ sym (attached_at_slot old d);
}

pub stays_attached : (held : List Attached) (c : ConId) (k : Linear) (o : Option Linear) → is_some o ≡ true → attached_at held c ≡ o → ((l : Linear) → attached_at held c ≡ Some l → k ≡ l)
    → ChangesOnly held held c (Some k)
stays_attached held c k None h e f = absurd (cc)
stays_attached held c k (Some l) h e f = record { here = e ∙ ap (λ (m : Linear). Some m) (sym (f l e)); others = λ d n. refl }

pub on_ok_map : (r : Result (Unit {0}) AllocError) (P Q : Type 0) → (P → Q) → OnOk r P → OnOk r Q
on_ok_map (Ok x) P Q f p = f p
on_ok_map (Err e) P Q f p = p

-- what stands where something does, or nothing
pub some_filled : (o : Option Linear) → is_some o ≡ true → (k : Linear) × (o ≡ Some k)
some_filled None h = absurd (cc)
some_filled (Some k) h = (k, refl)

pub none_filled : (o : Option Linear) → is_some o ≡ false → o ≡ None
none_filled None h = refl
none_filled (Some k) h = absurd (cc)

-- what follows from either answer
pub on_either : (r : Result (Unit {0}) AllocError) (P Q R : Type 0) → (P → R) → (Q → R) → OnOk r P → OnErr r Q → R
on_either (Ok x) P Q R f g p q = f p
on_either (Err e) P Q R f g p q = g q

pub same_parts : (k : Linear) (ts : List Term) (degree : ℕ) (made : Linear) → made ≡ record { terms = ts; degree = degree } → ts ≡ k.terms → degree ≡ k.degree → made ≡ k
same_parts k ts degree made e t d =
    let f : List Term → ℕ → Linear = λ us n. record { terms = us; degree = n } in
    e ∙ ap (λ (us : List Term). f us degree) t ∙ ap (f k.terms) d

-- the counted literals are a prefix of the trail's, as many as are used
pub ready_counted : (p ls : List Literal) (used : ℕ) (es : List Entry) → take used ls ≡ p → used ≤ length ls → take (length p) (lits_of es) ≡ p → take used ls ≡ take used (lits_of es)
ready_counted p ls used es e h k =
    let n : length p ≡ used = ap (λ (us : List Literal). length us) (sym e) ∙ length-take-le used ls h in
    e ∙ sym k ∙ ap (λ (m : ℕ). take m (lits_of es)) n
