-- Lists of tasks that are gone through: for one that stands twice, and for what comes after them.
use Rattle.std.proofs.Common.{◌≡◌, ℕ, ◌+◌, ◌<◌, ◌≤◌, Bool, true, false, List, length, get_or, map, take, sym, ap, ◌∙◌, subst, arith, ◌⊎◌, inl, inr, eq-eqb}
use Rattle.std.specs.Prelude.{◌||◌, ◌==◌}
use Rattle.std.proofs.lemmas.Bool.{cases_lt, false≢true, or_cases, or_left, or_right}
use Rattle.std.proofs.lemmas.List.{get_or-map, length-map, take_all}
use Rattle.spec_model.specs.Spec.{Message}
use Rattle.task_order.specs.Order.{is_in, is_gathered, IsOrderOf, IsLed}
use Rattle.task_order.proofs.Orders.{led_more}
use Rattle.task_order.proofs.Sets.{same_from}
use Rattle.spec_graph.specs.Refusals.{HasTwice}
use Rattle.spec_graph.specs.Lists.{task_number}
use Rattle.spec_graph.specs.declared.numbers.TaskNo.{TaskNo}

-- a number at a place below i
pub record IsBefore (xs : List ℕ) (i t : ℕ) : Type 0 where
  pub place : ℕ
  pub below : place < i
  pub same : get_or xs place 0 ≡ t

-- the set has the numbers of the places below i, and none of these is at two of them
pub record Seeing (xs : List ℕ) (i : ℕ) (seen : List Bool) : Type 0 where
  pub holds : (t : ℕ) → is_in seen t ≡ true → IsBefore xs i t
  pub has : (k : ℕ) → k < i → is_in seen (get_or xs k 0) ≡ true
  pub once : (j k : ℕ) → j < k → k < i → get_or xs j 0 ≡ get_or xs k 0 → ⊥

pub seeing_more : (xs : List ℕ) (i x : ℕ) (seen next : List Bool) → x ≡ get_or xs i 0 → is_in seen x ≡ false → ((t : ℕ) → is_in next t ≡ (is_in seen t || (t == x))) → Seeing xs i seen
    → Seeing xs (i + 1) next
seeing_more xs i x seen next ex new en s = record {
  holds = λ t h. cases t (or_cases (is_in seen t) (t == x) (sym (en t) ∙ h));
  has = λ k l. elim (cases_lt k i) [
    | inl y ↦ en (get_or xs k 0) ∙ or_left (is_in seen (get_or xs k 0)) (get_or xs k 0 == x) (s.has k y)
    | inr y ↦ let same : k ≡ i =
        omega (arith, l, y) in en (get_or xs k 0) ∙ or_right (is_in seen (get_or xs k 0)) (get_or xs k 0 == x) (eq-eqb (get_or xs k 0) x (ap (λ (n : ℕ). get_or xs n 0) same ∙ sym ex))
  ];
  once = λ j k l h e. elim (cases_lt k i) [
    | inl y ↦ s.once j k l y e
    | inr y ↦
        let same : k ≡ i = omega (arith, h, y) in
        false≢true (sym new ∙ (ap (is_in seen) (ex ∙ (ap (λ (n : ℕ). get_or xs n 0) (sym same) ∙ sym e)) ∙ s.has j (omega (arith, l, same))))
  ];
}
  where
    cases : (t : ℕ) → (is_in seen t ≡ true) ⊎ ((t == x) ≡ true) → IsBefore xs (i + 1) t
    cases t (inl y) = let b = s.holds t y in record { place = b.place; below = omega (arith, b.below); same = b.same }
    cases t (inr y) = record { place = i; below = omega arith; same = sym ex ∙ sym (same_from t x y) }

-- a number that is seen already stands twice
pub seen_twice : (xs : List ℕ) (i x : ℕ) (seen : List Bool) → i < length xs → x ≡ get_or xs i 0 → is_in seen x ≡ true → Seeing xs i seen → HasTwice xs
seen_twice xs i x seen l ex e s =
    let b = s.holds x e in
    record { first = b.place; second = i; before = b.below; within = l; same = b.same ∙ ex }

pub seen_once : (xs : List ℕ) (i : ℕ) (seen : List Bool) → length xs ≤ i → Seeing xs i seen → ¬ HasTwice xs
seen_once xs i seen l s h = s.once h.first h.second h.before (omega (arith, h.within, l)) h.same

-- ---- the tasks to which chains lead from tasks that are gathered one by one

pub led_task : (rows : List (List Bool)) (set next : List Bool) (ms : List Message) (ts : List TaskNo) (i : ℕ) (d : TaskNo) → i < length ts → IsOrderOf rows ms
    → IsLed set ms (take i (map task_number ts)) → ((b : ℕ) → is_in next b ≡ is_gathered rows set (get_or ts i d).0 b) → IsLed next ms (take (i + 1) (map task_number ts))
led_task rows set next ms ts i d l o s e =
    led_more rows set next ms (map task_number ts) i (get_or ts i d).0 (omega (arith, l, length-map ts task_number)) (sym (get_or-map task_number ts i d (get_or ts i d).0 l)) o s e

pub led_all : (set : List Bool) (ms : List Message) (ts : List TaskNo) (n : ℕ) → length ts ≤ n → IsLed set ms (take n (map task_number ts)) → IsLed set ms (map task_number ts)
led_all set ms ts n l s = subst (IsLed set ms) (take_all n (map task_number ts) (omega (arith, l, length-map ts task_number))) s

pub seeing_task : (ts : List TaskNo) (i : ℕ) (d : TaskNo) (seen next : List Bool) → i < length ts → is_in seen (get_or ts i d).0 ≡ false
    → ((t : ℕ) → is_in next t ≡ (is_in seen t || (t == (get_or ts i d).0))) → Seeing (map task_number ts) i seen → Seeing (map task_number ts) (i + 1) next
seeing_task ts i d seen next l new en s = seeing_more (map task_number ts) i (get_or ts i d).0 seen next (sym (get_or-map task_number ts i d 0 l)) new en s
