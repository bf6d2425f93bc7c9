-- Something among the values of a list's elements.
use Rattle.std.proofs.Common.{◌≡◌, ℕ, ◌+◌, ◌<◌, ◌≤◌, List, [], ◌∷◌, ◌++◌, length, get_or, map, sym, ap, ◌∙◌, subst, arith, All, ◌⊎◌, inl, inr}
use Rattle.std.specs.Prelude.{Any, IsTrue, ◌↔◌, Bool, false}
use Rattle.std.proofs.lemmas.List.{get_or-map, get_or_default, length-map}
use Rattle.std.proofs.lemmas.Bool.{cases_lt, false≢true}
use Rattle.spec_model.specs.Spec.{below}
use Rattle.spec_model.proofs.Those.{map-below_more}

pub any_here : {A B : Type 0} (f : A → B) (P : B → Type 0) (xs : List A) (i : ℕ) (d : A) → i < length xs → P (f (get_or xs i d)) → Any P (map f xs)
any_here f P xs i d l h = (i, f (get_or xs i d), omega (arith, l, length-map xs f), get_or-map f xs i d (f (get_or xs i d)) l, h)

pub any_nowhere : {A B : Type 0} (f : A → B) (P : B → Type 0) (xs : List A) (n : ℕ) → length xs ≤ n → ((k : ℕ) (d : A) → k < n → P (f (get_or xs k d)) → ⊥) → A → Any P (map f xs) → ⊥
any_nowhere f P xs n e none d x =
    let l : x.0 < length xs = omega (arith, x.2, length-map xs f) in
    none x.0 d (omega (arith, l, e)) (subst P (sym x.3 ∙ get_or-map f xs x.0 d x.1 l) x.4)

-- what holds of all values holds of each element's
pub all_of_map : {A B : Type 0} (f : A → B) (P : B → Type 0) (xs : List A) → All P (map f xs) → All (λ x. P (f x)) xs
all_of_map f P xs h = λ k d l. subst P (get_or-map f xs k d (f d) l) (h k (f d) (omega (arith, l, length-map xs f)))

-- a loop that looks for something, and what it knows at its end
pub none_more : {A : Type 0} (P : A → Type 0) (xs : List A) (i : ℕ) (x : A) → i < length xs → x ≡ get_or xs i x → ((k : ℕ) (d : A) → k < i → P (get_or xs k d) → ⊥) → (P x → ⊥) → (k : ℕ) (d : A)
    → k < i + 1 → P (get_or xs k d) → ⊥
none_more {A = A} P xs i x l e before here k d h p = go (cases_lt k i)
  where
    go : (k < i) ⊎ (i ≤ k) → ⊥
    go (inl y) = before k d y p
    go (inr y) =
        let same : k ≡ i = omega (arith, y, h) in
        here (subst P (ap (λ (j : ℕ). get_or xs j d) same ∙ get_or_default xs i d x l ∙ sym e) p)

pub none_at_all : {A : Type 0} (P : A → Type 0) (xs : List A) (n : ℕ) → length xs ≤ n → ((k : ℕ) (d : A) → k < n → P (get_or xs k d) → ⊥) → Any P xs → ⊥
none_at_all P xs n e none x = none x.0 x.1 (omega (arith, x.2, e)) (subst P (sym x.3) x.4)

-- a loop that appends a value for each number
pub pushed : {A : Type 0} (g : ℕ → A) (n : ℕ) (x : A) (now next : List A) → now ≡ map g (below n) → x ≡ g n → next ≡ now ++ x ∷ [] → next ≡ map g (below (n + 1))
pushed g n x now next e ex en = en ∙ (rw (e, ex) (sym (map-below_more g n)))

-- what a test refuses doesn't hold
pub never : {P : Type 0} (b : Bool) → (IsTrue b ↔ P) → b ≡ false → P → ⊥
never b h e p = false≢true (sym e ∙ h.1 p)

pub neither : {P Q : Type 0} → (P → ⊥) → (Q → ⊥) → P ⊎ Q → ⊥
neither p q (inl x) = p x
neither p q (inr y) = q y
