-- The lowest refusal of what stands in a list or below a number, from those of its parts.
use Rattle.std.proofs.Common.{◌≡◌, ℕ, ◌+◌, ◌<◌, ◌≤◌, ◌⊎◌, inl, inr, List, length, get_or, take, Option, Some, sym, ap, subst, ◌∙◌, arith, All, Any}
use Rattle.std.proofs.lemmas.Bool.{cases_lt}
use Rattle.std.proofs.lemmas.List.{take_more, take_all, get_or-take, length-take-le, get_or_default}
use Rattle.std.proofs.lemmas.List.Elements.{All-push}
use Rattle.line_words.specs.declared.refusals.Why.{Why}
use Rattle.table_cells.specs.Least.{IsLeastOrNone, lower_of}
use Rattle.table_cells.proofs.Least.{least_either, least_same}
use Rattle.tgff_reader.specs.declared.file.Row.{Row}
use Rattle.spec_join.specs.Tables.{HasBelow, OfRow}

-- the lowest of what holds of some item of a list
abbrev pub IsLeastIn : {X : Type 0} → (Why → X → Type 0) → List X → Option Why → Type 0
IsLeastIn P xs a = IsLeastOrNone (λ why. Any (P why) xs) a

-- the lowest of what holds of some number below n
abbrev pub IsLeastBelow : (Why → ℕ → Type 0) → ℕ → Option Why → Type 0
IsLeastBelow P n a = IsLeastOrNone (λ why. HasBelow n (P why)) a

-- ---- lists

-- some item of the first ones has a property, said by its place
record IsAmong {X : Type 0} (P : X → Type 0) (xs : List X) (n : ℕ) : Type 0 where
  place : ℕ
  item : X
  below : place < n
  within : place < length xs
  item_is : get_or xs place item ≡ item
  holds : P item

among_of : {X : Type 0} (P : X → Type 0) (xs : List X) (n : ℕ) → n ≤ length xs → Any P (take n xs) → IsAmong P xs n
among_of P xs n le (k, y, lt, e, p) =
    let low : k < n = omega (arith, length-take-le n xs le, lt) in
    record { place = k; item = y; below = low; within = omega (arith, low, le); item_is = sym (get_or-take n xs k y low) ∙ e; holds = p }

of_among : {X : Type 0} (P : X → Type 0) (xs : List X) (n : ℕ) → n ≤ length xs → IsAmong P xs n → Any P (take n xs)
of_among P xs n le a = (a.place, a.item, omega (arith, length-take-le n xs le, a.below), get_or-take n xs a.place a.item a.below ∙ a.item_is, a.holds)

some_more : {X : Type 0} (P : X → Type 0) (xs : List X) (i : ℕ) (x : X) → i < length xs → x ≡ get_or xs i x → Any P (take i xs) ⊎ P x → Any P (take (i + 1) xs)
some_more P xs i x lt e (inl h) =
    let a = among_of P xs i (omega (arith, lt)) h in
    of_among P xs (i + 1) (omega (arith, lt)) (record { place = a.place; item = a.item; below = omega (arith, a.below); within = a.within; item_is = a.item_is; holds = a.holds })
some_more P xs i x lt e (inr p) = of_among P xs (i + 1) (omega (arith, lt)) (record { place = i; item = x; below = omega arith; within = lt; item_is = sym e; holds = p })

some_less : {X : Type 0} (P : X → Type 0) (xs : List X) (i : ℕ) (x : X) → i < length xs → x ≡ get_or xs i x → Any P (take (i + 1) xs) → Any P (take i xs) ⊎ P x
some_less {X} P xs i x lt e h = go (among_of P xs (i + 1) (omega (arith, lt)) h)
  where
    go : IsAmong P xs (i + 1) → Any P (take i xs) ⊎ P x
    go a = elim (cases_lt a.place i) [
      | inl low ↦ inl (of_among P xs i (omega (arith, lt)) (record { place = a.place; item = a.item; below = low; within = a.within; item_is = a.item_is; holds = a.holds }))
      | inr le ↦
          let last : a.place ≡ i = omega (arith, le, a.below) in
          inr (subst P (sym a.item_is ∙ ap (λ (k : ℕ). get_or xs k a.item) last ∙ get_or_default xs i a.item x lt ∙ sym e) a.holds)
    ]

-- one more item
pub least_in_more : {X : Type 0} (P : Why → X → Type 0) (xs : List X) (i : ℕ) (x : X) (a b r : Option Why) → i < length xs → x ≡ get_or xs i x → r ≡ lower_of a b → IsLeastIn P (take i xs) a
    → IsLeastOrNone (λ why. P why x) b → IsLeastIn P (take (i + 1) xs) r
least_in_more P xs i x a b r lt e lower first last =
    subst (IsLeastIn P (take (i + 1) xs)) (sym lower)
    (least_same (λ why. Any (P why) (take i xs) ⊎ P why x) (λ why. Any (P why) (take (i + 1) xs)) (lower_of a b)
    (λ why. some_more (P why) xs i x lt e)
    (λ why. some_less (P why) xs i x lt e)
    (least_either (λ why. Any (P why) (take i xs)) (λ why. P why x) a b first last))

-- all items
pub least_in_all : {X : Type 0} (P : Why → X → Type 0) (xs : List X) (i : ℕ) (a : Option Why) → length xs ≤ i → IsLeastIn P (take i xs) a → IsLeastIn P xs a
least_in_all {X} P xs i a le h = subst (λ (ys : List X). IsLeastIn P ys a) (take_all i xs le) h

-- one more item that has a property
pub all_more : {X : Type 0} (P : X → Type 0) (xs : List X) (i : ℕ) (x : X) → i < length xs → x ≡ get_or xs i x → P x → All P (take i xs) → All P (take (i + 1) xs)
all_more P xs i x lt e p h = subst (All P) (sym (take_more xs i x lt)) (All-push P (take i xs) (get_or xs i x) h (subst P e p))

-- ---- numbers

more_below : (P : ℕ → Type 0) (n : ℕ) → HasBelow n P ⊎ P n → HasBelow (n + 1) P
more_below P n (inl (k, lt, p)) = (k, omega (arith, lt), p)
more_below P n (inr p) = (n, omega arith, p)

less_below : (P : ℕ → Type 0) (n : ℕ) → HasBelow (n + 1) P → HasBelow n P ⊎ P n
less_below P n (k, lt, p) = elim (cases_lt k n) [
  | inl low ↦ inl (k, low, p)
  | inr le ↦ let last : k ≡ n = omega (arith, le, lt) in inr (subst P last p)
]

-- one more number
pub least_below_more : (P : Why → ℕ → Type 0) (n : ℕ) (a b r : Option Why) → r ≡ lower_of a b → IsLeastBelow P n a → IsLeastOrNone (λ why. P why n) b → IsLeastBelow P (n + 1) r
least_below_more P n a b r lower x y =
    subst (IsLeastBelow P (n + 1)) (sym lower)
    (least_same (λ why. HasBelow n (P why) ⊎ P why n) (λ why. HasBelow (n + 1) (P why)) (lower_of a b)
    (λ why. more_below (P why) n)
    (λ why. less_below (P why) n)
    (least_either (λ why. HasBelow n (P why)) (λ why. P why n) a b x y))

-- ---- rows

-- what a row is refused for that was found
pub least_of_row : (P : Row → Why → Type 0) (found : Option Row) (row : Row) (a : Option Why) → found ≡ Some row → IsLeastOrNone (P row) a → IsLeastOrNone (OfRow P found) a
least_of_row P found row a e h = subst (λ (o : Option Row). IsLeastOrNone (OfRow P o) a) (sym e) h
