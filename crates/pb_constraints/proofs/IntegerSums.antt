use Rattle.std.proofs.Common.{◌≡◌, ℕ, ◌+◌, ◌<◌, ℤ, pos, ◌+ℤ◌, List, [], ◌∷◌, ◌++◌, length, get_or, take, map, arith, refl, ◌∙◌, ap, sum_by}
use Rattle.std.specs.List.Sorted.{IsPermutation}
use Rattle.std.proofs.lemmas.Int.{ints}
use Rattle.std.proofs.lemmas.List.{take_more}
use Rattle.std.proofs.lemmas.List.Sums.{sum_by-cons}
use Rattle.std.proofs.lemmas.List.Sorted.{sum_by-IsPermutation}
use borrow.Author.Differences.{up, down}
use Rattle.pb_constraints.specs.SignedSums.{sum_z}

pub sum_z-append : {X : Type 0} (f : X → ℤ) (xs ys : List X) → sum_z f (xs ++ ys) ≡ sum_z f xs +ℤ sum_z f ys
sum_z-append f [] ys = omega (arith, ints)
sum_z-append f (x ∷ xs) ys = omega (arith, ints, sum_z-append f xs ys)

pub sum_z_push : {X : Type 0} (f : X → ℤ) (xs : List X) (y : X) → sum_z f (xs ++ y ∷ []) ≡ sum_z f xs +ℤ f y
sum_z_push f xs y = omega (arith, ints, sum_z-append f xs (y ∷ []))

pub sum_z_more : {X : Type 0} (f : X → ℤ) (xs : List X) (i : ℕ) (d : X) → i < length xs → sum_z f (take (i + 1) xs) ≡ sum_z f (take i xs) +ℤ f (get_or xs i d)
sum_z_more f xs i d h = ap (sum_z f) (take_more xs i d h) ∙ sum_z_push f (take i xs) (get_or xs i d)

pub sum_z_is : {X : Type 0} (f : X → ℤ) (xs : List X) → sum_z f xs +ℤ pos (sum_by (λ x. down (f x)) xs) ≡ pos (sum_by (λ x. up (f x)) xs)
sum_z_is f [] = refl
sum_z_is f (x ∷ xs) = omega (arith, ints, sum_z_is f xs, sum_by-cons (λ x. down (f x)) x xs, sum_by-cons (λ x. up (f x)) x xs)

pub sum_z-IsPermutation : {X : Type 0} (f : X → ℤ) (xs ys : List X) → IsPermutation xs ys → sum_z f ys ≡ sum_z f xs
sum_z-IsPermutation f xs ys h =
    omega (arith, ints, sum_z_is f xs, sum_z_is f ys, sum_by-IsPermutation (λ x. down (f x)) xs ys h, sum_by-IsPermutation (λ x. up (f x)) xs ys h)

pub sum_z-map : {X Y : Type 0} (f : Y → ℤ) (g : X → Y) (h : X → ℤ) → ((x : X) → f (g x) ≡ h x) → (xs : List X) → sum_z f (map g xs) ≡ sum_z h xs
sum_z-map f g h e [] = refl
sum_z-map f g h e (x ∷ xs) = omega (arith, ints, e x, sum_z-map f g h e xs)

pub sum_z_plus : {X : Type 0} (f g h : X → ℤ) → ((x : X) → f x ≡ g x +ℤ h x) → (xs : List X) → sum_z f xs ≡ sum_z g xs +ℤ sum_z h xs
sum_z_plus f g h e [] = refl
sum_z_plus f g h e (x ∷ xs) = omega (arith, ints, e x, sum_z_plus f g h e xs)
