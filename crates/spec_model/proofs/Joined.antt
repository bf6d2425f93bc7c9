-- Lists put together from pieces, of which each member has a property.
use Rattle.std.proofs.Common.{◌≡◌, ℕ, zero, suc, ◌+◌, ◌<◌, Bool, true, false, cond, List, [], ◌∷◌, ◌++◌, refl, sym, subst, arith, add-one}
use Rattle.std.specs.Prelude.{map, All, Contains}
use Rattle.std.specs.List.{flat_map, range_with_len, AllByRecursion}
use Rattle.std.proofs.lemmas.List.Elements.{All-from_recursion, recursion_from_All, All-append, All-contains}
use Rattle.plain_lists.proofs.Joined.{All-right}
use Rattle.spec_model.specs.Spec.{below, those}
use Rattle.spec_model.proofs.Those.{those_more}

left_part : {X : Type 0} (P : X → Type 0) (xs ys : List X) → AllByRecursion P (xs ++ ys) → AllByRecursion P xs
left_part P [] ys h = tt
left_part P (x ∷ xs) ys h = (h.0, left_part P xs ys h.1)

-- what holds of all of two lists holds of the first
pub All-left : {X : Type 0} (P : X → Type 0) (xs ys : List X) → All P (xs ++ ys) → All P xs
All-left P xs ys h = All-from_recursion P xs (left_part P xs ys (recursion_from_All P (xs ++ ys) h))

-- the piece of one number
range_piece : {X : Type 0} (P : X → Type 0) (g : ℕ → List X) (n a i : ℕ) → All P (flat_map g (range_with_len a n)) → i < n → All P (g (a + i))
range_piece P g zero a i h l = absurd (omega arith)
range_piece P g (suc n) a zero h l =
    let e : a ≡ a + 0 = omega arith in
    subst (λ (k : ℕ). All P (g k)) e (All-left P (g a) (flat_map g (range_with_len (a + 1) n)) h)
range_piece P g (suc n) a (suc i) h l =
    let e : (a + 1) + i ≡ a + suc i = omega arith in
    subst (λ (k : ℕ). All P (g k)) e (range_piece P g n (a + 1) i (All-right P (g a) (flat_map g (range_with_len (a + 1) n)) h) (omega arith))

-- what holds of all that numbers give holds of what each gives,
pub All-piece : {X : Type 0} (P : X → Type 0) (g : ℕ → List X) (n i : ℕ) → All P (flat_map g (below n)) → i < n → All P (g i)
All-piece P g n i h l =
    let e : 0 + i ≡ i = omega arith in
    subst (λ (k : ℕ). All P (g k)) e (range_piece P g n 0 i h l)

-- from the piece of each number
range_pieces : {X : Type 0} (P : X → Type 0) (g : ℕ → List X) (n a : ℕ) → ((i : ℕ) → i < n → All P (g (a + i))) → All P (flat_map g (range_with_len a n))
range_pieces P g zero a h = All-from_recursion P [] tt
range_pieces P g (suc n) a h =
    let e : a + 0 ≡ a = omega arith in
    let first = subst (λ (k : ℕ). All P (g k)) e (h 0 (omega arith)) in
    All-append P (g a) (flat_map g (range_with_len (a + 1) n)) first (range_pieces P g n (a + 1) (λ i l. let e' : a + suc i ≡ (a + 1) + i = omega arith in
    subst (λ (k : ℕ). All P (g k)) e' (h (suc i) (omega arith))))

-- and the other way round
pub All-pieces : {X : Type 0} (P : X → Type 0) (g : ℕ → List X) (n : ℕ) → ((i : ℕ) → i < n → All P (g i)) → All P (flat_map g (below n))
All-pieces P g n h = range_pieces P g n 0 (λ i l. let e : i ≡ 0 + i = omega arith in subst (λ (k : ℕ). All P (g k)) e (h i l))

-- the same where each piece is one member
map_one : {X : Type 0} (P : X → Type 0) (g : ℕ → X) (n a i : ℕ) → AllByRecursion P (map g (range_with_len a n)) → i < n → P (g (a + i))
map_one P g zero a i h l = absurd (omega arith)
map_one P g (suc n) a zero h l =
    let e : a ≡ a + 0 = omega arith in
    subst (λ (k : ℕ). P (g k)) e h.0
map_one P g (suc n) a (suc i) h l =
    let e : (a + 1) + i ≡ a + suc i = omega arith in
    subst (λ (k : ℕ). P (g k)) e (map_one P g n (a + 1) i h.1 (omega arith))

-- what holds of all that are made of numbers holds of each,
pub All-one : {X : Type 0} (P : X → Type 0) (g : ℕ → X) (n i : ℕ) → All P (map g (below n)) → i < n → P (g i)
All-one P g n i h l =
    let e : 0 + i ≡ i = omega arith in
    subst (λ (k : ℕ). P (g k)) e (map_one P g n 0 i (recursion_from_All P (map g (below n)) h) l)

map_ones : {X : Type 0} (P : X → Type 0) (g : ℕ → X) (n a : ℕ) → ((i : ℕ) → i < n → P (g (a + i))) → AllByRecursion P (map g (range_with_len a n))
map_ones P g zero a h = tt
map_ones P g (suc n) a h =
    let e : a + 0 ≡ a = omega arith in
    (subst (λ (k : ℕ). P (g k)) e (h 0 (omega arith)), map_ones P g n (a + 1) (λ i l. let e' : a + suc i ≡ (a + 1) + i = omega arith in subst (λ (k : ℕ). P (g k)) e' (h (suc i) (omega arith))))

-- and the other way round
pub All-ones : {X : Type 0} (P : X → Type 0) (g : ℕ → X) (n : ℕ) → ((i : ℕ) → i < n → P (g i)) → All P (map g (below n))
All-ones P g n h = All-from_recursion P (map g (below n)) (map_ones P g n 0 (λ i l. let e : i ≡ 0 + i = omega arith in subst (λ (k : ℕ). P (g k)) e (h i l)))

-- the pieces of a list's members
list_pieces : {X Y : Type 0} (P : Y → Type 0) (g : X → List Y) (xs : List X) → All P (flat_map g xs) → AllByRecursion (λ x. All P (g x)) xs
list_pieces P g [] h = tt
list_pieces P g (x ∷ xs) h = (All-left P (g x) (flat_map g xs) h, list_pieces P g xs (All-right P (g x) (flat_map g xs) h))

-- what holds of all that entries give holds of what each gives,
pub All-piece_of : {X Y : Type 0} (P : Y → Type 0) (g : X → List Y) (xs : List X) (x : X) → All P (flat_map g xs) → Contains xs x → All P (g x)
All-piece_of P g xs x h member = All-contains (λ y. All P (g y)) xs x (All-from_recursion (λ y. All P (g y)) xs (list_pieces P g xs h)) member

-- and the other way round
pub All-pieces_of : {X Y : Type 0} (P : Y → Type 0) (g : X → List Y) (xs : List X) → All (λ x. All P (g x)) xs → All P (flat_map g xs)
All-pieces_of P g [] h = All-from_recursion P [] tt
All-pieces_of P g (x ∷ xs) h =
    All-append P (g x) (flat_map g xs) (recursion_from_All (λ y. All P (g y)) (x ∷ xs) h).0 (All-pieces_of P g xs
    (All-from_recursion (λ y. All P (g y)) xs (recursion_from_All (λ y. All P (g y)) (x ∷ xs) h).1))

-- two members
pub All-first : {X : Type 0} (P : X → Type 0) (x y : X) → All P (x ∷ (y ∷ [])) → P x
All-first P x y h = (recursion_from_All P (x ∷ (y ∷ [])) h).0

-- what holds of both of two holds of the second,
pub All-second : {X : Type 0} (P : X → Type 0) (x y : X) → All P (x ∷ (y ∷ [])) → P y
All-second P x y h = (recursion_from_All P (x ∷ (y ∷ [])) h).1.0

-- and the other way round
pub All-two : {X : Type 0} (P : X → Type 0) (x y : X) → P x → P y → All P (x ∷ (y ∷ []))
All-two P x y h g = All-from_recursion P (x ∷ (y ∷ [])) (h, (g, tt))

-- a member of a mapped list, and all of them
map_each : {X Y : Type 0} (P : Y → Type 0) (g : X → Y) (xs : List X) → AllByRecursion P (map g xs) → AllByRecursion (λ x. P (g x)) xs
map_each P g [] h = tt
map_each P g (x ∷ xs) h = (h.0, map_each P g xs h.1)

-- what holds of all that are made of entries holds of what is made of each
pub All-of_map : {X Y : Type 0} (P : Y → Type 0) (g : X → Y) (xs : List X) (x : X) → All P (map g xs) → Contains xs x → P (g x)
All-of_map P g xs x h member = All-contains (λ y. P (g y)) xs x (All-from_recursion (λ y. P (g y)) xs (map_each P g xs (recursion_from_All P (map g xs) h))) member

-- each of those that pass
pub All-those : (P : ℕ → Type 0) (p : ℕ → Bool) (n : ℕ) → ((i : ℕ) → i < n → p i ≡ true → P i) → All P (those p n)
All-those P p zero h = All-from_recursion P [] tt
All-those P p (suc n) h =
    subst (λ (k : ℕ). All P (those p k)) (add-one n) (subst (λ (xs : List ℕ). All P xs) (sym (those_more p n))
    (All-append P (those p n) (cond (p n) (n ∷ []) []) (All-those P p n (λ i l. h i (omega arith))) (last (p n) refl)))
  where
    last : (b : Bool) → p n ≡ b → All P (cond b (n ∷ []) [])
    last true e = All-from_recursion P (n ∷ []) (h n (omega arith) e, tt)
    last false e = All-from_recursion P [] tt
