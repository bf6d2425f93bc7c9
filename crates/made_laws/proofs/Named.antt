-- Names of a letter and a number: each number has its own, and the first of them stand at their places.
use Rattle.std.proofs.Common.{◌≡◌, ℕ, ◌+◌, ◌<◌, ◌≤◌, ◌^◌, true, false, not, List, [], ◌∷◌, ◌++◌, length, get_or, map, refl, sym, ap, ◌∙◌, arith, Contains}
use Rattle.std.specs.Str.{bytes_eq}
use Rattle.std.proofs.lemmas.Slice.Eq.{bytes_eq-Decides}
use Rattle.std.proofs.lemmas.Bool.{false_from_ne_true}
use Rattle.std.proofs.lemmas.List.FromFn.{get_or-map-range_with_len, length-map-range_with_len, map-range_with_len_more}
use Rattle.std.proofs.lemmas.List.Sums.{prefix_len_is}
use Rattle.std.proofs.Math.Nat.{zero-add}
use Rattle.file_bricks.proofs.Written.{whole_of-decimal}
use Rattle.names.specs.Names.{number_by_name}
use Rattle.spec_model.specs.Spec.{Name, below}
use Rattle.spec_make.specs.Made.{name}

-- numbers that are small enough to be told apart by their words
pub name_number : (letter a b : ℕ) → a < 2 ^ 63 → b < 2 ^ 63 → name letter a ≡ name letter b → a ≡ b
name_number letter a b la lb e = cc (whole_of-decimal a la, whole_of-decimal b lb)

-- the names of the first n numbers
abbrev pub names : ℕ → ℕ → List Name
names letter n = map (name letter) (below n)

pub names_more : (letter n : ℕ) → names letter n ++ name letter n ∷ [] ≡ names letter (n + 1)
names_more letter n = sym (map-range_with_len_more (name letter) 0 n n (zero-add n))

pub names_long : (letter n : ℕ) → length (names letter n) ≡ n
names_long letter n = length-map-range_with_len (name letter) 0 n

name_at : (letter n i : ℕ) (d : Name) → i < n → get_or (names letter n) i d ≡ name letter i
name_at letter n i d lt = get_or-map-range_with_len (name letter) 0 n i i d lt (zero-add i)

pub known_name : (letter n i : ℕ) → i < n → Contains (names letter n) (name letter i)
known_name letter n i lt = let long = names_long letter n in (i, omega (arith, long, lt), name_at letter n i (name letter i) lt)

pub new_name : (letter n : ℕ) → n ≤ 100 → ¬ Contains (names letter n) (name letter n)
new_name letter n few there =
    let lt : there.0 < n = omega (arith, names_long letter n, there.1) in
    let same = name_number letter there.0 n (omega (arith, lt, few)) (omega (arith, few)) (sym (name_at letter n there.0 (name letter n) lt) ∙ there.2) in
    omega (arith, lt, same)

pub number_of_name : (letter n i : ℕ) → i < n → n ≤ 100 → number_by_name (names letter n) (name letter i) ≡ i
number_of_name letter n i lt few =
    prefix_len_is (λ (x : Name). not (bytes_eq (name letter i) x)) (names letter n) i [] (omega (arith, names_long letter n, lt)) before here
  where
    apart : (k : ℕ) → k < i → bytes_eq (name letter i) (name letter k) ≡ true → ⊥
    apart k low e =
        let same = name_number letter i k (omega (arith, lt, few)) (omega (arith, low, lt, few)) ((bytes_eq-Decides (name letter i) (name letter k)).0 e) in
        omega (arith, same, low)

    before : (k : ℕ) → k < i → not (bytes_eq (name letter i) (get_or (names letter n) k [])) ≡ true
    before k low =
        ap (λ (x : Name). not (bytes_eq (name letter i) x)) (name_at letter n k [] (omega (arith, low, lt)))
        ∙ ap not (false_from_ne_true (bytes_eq (name letter i) (name letter k)) (apart k low))

    here : i < length (names letter n) → not (bytes_eq (name letter i) (get_or (names letter n) i [])) ≡ false
    here l =
        ap (λ (x : Name). not (bytes_eq (name letter i) x)) (name_at letter n i [] lt)
        ∙ ap not ((bytes_eq-Decides (name letter i) (name letter i)).1 refl)
