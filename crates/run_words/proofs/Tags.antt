-- Tags as they are gone through one by one.
use Rattle.std.proofs.Common.{◌≡◌, ◌+◌, ◌++◌, ◌∷◌, ◌∙◌, ◌<◌, ◌&&◌, ℕ, suc, zero, Bool, true, false, not, List, [], refl, sym, ap, map, take, drop, length, slice_index_or, arith, add-one, append_assoc, cond, ◌≤◌}
use Rattle.std.proofs.Math.ListN.{drop_of_length-le}
use Rattle.std.specs.List.{list_all}
use Rattle.form_words.specs.Line.{Text, has_text}
use Rattle.run_words.specs.Tools.{are_apart, is_named, places_from}

cut_at : {X : Type 0} (f : X → List ℕ) (xs : List X) (i : ℕ) (d : X) → i < length xs
    → (map f (drop i xs) ≡ f (slice_index_or xs i d) ∷ map f (drop (i + 1) xs)) × (map f (take (i + 1) xs) ≡ map f (take i xs) ++ f (slice_index_or xs i d) ∷ [])
cut_at {X} f xs i d lt = rw add-one (go xs i lt)
  where
    go : (xs : List X) (i : ℕ) → i < length xs
        → (map f (drop i xs) ≡ f (slice_index_or xs i d) ∷ map f (drop (suc i) xs)) × (map f (take (suc i) xs) ≡ map f (take i xs) ++ f (slice_index_or xs i d) ∷ [])
    go [] i lt = absurd (omega arith)
    go (x ∷ xs) zero lt = (refl, refl)
    go (x ∷ xs) (suc i) lt = let k = go xs i (omega arith) in (k.0, ap (λ l. f x ∷ l) k.1)

-- what the place i adds
pub place_added : (i : ℕ) (parts before ts : List (List ℕ)) (t : List ℕ) (done after : List ℕ) (takes : Bool) → takes ≡ is_named parts before t
    → after ≡ (cond takes (done ++ i ∷ []) done) → after ++ places_from (i + 1) parts (before ++ t ∷ []) ts ≡ done ++ places_from i parts before (t ∷ ts)
unfolding places_from
place_added i parts before ts t done after true is e =
    rw e (append_assoc done (i ∷ []) _ ∙ ap (λ b. done ++ cond b (i ∷ places_from (i + 1) parts (before ++ t ∷ []) ts) (places_from (i + 1) parts (before ++ t ∷ []) ts)) is)
place_added i parts before ts t done after false is e = rw e (ap (λ b. done ++ cond b (i ∷ places_from (i + 1) parts (before ++ t ∷ []) ts) (places_from (i + 1) parts (before ++ t ∷ []) ts)) is)

pub place_step : {X : Type 0} (f : X → List ℕ) (xs : List X) (i : ℕ) (d : X) (parts : List (List ℕ)) (t : List ℕ) (done after total : List ℕ) (takes : Bool) → i < length xs
    → t ≡ f (slice_index_or xs i d)
    → takes ≡ is_named parts (map f (take i xs)) t → after ≡ cond takes (done ++ i ∷ []) done
    → done ++ places_from i parts (map f (take i xs)) (map f (drop i xs)) ≡ total
    → after ++ places_from (i + 1) parts (map f (take (i + 1) xs)) (map f (drop (i + 1) xs)) ≡ total
place_step f xs i d parts t done after total takes lt t_is is e inv =
    let cut = cut_at f xs i d lt in
    let took : map f (take (i + 1) xs) ≡ map f (take i xs) ++ t ∷ [] = cut.1 ∙ ap (λ u. map f (take i xs) ++ u ∷ []) (sym t_is) in
    let dropped : map f (drop i xs) ≡ t ∷ map f (drop (i + 1) xs) = cut.0 ∙ ap (λ u. u ∷ map f (drop (i + 1) xs)) (sym t_is) in
    ap (λ l. after ++ places_from (i + 1) parts l (map f (drop (i + 1) xs))) took
    ∙ place_added i parts (map f (take i xs)) (map f (drop (i + 1) xs)) t done after takes is e
    ∙ ap (λ l. done ++ places_from i parts (map f (take i xs)) l) (sym dropped) ∙ inv

pub places_end : {X : Type 0} (f : X → List ℕ) (xs : List X) (i : ℕ) (parts before : List (List ℕ)) (done total : List ℕ) → length xs ≤ i
    → done ++ places_from i parts before (map f (drop i xs)) ≡ total → done ≡ total
unfolding places_from
places_end f xs i parts before done total le inv =
    let none : drop i xs ≡ [] = drop_of_length-le xs le in
    sym (append_nil done) ∙ ap (λ l. done ++ places_from i parts before (map f l)) (sym none) ∙ inv
  where
    append_nil : (l : List ℕ) → l ++ [] ≡ l
    append_nil [] = refl
    append_nil (x ∷ l) = ap (λ m. x ∷ m) (append_nil l)

-- ---- texts that are apart

-- one text stands among those after it
pub twice : {X : Type 0} (f : X → Text) (xs : List X) (i : ℕ) (d : X) (t : Text) (whole : Bool) → i < length xs → t ≡ f (slice_index_or xs i d)
    → has_text (map f (drop (i + 1) xs)) t ≡ true → are_apart (map f (drop i xs)) ≡ whole → false ≡ whole
unfolding are_apart
twice f xs i d t whole lt t_is there inv =
    let dropped : map f (drop i xs) ≡ t ∷ map f (drop (i + 1) xs) = (cut_at f xs i d lt).0 ∙ ap (λ u. u ∷ map f (drop (i + 1) xs)) (sym t_is) in
    sym (ap (λ (b : Bool). not b && are_apart (map f (drop (i + 1) xs))) there) ∙ (sym (ap are_apart dropped) ∙ inv)

-- it doesn't
pub once : {X : Type 0} (f : X → Text) (xs : List X) (i : ℕ) (d : X) (t : Text) (whole : Bool) → i < length xs → t ≡ f (slice_index_or xs i d)
    → has_text (map f (drop (i + 1) xs)) t ≡ false → are_apart (map f (drop i xs)) ≡ whole → are_apart (map f (drop (i + 1) xs)) ≡ whole
unfolding are_apart
once f xs i d t whole lt t_is there inv =
    let dropped : map f (drop i xs) ≡ t ∷ map f (drop (i + 1) xs) = (cut_at f xs i d lt).0 ∙ ap (λ u. u ∷ map f (drop (i + 1) xs)) (sym t_is) in
    sym (ap (λ (b : Bool). not b && are_apart (map f (drop (i + 1) xs))) there) ∙ (sym (ap are_apart dropped) ∙ inv)

-- none is left
pub all_apart : {X : Type 0} (f : X → Text) (xs : List X) (i : ℕ) (whole : Bool) → length xs ≤ i → are_apart (map f (drop i xs)) ≡ whole → true ≡ whole
unfolding are_apart
all_apart f xs i whole le inv = sym (ap (λ (ys : List _). are_apart (map f ys)) (drop_of_length-le xs le)) ∙ inv

-- a test of texts is one of what they are made of
pub all_mapped : {X : Type 0} (p : Text → Bool) (f : X → Text) (xs : List X) → list_all (λ x. p (f x)) xs ≡ list_all p (map f xs)
all_mapped p f [] = refl
all_mapped p f (x ∷ xs) = ap (λ (b : Bool). p (f x) && b) (all_mapped p f xs)
