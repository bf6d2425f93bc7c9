-- The vectors that columns keep.
use Rattle.std.proofs.Common.{◌≡◌, ℕ, ◌+◌, ◌<◌, ◌≤◌, ◌↔◌, List, [], ◌∷◌, ◌++◌, length, map, get_or, replicate, zero, suc, Bool, true, false, cond, not, ap, ap₂, sym, ◌∙◌, refl, subst, arith, true≢false, inl, inr, Option, Some, None, MatchOption, Vec, Global, vec_items, vec_len, ◌-◌, append-nil}
use Rattle.std.specs.List.{All, count_by, range_with_len}
use Rattle.std.proofs.lemmas.Bool.{cases_lt}
use Rattle.std.proofs.lemmas.List.{length-map, length-append, length-replicate, get_or-map, get_or_append_left, get_or_at}
use Rattle.std.proofs.lemmas.List.Sums.{sum_by-cons, count_by-le-length}
use Rattle.std.proofs.lemmas.List.Elements.{All-head, All-tail, All-append, All-replicate, All-map, All-from_get_or}
use Rattle.std.proofs.lemmas.List.FromFn.{length-map-range_with_len, get_or-map-range_with_len, map-range_with_len_more, fill_by_all, length-range_with_len}
use Rattle.spec_model.specs.Vectors.{IsAtMost}
use Rattle.dominance_lanes.specs.Columns.{Vectors, row_at, rows, vector_at, AreColumns, HasLength, unmarked, NoneBelow, IsFirstBelow}
use Rattle.dominance_lanes.specs.Groups.{with_row, is_below_at, is_above_at, NoneBetween, FirstBetween}
use Rattle.dominance_lanes.proofs.OneGroup.{at_most_of, of_at_most}
use Rattle.dominance_lanes.proofs.ColumnEdits.{length-with_row, even_with_row}

pub length-rows : (cs : List (List ℕ)) (n : ℕ) → length (rows cs n) ≡ n
length-rows cs n = length-map-range_with_len (row_at cs) 0 n

pub row_is : (cs : List (List ℕ)) (n k : ℕ) (d : List ℕ) → k < n → get_or (rows cs n) k d ≡ row_at cs k
row_is cs n k d h = get_or-map-range_with_len (row_at cs) 0 n k k d h (omega arith)

pub width_row_at : (cs : List (List ℕ)) (k : ℕ) → length (row_at cs k) ≡ length cs
width_row_at cs k = length-map cs (λ c. get_or c k 0)

pub widths : (cs : List (List ℕ)) (width n : ℕ) → AreColumns cs width n → All (HasLength width) (rows cs n)
widths cs width n are = All-from_get_or (HasLength width) (rows cs n) [] (λ k h.
    let lt : k < n = omega (arith, length-rows cs n) in
    ap length (row_is cs n k [] lt) ∙ width_row_at cs k ∙ are.whole (omega arith))

same_rows : (f g : ℕ → List ℕ) (n : ℕ) → ((k : ℕ) → k < n → f k ≡ g k) → map f (range_with_len 0 n) ≡ map g (range_with_len 0 n)
same_rows f g n same = fill_by_all g (map f (range_with_len 0 n)) n [] (length-map-range_with_len f 0 n)
    (λ k h. get_or-map-range_with_len f 0 n k k [] h (omega arith) ∙ same k h)

-- what a caller sees of columns
abbrev pub seen : ℕ → List (List ℕ) → ℕ → Vectors
seen width cs n = record { width = width; vectors = rows cs n }

-- ---- a vector more

row_kept : (n k : ℕ) (cs : List (List ℕ)) (v : List ℕ) → k < n → All (HasLength n) cs → row_at (with_row cs v) k ≡ row_at cs k
row_kept n k [] v h even = refl
row_kept n k (c ∷ cs) [] h even = refl
row_kept n k (c ∷ cs) (x ∷ v) h even =
    let long : length c ≡ n = All-head (HasLength n) c cs even in
    ap₂ (λ a l. a ∷ l) (get_or_append_left c (x ∷ []) 0 k (omega arith)) (row_kept n k cs v h (All-tail (HasLength n) c cs even))

row_put : (n : ℕ) (cs : List (List ℕ)) (v : List ℕ) → length cs ≡ length v → All (HasLength n) cs → row_at (with_row cs v) n ≡ v
row_put n [] [] same even = refl
row_put n [] (x ∷ v) same even = absurd (omega arith)
row_put n (c ∷ cs) [] same even = absurd (omega arith)
row_put n (c ∷ cs) (x ∷ v) same even =
    ap₂ (λ a l. a ∷ l) (get_or_at c x [] 0 n (All-head (HasLength n) c cs even)) (row_put n cs v (omega arith) (All-tail (HasLength n) c cs even))

pub rows-with_row : (cs : List (List ℕ)) (v : List ℕ) (n : ℕ) → length cs ≡ length v → All (HasLength n) cs → rows (with_row cs v) (n + 1) ≡ rows cs n ++ v ∷ []
rows-with_row cs v n same even =
    map-range_with_len_more (row_at (with_row cs v)) 0 n n (omega arith)
    ∙ ap₂ (λ l a. l ++ a ∷ []) (same_rows (row_at (with_row cs v)) (row_at cs) n (λ k h. row_kept n k cs v h even)) (row_put n cs v same even)

pub are_with_row : (cs : List (List ℕ)) (v : List ℕ) (width n : ℕ) → length cs ≡ width → length v ≡ width → All (HasLength n) cs → AreColumns (with_row cs v) width (n + 1)
are_with_row cs v width n whole same even =
    let long = length-with_row cs v in record {
      even = even_with_row n cs v (omega arith) even;
      narrow = omega arith;
      whole = λ some. long ∙ whole;
    }

-- ---- columns that weren't there before the first vector

pub record Completed (cs now : List (List ℕ)) (width n : ℕ) : Type 0 where
  pub are : AreColumns now width n
  pub same : rows now n ≡ rows cs n

pub completed : (n : ℕ) (cs now : List (List ℕ)) (width m : ℕ) → now ≡ cs ++ replicate m [] → length cs + m ≤ width → AreColumns cs width n → Completed cs now width n
completed zero cs now width m is short are =
    subst (λ l. Completed cs l width 0) (sym is) (record {
      are = record {
        even = All-append (HasLength 0) cs (replicate m []) are.even (All-replicate (HasLength 0) m [] refl);
        narrow = omega (arith, length-append cs (replicate m []), length-replicate {A = List ℕ} m []);
        whole = λ some. absurd (omega arith);
      };
      same = refl;
    })
completed (suc n) cs now width m is short are =
    let none : m ≡ 0 = omega (arith, are.whole (omega arith)) in
    let same : now ≡ cs = is ∙ ap (λ j. cs ++ replicate j []) none ∙ append-nil cs in
    subst (λ l. Completed cs l width (suc n)) (sym same) (record { are = are; same = refl })

pub completed_by : (old now : Vec (Vec ℕ Global) Global) (width n : ℕ) → map vec_items now.items ≡ map vec_items old.items ++ replicate (vec_len now - vec_len old) [] → vec_len now ≤ width
    → AreColumns (map vec_items old.items) width n → Completed (map vec_items old.items) (map vec_items now.items) width n
completed_by old now width n is bound are =
    completed n (map vec_items old.items) (map vec_items now.items) width (vec_len now - vec_len old) is
    (omega (arith, length-map old.items vec_items, old.ok.0, are.narrow)) are

-- ---- marked vectors taken out

unmarked-map : {X Y : Type 0} (f : X → Y) (ms : List Bool) (xs : List X) → unmarked ms (map f xs) ≡ map f (unmarked ms xs)
unmarked-map f [] xs = refl
unmarked-map f (m ∷ ms) [] = refl
unmarked-map f (true ∷ ms) (x ∷ xs) = unmarked-map f ms xs
unmarked-map f (false ∷ ms) (x ∷ xs) = ap (λ l. f x ∷ l) (unmarked-map f ms xs)

pub length-unmarked : {X : Type 0} (ms : List Bool) (xs : List X) → length ms ≡ length xs → length (unmarked ms xs) ≡ count_by not ms
length-unmarked [] [] same = refl
length-unmarked [] (x ∷ xs) same = absurd (omega arith)
length-unmarked (m ∷ ms) [] same = absurd (omega arith)
length-unmarked (true ∷ ms) (x ∷ xs) same = omega (arith, length-unmarked ms xs (omega arith), sum_by-cons (λ b. cond (not b) 1 0) true ms)
length-unmarked (false ∷ ms) (x ∷ xs) same = omega (arith, length-unmarked ms xs (omega arith), sum_by-cons (λ b. cond (not b) 1 0) false ms)

-- a list as its numbers by place
by_place : (n : ℕ) (c : List ℕ) → length c ≡ n → c ≡ map (λ k. get_or c k 0) (range_with_len 0 n)
by_place n c long = fill_by_all (λ k. get_or c k 0) c n 0 long (λ k h. refl)

-- number j of what isn't marked in a column is the column's number at place j of the places that aren't
kept_number : (ms : List Bool) (n j : ℕ) (c : List ℕ) → length c ≡ n → j < length (unmarked ms (range_with_len 0 n))
    → get_or (unmarked ms c) j 0 ≡ get_or c (get_or (unmarked ms (range_with_len 0 n)) j 0) 0
kept_number ms n j c long h =
    ap (λ l. get_or (unmarked ms l) j 0) (by_place n c long)
    ∙ ap (λ l. get_or l j 0) (unmarked-map (λ k. get_or c k 0) ms (range_with_len 0 n))
    ∙ get_or-map (λ k. get_or c k 0) (unmarked ms (range_with_len 0 n)) j 0 0 h

kept_row : (ms : List Bool) (n j : ℕ) (cs : List (List ℕ)) → All (HasLength n) cs → j < length (unmarked ms (range_with_len 0 n))
    → row_at (map (unmarked ms) cs) j ≡ row_at cs (get_or (unmarked ms (range_with_len 0 n)) j 0)
kept_row ms n j [] even h = refl
kept_row ms n j (c ∷ cs) even h =
    ap₂ (λ a l. a ∷ l) (kept_number ms n j c (All-head (HasLength n) c cs even) h) (kept_row ms n j cs (All-tail (HasLength n) c cs even) h)

pub rows-unmarked : (ms : List Bool) (n : ℕ) (cs : List (List ℕ)) → length ms ≡ n → All (HasLength n) cs → rows (map (unmarked ms) cs) (count_by not ms) ≡ unmarked ms (rows cs n)
rows-unmarked ms n cs long even =
    let places = unmarked ms (range_with_len 0 n) in
    let count : length places ≡ count_by not ms = length-unmarked ms (range_with_len 0 n) (long ∙ sym (length-range_with_len 0 n)) in
    sym (unmarked-map (row_at cs) ms (range_with_len 0 n)
    ∙ fill_by_all (row_at (map (unmarked ms) cs)) (map (row_at cs) places) (count_by not ms) [] (length-map places (row_at cs) ∙ count)
    (λ j h. get_or-map (row_at cs) places j 0 [] (omega arith) ∙ sym (kept_row ms n j cs even (omega arith))))

pub are_unmarked : (ms : List Bool) (cs : List (List ℕ)) (width n : ℕ) → length ms ≡ n → AreColumns cs width n → AreColumns (map (unmarked ms) cs) width (count_by not ms)
are_unmarked ms cs width n long are =
    let same = length-map cs (unmarked ms) in record {
      even = All-map (HasLength (count_by not ms)) (unmarked ms) cs (λ k d h. length-unmarked ms (get_or cs k d) (long ∙ sym (are.even k d h)));
      narrow = omega (arith, are.narrow);
      whole = λ some. same ∙ are.whole (some_of ms n long some);
    }
  where
    some_of : (ms : List Bool) (n : ℕ) → length ms ≡ n → 0 < count_by not ms → 0 < n
    some_of ms n long some = omega (arith, count_by-le-length not ms)

-- ---- what a scan of the places says of the vectors

vector_is : (cs : List (List ℕ)) (n k : ℕ) → k < n → row_at cs k ≡ vector_at (rows cs n) k
vector_is cs n k h = sym (row_is cs n k [] h)

at_most_at : (cs : List (List ℕ)) (v : List ℕ) (n k : ℕ) → length cs ≡ length v → k < n → is_below_at cs v k ≡ true → IsAtMost (vector_at (rows cs n) k) v
at_most_at cs v n k same h is = subst (λ u. IsAtMost u v) (vector_is cs n k h) (at_most_of (length v) (row_at cs k) v is (omega (arith, width_row_at cs k)))

not_at_most : (cs : List (List ℕ)) (v : List ℕ) (n k : ℕ) → k < n → is_below_at cs v k ≡ false → ¬ IsAtMost (vector_at (rows cs n) k) v
not_at_most cs v n k h is le =
    let so : is_below_at cs v k ≡ true = of_at_most (length v) (row_at cs k) v (subst (λ u. IsAtMost u v) (sym (vector_is cs n k h)) le) in
    absurd (true≢false (sym so ∙ is))

pub none_below : (cs : List (List ℕ)) (v : List ℕ) (n m : ℕ) → m ≤ n → NoneBetween (is_below_at cs v) 0 m → NoneBelow (rows cs n) v m
none_below cs v n m le none k h = not_at_most cs v n k (omega arith) (none k (omega arith) h)

pub first_found : (cs : List (List ℕ)) (v : List ℕ) (n k : ℕ) → length cs ≡ length v → k < n → is_below_at cs v k ≡ true → NoneBetween (is_below_at cs v) 0 k → IsFirstBelow (rows cs n) v k
first_found cs v n k same h is none = record {
  within = omega (arith, length-rows cs n);
  below = at_most_at cs v n k same h is;
  first = none_below cs v n k (omega arith) none;
}

-- two stretches of places of which none passes
pub none_in_both : (p : ℕ → Bool) (start mid end : ℕ) → NoneBetween p start mid → NoneBetween p mid end → NoneBetween p start end
none_in_both p start mid end first second k from to = elim (cases_lt k mid) [ inl lt ↦ first k from lt | inr ge ↦ second k ge to ]

pub found_or_none : (cs : List (List ℕ)) (v : List ℕ) (mid n : ℕ) (r : Option ℕ) → length cs ≡ length v → NoneBetween (is_below_at cs v) 0 mid → FirstBetween (is_below_at cs v) mid n r
    → MatchOption r (NoneBelow (rows cs n) v n) (IsFirstBelow (rows cs n) v)
found_or_none cs v mid n None same before rest = none_below cs v n n (omega arith) (none_in_both (is_below_at cs v) 0 mid n before rest)
found_or_none cs v mid n (Some k) same before rest = first_found cs v n k same rest.to rest.here (none_in_both (is_below_at cs v) 0 mid k before rest.before)

pub mark_is : (cs : List (List ℕ)) (v : List ℕ) (n k : ℕ) (b : Bool) → k < n → b ≡ is_above_at cs v k → (b ≡ true) ↔ IsAtMost v (vector_at (rows cs n) k)
mark_is cs v n k b h is = (
  (λ yes. subst (λ u. IsAtMost v u) (vector_is cs n k h) (at_most_of (length v) v (row_at cs k) (sym is ∙ yes) (omega arith))),
  (λ le. is ∙ of_at_most (length v) v (row_at cs k) (subst (λ u. IsAtMost v u) (sym (vector_is cs n k h)) le)),
)
