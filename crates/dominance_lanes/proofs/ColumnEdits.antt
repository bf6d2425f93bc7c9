-- Columns after an edit.
use Rattle.std.proofs.Common.{◌≡◌, ℕ, ◌+◌, ◌<◌, ◌≤◌, List, [], ◌∷◌, ◌++◌, length, map, get_or, set, take, drop, replicate, zero, suc, Bool, true, false, cond, ap, ap₂, sym, ◌∙◌, refl, arith, Vec, Global, vec_len, vec_items, true≢false, Result, Ok, Err, is_ok, is_err, add-one, append_assoc, append-nil}
use Rattle.std.specs.List.{All}
use Rattle.std.proofs.lemmas.List.{set_at, get_or_at, get_or-map, map_more, map_push, map-set, drop_more, length-map, length-take-le, length_push, take_at, take_all, take_more, take_more_set, drop-set-lt, drop-drop, get_or-drop, replicate_more}
use Rattle.std.proofs.lemmas.List.Elements.{All-head, All-tail, All-cons, All-nil}
use Rattle.std.proofs.Math.Seq.{map-set_same}
use Rattle.dominance_lanes.specs.Columns.{unmarked, HasLength}
use Rattle.dominance_lanes.specs.Groups.{with_row}

-- ---- the columns as lists

pub seen_long : (cs : List (Vec ℕ Global)) (n : ℕ) → All (HasLength n) (map vec_items cs) → (k : ℕ) (d : Vec ℕ Global) → k < length cs → vec_len (get_or cs k d) ≡ n
seen_long cs n even k d h =
    let seen = get_or-map vec_items cs k d [] h in
    let long : length (get_or (map vec_items cs) k []) ≡ n = even k [] (omega (arith, length-map cs vec_items)) in
    let items : length (vec_items (get_or cs k d)) ≡ n = ap length (sym seen) ∙ long in
    omega (arith, (get_or cs k d).ok.0)

-- ---- every element changed alike, one after another; f is what is seen of an element

pub seen_at : {X Y : Type 0} (f : X → Y) (g : Y → Y) (xs : List X) (old : List Y) (i : ℕ) (x : X) (d : Y) → i < length xs → length xs ≡ length old → x ≡ get_or xs i x
    → map f xs ≡ map g (take i old) ++ drop i old → f x ≡ get_or old i d
seen_at f g xs old i x d h same is so =
    let front : length (map g (take i old)) ≡ i = length-map (take i old) g ∙ length-take-le i old (omega arith) in
    let rest = drop_more old i d (omega arith) in
    sym (get_or-map f xs i x d h ∙ ap f (sym is)) ∙ ap (λ l. get_or l i d) (so ∙ ap (λ l. map g (take i old) ++ l) rest) ∙ get_or_at (map g (take i old)) (get_or old i d) (drop (i + 1) old) d i front

pub changed_more : {X Y : Type 0} (f : X → Y) (g : Y → Y) (xs : List X) (old : List Y) (i : ℕ) (x y : X) (d : Y) → i < length xs → length xs ≡ length old → x ≡ get_or xs i x
    → f y ≡ g (f (get_or xs i x)) → map f xs ≡ map g (take i old) ++ drop i old → map f (set xs i y) ≡ map g (take (i + 1) old) ++ drop (i + 1) old
changed_more f g xs old i x y d h same is changed so =
    let front : length (map g (take i old)) ≡ i = length-map (take i old) g ∙ length-take-le i old (omega arith) in
    let rest = drop_more old i d (omega arith) in
    let value = changed ∙ ap (λ a. g (f a)) (sym is) ∙ ap g (seen_at f g xs old i x d h same is so) in
    map-set f xs i y
    ∙ ap₂ (λ l a. set l i a) (so ∙ ap (λ l. map g (take i old) ++ l) rest) value
    ∙ set_at (map g (take i old)) (get_or old i d) (drop (i + 1) old) (g (get_or old i d)) i front
    ∙ sym (ap (λ l. l ++ drop (i + 1) old) (map_more g old i d (omega arith)) ∙ append_assoc (map g (take i old)) (g (get_or old i d) ∷ []) (drop (i + 1) old))

-- ---- a number more in each column

with_row-nil : (cs : List (List ℕ)) → with_row cs [] ≡ cs
with_row-nil [] = refl
with_row-nil (c ∷ cs) = refl

pub length-with_row : (cs : List (List ℕ)) (v : List ℕ) → length (with_row cs v) ≡ length cs
length-with_row [] v = refl
length-with_row (c ∷ cs) [] = refl
length-with_row (c ∷ cs) (x ∷ v) = ap suc (length-with_row cs v)

with_row_suc : (j : ℕ) (cs : List (List ℕ)) (v : List ℕ) → j < length cs → j < length v → with_row cs (take (suc j) v) ≡ set (with_row cs (take j v)) j (get_or cs j [] ++ get_or v j 0 ∷ [])
with_row_suc j [] v h k = absurd (omega arith)
with_row_suc j (c ∷ cs) [] h k = absurd (omega arith)
with_row_suc zero (c ∷ cs) (x ∷ v) h k = ap (λ l. (c ++ x ∷ []) ∷ l) (with_row-nil cs)
with_row_suc (suc j) (c ∷ cs) (x ∷ v) h k = ap (λ l. (c ++ x ∷ []) ∷ l) (with_row_suc j cs v (omega arith) (omega arith))

with_row_at : (j : ℕ) (cs : List (List ℕ)) (v : List ℕ) → get_or (with_row cs (take j v)) j [] ≡ get_or cs j []
with_row_at j [] v = refl
with_row_at zero (c ∷ cs) v = refl
with_row_at (suc j) (c ∷ cs) [] = refl
with_row_at (suc j) (c ∷ cs) (x ∷ v) = with_row_at j cs v

pub row_more : {X : Type 0} (f : X → List ℕ) (xs : List X) (old : List (List ℕ)) (v : List ℕ) (j : ℕ) (x y : X) → j < length xs → length xs ≡ length old → j < length v → x ≡ get_or xs j x
    → f y ≡ f (get_or xs j x) ++ get_or v j 0 ∷ [] → map f xs ≡ with_row old (take j v) → map f (set xs j y) ≡ with_row old (take (j + 1) v)
row_more f xs old v j x y h same k is pushed so =
    let seen : f (get_or xs j x) ≡ get_or old j [] = sym (get_or-map f xs j x [] h) ∙ ap (λ l. get_or l j []) so ∙ with_row_at j old v in
    map-set f xs j y
    ∙ ap₂ (λ l a. set l j a) so (pushed ∙ ap (λ l. l ++ get_or v j 0 ∷ []) seen)
    ∙ sym (with_row_suc j old v (omega arith) k)
    ∙ ap (λ n. with_row old (take n v)) (sym (add-one j))

-- what a push to a column did to it
pub push_made : {T E X : Type 0} (r : Result T E) (added old now : List X) → now ≡ cond (is_ok r) added old → false ≡ is_err r → now ≡ added
push_made (Ok _) added old now is fine = is
push_made (Err _) added old now is fine = absurd (true≢false (sym fine))

pub push_failed : {T E X : Type 0} (r : Result T E) (added old now : List X) → now ≡ cond (is_ok r) added old → true ≡ is_err r → now ≡ old
push_failed (Ok _) added old now is failed = absurd (true≢false failed)
push_failed (Err _) added old now is failed = is

pub row_same : {X : Type 0} (f : X → List ℕ) (xs : List X) (j : ℕ) (x y : X) → x ≡ get_or xs j x → f y ≡ f (get_or xs j x) → map f (set xs j y) ≡ map f xs
row_same f xs j x y is same = map-set_same f xs j y x same

-- what was put is taken off again
pub cut : (n : ℕ) (cs : List (List ℕ)) (v : List ℕ) → All (HasLength n) cs → map (take n) (with_row cs v) ≡ cs
cut n [] v even = refl
cut n (c ∷ cs) [] even =
    ap₂ (λ a l. a ∷ l) (take_all n c (omega (arith, All-head (HasLength n) c cs even)))
    (ap (map (take n)) (sym (with_row-nil cs)) ∙ cut n cs [] (All-tail (HasLength n) c cs even))
cut n (c ∷ cs) (x ∷ v) even =
    ap₂ (λ a l. a ∷ l) (take_at c (x ∷ []) n (All-head (HasLength n) c cs even)) (cut n cs v (All-tail (HasLength n) c cs even))

pub even_with_row : (n : ℕ) (cs : List (List ℕ)) (v : List ℕ) → length cs ≡ length v → All (HasLength n) cs → All (HasLength (n + 1)) (with_row cs v)
even_with_row n [] v same even = All-nil (HasLength (n + 1))
even_with_row n (c ∷ cs) [] same even = absurd (omega arith)
even_with_row n (c ∷ cs) (x ∷ v) same even =
    All-cons (HasLength (n + 1)) (c ++ x ∷ []) (with_row cs v)
    (length_push c x ∙ ap (λ m. m + 1) (All-head (HasLength n) c cs even))
    (even_with_row n cs v (omega arith) (All-tail (HasLength n) c cs even))

-- ---- an empty column more

pub empty_more : {X : Type 0} (f : X → List ℕ) (xs : List X) (old : List (List ℕ)) (x : X) (m n : ℕ) → f x ≡ [] → m + 1 ≡ n → map f xs ≡ old ++ replicate m []
    → map f (xs ++ x ∷ []) ≡ old ++ replicate n []
empty_more f xs old x m n empty more so =
    map_push f xs x ∙ ap₂ (λ l a. l ++ a ∷ []) so empty ∙ append_assoc old (replicate m []) ([] ∷ [])
    ∙ ap (λ l. old ++ l) (replicate_more m [] ∙ ap (λ k. replicate k []) more)

-- ---- what isn't marked

unmarked_push : {X : Type 0} (ms : List Bool) (xs : List X) (m : Bool) (x : X) → length ms ≡ length xs → unmarked (ms ++ m ∷ []) (xs ++ x ∷ []) ≡ unmarked ms xs ++ cond m [] (x ∷ [])
unmarked_push [] [] true x same = refl
unmarked_push [] [] false x same = refl
unmarked_push [] (y ∷ ys) m x same = absurd (omega arith)
unmarked_push (m ∷ ms) [] b x same = absurd (omega arith)
unmarked_push (true ∷ ms) (y ∷ ys) b x same = unmarked_push ms ys b x (omega arith)
unmarked_push (false ∷ ms) (y ∷ ys) b x same = ap (λ l. y ∷ l) (unmarked_push ms ys b x (omega arith))

-- one place more: it stays where it isn't marked
pub unmarked_more : {X : Type 0} (ms : List Bool) (xs : List X) (k : ℕ) (m : Bool) (d : X) → length ms ≡ length xs → k < length ms → get_or ms k false ≡ m
    → unmarked (take (k + 1) ms) (take (k + 1) xs) ≡ unmarked (take k ms) (take k xs) ++ cond m [] (get_or xs k d ∷ [])
unmarked_more ms xs k m d same h is =
    ap₂ unmarked (take_more ms k false h ∙ ap (λ b. take k ms ++ b ∷ []) is) (take_more xs k d (omega arith))
    ∙ unmarked_push (take k ms) (take k xs) m (get_or xs k d) (length-take-le k ms (omega arith) ∙ sym (length-take-le k xs (omega arith)))

-- what a column is, once its first k numbers were looked at and those that are kept moved to its front
pub record IsKept (ms : List Bool) (old now : List ℕ) (k kept : ℕ) : Type 0 where
  pub front : take kept now ≡ unmarked (take k ms) (take k old)
  pub rest : drop k now ≡ drop k old

drop_next : (k : ℕ) (xs ys : List ℕ) → drop k xs ≡ drop k ys → drop (k + 1) xs ≡ drop (k + 1) ys
drop_next k xs ys e = sym (drop-drop 1 k xs) ∙ ap (drop 1) e ∙ drop-drop 1 k ys

pub passes_marked : (ms : List Bool) (old now : List ℕ) (k kept : ℕ) → length ms ≡ length old → k < length ms → get_or ms k false ≡ true → IsKept ms old now k kept → IsKept ms old now (k + 1) kept
passes_marked ms old now k kept same h is so = record {
  front = so.front ∙ sym (unmarked_more ms old k true 0 same h is ∙ append-nil _);
  rest = drop_next k now old so.rest;
}

pub moves_unmarked : (ms : List Bool) (old now : List ℕ) (k kept : ℕ) → length ms ≡ length old → length now ≡ length old → k < length ms → kept ≤ k → get_or ms k false ≡ false
    → IsKept ms old now k kept → IsKept ms old (set now kept (get_or now k 0)) (k + 1) (kept + 1)
moves_unmarked ms old now k kept same long h le is so =
    let first : (xs : List ℕ) → get_or (drop k xs) 0 0 ≡ get_or xs k 0 = λ xs. get_or-drop k xs 0 0 ∙ ap (λ n. get_or xs n 0) (omega arith) in
    let read : get_or now k 0 ≡ get_or old k 0 = sym (first now) ∙ ap (λ l. get_or l 0 0) so.rest ∙ first old in record {
      front = take_more_set now kept (get_or now k 0) (omega arith) ∙ ap₂ (λ l a. l ++ a ∷ []) so.front read ∙ sym (unmarked_more ms old k false 0 same h is);
      rest = drop-set-lt (k + 1) now kept (get_or now k 0) (omega arith) ∙ drop_next k now old so.rest;
    }

pub all_kept : (ms : List Bool) (old now : List ℕ) (k kept : ℕ) → length ms ≡ length old → k ≡ length ms → IsKept ms old now k kept → take kept now ≡ unmarked ms old
all_kept ms old now k kept same end so = so.front ∙ ap₂ unmarked (take_all k ms (omega arith)) (take_all k old (omega arith))
