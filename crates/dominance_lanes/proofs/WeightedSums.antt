-- Sums of weights, by groups of lanes and by what is left.
use Rattle.std.proofs.Common.{◌≡◌, ◌≢◌, ℕ, ◌+◌, ◌*◌, ◌<◌, ◌≤◌, ◌^◌, List, [], ◌∷◌, ◌++◌, length, map, get_or, drop, sum, Fits, w64, refl, ap, ap₂, sym, ◌∙◌, subst, arith, mul-le-mul_right, zero-add}
use Rattle.std.proofs.lemmas.List.Sums.{sum_by-cons, sum_by-take-drop}
use Rattle.std.proofs.lemmas.List.Elements.{All-take, All-drop}
use Rattle.std.proofs.lemmas.Simd.{chunk-fits}
use lib.Lanes.{chunk, sum_l, products, Each1, Each2, Steps, fold_l}
use Rattle.std.specs.List.{All}
use Rattle.std.proofs.lemmas.Simd.{chunk-drop, fold-sum, sum_fits, length-chunk}
use Rattle.std.proofs.lemmas.List.{drop_more}
use Rattle.std.proofs.lemmas.List.Elements.{All-head, All-tail}
use Rattle.dominance_lanes.specs.Weighted.{weighted}

bit_times : (b w : ℕ) → b ≤ 1 → b * w ≤ w
bit_times b w h = let le : b * w ≤ 1 * w = mul-le-mul_right w h in omega (arith, le)

bit_fits : (b w : ℕ) → b ≤ 1 → Fits w64 w → Fits w64 (b * w)
bit_fits b w h f = record { fits = omega (arith, bit_times b w h, f.fits) }

pub products_fit : (bs ws : List ℕ) → All (λ b. b ≤ 1) bs → Each1 (Fits w64) ws → Each2 (λ a b. Fits w64 (a * b)) (map (λ x. x) bs) ws
products_fit [] ws all fit = tt
products_fit (b ∷ bs) [] all fit = tt
products_fit (b ∷ bs) (w ∷ ws) all fit = (bit_fits b w (All-head (λ b. b ≤ 1) b bs all) fit.0, products_fit bs ws (All-tail (λ b. b ≤ 1) b bs all) fit.1)

pub products_sum : (bs ws : List ℕ) → sum_l (products (map (λ x. x) bs) ws) ≡ weighted bs ws
products_sum [] ws = refl
products_sum (b ∷ bs) [] = refl
products_sum (b ∷ bs) (w ∷ ws) = ap (λ n. b * w + n) (products_sum bs ws)

pub weighted-append : (xs bs vs ws : List ℕ) → length xs ≡ length vs → weighted (xs ++ bs) (vs ++ ws) ≡ weighted xs vs + weighted bs ws
weighted-append [] bs [] ws e = omega arith
weighted-append [] bs (v ∷ vs) ws e = absurd (omega arith)
weighted-append (x ∷ xs) bs [] ws e = absurd (omega arith)
weighted-append (x ∷ xs) bs (v ∷ vs) ws e = omega (arith, weighted-append xs bs vs ws (omega arith))

pub weighted_bound : (bs ws : List ℕ) → All (λ b. b ≤ 1) bs → weighted bs ws ≤ sum ws
weighted_bound [] ws all = omega arith
weighted_bound (b ∷ bs) [] all = omega arith
weighted_bound (b ∷ bs) (w ∷ ws) all = omega (arith, sum_by-cons (λ x. x) w ws, bit_times b w (All-head (λ b. b ≤ 1) b bs all), weighted_bound bs ws (All-tail (λ b. b ≤ 1) b bs all))

pub group_more : (n i : ℕ) (bs ws : List ℕ) → length bs ≡ length ws → i + n ≤ length bs → weighted (drop i bs) (drop i ws) ≡ weighted (chunk i n bs) (chunk i n ws)
    + weighted (drop (i + n) bs) (drop (i + n) ws)
group_more n i bs ws same room =
    ap₂ weighted (chunk-drop i n bs) (chunk-drop i n ws) ∙ weighted-append (chunk i n bs) (drop (i + n) bs) (chunk i n ws) (drop (i + n) ws)
    (omega (arith, length-chunk i n bs room, length-chunk i n ws))

pub one_more : (i : ℕ) (bs ws : List ℕ) → i < length bs → i < length ws → weighted (drop i bs) (drop i ws) ≡ get_or bs i 0 * get_or ws i 0 + weighted (drop (i + 1) bs) (drop (i + 1) ws)
one_more i bs ws h k = ap₂ weighted (drop_more bs i 0 h) (drop_more ws i 0 k)

-- the sum of a part is within the whole
pub part_bound : (i n : ℕ) (bs ws : List ℕ) → All (λ b. b ≤ 1) bs → weighted (chunk i n bs) (chunk i n ws) ≤ sum ws
part_bound i n bs ws all =
    omega (
      arith,
      weighted_bound (chunk i n bs) (chunk i n ws) (All-take (λ b. b ≤ 1) n (drop i bs) (All-drop (λ b. b ≤ 1) i bs all)),
      sum_by-take-drop (λ x. x) (drop i ws) n,
      sum_by-take-drop (λ x. x) ws i,
    )

pub group_fits : (i : ℕ) (bs ws : List ℕ) → All (λ b. b ≤ 1) bs → ((k : ℕ) → Fits w64 (get_or ws k 0)) → Each2 (λ a b. Fits w64 (a * b)) (map (λ x. x) (chunk i 8 bs)) (chunk i 8 ws)
group_fits i bs ws all fit = products_fit (chunk i 8 bs) (chunk i 8 ws) (All-take (λ b. b ≤ 1) 8 (drop i bs) (All-drop (λ b. b ≤ 1) i bs all)) (chunk-fits w64 i 8 ws fit)

pub group_sum_fits : (i : ℕ) (bs ws : List ℕ) → All (λ b. b ≤ 1) bs → sum ws < 2 ^ 63 → Steps (λ s x. Fits w64 (s + x)) (λ s x. s + x) 0 (products (map (λ x. x) (chunk i 8 bs)) (chunk i 8 ws))
group_sum_fits i bs ws all small = sum_fits w64 0 _ (let is = products_sum (chunk i 8 bs) (chunk i 8 ws) in omega (arith, is, part_bound i 8 bs ws all))

pub group_sum_is : (i : ℕ) (bs ws : List ℕ) → fold_l (λ s x. s + x) 0 (products (map (λ x. x) (chunk i 8 bs)) (chunk i 8 ws)) ≡ weighted (chunk i 8 bs) (chunk i 8 ws)
group_sum_is i bs ws = fold-sum 0 (products (map (λ x. x) (chunk i 8 bs)) (chunk i 8 ws)) ∙ zero-add _ ∙ products_sum (chunk i 8 bs) (chunk i 8 ws)

-- a total with what is left fits
pub left_fits : (total part rest : ℕ) (bs ws : List ℕ) → All (λ b. b ≤ 1) bs → sum ws < 2 ^ 63 → total + (part + rest) ≡ weighted bs ws → Fits w64 (total + part)
left_fits total part rest bs ws all small is = record { fits = omega (arith, weighted_bound bs ws all) }

pub group_step : (total part i : ℕ) (bs ws : List ℕ) → length bs ≡ length ws → i + 8 ≤ length bs → part ≡ weighted (chunk i 8 bs) (chunk i 8 ws)
    → total + weighted (drop i bs) (drop i ws) ≡ weighted bs ws → total + (part + weighted (drop (i + 8) bs) (drop (i + 8) ws)) ≡ weighted bs ws
group_step total part i bs ws same room is inv = omega (arith, group_more 8 i bs ws same room, is, inv)

pub group_next : (total part g : ℕ) (bs ws : List ℕ) → length bs ≡ length ws → g * 8 + 8 ≤ length bs → part ≡ weighted (chunk (g * 8) 8 bs) (chunk (g * 8) 8 ws)
    → total + weighted (drop (g * 8) bs) (drop (g * 8) ws) ≡ weighted bs ws → (total + part) + weighted (drop ((g + 1) * 8) bs) (drop ((g + 1) * 8) ws) ≡ weighted bs ws
group_next total part g bs ws same room is inv =
    let next : g * 8 + 8 ≡ (g + 1) * 8 = omega arith in
    subst (λ n. (total + part) + weighted (drop n bs) (drop n ws) ≡ weighted bs ws) next (omega (arith, group_step total part (g * 8) bs ws same room is inv))

pub one_step : (total part i : ℕ) (bs ws : List ℕ) → length bs ≡ length ws → i < length bs → part ≡ get_or bs i 0 * get_or ws i 0 → total + weighted (drop i bs) (drop i ws) ≡ weighted bs ws
    → total + (part + weighted (drop (i + 1) bs) (drop (i + 1) ws)) ≡ weighted bs ws
one_step total part i bs ws same h is inv = omega (arith, one_more i bs ws h (omega arith), is, inv)

-- a bit that is 1, and one that isn't
pub when_one : (b w : ℕ) → b ≡ 1 → w ≡ b * w
when_one b w e = subst (λ n. w ≡ n * w) (sym e) (omega arith)

pub when_zero : (b w : ℕ) → b ≤ 1 → b ≢ 1 → 0 ≡ b * w
when_zero b w h n = let e : 0 ≡ b = omega arith in subst (λ n. 0 ≡ n * w) e (omega arith)
