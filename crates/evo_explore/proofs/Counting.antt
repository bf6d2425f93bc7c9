-- The counts while a round goes over the chosen places.
use Rattle.std.proofs.Common.{◌≡◌, ℕ, ◌+◌, ◌*◌, ◌^◌, ◌<◌, ◌≤◌, ◌≢◌, List, [], ◌∷◌, length, map, take, get_or, set, sym, ap, ◌∙◌, subst, arith, inl, inr, mul-le-mul_right, cond, false, eqb, get_or-set_same, get_or-set_other, ◌++◌}
use Rattle.std.proofs.lemmas.List.Sums.{sum_by_more, sum_by-take-le}
use Rattle.std.proofs.lemmas.Bool.Decides.{eqb_tells}
use Rattle.std.proofs.lemmas.Bool.{eq-eqb}
use Rattle.std.proofs.lemmas.List.{length-map, map_more}
use Rattle.std.proofs.lemmas.List.Elements.{All-get_or}
use Rattle.std.specs.List.{All}
use Rattle.evo_explore.specs.Counts.{times, RoseBy, RoseAtMost, HasRoom, picked}

times_grow : (k : ℕ) (ps : List ℕ) (i : ℕ) → times k (take i ps) ≤ times k ps
times_grow k ps i = sum_by-take-le (λ p. cond (eqb p k) 1 0) ps i

times_more : (k : ℕ) (ps : List ℕ) (i : ℕ) → i < length ps → times k (take (i + 1) ps) ≡ times k (take i ps) + cond (eqb (get_or ps i 0) k) 1 0
times_more k ps i h = sum_by_more (λ p. cond (eqb p k) 1 0) ps i 0 h

times_more_yes : (p : ℕ) (ps : List ℕ) (i : ℕ) → i < length ps → p ≡ get_or ps i 0 → times p (take (i + 1) ps) ≡ times p (take i ps) + 1
times_more_yes p ps i h e = times_more p ps i h ∙ ap (λ b. times p (take i ps) + cond b 1 0) (eq-eqb (get_or ps i 0) p (sym e))

times_more_no : (k : ℕ) (ps : List ℕ) (i : ℕ) → i < length ps → eqb (get_or ps i 0) k ≡ false → times k (take (i + 1) ps) ≡ times k (take i ps)
times_more_no k ps i h e = times_more k ps i h ∙ ap (λ b. times k (take i ps) + cond b 1 0) e ∙ omega arith

-- the place p is measured as the next one
pub rose_more : (ps old mid new : List ℕ) (i p : ℕ) → i < length ps → p ≡ get_or ps i 0 → p < length mid → new ≡ set mid p (get_or mid p 0 + 1)
    → RoseBy 1 (take i ps) old mid → RoseBy 1 (take (i + 1) ps) old new
rose_more ps old mid new i p h e room is r = subst (RoseBy 1 (take (i + 1) ps) old) (sym is) record {
  each = λ k. elim (eqb_tells (get_or ps i 0) k) [
    | inl y ↦ (let q : k ≡ p = sym (y.1) ∙ sym e in subst (λ n. get_or (set mid p (get_or mid p 0 + 1)) n 0 ≡ get_or old n 0 + 1 * times n (take (i + 1) ps)) (sym q)
        (let more = times_more_yes p ps i h e in
        let here = get_or-set_same mid p (get_or mid p 0 + 1) 0 in
        omega (arith, more, here room, r.each p)))
    | inr n ↦ (let other : k ≢ p = (λ q. n.1 (sym e ∙ sym q)) in
        omega (arith, times_more_no k ps i h n.0, get_or-set_other mid p k (get_or mid p 0 + 1) 0 other, r.each k))
  ];
}

pub rose_at_most : (ps old mid : List ℕ) (i : ℕ) → RoseBy 1 (take i ps) old mid → RoseAtMost 1 ps old mid
rose_at_most ps old mid i r = record { low = λ k. omega (arith, r.each k); high = λ k. omega (arith, r.each k, times_grow k ps i) }

-- there is room for one more
pub room_for : (ps old mid : List ℕ) (i p : ℕ) → i < length ps → p ≡ get_or ps i 0 → RoseBy 1 (take i ps) old mid → HasRoom 1 ps old → get_or mid p 0 < 2 ^ 63
room_for ps old mid i p h e r room =
    let here : get_or old p 0 + 1 * times p ps ≤ 2 ^ 63 = subst (λ n. get_or old n 0 + 1 * times n ps ≤ 2 ^ 63) (sym e) (room i h) in
    omega (arith, times_more_yes p ps i h e, r.each p, here, times_grow p ps (i + 1))

-- the answer of the place is the next number
pub picked_more : (values now ps out new : List ℕ) (i v : ℕ) → i < length ps → v ≡ get_or now (get_or ps i 0) 0 → now ≡ values → new ≡ out ++ v ∷ []
    → out ≡ picked values (take i ps) → new ≡ picked values (take (i + 1) ps)
picked_more values now ps out new i v h e same is so =
    let more = map_more (λ p. get_or values p 0) ps i 0 h in
    let here : v ≡ get_or values (get_or ps i 0) 0 = e ∙ ap (λ xs. get_or xs (get_or ps i 0) 0) same in
    is ∙ ap (λ xs. xs ++ v ∷ []) so ∙ ap (λ n. picked values (take i ps) ++ n ∷ []) here ∙ sym more

pub place_below : {X : Type 0} (f : X → ℕ) (xs : List X) (ps : List ℕ) (i : ℕ) {m : ℕ} → i < length ps → All (λ p. p < m) ps → m ≡ length xs → get_or ps i 0 < length (map f xs)
place_below f xs ps i {m} h all e = let below = All-get_or (λ p. p < m) ps i 0 h all in omega (arith, below, length-map xs f)

pub round_more : (n : ℕ) (ps old mid new : List ℕ) → RoseBy n ps old mid → RoseBy 1 ps mid new → RoseBy (n + 1) ps old new
round_more n ps old mid new r s = record { each = λ k. omega (arith, r.each k, s.each k) }

-- a round that was begun, of m rounds
pub round_at_most : (n m : ℕ) (ps old mid new : List ℕ) → n < m → RoseBy n ps old mid → RoseAtMost 1 ps mid new → RoseAtMost m ps old new
round_at_most n m ps old mid new h r s = record {
  low = λ k. omega (arith, r.each k, s.low k);
  high = λ k. let more : (n + 1) * times k ps ≤ m * times k ps = mul-le-mul_right (times k ps) (omega arith) in omega (arith, r.each k, s.high k, more);
}

-- there is room for one round more
pub round_room : (n m : ℕ) (ps old mid : List ℕ) → n < m → RoseBy n ps old mid → HasRoom m ps old → HasRoom 1 ps mid
round_room n m ps old mid h r room i l =
    let p = get_or ps i 0 in
    let more : (n + 1) * times p ps ≤ m * times p ps = mul-le-mul_right (times p ps) (omega arith) in
    omega (arith, r.each p, room i l, more)

pub all_rounds : (m : ℕ) (ps old new : List ℕ) → RoseBy m ps old new → RoseAtMost m ps old new
all_rounds m ps old new r = record { low = λ k. omega (arith, r.each k); high = λ k. omega (arith, r.each k) }
