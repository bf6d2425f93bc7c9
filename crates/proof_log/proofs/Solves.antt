-- A log stays honest, solve by solve.
use Rattle.std.proofs.Common.{◌≡◌, ◌≢◌, ℕ, zero, suc, ◌+◌, ◌-◌, ◌<◌, ◌≤◌, Bool, true, false, Some, List, [], ◌∷◌, ◌++◌, length, get_or, take, refl, sym, ap, ◌∙◌, subst, arith, ◌⊎◌, inl, inr}
use Rattle.std.specs.Prelude.{All}
use Rattle.std.specs.List.{list_all}
use Rattle.std.proofs.lemmas.Bool.{cases_lt}
use Rattle.std.proofs.lemmas.List.{append_assoc, append_cancel_left, append-nil, length_push, length-append, length-take-le, get_or_push, get_or_append_left, get_or-append-add, take-append-le, take_all}
use Rattle.std.proofs.lemmas.List.Elements.{All-take}
use Rattle.pb_rules.specs.Linear.{Linear}
use Rattle.pb_rules.specs.Operations.{small_number}
use Rattle.pb_rules.specs.Clauses.{IsClause}
use Rattle.pb_rules.specs.Honest.{AreHonest, IsUnabsorbed}
use Rattle.pb_rules.specs.Frames.{Line, derived, cover, Frame, Given, base_of, with_block, given_by, given_from, blocks_by, derived_from, is_derived}
use Rattle.pb_rules.proofs.Given.{given-append, given_front, given-cover, derived-append}
use Rattle.proof_log.specs.HonestLog.{AreHonestLines, EndsASolve, AreHonestSolves}

abbrev AllDerived : List Line → Type 0
AllDerived ls = All (λ l. is_derived l ≡ true) ls

-- ---- lists cut in two ways

take_past : (xs ys : List Line) (r : ℕ) → take (length xs + r) (xs ++ ys) ≡ xs ++ take r ys
take_past [] ys r = let e : 0 + r ≡ r = omega arith in ap (λ (n : ℕ). take n ys) e
take_past (x ∷ xs) ys r =
    let e : length (x ∷ xs) + r ≡ suc (length xs + r) = omega arith in
    ap (λ (n : ℕ). take n (x ∷ (xs ++ ys))) e ∙ ap (λ (zs : List Line). x ∷ zs) (take_past xs ys r)

-- the first of two lists, where the other cut ends later
front_of : (a b c d : List Line) → a ++ b ≡ c ++ d → length c ≤ length a → a ≡ c ++ take (length a - length c) d
front_of a b c d e l =
    let n : length c + (length a - length c) ≡ length a = omega (arith, l) in
    sym (take-append-le (length a) a b (omega arith) ∙ take_all (length a) a (omega arith)) ∙ (ap (take (length a)) e ∙ (ap (λ (k : ℕ). take k (c ++ d)) (sym n) ∙ take_past c d (length a - length c)))

read_past : (a b : List Line) (i : ℕ) (d : Line) → length a ≤ i → get_or (a ++ b) i d ≡ get_or b (i - length a) d
read_past a b i d l =
    let e : length a + (i - length a) ≡ i = omega (arith, l) in
    ap (λ (k : ℕ). get_or (a ++ b) k d) (sym e) ∙ get_or-append-add a b (i - length a) d

-- ---- a part of honest lines

honest_front : (base cs ds : List Linear) → AreHonest base (cs ++ ds) → AreHonest base cs
honest_front base cs ds h = record {
  clauses_each = λ k d l. subst IsClause (get_or_append_left cs ds d k l) (h.clauses_each k d (omega (arith, l, length-append cs ds)));
  unabsorbed = λ k d l. (let u = h.unabsorbed k d (omega (arith, l, length-append cs ds)) in
      subst (λ (x : Linear). IsUnabsorbed (base ++ take k cs) x) (get_or_append_left cs ds d k l)
      (subst (λ (xs : List Linear). IsUnabsorbed (base ++ xs) (get_or (cs ++ ds) k d)) (take-append-le k cs ds (omega (arith, l))) u));
}

pub lines_front : (f : Frame) (g : Given) (base : List Linear) (ls ms : List Line) → AreHonestLines f g base (ls ++ ms) → AreHonestLines f g base ls
lines_front f g base ls ms h =
    let front = given_front f g h.after ls ms h.legal in
    record {
      derived_each = λ k d l. subst (λ (x : Line). is_derived x ≡ true) (get_or_append_left ls ms d k l) (h.derived_each k d (omega (arith, l, length-append ls ms)));
      after = front.0;
      legal = front.1;
      honest = honest_front base (derived_from f g ls) (derived_from f front.0 ms) (subst (AreHonest base) (derived-append f g front.0 ls ms front.1) h.honest);
    }

pub none_honest : (f : Frame) (g : Given) (base : List Linear) (ls : List Line) → length ls ≤ 0 → AreHonestLines f g base ls
none_honest f g base [] l =
    record {
      derived_each = λ k d q. absurd (omega (arith, q));
      after = g;
      legal = refl;
      honest = record {
        clauses_each = λ k d q. absurd (omega (arith, q));
        unabsorbed =
            λ k d q. absurd (omega (arith, q));
      };
    }
none_honest f g base (x ∷ ls) l = absurd (omega (arith, l))

no_cover : (v : List ℕ) → is_derived (cover v) ≡ true → ⊥
no_cover v e = absurd (cc)

-- ---- a cover more

-- a log stays honest with one cover more,
pub honest_cover : (f : Frame) (ls : List Line) (v : List ℕ) → list_all small_number v ≡ true → AreHonestSolves f ls → AreHonestSolves f (ls ++ cover v ∷ [])
honest_cover f ls v small h = record { after = with_block f h.after v; legal = given-cover f (base_of f) h.after ls v h.legal small; solves = parts }
  where
    parts : (early solve late : List Line) (g : Given) → ls ++ cover v ∷ [] ≡ early ++ solve ++ late → EndsASolve early → AllDerived solve → given_by f early ≡ Some g
        → AreHonestLines f g (f.base ++ blocks_by f early) solve
    parts early solve late g whole ends each legal =
        let e = whole ∙ append_assoc early solve late in
        let joined : length (early ++ solve) ≡ length early + length solve = length-append early solve in
        elim (cases_lt (length ls) (length early + length solve)) [
          | inr within ↦
              let cut = front_of ls (cover v ∷ []) (early ++ solve) late whole (omega (arith, within, joined)) in
              h.solves early solve (take (length ls - length (early ++ solve)) late) g cut ends each legal
          | inl past ↦ elim (cases_lt (length ls) (length early)) [
            | inl before ↦
                let long : length (ls ++ cover v ∷ []) ≡ length ls + 1 = length_push ls (cover v) in
                let sides : length (early ++ (solve ++ late)) ≡ length early + length (solve ++ late) = length-append early (solve ++ late) in
                let both : length (solve ++ late) ≡ length solve + length late = length-append solve late in
                none_honest f g (f.base ++ blocks_by f early) solve (omega (arith, before, long, sides, both, ap length e))
            | inr inside ↦
                let at : length ls - length early < length solve = omega (arith, past, inside) in
                let read : get_or solve (length ls - length early) (cover v) ≡ cover v = sym (get_or_append_left solve late (cover v) (length ls - length early) at)
                ∙ (sym (read_past early (solve ++ late) (length ls) (cover v) inside) ∙ (ap (λ (ks : List Line). get_or ks (length ls) (cover v)) (sym e)
                ∙ get_or_push ls (cover v) (cover v) (length ls) refl)) in
                absurd (no_cover v (subst (λ (x : Line). is_derived x ≡ true) read (each (length ls - length early) (cover v) at)))
          ]
        ]

-- ---- a solve more

-- the last line of what ends a solve
last_cover : (ls : List Line) → EndsASolve ls → 0 < length ls → (v : List ℕ) × ((d : Line) → get_or ls (length ls - 1) d ≡ cover v)
last_cover ls (inl e) some = absurd (let q = ap length e in omega (arith, q, some))
last_cover ls (inr x) some =
    let early : List Line = x.0 in
    let v : List ℕ = x.1 in
    let len : length ls ≡ length early + 1 = ap length x.2 ∙ length_push early (cover v) in
    let at : length ls - 1 ≡ length early = omega (arith, len) in
    (v, λ d. ap (λ (n : ℕ). get_or ls n d) at ∙ (ap (λ (ks : List Line). get_or ks (length early) d) x.2 ∙ get_or_push early (cover v) d (length early) refl))

-- and with one solve more
pub honest_solve : (f : Frame) (ls new : List Line) (b : Given) → AreHonestSolves f ls → EndsASolve ls → given_by f ls ≡ Some b → AreHonestLines f b (f.base ++ blocks_by f ls) new
    → AreHonestSolves f (ls ++ new)
honest_solve f ls new b h ends_ls legal_ls lines = record { after = lines.after; legal = given-append f (base_of f) b ls new legal_ls ∙ lines.legal; solves = parts }
  where
    parts : (early solve late : List Line) (g : Given) → ls ++ new ≡ early ++ solve ++ late → EndsASolve early → AllDerived solve → given_by f early ≡ Some g
        → AreHonestLines f g (f.base ++ blocks_by f early) solve
    parts early solve late g whole ends each legal =
        let e = whole ∙ append_assoc early solve late in
        let joined : length (early ++ solve) ≡ length early + length solve = length-append early solve in
        elim (cases_lt (length ls) (length early + length solve)) [
          | inr within ↦
              let cut = front_of ls new (early ++ solve) late whole (omega (arith, within, joined)) in
              h.solves early solve (take (length ls - length (early ++ solve)) late) g cut ends each legal
          | inl past ↦ elim (cases_lt (length early) (length ls)) [
            | inl inside ↦
                let k : ℕ = length ls - 1 in
                let x = last_cover ls ends_ls (omega (arith, inside)) in
                let at : k - length early < length solve = omega (arith, past, inside) in
                let read : get_or solve (k - length early) (cover x.0) ≡ cover x.0 = sym (get_or_append_left solve late (cover x.0) (k - length early) at)
                ∙ (sym (read_past early (solve ++ late) k (cover x.0) (omega (arith, inside))) ∙ (ap (λ (ks : List Line). get_or ks k (cover x.0)) (sym e)
                ∙ (get_or_append_left ls new (cover x.0) k (omega (arith, inside)) ∙ x.1 (cover x.0)))) in
                absurd (no_cover x.0 (subst (λ (y : Line). is_derived y ≡ true) read (each (k - length early) (cover x.0) at)))
            | inr after ↦ elim (cases_lt (length ls) (length early)) [
              | inl more ↦
                  let k : ℕ = length early - 1 in
                  let x = last_cover early ends (omega (arith, more)) in
                  let cut = front_of early (solve ++ late) ls new (sym e) after in
                  let long : length (ls ++ new) ≡ length ls + length new = length-append ls new in
                  let sides : length (early ++ (solve ++ late)) ≡ length early + length (solve ++ late) = length-append early (solve ++ late) in
                  let at : k - length ls < length new = omega (arith, more, long, sides, ap length e) in
                  let read : get_or new (k - length ls) (cover x.0) ≡ cover x.0 = sym (read_past ls new k (cover x.0) (omega (arith, more)))
                  ∙ (ap (λ (ks : List Line). get_or ks k (cover x.0)) e ∙ (get_or_append_left early (solve ++ late) (cover x.0) k (omega (arith, more)) ∙ x.1 (cover x.0))) in
                  absurd (no_cover x.0 (subst (λ (y : Line). is_derived y ≡ true) read (lines.derived_each (k - length ls) (cover x.0) at)))
              | inr no_more ↦
                  let cut = front_of early (solve ++ late) ls new (sym e) after in
                  let none : length early - length ls ≡ 0 = omega (arith, no_more) in
                  let same : early ≡ ls = cut ∙ (ap (λ (n : ℕ). ls ++ take n new) none ∙ append-nil ls) in
                  let rest : new ≡ solve ++ late = append_cancel_left ls new (solve ++ late) (e ∙ ap (λ (ks : List Line). ks ++ (solve ++ late)) same) in
                  let here : b ≡ g = one_given b g (sym legal_ls ∙ (ap (given_by f) (sym same) ∙ legal)) in
                  subst (λ (ks : List Line). AreHonestLines f g (f.base ++ blocks_by f ks) solve) (sym same)
                  (subst (λ (k : Given). AreHonestLines f k (f.base ++ blocks_by f ls) solve) here (lines_front f b (f.base ++ blocks_by f ls) solve late
                  (subst (AreHonestLines f b (f.base ++ blocks_by f ls)) rest lines)))
            ]
          ]
        ]
      where
        one_given : (x y : Given) → Some x ≡ Some y → x ≡ y
        one_given x y q = cc

-- ---- no line

-- and an empty one is
pub begins_honest : (f : Frame) → AreHonestSolves f []
begins_honest f = record { after = base_of f; legal = refl; solves = λ early solve late g e ends each legal. parts early solve late g e }
  where
    parts : (early solve late : List Line) (g : Given) → [] ≡ early ++ solve ++ late → AreHonestLines f g (f.base ++ blocks_by f early) solve
    parts early solve late g e = none_honest f g (f.base ++ blocks_by f early) solve (omega (arith, ap length e, length-append (early ++ solve) late, length-append early solve))
