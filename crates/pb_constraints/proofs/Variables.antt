-- The variables of a normal form are those of the parts.
use Rattle.std.proofs.Common.{◌≡◌, ℕ, zero, suc, ◌+◌, ◌<◌, ◌≤◌, ℤ, pos, List, [], ◌∷◌, length, get_or, map, All, arith, refl, sym, ◌∙◌, inl, inr, ◌⊎◌}
use Rattle.std.proofs.lemmas.Int.{ints}
use Rattle.std.proofs.lemmas.Bool.{cases_lt}
use Rattle.pb_rules.specs.declared.Term.{Term}
use Rattle.pb_rules.specs.Linear.{Linear, VarsBelow}
use Rattle.pb_constraints.specs.declared.parts.Part.{Part}
use Rattle.pb_constraints.specs.SignedSums.{signed, signed_sum, as_part}
use Rattle.pb_constraints.specs.NormalForm.{IsNormalOf}
use Rattle.pb_constraints.proofs.Meaning.{other_share}
use Rattle.pb_constraints.proofs.Unique.{Ordered, tail, first_share, not_zero}

-- parts below n have no sum from n on
none_from : (n x : ℕ) (ps : List Part) → All (λ p. p.lit.var < n) ps → n ≤ x → signed_sum x ps ≡ pos 0
none_from n x [] a h = refl
none_from n x (p ∷ ps) a h =
    let here = a 0 p (omega arith) in
    omega (arith, ints, other_share x p (omega arith), none_from n x ps (λ k d l. a (suc k) d (omega arith)) h)

-- the sum of a term's variable is what the term gives
pub term_sum : (x : ℕ) (ts : List Term) (k : ℕ) (d : Term) → Ordered x ts → k < length ts → signed_sum (get_or ts k d).lit.var (map as_part ts) ≡ signed (as_part (get_or ts k d))
term_sum x [] k d o h = absurd (omega arith)
term_sum x (t ∷ ts) zero d o h = first_share x t ts o
term_sum x (t ∷ ts) (suc k) d o h =
    let u : Term = get_or ts k d in
    omega (arith, ints, other_share u.lit.var (as_part t) (let r = o.rising 0 (suc k) d (omega arith) (omega arith) in omega arith), term_sum (t.lit.var + 1) ts k d (tail x t ts o) (omega arith))

-- A law for callers: where the variables of the parts are below n, so are those of the normal form.
pub vars_below : (n : ℕ) (ps : List Part) (d : ℤ) (c : Linear) → All (λ p. p.lit.var < n) ps → IsNormalOf ps d c → VarsBelow n c.terms
vars_below n ps d c a f = λ k e h. within k e h (cases_lt (get_or c.terms k e).lit.var n)
  where
    ordered : Ordered 0 c.terms
    ordered = record { positive = f.positive; above = λ k t h. omega arith; rising = f.rising }

    within : (k : ℕ) (e : Term) → k < length c.terms → ((get_or c.terms k e).lit.var < n) ⊎ (n ≤ (get_or c.terms k e).lit.var) → (get_or c.terms k e).lit.var < n
    within k e h (inl l) = l
    within k e h (inr g) =
        let u : Term = get_or c.terms k e in
        absurd (not_zero u (f.positive k e h) (sym (term_sum 0 c.terms k e ordered h) ∙ f.same u.lit.var ∙ none_from n u.lit.var ps a g))
