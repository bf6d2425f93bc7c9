-- What a constraint owes where its terms stand by rising variable.
use Rattle.std.proofs.Common.{◌≡◌, ℕ, zero, suc, ◌+◌, ◌<◌, ◌≤◌, ◌^◌, Bool, true, false, cond, List, [], ◌∷◌, ◌++◌, length, refl, sym, ap, ◌∙◌, subst, arith}
use Rattle.std.specs.Prelude.{map, All, nat_le, nat_lt}
use Rattle.std.specs.List.{take_while, insert}
use Rattle.std.proofs.lemmas.List.Sums.{take_while-cons}
use Rattle.std.proofs.lemmas.Bool.{leb-true, leb-false, ltb-true, ltb-false}
use Rattle.pb_rules.specs.declared.Term.{Term}
use Rattle.pb_rules.specs.Linear.{Linear, IsNormal, VarsBelow}
use Rattle.pb_constraints.specs.Sets.{SetValue, IsBelow}
use Rattle.spec_model.specs.Spec.{SpecValue, message_at, all_variables}
use Rattle.spec_model.specs.WellFormed.{IsWellFormed}
use Rattle.spec_model.proofs.InRange.{limit_in}
use Rattle.encode_model.specs.Encoding.{put, at_least}
use Rattle.encode_model.specs.Rising.{TermsWithin, IsRising}
use Rattle.encode_model.proofs.Rising.{at_least_within, normal_of_rising, below_within}
use Rattle.route_encode.specs.Adding.{Adds, goes_first}

within_small : (a b : ℕ) (ts : List Term) → TermsWithin (2 ^ 40) a b ts → b ≤ 2 ^ 20 → All (λ t. t.lit.var < 2 ^ 62) ts
within_small a b ts h few k d l = omega (arith, few, below_within (2 ^ 40) a b ts h k d l)

pub small_terms : (n : ℕ) (ts : List Term) → IsRising n ts → n ≤ 2 ^ 20 → All (λ t. t.lit.var < 2 ^ 62) ts
small_terms n ts h few = within_small 0 n ts h.rises few

pub normal_terms : (n m : ℕ) (ts us : List Term) → us ≡ ts → IsRising n ts → n ≤ 2 ^ 20 → m < 2 ^ 63 → IsNormal us m
normal_terms n m ts us e h few small = subst (λ (ws : List Term). IsNormal ws m) (sym e) (normal_of_rising n m ts h few small)

pub below_terms : (n m : ℕ) (ts us : List Term) (c : Linear) → c ≡ record { terms = us; degree = m } → us ≡ ts → IsRising n ts → IsBelow n c
below_terms n m ts us c ec e h = subst (λ (d : Linear). IsBelow n d) (sym ec) (subst (λ (ws : List Term). VarsBelow n ws) (sym e) (below_within (2 ^ 40) 0 n ts h.rises))

pub added : (a b : SetValue) (n m : ℕ) (ts us : List Term) (c : Linear) → b ≡ record a { constraints = a.constraints ++ c ∷ [] } → c ≡ record { terms = us; degree = m } → us ≡ ts → IsRising n ts
    → Adds a b (at_least m ts ∷ [])
added a b n m ts us c eb ec e h =
    let same : c ≡ at_least m ts = ec ∙ (ap (λ (ws : List Term). make ws) e ∙ sym (at_least_within (2 ^ 40) 0 n m ts h.rises)) in
    record {
      constraints = ap (λ (x : SetValue). x.constraints) eb ∙ ap (λ (d : Linear). a.constraints ++ d ∷ []) same;
      variables = ap (λ (x : SetValue). x.variables) eb;
    }
  where
    make : List Term → Linear
    make ws = record { terms = ws; degree = m }

-- a term is put in front of the first one of a greater variable
put_at : (t : Term) (ts : List Term) → insert ts (length (take_while (goes_first t) ts)) t ≡ put t ts
put_at t [] = refl
put_at t (u ∷ us) = ap (λ (ws : List Term). insert (u ∷ us) (length ws) t) (take_while-cons (goes_first t) u us) ∙ at (nat_le u.lit.var t.lit.var) (nat_lt t.lit.var u.lit.var) refl refl (put_at t us)
  where
    at : (b c : Bool) → nat_le u.lit.var t.lit.var ≡ b → nat_lt t.lit.var u.lit.var ≡ c → insert us (length (take_while (goes_first t) us)) t ≡ put t us
        → insert (u ∷ us) (length (cond b (u ∷ take_while (goes_first t) us) [])) t ≡ cond c (t ∷ (u ∷ us)) (u ∷ put t us)
    at true false eb ec ih = ap (λ (ws : List Term). u ∷ ws) ih
    at false true eb ec ih = refl
    at true true eb ec ih = absurd (omega (arith, leb-true u.lit.var t.lit.var eb, ltb-true t.lit.var u.lit.var ec))
    at false false eb ec ih = absurd (omega (arith, leb-false u.lit.var t.lit.var eb, ltb-false t.lit.var u.lit.var ec))

pub put_is : (t : Term) (ts us : List Term) (n : ℕ) → us ≡ insert ts n t → n ≡ length (take_while (goes_first t) ts) → us ≡ put t ts
put_is t ts us n h e = h ∙ (ap (λ (k : ℕ). insert ts k t) e ∙ put_at t ts)

-- terms in order, by an equation
pub rising_of : (n : ℕ) (ls : List Term) (s : SpecValue) (ks : List Term) → IsRising (all_variables s) ks → n ≡ all_variables s → ls ≡ ks → IsRising n ls
rising_of n ls s ks h en el = subst (λ (m : ℕ). IsRising m ls) (sym en) (subst (λ (js : List Term). IsRising (all_variables s) js) (sym el) h)

pub few_of : (n : ℕ) (s t : SpecValue) → n ≡ all_variables s → t ≡ s → IsWellFormed t → n ≤ 2 ^ 20
few_of n s t en e wf = let few = (subst IsWellFormed e wf).few_variables in omega (arith, en, few)

-- a step is small
pub limit_small : (s t : SpecValue) (m k : ℕ) → t ≡ s → IsWellFormed t → m < length s.messages → k < (message_at s m).limit → k + 1 < 2 ^ 64
limit_small s t m k e wf hm hk =
    let w = subst IsWellFormed e wf in
    omega (arith, hk, limit_in s m w hm, w.plan.few_resources)

pub ruleset term_steps = (small_terms, normal_terms, below_terms, added)

pub ruleset put_steps = (put_is)
