-- A request of `explore` has few rounds, and places of tools.
use Rattle.std.proofs.Common.{◌≡◌, ◌≤◌, ℕ, Bool, true, false, List, Option, Some, None, IfSome, refl, subst, arith, cond, nat_le, codes, length, option_and_then, option_map}
use Rattle.std.proofs.lemmas.Bool.Decides.{nat_tests}
use Rattle.form_words.specs.Line.{Text, Use, line, value_under}
use Rattle.form_words.specs.Table.{form_of}
use Rattle.run_words.specs.Numbers.{number_from, number_up_to}
use Rattle.run_words.specs.Tools.{chosen_if_given}
use Rattle.run_words.specs.Exploring.{ExploringValue, most_rounds, are_explored, numbers_of, explore_named, explore_with, explore_of, explore_request, explore_table}
use Rattle.run_words.specs.Fit.{HasFitTools}
use Rattle.run_words.proofs.Places.{AreFitPlaces, fit_given}

-- a number that is read is at most the greatest one
pub few_up_to : (most : ℕ) (t : Text) → IfSome (number_up_to most t) (λ n. n ≤ most)
few_up_to most t = go (number_from 0 t)
  where
    at : (n : ℕ) (b : Bool) → nat_le n most ≡ b → IfSome (cond b (Some n) None) (λ m. m ≤ most)
    at n true e = grind (arith, nat_tests)
    at n false e = tt

    go : (o : Option ℕ) → IfSome (option_and_then (λ n. cond (nat_le n most) (Some n) None) o) (λ n. n ≤ most)
    go None = tt
    go (Some n) = at n (nat_le n most) refl

few_rounds : (rounds seed : Text) → IfSome (numbers_of rounds seed) (λ n. n.0 ≤ most_rounds)
few_rounds rounds seed = go (number_up_to most_rounds rounds) (few_up_to most_rounds rounds) (number_from 0 seed)
  where
    go : (r : Option ℕ) → IfSome r (λ n. n ≤ most_rounds) → (s : Option ℕ) → IfSome (option_and_then (λ n. option_map (λ m. (n, m)) s) r) (λ (n : ℕ × ℕ). n.0 ≤ most_rounds)
    go None h s = tt
    go (Some r) h None = tt
    go (Some r) h (Some s) = h

abbrev explored : Text → Text → Option Text → ℕ → ℕ → List ℕ → ExploringValue
explored t a p r s c = record { tgff = t; arch = a; rounds = r; seed = s; chosen = c; proof = p }

fit_made : (tools : ℕ) (t a : Text) (p : Option Text) (r s : ℕ) (c : List ℕ) (v : ExploringValue) → r ≤ most_rounds → AreFitPlaces tools c → Some (explored t a p r s c) ≡ Some v → HasFitTools tools v
fit_made tools t a p r s c v few h e =
    let q : explored t a p r s c ≡ v = cc in
    subst (HasFitTools tools) q (record { few = few; within = h.within; rising = h.rising })

fit_named : (tools : ℕ) (t a : Text) (p : Option Text) (n : Option (ℕ × ℕ)) (c : Option (List ℕ)) (v : ExploringValue) → IfSome n (λ k. k.0 ≤ most_rounds)
    → ((x : List ℕ) → c ≡ Some x → AreFitPlaces tools x) → explore_named t a p n c ≡ Some v → HasFitTools tools v
fit_named tools t a p None c v few h e = absurd (cc)
fit_named tools t a p (Some (r, s)) None v few h e = absurd (cc)
fit_named tools t a p (Some (r, s)) (Some c) v few h e = go (are_explored t a p) e
  where
    go : (b : Bool) → cond b (Some (explored t a p r s c)) None ≡ Some v → HasFitTools tools v
    go true e = fit_made tools t a p r s c v few (h c refl) e
    go false e = absurd (cc)

fit_with : (tags : List Text) (t a r s m p : Option Text) (v : ExploringValue) → explore_with tags t a r s m p ≡ Some v → HasFitTools (length tags) v
fit_with tags None a r s m p v e = absurd (cc)
fit_with tags (Some t) None r s m p v e = absurd (cc)
fit_with tags (Some t) (Some a) None s m p v e = absurd (cc)
fit_with tags (Some t) (Some a) (Some r) None m p v e = absurd (cc)
fit_with tags (Some t) (Some a) (Some r) (Some s) m p v e =
    fit_named (length tags) t a p (numbers_of r s) (chosen_if_given tags m) v (few_rounds r s) (λ x q. fit_given tags m x q) e

pub fit_explore : (tags words : List Text) (v : ExploringValue) → explore_request tags words ≡ Some v → HasFitTools (length tags) v
unfolding explore_request
fit_explore tags words v e = go (line (form_of explore_table) words) e
  where
    go : (us : Option (List Use)) → option_and_then (explore_of tags) us ≡ Some v → HasFitTools (length tags) v
    go None e = absurd (cc)
    go (Some us) e =
        fit_with tags (value_under (codes "tgff") us) (value_under (codes "arch") us) (value_under (codes "rounds") us) (value_under (codes "seed") us) (value_under (codes "measure") us)
        (value_under (codes "proof") us) v e
