-- What holds of each request.
use Rattle.std.proofs.Common.{◌≡◌, ◌≢◌, ◌≤◌, ◌&&◌, ◌||◌, ◌^◌, ℕ, Bool, true, false, List, [], ◌∷◌, Option, Some, None, IfSome, not, refl, subst, arith, cond, option_map, option_and_then, nat_lt, nat_le, codes, length}
use Rattle.std.specs.Str.{bytes_eq}
use Rattle.std.specs.Str.Parse.{digits_value}
use Rattle.std.proofs.lemmas.Bool.Decides.{nat_tests}
use Rattle.std.proofs.lemmas.Slice.Eq.{bytes_eq-Decides}
use Rattle.form_words.specs.Line.{Text, Use, line, value_under}
use Rattle.form_words.specs.Table.{form_of}
use Rattle.run_words.specs.Names.{is_file, is_apart}
use Rattle.run_words.specs.Numbers.{is_whole, number_from, number_if_given, number_up_to}
use Rattle.run_words.specs.Decoding.{DecodeValue, are_taken, is_written, budget_with, decode_named, decode_with, decode_of, decode_request, decode_table}
use Rattle.run_words.specs.Exploring.{explore_request, most_rounds}
use Rattle.run_words.specs.Fronting.{FrontingValue, are_read, are_written, front_named, front_with, front_of, front_request, front_table}
use Rattle.run_words.specs.Checking.{check_request}
use Rattle.run_words.specs.Making.{MakingValue, rounds_if_given, make_numbered, make_with, make_of, make_request, make_table}
use Rattle.run_words.specs.Values.{RequestValue, decode, explore, front, check, make}
use Rattle.run_words.specs.Requests.{request}
use Rattle.run_words.specs.Fit.{HasFitBudget, HasFitFiles, HasFitRounds, IsFit}
use Rattle.run_words.proofs.Explored.{few_up_to, fit_explore}

-- a number that is read is at least the least one
number_above : (least : ℕ) (t : Text) → IfSome (number_from least t) (λ n. least ≤ n)
number_above least t = go (is_whole t) (nat_lt (digits_value 10 t) (2 ^ 64)) (nat_le least (digits_value 10 t)) refl
  where
    go : (w f a : Bool) → nat_le least (digits_value 10 t) ≡ a → IfSome (cond (w && (f && a)) (Some (digits_value 10 t)) None) (λ n. least ≤ n)
    go false f a e = tt
    go true false a e = tt
    go true true false e = tt
    go true true true e = grind (arith, nat_tests)

-- a budget of an option and the proof beside it
abbrev AreFit : Option Text → Option ℕ → Type 0
AreFit proof n = IfSome n (λ k. 1 ≤ k) × (proof ≡ None → n ≡ None)

fit_some : (t p : Text) → IfSome (number_if_given 1 (Some t)) (AreFit (Some p))
fit_some t p = go (number_from 1 t) (number_above 1 t)
  where
    go : (n : Option ℕ) → IfSome n (λ k. 1 ≤ k) → IfSome (option_map (λ k. Some k) n) (AreFit (Some p))
    go None h = tt
    go (Some k) h = (h, λ e. absurd (cc))

fit_budget : (budget proof : Option Text) → IfSome (budget_with budget proof) (AreFit proof)
fit_budget None None = (tt, λ e. refl)
fit_budget (Some t) None = tt
fit_budget None (Some p) = (tt, λ e. refl)
fit_budget (Some t) (Some p) = fit_some t p

-- the request of names and a budget
abbrev made : Text → Text → Text → Option Text → Option ℕ → DecodeValue
made t a g proof n = record { tgff = t; arch = a; geno = g; budget = n; proof = proof }

fit_made : (t a g : Text) (proof : Option Text) (n : Option ℕ) (d : DecodeValue) → AreFit proof n → Some (made t a g proof n) ≡ Some d → HasFitBudget d
fit_made t a g proof n d h e = let q : made t a g proof n ≡ d = cc in subst HasFitBudget q (record { some = h.0; alone = h.1 })

fit_named : (t a g : Text) (proof : Option Text) (b : Option (Option ℕ)) (d : DecodeValue) → IfSome b (AreFit proof) → decode_named t a g proof b ≡ Some d → HasFitBudget d
fit_named t a g proof b d = go (are_taken t a g && is_written t a g proof) b
  where
    go : (ok : Bool) (b : Option (Option ℕ)) → IfSome b (AreFit proof) → cond ok (option_map (made t a g proof) b) None ≡ Some d → HasFitBudget d
    go false b h e = absurd (cc)
    go true None h e = absurd (cc)
    go true (Some n) h e = fit_made t a g proof n d h e

fit_with : (t a g b p : Option Text) (d : DecodeValue) → decode_with t a g b p ≡ Some d → HasFitBudget d
fit_with None a g b p d e = absurd (cc)
fit_with (Some t) None g b p d e = absurd (cc)
fit_with (Some t) (Some a) None b p d e = absurd (cc)
fit_with (Some t) (Some a) (Some g) b p d e = fit_named t a g p (budget_with b p) d (fit_budget b p) e

fit_decode : (words : List Text) (d : DecodeValue) → decode_request words ≡ Some d → HasFitBudget d
unfolding decode_request
fit_decode words d e = go (line (form_of decode_table) words) e
  where
    go : (us : Option (List Use)) → option_and_then decode_of us ≡ Some d → HasFitBudget d
    go None e = absurd (cc)
    go (Some us) e = fit_with (value_under (codes "tgff") us) (value_under (codes "arch") us) (value_under (codes "geno") us) (value_under (codes "budget") us) (value_under (codes "proof") us) d e

-- ---- the files of a front

fit_number : (budget : Option Text) → IfSome (number_if_given 1 budget) (λ n. IfSome n (λ k. 1 ≤ k))
fit_number None = tt
fit_number (Some t) = go (number_from 1 t) (number_above 1 t)
  where
    go : (n : Option ℕ) → IfSome n (λ k. 1 ≤ k) → IfSome (option_map (λ k. Some k) n) (λ m. IfSome m (λ k. 1 ≤ k))
    go None h = tt
    go (Some k) h = h

last_apart : (t a f p : Text) → is_apart (Some p) (t ∷ a ∷ f ∷ []) ≡ true → f ≢ p
last_apart t a f p h e = go (bytes_eq t p) (bytes_eq a p) (bytes_eq f p) (subst (λ (x : Text). bytes_eq f x ≡ true) e ((bytes_eq-Decides f f).1 refl)) h
  where
    go : (x y z : Bool) → z ≡ true → not (x || (y || (z || false))) ≡ true → ⊥
    go true y z q h = absurd (cc)
    go false true z q h = absurd (cc)
    go false false true q h = absurd (cc)
    go false false false q h = absurd (cc)

right_of : (x y : Bool) → x && y ≡ true → y ≡ true
right_of true y e = e
right_of false y e = absurd (cc)

written_apart : (t a f p : Text) → are_written t a f p ≡ true → f ≢ p
written_apart t a f p h =
    last_apart t a f p (right_of (is_file p) (is_apart (Some p) (t ∷ a ∷ f ∷ [])) (right_of (is_file f && is_apart (Some f) (t ∷ a ∷ [])) (is_file p && is_apart (Some p) (t ∷ a ∷ f ∷ [])) h))

abbrev fronted : Text → Text → Text → Text → Option ℕ → FrontingValue
fronted t a f p n = record { tgff = t; arch = a; front = f; proof = p; budget = n }

fit_fronted : (t a f p : Text) (n : Option ℕ) (v : FrontingValue) → IfSome n (λ k. 1 ≤ k) → f ≢ p → Some (fronted t a f p n) ≡ Some v → HasFitFiles v
fit_fronted t a f p n v h apart e = let q : fronted t a f p n ≡ v = cc in subst HasFitFiles q (record { some = h; apart = apart })

fit_front_named : (t a f p : Text) (b : Option (Option ℕ)) (v : FrontingValue) → IfSome b (λ n. IfSome n (λ k. 1 ≤ k)) → front_named t a f p b ≡ Some v → HasFitFiles v
fit_front_named t a f p b v = go (are_read t a) (are_written t a f p) refl b
  where
    go : (r w : Bool) → are_written t a f p ≡ w → (b : Option (Option ℕ)) → IfSome b (λ n. IfSome n (λ k. 1 ≤ k)) → cond (r && w) (option_map (fronted t a f p) b) None ≡ Some v → HasFitFiles v
    go false w q b h e = absurd (cc)
    go true false q b h e = absurd (cc)
    go true true q None h e = absurd (cc)
    go true true q (Some n) h e = fit_fronted t a f p n v h (written_apart t a f p q) e

fit_front_with : (t a f p b : Option Text) (v : FrontingValue) → front_with t a f p b ≡ Some v → HasFitFiles v
fit_front_with None a f p b v e = absurd (cc)
fit_front_with (Some t) None f p b v e = absurd (cc)
fit_front_with (Some t) (Some a) None p b v e = absurd (cc)
fit_front_with (Some t) (Some a) (Some f) None b v e = absurd (cc)
fit_front_with (Some t) (Some a) (Some f) (Some p) b v e = fit_front_named t a f p (number_if_given 1 b) v (fit_number b) e

fit_front : (words : List Text) (v : FrontingValue) → front_request words ≡ Some v → HasFitFiles v
unfolding front_request
fit_front words v e = go (line (form_of front_table) words) e
  where
    go : (us : Option (List Use)) → option_and_then front_of us ≡ Some v → HasFitFiles v
    go None e = absurd (cc)
    go (Some us) e =
        fit_front_with (value_under (codes "tgff") us) (value_under (codes "arch") us) (value_under (codes "front") us) (value_under (codes "proof") us) (value_under (codes "budget") us) v e

-- ---- the rounds of a made specification

few_given : (t : Option Text) → IfSome (rounds_if_given t) (λ n. IfSome n (λ k. k ≤ most_rounds))
few_given None = tt
few_given (Some t) = go (number_up_to most_rounds t) (few_up_to most_rounds t)
  where
    go : (n : Option ℕ) → IfSome n (λ k. k ≤ most_rounds) → IfSome (option_map (λ k. Some k) n) (λ m. IfSome m (λ k. k ≤ most_rounds))
    go None h = tt
    go (Some k) h = h

abbrev numbered : Text → ℕ → Option ℕ → MakingValue
numbered a n r = record { number = n; arch = a; rounds = r }

fit_numbered : (a : Text) (n : Option ℕ) (r : Option (Option ℕ)) (v : MakingValue) → IfSome r (λ m. IfSome m (λ k. k ≤ most_rounds)) → make_numbered a n r ≡ Some v → HasFitRounds v
fit_numbered a None r v h e = absurd (cc)
fit_numbered a (Some n) None v h e = absurd (cc)
fit_numbered a (Some n) (Some r) v h e = go (is_file a) e
  where
    go : (b : Bool) → cond b (Some (numbered a n r)) None ≡ Some v → HasFitRounds v
    go true e = let q : numbered a n r ≡ v = cc in subst HasFitRounds q h
    go false e = absurd (cc)

fit_make_with : (n a r : Option Text) (v : MakingValue) → make_with n a r ≡ Some v → HasFitRounds v
fit_make_with None a r v e = absurd (cc)
fit_make_with (Some n) None r v e = absurd (cc)
fit_make_with (Some n) (Some a) r v e = fit_numbered a (number_from 0 n) (rounds_if_given r) v (few_given r) e

fit_make : (words : List Text) (v : MakingValue) → make_request words ≡ Some v → HasFitRounds v
unfolding make_request
fit_make words v e = go (line (form_of make_table) words) e
  where
    go : (us : Option (List Use)) → option_and_then make_of us ≡ Some v → HasFitRounds v
    go None e = absurd (cc)
    go (Some us) e = fit_make_with (value_under (codes "number") us) (value_under (codes "arch") us) (value_under (codes "rounds") us) v e

-- ---- each request

fit_of : {X : Type 0} (tools : ℕ) (made : X → RequestValue) (r : Option X) (asked : RequestValue) → ((x : X) → r ≡ Some x → IsFit tools (made x)) → option_map made r ≡ Some asked → IsFit tools asked
fit_of tools made None asked h e = absurd (cc)
fit_of tools made (Some x) asked h e = let q : made x ≡ asked = cc in subst (IsFit tools) q (h x refl)

pub requests_fit : (tags words : List Text) (asked : RequestValue) → request tags words ≡ Some asked → IsFit (length tags) asked
requests_fit tags [] asked e = absurd (cc)
requests_fit tags (name ∷ words) asked e =
    go (bytes_eq name (codes "decode")) (bytes_eq name (codes "explore")) (bytes_eq name (codes "front")) (bytes_eq name (codes "check")) (bytes_eq name (codes "make")) e
  where
    n : ℕ
    n = length tags

    go : (d x f c m : Bool) → cond d (option_map decode (decode_request words)) (cond x (option_map explore (explore_request tags words))
        (cond f (option_map front (front_request words)) (cond c (option_map check (check_request words)) (cond m (option_map make (make_request words)) None)))) ≡ Some asked → IsFit n asked
    go true x f c m e = fit_of n decode (decode_request words) asked (fit_decode words) e
    go false true f c m e = fit_of n explore (explore_request tags words) asked (fit_explore tags words) e
    go false false true c m e = fit_of n front (front_request words) asked (fit_front words) e
    go false false false true m e = fit_of n check (check_request words) asked (λ x q. tt) e
    go false false false false true e = fit_of n make (make_request words) asked (fit_make words) e
    go false false false false false e = absurd (cc)
