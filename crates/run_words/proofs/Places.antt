-- The places of named tools are places of tools, and rise.
use Rattle.std.proofs.Common.{◌≡◌, ◌&&◌, ◌+◌, ◌<◌, ◌≤◌, ◌++◌, ℕ, zero, suc, Bool, true, false, cond, List, [], ◌∷◌, Option, Some, None, All, subst, arith, get_or, length}
use Rattle.std.specs.List.{list_all}
use Rattle.std.proofs.lemmas.List.Elements.{All-nil, All-cons}
use Rattle.form_words.specs.Line.{Text}
use Rattle.run_words.specs.Fit.{AreRising}
use Rattle.run_words.specs.Tools.{are_apart, chosen_by, chosen_if_given, is_named, is_tag, places_from, places_of, tags_of}

within_put : (b : Bool) (n p : ℕ) (ps : List ℕ) → p < n → All (λ q. q < n) ps → All (λ q. q < n) (cond b (p ∷ ps) ps)
within_put true n p ps lt h = All-cons (λ q. q < n) p ps lt h
within_put false n p ps lt h = h

within : (n p : ℕ) (named before ts : List Text) → p + length ts ≤ n → All (λ q. q < n) (places_from p named before ts)
unfolding places_from
within n p named before [] h = All-nil (λ q. q < n)
within n p named before (t ∷ ts) h =
    within_put (is_named named before t) n p (places_from (p + 1) named (before ++ t ∷ []) ts) (omega (arith, h)) (within n (p + 1) named (before ++ t ∷ []) ts (omega (arith, h)))

-- no place is below the first one that may be there
from_put : (b : Bool) (n p : ℕ) (ps : List ℕ) → n ≤ p → All (λ q. n ≤ q) ps → All (λ q. n ≤ q) (cond b (p ∷ ps) ps)
from_put true n p ps le h = All-cons (λ q. n ≤ q) p ps le h
from_put false n p ps le h = h

from : (n p : ℕ) (named before ts : List Text) → n ≤ p → All (λ q. n ≤ q) (places_from p named before ts)
unfolding places_from
from n p named before [] le = All-nil (λ q. n ≤ q)
from n p named before (t ∷ ts) le =
    from_put (is_named named before t) n p (places_from (p + 1) named (before ++ t ∷ []) ts) le (from n (p + 1) named (before ++ t ∷ []) ts (omega (arith, le)))

rising_put : (b : Bool) (p : ℕ) (ps : List ℕ) → All (λ q. p + 1 ≤ q) ps → AreRising ps → AreRising (cond b (p ∷ ps) ps)
rising_put false p ps above h = h
rising_put true p ps above h = go
  where
    go : AreRising (p ∷ ps)
    go i zero l m = absurd (omega (arith, l))
    go zero (suc j) l m = let higher : p + 1 ≤ get_or ps j 0 = above j 0 (omega (arith, m)) in omega (arith, higher)
    go (suc i) (suc j) l m = h i j (omega (arith, l)) (omega (arith, m))

rising : (p : ℕ) (named before ts : List Text) → AreRising (places_from p named before ts)
unfolding places_from
rising p named before [] = λ i j l m. absurd (omega (arith, m))
rising p named before (t ∷ ts) =
    rising_put (is_named named before t) p (places_from (p + 1) named (before ++ t ∷ []) ts)
    (from (p + 1) (p + 1) named (before ++ t ∷ []) ts (omega arith)) (rising (p + 1) named (before ++ t ∷ []) ts)

-- ---- the places of a list

-- places of so many tools, rising
pub record AreFitPlaces (tools : ℕ) (chosen : List ℕ) : Type 0 where
  pub within : All (λ p. p < tools) chosen
  pub rising : AreRising chosen

fit_places : (tags named : List Text) → AreFitPlaces (length tags) (places_of tags named)
fit_places tags named = record { within = within (length tags) 0 named [] tags (omega arith); rising = rising 0 named [] tags }

fit_chosen : (tags named : List Text) (chosen : List ℕ) → chosen_by tags named ≡ Some chosen → AreFitPlaces (length tags) chosen
fit_chosen tags named chosen = go (list_all (is_tag tags) named) (are_apart named)
  where
    is : (x y : List ℕ) → Some x ≡ Some y → x ≡ y
    is x y e = cc

    go : (a b : Bool) → cond (a && b) (Some (places_of tags named)) None ≡ Some chosen → AreFitPlaces (length tags) chosen
    go true true e = subst (AreFitPlaces (length tags)) (is (places_of tags named) chosen e) (fit_places tags named)
    go true false e = absurd (cc)
    go false b e = absurd (cc)

pub fit_given : (tags : List Text) (list : Option Text) (chosen : List ℕ) → chosen_if_given tags list ≡ Some chosen → AreFitPlaces (length tags) chosen
fit_given tags None chosen e = let q : [] ≡ chosen = cc in subst (AreFitPlaces (length tags)) q (record { within = All-nil (λ p. p < length tags); rising = λ i j l m. absurd (omega (arith, m)) })
fit_given tags (Some text) chosen e = fit_chosen tags (tags_of text) chosen e
