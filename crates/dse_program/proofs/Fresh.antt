-- Tools that are put into a list one after another, each with few calls.
use Rattle.std.proofs.Common.{◌≡◌, ◌∙◌, ◌≤◌, ◌++◌, ◌∷◌, [], ℕ, List, All, map, sym, ap, subst, arith}
use Rattle.std.proofs.lemmas.List.{map_push}
use Rattle.std.proofs.lemmas.List.Elements.{All-nil, All-push}

pub none : {X : Type 0} (calls : X → ℕ) (most : ℕ) (now : List X) → now ≡ [] → All (λ n. n ≤ most) (map calls now)
none calls most now e = subst (λ (ns : List ℕ). All (λ n. n ≤ most) ns) (sym (ap (map calls) e)) (All-nil (λ n. n ≤ most))

pub one_more : {X : Type 0} (calls : X → ℕ) (most : ℕ) (now next : List X) (x : X) → All (λ n. n ≤ most) (map calls now) → next ≡ now ++ x ∷ [] → calls x ≤ most → All (λ n. n ≤ most) (map calls next)
one_more calls most now next x h e le =
    subst (λ (ns : List ℕ). All (λ n. n ≤ most) ns) (sym (ap (map calls) e ∙ map_push calls now x)) (All-push (λ n. n ≤ most) (map calls now) (calls x) h le)

pub at_zero : (n most : ℕ) → n ≡ 0 → n ≤ most
at_zero n most e = omega (arith, e)
