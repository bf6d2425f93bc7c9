-- Constraints that a set gains, one after another.
use Rattle.std.proofs.Common.{◌≡◌, ℕ, ◌+◌, List, [], ◌∷◌, ◌++◌, refl, sym, ap, ◌∙◌, append_assoc}
use Rattle.std.specs.Prelude.{map}
use Rattle.std.specs.List.{flat_map}
use Rattle.std.proofs.lemmas.List.{append-nil}
use Rattle.pb_rules.specs.Linear.{Linear}
use Rattle.pb_constraints.specs.Sets.{SetValue}
use Rattle.spec_model.specs.Spec.{below}
use Rattle.spec_model.proofs.Those.{flat_map-below_more, map-below_more}
use Rattle.route_encode.specs.Adding.{Adds}

pub adds_none : (a : SetValue) → Adds a a []
adds_none a = record { constraints = sym (append-nil a.constraints); variables = refl }

pub adds_then : (a b c : SetValue) (xs ys zs : List Linear) → Adds a b xs → Adds b c ys → zs ≡ xs ++ ys → Adds a c zs
adds_then a b c xs ys zs h g e = record {
  constraints = g.constraints ∙ (ap (λ (ws : List Linear). ws ++ ys) h.constraints ∙ (append_assoc a.constraints xs ys ∙ ap (λ (ws : List Linear). a.constraints ++ ws) (sym e)));
  variables = g.variables ∙ h.variables;
}

-- at the start of a loop over the numbers below n, and one number more
pub pieces_start : (g : ℕ → List Linear) (a : SetValue) → Adds a a (flat_map g (below 0))
pieces_start g a = adds_none a

pub pieces_more : (g : ℕ → List Linear) (n : ℕ) (a b c : SetValue) → Adds a b (flat_map g (below n)) → Adds b c (g n) → Adds a c (flat_map g (below (n + 1)))
pieces_more g n a b c h k = adds_then a b c (flat_map g (below n)) (g n) (flat_map g (below (n + 1))) h k (flat_map-below_more g n)

pub ones_start : (g : ℕ → Linear) (a : SetValue) → Adds a a (map g (below 0))
ones_start g a = adds_none a

pub ones_more : (g : ℕ → Linear) (n : ℕ) (a b c : SetValue) → Adds a b (map g (below n)) → Adds b c (g n ∷ []) → Adds a c (map g (below (n + 1)))
ones_more g n a b c h k = adds_then a b c (map g (below n)) (g n ∷ []) (map g (below (n + 1))) h k (map-below_more g n)

pub ruleset adding_steps = (adds_none, pieces_start, pieces_more, ones_start, ones_more)
