-- Vectors one before the other.
use Rattle.std.proofs.Common.{◌≡◌, ℕ, ◌<◌, List, sym, ◌∙◌, subst, arith, inl, inr}
use Rattle.std.specs.Prelude.{slice_index}
use Rattle.std.proofs.lemmas.Bool.{cases_lt}
use Rattle.front_model.specs.Fronts.{StandsBefore}

-- what stands before a vector stands before those behind it
pub through : (u v w : List ℕ) → StandsBefore u v → StandsBefore v w → StandsBefore u w
through u v w a b =
    elim (cases_lt a.place b.place) [
      | inl l ↦ record {
        place = a.place;
        same = λ j k. a.same j k ∙ b.same j (omega (arith, k, l));
        less = omega (arith, a.less, b.same a.place l);
      }
      | inr g ↦ elim (cases_lt b.place a.place) [
        | inl l ↦ record {
          place = b.place;
          same = λ j k. a.same j (omega (arith, k, l)) ∙ b.same j k;
          less = omega (arith, a.same b.place l, b.less);
        }
        | inr h ↦
            let e : b.place ≡ a.place = omega (arith, g, h) in
            record {
              place = a.place;
              same = λ j k. a.same j k ∙ b.same j (omega (arith, k, e));
              less = omega (arith, a.less, subst (λ (p : ℕ). slice_index v p < slice_index w p) e b.less);
            }
      ]
    ]
