-- A file has one refusal: no two refusals stand at one place of the order.
use Rattle.std.proofs.Common.{◌≡◌, ℕ, inl, inr, List, [], ◌∷◌, eqb, Option, Some, refl, sym, ap, ◌∙◌, arith}
use Rattle.std.specs.Prelude.{find}
use Rattle.line_words.specs.Refused.{rank}
use Rattle.line_words.specs.Rules.{Rules, IsLeast}
use Rattle.line_words.specs.declared.refusals.Why.{Why}
use Rattle.line_words.specs.declared.refusals.Why.TheVariants.{BadByte, LongLine, NoHeader, BadStatement, BadNumber, UnknownName, RepeatedName, SelfLink, Unclosed, StrayClose, NoRow, NotWhole, TooBig, Cyclic, Limit, WrongBinding, NotInOrder}
use Rattle.line_words.specs.declared.refusals.What.TheVariants.{FileBytes, NameBytes, Tasks, Messages, Resources, Links, Options, Objectives, Variables, Terms}
use Rattle.line_words.proofs.Whys.{some_is}

abbrev all : List Why
all = BadByte ∷ LongLine ∷ NoHeader ∷ BadStatement ∷ BadNumber ∷ UnknownName ∷ RepeatedName ∷ SelfLink ∷ Unclosed ∷ StrayClose ∷ NoRow ∷ NotWhole ∷ TooBig ∷ Cyclic
    ∷ Limit FileBytes ∷ Limit NameBytes ∷ Limit Tasks ∷ Limit Messages ∷ Limit Resources ∷ Limit Links ∷ Limit Options ∷ Limit Objectives ∷ Limit Variables ∷ Limit Terms
    ∷ WrongBinding ∷ NotInOrder ∷ []

-- the refusal at a place of the order
abbrev ranked_at : ℕ → Option Why
ranked_at n = find (λ w. eqb (rank w) n) all

ranked_at-rank : (w : Why) → ranked_at (rank w) ≡ Some w
ranked_at-rank BadByte = refl
ranked_at-rank LongLine = refl
ranked_at-rank NoHeader = refl
ranked_at-rank BadStatement = refl
ranked_at-rank BadNumber = refl
ranked_at-rank UnknownName = refl
ranked_at-rank RepeatedName = refl
ranked_at-rank SelfLink = refl
ranked_at-rank Unclosed = refl
ranked_at-rank StrayClose = refl
ranked_at-rank NoRow = refl
ranked_at-rank NotWhole = refl
ranked_at-rank TooBig = refl
ranked_at-rank Cyclic = refl
ranked_at-rank (Limit FileBytes) = refl
ranked_at-rank (Limit NameBytes) = refl
ranked_at-rank (Limit Tasks) = refl
ranked_at-rank (Limit Messages) = refl
ranked_at-rank (Limit Resources) = refl
ranked_at-rank (Limit Links) = refl
ranked_at-rank (Limit Options) = refl
ranked_at-rank (Limit Objectives) = refl
ranked_at-rank (Limit Variables) = refl
ranked_at-rank (Limit Terms) = refl
ranked_at-rank WrongBinding = refl
ranked_at-rank NotInOrder = refl

pub rank_injective : (v w : Why) → rank v ≡ rank w → v ≡ w
rank_injective v w e = some_is v w (sym (ranked_at-rank v) ∙ ap ranked_at e ∙ ranked_at-rank w)

-- A law for callers: the least refusal is one.
pub IsLeast-one : (rules : Rules) (lines : List (List ℕ)) (m n : ℕ) (v w : Why) → IsLeast rules lines m v → IsLeast rules lines n w → (m ≡ n) × (v ≡ w)
IsLeast-one rules lines m n v w a b =
    elim (a.least n w b.holds) [
      | inl before ↦ elim (b.least m v a.holds) [
        | inl after ↦ absurd (omega (arith, before, after))
        | inr same ↦ absurd (omega (arith, before, same.0))
      ]
      | inr same ↦ elim (b.least m v a.holds) [
        | inl after ↦ absurd (omega (arith, after, same.0))
        | inr again ↦ (same.0, rank_injective v w (omega (arith, same.1, again.1)))
      ]
    ]
