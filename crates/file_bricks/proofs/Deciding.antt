-- Lists of tests of which none is broken, the first broken one of two lists, and what a choice by a test gives.
use Rattle.std.proofs.Common.{◌≡◌, ℕ, inl, inr, eqb, Bool, true, false, cond, List, [], ◌∷◌, Option, Some, None, refl, sym, ap, ◌∙◌}
use Rattle.std.specs.Prelude.{if◌then◌else◌, ◌||◌}
use Rattle.std.proofs.lemmas.Bool.{cases_Bool}
use Rattle.line_words.specs.Refused.{rank}
use Rattle.line_words.specs.Rules.{Test, IsRanked, first_broken}
use Rattle.line_words.specs.declared.refusals.Why.{Why}
use Rattle.line_words.proofs.Least.{first_later}

-- no rule of a list is broken
abbrev pub AllFalse : List Test → Type 0
AllFalse [] = Unit {0}
AllFalse (t ∷ ts) = (t.1 ≡ false) × AllFalse ts

abbrev some : Why → Option Why
some w = Some w

abbrev none : Option Why
none = None

here : (t : Test) (ts : List Test) → t.1 ≡ true → first_broken (t ∷ ts) ≡ some t.0
here t ts e = rw e refl

never : (w : Why) → some w ≡ none → ⊥
never w e = cc

pub all_false : (ts : List Test) → first_broken ts ≡ None → AllFalse ts
all_false [] e = tt
all_false (t ∷ ts) e =
    elim (cases_Bool t.1) [
      | inl broken ↦ absurd (never t.0 (sym (here t ts broken) ∙ e))
      | inr fine ↦ (fine, all_false ts (sym (first_later t ts fine) ∙ e))
    ]

-- what the rule of a refusal asks for: that of the first test with the refusal, and nothing where there is none
abbrev pub broken_for : Why → List Test → Bool
broken_for why [] = false
broken_for why (t ∷ ts) = cond (eqb (rank t.0) (rank why)) t.1 (broken_for why ts)

chosen_false : (b x y : Bool) → x ≡ false → y ≡ false → cond b x y ≡ false
chosen_false true x y e f = e
chosen_false false x y e f = f

all_fine : (why : Why) (ts : List Test) → AllFalse ts → broken_for why ts ≡ false
all_fine why [] h = refl
all_fine why (t ∷ ts) h = chosen_false (eqb (rank t.0) (rank why)) t.1 (broken_for why ts) h.0 (all_fine why ts h.1)

-- Where no rule is broken, that of a refusal isn't. In a list of written tests the refusal alone finds its test, so a
-- further test shifts no other's proof.
pub fine_for : (why : Why) (ts : List Test) → first_broken ts ≡ None → broken_for why ts ≡ false
fine_for why ts e = all_fine why ts (all_false ts e)

-- a choice where the test holds, and where it doesn't
pub chosen : {A : Type 0} (b : Bool) (x y : A) → b ≡ true → (if b then x else y) ≡ x
chosen b x y e = ap (λ (c : Bool). if c then x else y) e

-- the other case, where the test is false
pub other : {A : Type 0} (b : Bool) (x y : A) → b ≡ false → (if b then x else y) ≡ y
other b x y e = ap (λ (c : Bool). if c then x else y) e

-- rules that stand in their order, whichever are chosen
pub ranked_if : (low : ℕ) (b : Bool) (xs ys : List Test) → IsRanked low xs → IsRanked low ys → IsRanked low (if b then xs else ys)
ranked_if low true xs ys h k = h
ranked_if low false xs ys h k = k

-- brackets of three tests say nothing
pub or_or : (a b c : Bool) → (a || (b || c)) ≡ ((a || b) || c)
or_or true b c = refl
or_or false b c = refl
