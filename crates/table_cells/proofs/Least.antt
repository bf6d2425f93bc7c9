-- The least of the refusals that hold of something, from those of its parts.
use Rattle.std.proofs.Common.{◌≡◌, ◌<◌, ◌≤◌, ◌⊎◌, inl, inr, Option, Some, None, sym, subst, arith}
use Rattle.std.proofs.lemmas.Bool.{cases_lt, lt-ltb, le-ltb}
use Rattle.line_words.specs.Refused.{rank}
use Rattle.line_words.specs.declared.refusals.Why.{Why}
use Rattle.table_cells.specs.Least.{IsLeast, IsLeastOrNone, lower, lower_of}

-- one of two things holds
abbrev Either : (Why → Type 0) → (Why → Type 0) → Why → Type 0
Either A B why = A why ⊎ B why

-- the second of two refusals is the lower one
lower_second : (a b : Why) → rank b < rank a → lower a b ≡ b
lower_second a b lt = rw (lt-ltb (rank b) (rank a) lt)

-- the first of two refusals is at most the other
lower_first : (a b : Why) → rank a ≤ rank b → lower a b ≡ a
lower_first a b le = rw (le-ltb (rank b) (rank a) le)

-- the least of two things' refusals
least_both : (A B : Why → Type 0) (a b : Why) → IsLeast A a → IsLeast B b → IsLeast (Either A B) (lower a b)
least_both A B a b x y = elim (cases_lt (rank b) (rank a)) [
  | inl lt ↦ subst (IsLeast (Either A B)) (sym (lower_second a b lt)) (record {
    holds = inr y.holds;
    least = λ other h. elim h [
      | inl p ↦ let le : rank a ≤ rank other = x.least other p in omega (arith, lt, le)
      | inr q ↦ y.least other q
    ];
  })
  | inr le ↦ subst (IsLeast (Either A B)) (sym (lower_first a b le)) (record {
    holds = inl x.holds;
    least = λ other h. elim h [
      | inl p ↦ x.least other p
      | inr q ↦ let more : rank b ≤ rank other = y.least other q in omega (arith, le, more)
    ];
  })
]

-- the least of what holds of one or of the other is the lower of their least ones
pub least_either : (A B : Why → Type 0) (a b : Option Why) → IsLeastOrNone A a → IsLeastOrNone B b → IsLeastOrNone (λ why. A why ⊎ B why) (lower_of a b)
least_either A B None None x y = λ why h. elim h [
  | inl p ↦ x why p
  | inr q ↦ y why q
]
least_either A B None (Some b) x y = record {
  holds = inr y.holds;
  least = λ other h. elim h [
    | inl p ↦ absurd (x other p)
    | inr q ↦ y.least other q
  ];
}
least_either A B (Some a) None x y = record {
  holds = inl x.holds;
  least = λ other h. elim h [
    | inl p ↦ x.least other p
    | inr q ↦ absurd (y other q)
  ];
}
least_either A B (Some a) (Some b) x y = least_both A B a b x y

-- the least of what holds, said in another way
pub least_same : (A B : Why → Type 0) (a : Option Why) → ((why : Why) → A why → B why) → ((why : Why) → B why → A why) → IsLeastOrNone A a → IsLeastOrNone B a
least_same A B None to from x = λ why h. x why (from why h)
least_same A B (Some a) to from x = record { holds = to a x.holds; least = λ other h. x.least other (from other h) }
