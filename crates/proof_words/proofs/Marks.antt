-- The letter at a word's front, and what a word says by it.
use Rattle.std.proofs.Common.{◌≡◌, ◌≢◌, ℕ, false, List, [], ◌∷◌, Option, Some, None, MatchOption, Bor, refl, sym, ap, ◌∙◌, inl, inr}
use Rattle.std.specs.Prelude.{◌==◌, option_map}
use Rattle.std.proofs.lemmas.Bool.{cases_Bool, eqb-true, eq-eqb}
use Rattle.line_words.specs.Numbers.{plain_whole_of, whole_of}
use Rattle.pb_rules.specs.declared.Op.TheVariants.{Id}
use Rattle.proof_words.specs.Words.{after, numeral_number, op_of}

abbrev some_rest : List ℕ → Option (List ℕ)
some_rest rest = Some rest

abbrev no_rest : Option (List ℕ)
no_rest = None

rests_are : (xs ys : List ℕ) → some_rest xs ≡ some_rest ys → xs ≡ ys
rests_are xs ys e = cc

-- a letter stands at the front of what follows it
pub after_some : (letter : ℕ) (word rest : List ℕ) → after letter word ≡ Some rest → word ≡ letter ∷ rest
after_some letter [] rest e = absurd (let d : no_rest ≡ some_rest rest = e in cc)
after_some letter (b ∷ more) rest e =
    elim (cases_Bool (b == letter)) [
      | inl t ↦
          let here : after letter (b ∷ more) ≡ some_rest more = rw t refl in
          let same : more ≡ rest = rests_are more rest (sym here ∙ e) in
          ap (λ (c : ℕ). c ∷ more) (eqb-true b letter t) ∙ ap (λ (r : List ℕ). letter ∷ r) same
      | inr f ↦
          let none : after letter (b ∷ more) ≡ no_rest = rw f refl in
          absurd (let d : no_rest ≡ some_rest rest = sym none ∙ e in cc)
    ]

-- another byte than the letter stands at the front
pub after_none : (letter b : ℕ) (more : List ℕ) → after letter (b ∷ more) ≡ None → (b == letter) ≡ false
after_none letter b more e =
    elim (cases_Bool (b == letter)) [
      | inl t ↦ absurd (let here : after letter (b ∷ more) ≡ some_rest more = rw t refl in let d : some_rest more ≡ no_rest = sym here ∙ e in cc)
      | inr f ↦ f
    ]

-- no letter stands at the front
pub record HasNoMark (word : List ℕ) : Type 0 where
  pub plus : after 43 word ≡ None
  pub saturate : after 115 word ≡ None
  pub variable : after 120 word ≡ None
  pub opposite : after 126 word ≡ None
  pub times : after 42 word ≡ None
  pub divide : after 47 word ≡ None
  pub weaken : after 119 word ≡ None

empty_says : op_of [] ≡ option_map Id (numeral_number [])
unfolding plain_whole_of whole_of
empty_says = refl

-- then the word is a numeral, or nothing
pub op_of-numeral : (word : List ℕ) → HasNoMark word → op_of word ≡ option_map Id (numeral_number word)
op_of-numeral [] h = empty_says
op_of-numeral (b ∷ more) h =
    rw (
      after_none 43 b more h.plus,
      after_none 115 b more h.saturate,
      after_none 120 b more h.variable,
      after_none 126 b more h.opposite,
      after_none 42 b more h.times,
      after_none 47 b more h.divide,
      after_none 119 b more h.weaken,
    ) refl

no_front : (letter : ℕ) (word : List ℕ) → ((rest : List ℕ) → word ≢ letter ∷ rest) → after letter word ≡ None
no_front letter [] other = refl
no_front letter (b ∷ more) other =
    elim (cases_Bool (b == letter)) [
      | inl t ↦ absurd (other more (ap (λ (c : ℕ). c ∷ more) (eqb-true b letter t)))
      | inr f ↦ rw f refl
    ]

front : (letter : ℕ) (rest : List ℕ) → after letter (letter ∷ rest) ≡ Some rest
front letter rest = rw (eq-eqb letter letter refl) refl

-- what stripping a letter gives is what follows it
pub after_match : (letter : ℕ) (word : List ℕ) (r : Option (Bor (List ℕ))) → MatchOption r ((rest : List ℕ) → word ≢ letter ∷ rest) (λ x. word ≡ letter ∷ x.now)
    → MatchOption r (after letter word ≡ None) (λ x. after letter word ≡ Some x.now)
after_match letter word None h = no_front letter word h
after_match letter word (Some x) h = ap (after letter) h ∙ front letter x.now
