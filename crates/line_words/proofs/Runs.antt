-- The words of a line, taken from its front.
use Rattle.std.proofs.Common.{◌≡◌, inl, inr, ℕ, suc, ◌+◌, ◌<◌, ◌≤◌, true, false, cond, eqb, List, [], ◌∷◌, take, drop, refl, sym, ap, ◌∙◌, arith}
use Rattle.std.specs.List.{prefix_len, position_or_len}
use Rattle.std.proofs.lemmas.Bool.{cases_Bool, eq-eqb}
use Rattle.std.proofs.lemmas.Bool.Decides.{nat_tests}
use Rattle.std.proofs.lemmas.List.{drop-drop}
use Rattle.line_words.specs.Text.{is_blank, Piece, byte_word, onto_word, words_from}

-- the first word starts at `at` or later
abbrev StartsFrom : ℕ → List Piece → Type 0
StartsFrom at [] = Unit {0}
StartsFrom at (w ∷ ws) = at ≤ w.start

onto_word_starts : (at b : ℕ) (ws : List Piece) → StartsFrom at (onto_word at b ws)
onto_word_starts at b [] = omega arith
onto_word_starts at b (w ∷ ws) =
    elim (eqb w.start (at + 1)) as (λ v. StartsFrom at (cond v (record { start = at; end = w.end; text = b ∷ w.text } ∷ ws) (byte_word at b ∷ w ∷ ws))) [ true ↦ omega arith | false ↦ omega arith ]

StartsFrom-later : (at later : ℕ) (ws : List Piece) → at ≤ later → StartsFrom later ws → StartsFrom at ws
StartsFrom-later at later [] le h = tt
StartsFrom-later at later (w ∷ ws) le h = omega arith

words_from_starts : (at : ℕ) (bs : List ℕ) → StartsFrom at (words_from at bs)
unfolding words_from
words_from_starts at [] = tt
words_from_starts at (b ∷ bs) =
    elim (is_blank b) as (λ v. StartsFrom at (cond v (words_from (at + 1) bs) (onto_word at b (words_from (at + 1) bs)))) [
      | true ↦ StartsFrom-later at (at + 1) (words_from (at + 1) bs) (omega arith) (words_from_starts (at + 1) bs)
      | false ↦ onto_word_starts at b (words_from (at + 1) bs)
    ]

-- a word of one byte, where the next word starts later
onto_word_apart : (at b : ℕ) (ws : List Piece) → StartsFrom (at + 2) ws → onto_word at b ws ≡ byte_word at b ∷ ws
onto_word_apart at b [] h = refl
onto_word_apart at b (w ∷ ws) h = grind (arith, nat_tests)

-- a blank in front is passed over
pub words_from-blank : (at b : ℕ) (bs : List ℕ) → is_blank b ≡ true → words_from at (b ∷ bs) ≡ words_from (at + 1) bs
unfolding words_from
words_from-blank at b bs h = rw h refl

pub words_from_byte : (at b : ℕ) (bs : List ℕ) → is_blank b ≡ false → words_from at (b ∷ bs) ≡ onto_word at b (words_from (at + 1) bs)
unfolding words_from
words_from_byte at b bs h = rw h refl

-- no bytes have no words
pub words_from-nil : (at : ℕ) → words_from at [] ≡ []
unfolding words_from
words_from-nil at = refl

-- blanks in front change nothing
pub words_from_blanks : (bs : List ℕ) (at : ℕ) → words_from at bs ≡ words_from (at + prefix_len is_blank bs) (drop (prefix_len is_blank bs) bs)
words_from_blanks [] at = ap (λ (k : ℕ). words_from k []) (omega arith)
words_from_blanks (b ∷ bs) at =
    elim (cases_Bool (is_blank b)) [
      | inl t ↦
          let n = prefix_len is_blank bs in
          let len : prefix_len is_blank (b ∷ bs) ≡ suc n = rw t (omega arith) in
          let at_is : at + 1 + n ≡ at + suc n = omega arith in
          rw len (words_from-blank at b bs t ∙ words_from_blanks bs (at + 1) ∙ ap (λ (k : ℕ). words_from k (drop n bs)) at_is)
      | inr f ↦
          let len : prefix_len is_blank (b ∷ bs) ≡ 0 = rw f refl in
          rw len (ap (λ (k : ℕ). words_from k (b ∷ bs)) (omega arith))
    ]

one_more : (at b n e : ℕ) (bs : List ℕ) (ws : List Piece) → onto_word at b (record { start = at + 1; end = e; text = take n bs } ∷ ws) ≡ record { start = at; end = e; text = b ∷ take n bs } ∷ ws
one_more at b n e bs ws = rw (eq-eqb (at + 1) (at + 1) refl) refl

-- a run of other bytes is a word
pub words_from_run : (bs : List ℕ) (at : ℕ) → 0 < position_or_len is_blank bs
    → words_from at bs ≡ record { start = at; end = at + position_or_len is_blank bs; text = take (position_or_len is_blank bs) bs }
    ∷ words_from (at + position_or_len is_blank bs) (drop (position_or_len is_blank bs) bs)
words_from_run [] at h = absurd (omega arith)
words_from_run (b ∷ []) at h =
    elim (cases_Bool (is_blank b)) [
      | inl t ↦ let none : position_or_len is_blank (b ∷ []) ≡ 0 = rw t refl in absurd (omega (arith, none))
      | inr f ↦
          let len : position_or_len is_blank (b ∷ []) ≡ 1 = rw f refl in
          rw len (words_from_byte at b [] f ∙ rw words_from-nil refl)
    ]
words_from_run (b ∷ c ∷ bs) at h =
    elim (cases_Bool (is_blank b)) [
      | inl t ↦ let none : position_or_len is_blank (b ∷ c ∷ bs) ≡ 0 = rw t refl in absurd (omega (arith, none))
      | inr f ↦
          elim (cases_Bool (is_blank c)) [
            | inl t ↦
                let len : position_or_len is_blank (b ∷ c ∷ bs) ≡ 1 = rw (f, t) refl in
                let rest : words_from (at + 1) (c ∷ bs) ≡ words_from (at + 2) bs = words_from-blank (at + 1) c bs t ∙ ap (λ (k : ℕ). words_from k bs) (omega arith) in
                rw len (words_from_byte at b (c ∷ bs) f ∙ rw rest (onto_word_apart at b (words_from (at + 2) bs) (words_from_starts (at + 2) bs)))
            | inr g ↦
                let n = position_or_len is_blank (c ∷ bs) in
                let some : 0 < position_or_len is_blank (c ∷ bs) = rw g (omega arith) in
                let len : position_or_len is_blank (b ∷ c ∷ bs) ≡ suc n = rw f (omega arith) in
                let at_is : at + 1 + n ≡ at + suc n = omega arith in
                rw len (words_from_byte at b (c ∷ bs) f ∙ ap (onto_word at b) (words_from_run (c ∷ bs) (at + 1) some)
                ∙ one_more at b n (at + 1 + n) (c ∷ bs) (words_from (at + 1 + n) (drop n (c ∷ bs)))
                ∙ ap (λ (k : ℕ). record { start = at; end = k; text = b ∷ take n (c ∷ bs) } ∷ words_from k (drop n (c ∷ bs))) at_is)
          ]
    ]

-- where nothing follows the blanks there is no word
no_word : (bs : List ℕ) (at : ℕ) → position_or_len is_blank (drop (prefix_len is_blank bs) bs) ≡ 0 → words_from at bs ≡ []
no_word [] at h = words_from-nil at
no_word (b ∷ bs) at h =
    elim (cases_Bool (is_blank b)) [
      | inl t ↦
          let n = prefix_len is_blank bs in
          let len : prefix_len is_blank (b ∷ bs) ≡ suc n = rw t (omega arith) in
          let there : position_or_len is_blank (drop n bs) ≡ 0 = rw len at h in
          words_from-blank at b bs t ∙ no_word bs (at + 1) there
      | inr f ↦
          let len : prefix_len is_blank (b ∷ bs) ≡ 0 = rw f refl in
          let some : position_or_len is_blank (b ∷ bs) ≡ 0 = rw len at h in
          let more : position_or_len is_blank (b ∷ bs) ≡ 1 + position_or_len is_blank bs = rw f refl in
          absurd (omega (arith, some, more))
    ]

-- the blanks at a place, and what follows them
pub after_blanks : (all : List ℕ) (at n : ℕ) → n ≡ prefix_len is_blank (drop at all) → words_from at (drop at all) ≡ words_from (at + n) (drop (at + n) all)
after_blanks all at n e = words_from_blanks (drop at all) at ∙ ap (λ (k : ℕ). words_from (at + k) (drop k (drop at all))) (sym e) ∙ ap (words_from (at + n)) (drop-drop n at all)

pub word_here : (all : List ℕ) (at n m : ℕ) → n ≡ prefix_len is_blank (drop at all) → m ≡ position_or_len is_blank (drop (at + n) all) → 0 < m
    → words_from at (drop at all) ≡ record { start = at + n; end = at + n + m; text = take m (drop (at + n) all) } ∷ words_from (at + n + m) (drop (at + n + m) all)
word_here all at n m e d lt =
    let some : 0 < position_or_len is_blank (drop (at + n) all) = omega (arith, d) in
    after_blanks all at n e ∙ words_from_run (drop (at + n) all) (at + n) some
    ∙ ap (λ (k : ℕ). record { start = at + n; end = at + n + k; text = take k (drop (at + n) all) } ∷ words_from (at + n + k) (drop k (drop (at + n) all))) (sym d)
    ∙ ap (λ (rest : List ℕ). record { start = at + n; end = at + n + m; text = take m (drop (at + n) all) } ∷ words_from (at + n + m) rest) (drop-drop m (at + n) all)

pub no_word_here : (all : List ℕ) (at n m : ℕ) → n ≡ prefix_len is_blank (drop at all) → m ≡ position_or_len is_blank (drop (at + n) all) → m ≡ 0
    → (words_from at (drop at all) ≡ []) × (words_from (at + n + m) (drop (at + n + m) all) ≡ [])
no_word_here all at n m e d z =
    let same : drop (prefix_len is_blank (drop at all)) (drop at all) ≡ drop (at + n) all = ap (λ (k : ℕ). drop k (drop at all)) (sym e) ∙ drop-drop n at all in
    let none : position_or_len is_blank (drop (prefix_len is_blank (drop at all)) (drop at all)) ≡ 0 = rw same (sym d ∙ z) in
    let first = no_word (drop at all) at none in
    let here : at + n + m ≡ at + n = omega (arith, z) in
    (first, rw here (sym (after_blanks all at n e) ∙ first))
