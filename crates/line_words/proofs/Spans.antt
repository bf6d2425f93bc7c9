-- The words of a line have rising spans, and their texts are the slices of it.
use Rattle.std.proofs.Common.{◌≡◌, ℕ, suc, ◌+◌, ◌-◌, ◌<◌, ◌≤◌, inl, inr, true, false, eqb, List, [], ◌∷◌, length, take, drop, get_or, refl, sym, ap, subst, ◌∙◌, arith}
use Rattle.std.specs.List.{slice_range, list_all}
use Rattle.std.proofs.lemmas.Bool.{cases_Bool, cases_lt, eqb-true, eqb-false, and_parts}
use Rattle.std.proofs.lemmas.Bool.Decides.{nat_tests}
use Rattle.std.proofs.lemmas.List.{drop_more, length-drop}
use Rattle.line_words.specs.Text.{is_blank, Piece, byte_word, onto_word, words_from, words_in, AreSpans, is_bad, is_word_byte, is_content_byte, ArePlain}
use Rattle.line_words.specs.Front.{has_word}
use Rattle.line_words.proofs.Runs.{words_from-nil, words_from-blank, words_from_byte}
use Rattle.line_words.proofs.Whys.{other}

AreSpans-earlier : (source : List ℕ) (place later : ℕ) (ws : List Piece) → place ≤ later → AreSpans source later ws → AreSpans source place ws
AreSpans-earlier source place later [] le h = tt
AreSpans-earlier source place later (w ∷ ws) le h =
    (record { starts = omega (arith, le, h.0.starts); some = h.0.some; within = h.0.within; text_is = h.0.text_is }, h.1)

-- a slice that begins one byte earlier
slice_earlier : (source : List ℕ) (place end b : ℕ) → place < length source → place + 1 ≤ end → get_or source place 0 ≡ b
    → b ∷ slice_range source (place + 1) end ≡ slice_range source place end
slice_earlier source place end b lt le is =
    let rest = drop (place + 1) source in
    let n : end - place ≡ suc (end - (place + 1)) = omega (arith, le) in
    let here : drop place source ≡ b ∷ rest = drop_more source place 0 lt ∙ ap (λ (x : ℕ). x ∷ rest) is in
    sym (ap (λ (k : ℕ). take k (drop place source)) n ∙ ap (take (suc (end - (place + 1)))) here)

slice_none : (source : List ℕ) (place : ℕ) → slice_range source place place ≡ []
slice_none source place =
    let n : place - place ≡ 0 = omega arith in
    ap (λ (k : ℕ). take k (drop place source)) n

-- a word of one byte, and words that start later
byte_spans : (source : List ℕ) (place b : ℕ) (ws : List Piece) → place < length source → get_or source place 0 ≡ b → AreSpans source (place + 1 + 1) ws → AreSpans source place (byte_word place b ∷ ws)
byte_spans source place b ws lt is h = (
  record {
    starts = omega arith;
    some = omega arith;
    within = omega (arith, lt);
    text_is = ap (λ (t : List ℕ). b ∷ t) (sym (slice_none source (place + 1))) ∙ slice_earlier source place (place + 1) b lt (omega arith) is;
  },
  h,
)

onto_spans : (source : List ℕ) (place b : ℕ) (ws : List Piece) → place < length source → get_or source place 0 ≡ b → AreSpans source (place + 1) ws → AreSpans source place (onto_word place b ws)
onto_spans source place b [] lt is h = byte_spans source place b [] lt is tt
onto_spans source place b (w ∷ ws) lt is h =
    elim (cases_Bool (eqb w.start (place + 1))) [
      | inl t ↦
          let starts : w.start ≡ place + 1 = eqb-true w.start (place + 1) t in
          let text : w.text ≡ slice_range source (place + 1) w.end = h.0.text_is ∙ ap (λ (k : ℕ). slice_range source k w.end) starts in
          rw t (
            record {
              starts = omega arith;
              some = omega (arith, starts, h.0.some);
              within = h.0.within;
              text_is = ap (λ (x : List ℕ). b ∷ x) text ∙ slice_earlier source place w.end b lt (omega (arith, starts, h.0.some)) is;
            },
            h.1,
          )
      | inr f ↦
          let later : place + 1 + 1 ≤ w.start = elim (cases_lt (place + 1) w.start) [
            | inl lt ↦ omega (arith, lt)
            | inr le ↦ absurd (eqb-false w.start (place + 1) f (omega (arith, le, h.0.starts)))
          ] in
          rw f (byte_spans source place b (w ∷ ws) lt is (record { starts = later; some = h.0.some; within = h.0.within; text_is = h.0.text_is }, h.1))
    ]

words_from_spans : (source : List ℕ) (place : ℕ) (bs : List ℕ) → drop place source ≡ bs → AreSpans source place (words_from place bs)
words_from_spans source place [] e = rw words_from-nil tt
words_from_spans source place (b ∷ bs) e =
    let lt : place < length source = omega (arith, ap length e, length-drop place source) in
    let cut : b ∷ bs ≡ get_or source place 0 ∷ drop (place + 1) source = sym e ∙ drop_more source place 0 lt in
    let is : get_or source place 0 ≡ b = cc in
    let rest : drop (place + 1) source ≡ bs = cc in
    let more = words_from_spans source (place + 1) bs rest in
    elim (cases_Bool (is_blank b)) [
      | inl t ↦ subst (AreSpans source place) (sym (words_from-blank place b bs t)) (AreSpans-earlier source place (place + 1) (words_from (place + 1) bs) (omega arith) more)
      | inr f ↦ subst (AreSpans source place) (sym (words_from_byte place b bs f)) (onto_spans source place b (words_from (place + 1) bs) lt is more)
    ]

-- the words of a line
pub words_in_spans : (source : List ℕ) → AreSpans source 0 (words_in source)
words_in_spans source = words_from_spans source 0 source refl

-- ---- whether there is a word

onto_word_some : (place b : ℕ) (ws : List Piece) → 0 < length (onto_word place b ws)
onto_word_some place b [] = omega arith
onto_word_some place b (w ∷ ws) = elim (cases_Bool (eqb w.start (place + 1))) [ inl t ↦ rw t (omega arith) | inr f ↦ rw f (omega arith) ]

pub words_from_no_word : (bs : List ℕ) (place : ℕ) → has_word bs ≡ false → words_from place bs ≡ []
words_from_no_word [] place h = words_from-nil place
words_from_no_word (b ∷ bs) place h =
    elim (cases_Bool (is_blank b)) [
      | inl t ↦ words_from-blank place b bs t ∙ words_from_no_word bs (place + 1) (rw t at h)
      | inr f ↦ absurd (let c : true ≡ false = rw f at h in cc)
    ]

pub words_from_some_word : (bs : List ℕ) (place : ℕ) → has_word bs ≡ true → 0 < length (words_from place bs)
words_from_some_word [] place h = absurd cc
words_from_some_word (b ∷ bs) place h =
    elim (cases_Bool (is_blank b)) [
      | inl t ↦ rw (words_from-blank place b bs t) (words_from_some_word bs (place + 1) (rw t at h))
      | inr f ↦ rw (words_from_byte place b bs f) (onto_word_some place b (words_from (place + 1) bs))
    ]

-- ---- the bytes of words

-- a byte that may stand in a line, and isn't blank and no `#`
pub content_byte : (b : ℕ) → is_bad b ≡ false → eqb b 35 ≡ false → is_content_byte b ≡ true
content_byte b fine f = grind (arith, nat_tests)

onto_plain : (place b : ℕ) (ws : List Piece) → is_word_byte b ≡ true → ArePlain ws → ArePlain (onto_word place b ws)
onto_plain place b [] t h = (rw t refl, tt)
onto_plain place b (w ∷ ws) t h =
    elim (cases_Bool (eqb w.start (place + 1))) [
      | inl s ↦ rw s (rw (t, h.0) refl, h.1)
      | inr s ↦ rw s (rw t refl, h)
    ]

pub words_from_plain : (bs : List ℕ) (place : ℕ) → list_all is_content_byte bs ≡ true → ArePlain (words_from place bs)
words_from_plain [] place h = rw words_from-nil tt
words_from_plain (b ∷ bs) place h =
    let parts = and_parts (is_content_byte b) (list_all is_content_byte bs) h in
    let more = words_from_plain bs (place + 1) parts.1 in
    elim (cases_Bool (is_blank b)) [
      | inl t ↦ subst ArePlain (sym (words_from-blank place b bs t)) more
      | inr f ↦ subst ArePlain (sym (words_from_byte place b bs f)) (onto_plain place b (words_from (place + 1) bs) (other (is_blank b) (is_word_byte b) parts.0 f) more)
    ]
