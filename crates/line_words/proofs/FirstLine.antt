-- The first line of a text.
use Rattle.line_words.specs.declared.refusals.Why.TheVariants.{BadByte}
use Rattle.line_words.specs.Rules.{line_fault, has_bad_byte}
use Rattle.std.proofs.Common.{◌≡◌, ℕ, suc, ◌+◌, ◌<◌, Bool, true, false, eqb, List, [], ◌∷◌, length, drop, refl, sym, ap, ◌∙◌, arith, inl, inr, None}
use Rattle.std.specs.List.{position_or_len, onto_first, before_first, list_all, list_any}
use Rattle.std.proofs.lemmas.Bool.{cases_Bool, or_parts}
use Rattle.line_words.specs.Text.{lines, content, is_bad, is_content_byte}
use Rattle.line_words.proofs.Spans.{content_byte}
use Rattle.line_words.specs.Front.{is_lf, ends_content, line_of}
use Rattle.line_words.proofs.Whys.{some, none}

-- no bytes have no lines
pub lines-nil : lines [] ≡ []
unfolding lines
lines-nil = refl

lines_end : (b : ℕ) (bs : List ℕ) → is_lf b ≡ true → lines (b ∷ bs) ≡ [] ∷ lines bs
unfolding lines
lines_end b bs e = rw e refl

lines_byte : (b : ℕ) (bs : List ℕ) → is_lf b ≡ false → lines (b ∷ bs) ≡ onto_first b (lines bs)
unfolding lines
lines_byte b bs e = rw e refl

abbrev line_len : List ℕ → ℕ
line_len bs = position_or_len is_lf bs

-- the first line, and those after its LF
pub lines_first : (bs : List ℕ) → 0 < length bs → lines bs ≡ line_of bs ∷ lines (drop (position_or_len is_lf bs + 1) bs)
lines_first [] h = absurd (omega arith)
lines_first (b ∷ []) h =
    elim (cases_Bool (is_lf b)) [
      | inl t ↦ let n : line_len (b ∷ []) ≡ 0 = rw t refl in rw n (lines_end b [] t)
      | inr f ↦ let n : line_len (b ∷ []) ≡ 1 = rw f refl in rw n (lines_byte b [] f ∙ rw lines-nil refl)
    ]
lines_first (b ∷ c ∷ bs) h =
    elim (cases_Bool (is_lf b)) [
      | inl t ↦ let n : line_len (b ∷ c ∷ bs) ≡ 0 = rw t refl in rw n (lines_end b (c ∷ bs) t)
      | inr f ↦
          let k = line_len (c ∷ bs) in
          let n : line_len (b ∷ c ∷ bs) ≡ suc k = rw f (omega arith) in
          let next : suc k + 1 ≡ suc (k + 1) = omega arith in
          rw (n, next) (lines_byte b (c ∷ bs) f ∙ ap (onto_first b) (lines_first (c ∷ bs) (omega arith)))
    ]

-- ---- what stands before the first byte of a kind

before_first_stop : (p : ℕ → Bool) (b : ℕ) (bs : List ℕ) → p b ≡ true → before_first p (b ∷ bs) ≡ []
before_first_stop p b bs t = let n : position_or_len p (b ∷ bs) ≡ 0 = rw t refl in rw n refl

before_first_more : (p : ℕ → Bool) (b : ℕ) (bs : List ℕ) → p b ≡ false → before_first p (b ∷ bs) ≡ b ∷ before_first p bs
before_first_more p b bs f = let n : position_or_len p (b ∷ bs) ≡ suc (position_or_len p bs) = rw f (omega arith) in rw n refl

abbrev is_hash : ℕ → Bool
is_hash b = eqb b 35

-- up to the first LF or `#` stands the first line without its comment
pub content-line_of : (bs : List ℕ) → content (line_of bs) ≡ before_first ends_content bs
content-line_of [] = refl
content-line_of (b ∷ bs) =
    elim (cases_Bool (is_lf b)) [
      | inl t ↦
          let stop : ends_content b ≡ true = rw t refl in
          ap content (before_first_stop is_lf b bs t) ∙ sym (before_first_stop ends_content b bs stop)
      | inr f ↦
          elim (cases_Bool (is_hash b)) [
            | inl h ↦
                let stop : ends_content b ≡ true = rw (f, h) refl in
                ap content (before_first_more is_lf b bs f) ∙ before_first_stop is_hash b (line_of bs) h ∙ sym (before_first_stop ends_content b bs stop)
            | inr g ↦
                let goes : ends_content b ≡ false = rw (f, g) refl in
                ap content (before_first_more is_lf b bs f) ∙ before_first_more is_hash b (line_of bs) g ∙ ap (λ (t : List ℕ). b ∷ t) (content-line_of bs)
                ∙ sym (before_first_more ends_content b bs goes)
          ]
    ]

-- the length of the first line, from the length of what stands before its comment
pub line_len_parts : (bs : List ℕ) → position_or_len ends_content bs + position_or_len is_lf (drop (position_or_len ends_content bs) bs) ≡ position_or_len is_lf bs
line_len_parts [] = refl
line_len_parts (b ∷ bs) =
    elim (cases_Bool (ends_content b)) [
      | inl t ↦
          let n : position_or_len ends_content (b ∷ bs) ≡ 0 = rw t refl in
          rw n (omega arith)
      | inr f ↦
          let k = position_or_len ends_content bs in
          let n : position_or_len ends_content (b ∷ bs) ≡ suc k = rw f (omega arith) in
          let no_lf : is_lf b ≡ false = elim (cases_Bool (is_lf b)) [
            | inl t ↦ absurd (let c : true ≡ false = rw t at f in cc)
            | inr g ↦ g
          ] in
          let m : position_or_len is_lf (b ∷ bs) ≡ suc (position_or_len is_lf bs) = rw no_lf (omega arith) in
          rw (n, m) (omega (arith, line_len_parts bs))
    ]

-- the bytes before a line's comment, where none is bad
pub content_bytes : (bs : List ℕ) → list_any is_bad (content bs) ≡ false → list_all is_content_byte (content bs) ≡ true
content_bytes [] h = refl
content_bytes (b ∷ bs) h =
    elim (cases_Bool (is_hash b)) [
      | inl t ↦ rw (before_first_stop is_hash b bs t) refl
      | inr f ↦
          let cut : content (b ∷ bs) ≡ b ∷ content bs = before_first_more is_hash b bs f in
          let parts = or_parts (is_bad b) (list_any is_bad (content bs)) (rw cut at h) in
          rw (cut, content_byte b parts.0 f) (content_bytes bs parts.1)
    ]

-- the same of a line that is without fault
pub fine_bytes : (line : List ℕ) → line_fault line ≡ None → list_all is_content_byte (content line) ≡ true
fine_bytes line fine =
    elim (cases_Bool (has_bad_byte line)) [
      | inl t ↦ absurd (let c : line_fault line ≡ some BadByte = rw t refl in let d : some BadByte ≡ none = sym c ∙ fine in cc)
      | inr f ↦ content_bytes line f
    ]
