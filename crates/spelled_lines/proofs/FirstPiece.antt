-- The first line of a text, with its LF.
use Rattle.std.proofs.Common.{◌≡◌, ℕ, zero, suc, ◌+◌, ◌<◌, ◌≤◌, true, false, List, [], ◌∷◌, ◌++◌, length, take, drop, refl, sym, ap, ◌∙◌, arith, inl, inr}
use Rattle.std.specs.List.{position_or_len, onto_first, list_any}
use Rattle.std.specs.Str.{IsAscii, IsUtf8}
use Rattle.std.proofs.lemmas.Bool.{cases_Bool, or_parts}
use Rattle.std.proofs.lemmas.Bool.Decides.{nat_tests}
use Rattle.std.proofs.lemmas.Str.{IsUtf8-from_ascii}
use Rattle.line_words.specs.Front.{is_lf}
use Rattle.line_words.proofs.Ascii.{IsAscii-part}
use Rattle.spelled_lines.specs.Lines.{pieces, is_bad}

-- no bytes have no pieces
pub pieces-nil : pieces [] ≡ []
unfolding pieces
pieces-nil = refl

-- an LF in front is a piece
pub pieces_end : (b : ℕ) (bs : List ℕ) → is_lf b ≡ true → pieces (b ∷ bs) ≡ (b ∷ []) ∷ pieces bs
unfolding pieces
pieces_end b bs e = rw e refl

-- another byte in front belongs to the first piece
pub pieces_byte : (b : ℕ) (bs : List ℕ) → is_lf b ≡ false → pieces (b ∷ bs) ≡ onto_first b (pieces bs)
unfolding pieces
pieces_byte b bs e = rw e refl

abbrev before_lf : List ℕ → ℕ
before_lf bs = position_or_len is_lf bs

-- the first piece with its LF, and what follows it
pub pieces_first : (bs : List ℕ) → position_or_len is_lf bs < length bs → pieces bs ≡ take (position_or_len is_lf bs + 1) bs ∷ pieces (drop (position_or_len is_lf bs + 1) bs)
pieces_first [] h = absurd (omega arith)
pieces_first (b ∷ bs) h =
    elim (cases_Bool (is_lf b)) [
      | inl t ↦ let n : before_lf (b ∷ bs) ≡ 0 = rw t refl in rw n (pieces_end b bs t)
      | inr f ↦
          let k = before_lf bs in
          let n : before_lf (b ∷ bs) ≡ suc k = rw f (omega arith) in
          let lt : position_or_len is_lf bs < length bs = omega (arith, h, n) in
          let next : suc k + 1 ≡ suc (k + 1) = omega arith in
          rw (n, next) (pieces_byte b bs f ∙ ap (onto_first b) (pieces_first bs lt))
    ]

-- a text without LF is one piece
pub pieces_last : (bs : List ℕ) → 0 < length bs → length bs ≤ position_or_len is_lf bs → pieces bs ≡ bs ∷ pieces []
pieces_last [] h ge = absurd (omega (arith, h))
pieces_last (b ∷ []) h ge =
    elim (cases_Bool (is_lf b)) [
      | inl t ↦ absurd (let n : before_lf (b ∷ []) ≡ 0 = rw t refl in omega (arith, n, ge))
      | inr f ↦ pieces_byte b [] f ∙ rw pieces-nil refl
    ]
pieces_last (b ∷ c ∷ bs) h ge =
    elim (cases_Bool (is_lf b)) [
      | inl t ↦ absurd (let n : before_lf (b ∷ c ∷ bs) ≡ 0 = rw t refl in omega (arith, n, ge))
      | inr f ↦
          let n : before_lf (b ∷ c ∷ bs) ≡ suc (before_lf (c ∷ bs)) = rw f (omega arith) in
          pieces_byte b (c ∷ bs) f ∙ ap (onto_first b) (pieces_last (c ∷ bs) (omega arith) (omega (arith, n, ge)))
    ]

-- a text that ends with LF, and more
pub pieces-append : (xs ys : List ℕ) → pieces (xs ++ 10 ∷ ys) ≡ pieces (xs ++ 10 ∷ []) ++ pieces ys
pieces-append [] ys =
    let alone : pieces (10 ∷ []) ≡ (10 ∷ []) ∷ [] = pieces_end 10 [] refl ∙ rw pieces-nil refl in
    pieces_end 10 ys refl ∙ ap (λ (ps : List (List ℕ)). ps ++ pieces ys) (sym alone)
pieces-append (b ∷ xs) ys =
    elim (cases_Bool (is_lf b)) [
      | inl t ↦
          pieces_end b (xs ++ 10 ∷ ys) t ∙ ap (λ (ps : List (List ℕ)). (b ∷ []) ∷ ps) (pieces-append xs ys)
          ∙ ap (λ (ps : List (List ℕ)). ps ++ pieces ys) (sym (pieces_end b (xs ++ 10 ∷ []) t))
      | inr f ↦
          pieces_byte b (xs ++ 10 ∷ ys) f ∙ ap (onto_first b) (pieces-append xs ys)
          ∙ onto-append b (pieces (xs ++ 10 ∷ [])) (pieces ys) (some_piece xs)
          ∙ ap (λ (ps : List (List ℕ)). ps ++ pieces ys) (sym (pieces_byte b (xs ++ 10 ∷ []) f))
    ]
  where
    onto-append : (b : ℕ) (ps qs : List (List ℕ)) → 0 < length ps → onto_first b (ps ++ qs) ≡ onto_first b ps ++ qs
    onto-append b [] qs lt = absurd (omega (arith, lt))
    onto-append b (p ∷ ps) qs lt = refl

    long : (b : ℕ) (ps : List (List ℕ)) → 0 < length (onto_first b ps)
    long b [] = omega arith
    long b (p ∷ ps) = omega arith

    some_piece : (xs : List ℕ) → 0 < length (pieces (xs ++ 10 ∷ []))
    some_piece [] = rw (pieces_end 10 [] refl) (omega arith)
    some_piece (b ∷ xs) =
        elim (cases_Bool (is_lf b)) [
          | inl t ↦ rw (pieces_end b (xs ++ 10 ∷ []) t) (omega arith)
          | inr f ↦ rw (pieces_byte b (xs ++ 10 ∷ []) f) (long b (pieces (xs ++ 10 ∷ [])))
        ]

-- ---- the bytes of a line without fault are ASCII text

small_byte : (b : ℕ) → is_bad b ≡ false → b < 128
small_byte b h = grind (arith, nat_tests)

IsAscii-fine : (bs : List ℕ) → list_any is_bad bs ≡ false → IsAscii bs
IsAscii-fine [] h i = omega arith
IsAscii-fine (b ∷ bs) h zero = small_byte b (or_parts (is_bad b) (list_any is_bad bs) h).0
IsAscii-fine (b ∷ bs) h (suc i) = IsAscii-fine bs (or_parts (is_bad b) (list_any is_bad bs) h).1 i

pub IsUtf8-front : (bs : List ℕ) (n : ℕ) → list_any is_bad bs ≡ false → IsUtf8 (take n bs)
IsUtf8-front bs n h = IsUtf8-from_ascii (take n bs) (IsAscii-part bs 0 n (IsAscii-fine bs h))
