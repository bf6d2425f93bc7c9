use Rattle.std.proofs.Common.{◌<◌, ℕ, ◌+◌, List, take, drop, arith, inl, inr, ◌≡◌, true, [], ◌∷◌, zero, suc}
use Rattle.std.proofs.lemmas.Bool.Decides.{nat_tests}
use Rattle.std.specs.List.{list_all}
use Rattle.line_words.specs.Text.{is_content_byte}
use Rattle.std.specs.Str.{IsAscii}
use Rattle.std.proofs.lemmas.Bool.{cases_lt, and_parts}
use Rattle.std.proofs.lemmas.List.{get_or-drop, get_or-take, get_or_past, length-take}

-- a part of ASCII text is ASCII text
pub IsAscii-part : (bs : List ℕ) (at n : ℕ) → IsAscii bs → IsAscii (take n (drop at bs))
IsAscii-part bs at n h i =
    elim (cases_lt i n) [
      | inl lt ↦ rw (get_or-take n (drop at bs) i 0 lt, get_or-drop at bs i 0) (h (at + i))
      | inr le ↦ rw (get_or_past (take n (drop at bs)) i 0 (omega (arith, length-take n (drop at bs)))) (omega arith)
    ]

small_byte : (b : ℕ) → is_content_byte b ≡ true → b < 128
small_byte b h = grind (arith, nat_tests)

-- the bytes of a line before its comment are ASCII text
pub IsAscii-content : (bs : List ℕ) → list_all is_content_byte bs ≡ true → IsAscii bs
IsAscii-content [] h i = omega arith
IsAscii-content (b ∷ bs) h zero = small_byte b (and_parts (is_content_byte b) (list_all is_content_byte bs) h).0
IsAscii-content (b ∷ bs) h (suc i) = IsAscii-content bs (and_parts (is_content_byte b) (list_all is_content_byte bs) h).1 i
