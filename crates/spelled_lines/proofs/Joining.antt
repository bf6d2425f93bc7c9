-- Words joined one by one.
use Rattle.std.proofs.Common.{◌≡◌, ℕ, ◌+◌, ◌<◌, List, [], ◌∷◌, ◌++◌, length, take, map, get_or, refl, sym, ap, ◌∙◌, append_assoc}
use Rattle.std.specs.List.{join_with_byte}
use Rattle.std.proofs.lemmas.List.{take_more, map_push}
use Rattle.line_words.specs.Rules.{Words}

pub join_push : (w : List ℕ) (ws : Words) (x : List ℕ) → join_with_byte 32 (w ∷ (ws ++ x ∷ [])) ≡ join_with_byte 32 (w ∷ ws) ++ 32 ∷ x
join_push w [] x = refl
join_push w (v ∷ ws) x =
    ap (λ (t : List ℕ). w ++ 32 ∷ t) (join_push v ws x) ∙ sym (append_assoc w (32 ∷ join_with_byte 32 (v ∷ ws)) (32 ∷ x))

-- one more word is written after some text
pub joined_more : (first old now next : List ℕ) (front : Words) (x : List ℕ) → now ≡ old ++ join_with_byte 32 (first ∷ front) → next ≡ now ++ 32 ∷ x
    → next ≡ old ++ join_with_byte 32 (first ∷ (front ++ x ∷ []))
joined_more first old now next front x so_far push =
    push ∙ ap (λ (t : List ℕ). t ++ 32 ∷ x) so_far ∙ append_assoc old (join_with_byte 32 (first ∷ front)) (32 ∷ x)
    ∙ ap (λ (t : List ℕ). old ++ t) (sym (join_push first front x))

-- the same of the word of an element
pub word_more : {X : Type 0} (word : X → List ℕ) (first old now next : List ℕ) (xs : List X) (i : ℕ) (d x : X) → now ≡ old ++ join_with_byte 32 (first ∷ map word (take i xs))
    → next ≡ now ++ 32 ∷ word x → get_or xs i d ≡ x → i < length xs
    → next ≡ old ++ join_with_byte 32 (first ∷ map word (take (i + 1) xs))
word_more word first old now next xs i d x so_far push is lt =
    let front = map word (take i xs) in
    let more : map word (take (i + 1) xs) ≡ front ++ word x ∷ [] =
    ap (map word) (take_more xs i d lt) ∙ map_push word (take i xs) (get_or xs i d) ∙ ap (λ (y : _). front ++ word y ∷ []) is in
    joined_more first old now next front (word x) so_far push ∙ ap (λ (ws : Words). old ++ join_with_byte 32 (first ∷ ws)) (sym more)
