-- The words of a line, collected one by one into a list of texts.
use Rattle.std.proofs.Common.{◌≡◌, ℕ, List, [], ◌∷◌, ◌++◌, map, sym, ap, ◌∙◌, append_assoc, Bor}
use Rattle.std.proofs.lemmas.List.{append-nil, map_push}
use Rattle.line_words.specs.Text.{Piece}
use Rattle.line_words.specs.Rules.{Words, texts, said}

-- one more word is collected: `next` gave it, and `left` are the words after it
pub collected_more : (done : List (Bor (List ℕ))) (word : Bor (List ℕ)) (before left : List Piece) (w : Piece) (all : Words)
    → said done ++ texts before ≡ all → before ≡ w ∷ left → w.text ≡ word.now → said (done ++ word ∷ []) ++ texts left ≡ all
collected_more done word before left w all so_far first is =
    ap (λ (front : Words). front ++ texts left) (map_push (λ (w : Bor (List ℕ)). w.now) done word)
    ∙ append_assoc (said done) (word.now ∷ []) (texts left)
    ∙ ap (λ (t : List ℕ). said done ++ t ∷ texts left) (sym is)
    ∙ ap (λ (ws : List Piece). said done ++ texts ws) (sym first)
    ∙ so_far

-- no word is left
pub collected_all : (done : List (Bor (List ℕ))) (before : List Piece) (all : Words) → said done ++ texts before ≡ all → before ≡ [] → said done ≡ all
collected_all done before all so_far none = sym (append-nil (said done)) ∙ ap (λ (ws : List Piece). said done ++ texts ws) (sym none) ∙ so_far
