-- A line that is written count by count.
use Rattle.std.proofs.Common.{◌≡◌, ◌∙◌, ◌++◌, ◌∷◌, [], ℕ, List, ap, append_assoc}
use Rattle.std.specs.Prelude.{decimal}

-- one more count, of what has that many
pub counted : (now next what : List ℕ) (n m : ℕ) → next ≡ now ++ 32 ∷ (what ++ 32 ∷ decimal n) → n ≡ m → next ≡ now ++ 32 ∷ (what ++ 32 ∷ decimal m)
counted now next what n m e q = e ∙ ap (λ (k : ℕ). now ++ 32 ∷ (what ++ 32 ∷ decimal k)) q

behind : (x y part old : List ℕ) → y ≡ x ++ part → x ≡ old → y ≡ old ++ part
behind x y part old e q = e ∙ ap (λ (t : List ℕ). t ++ part) q

-- a line of seven parts
pub line_of_seven : (old a b c d e f g x1 x2 x3 x4 x5 x6 x7 last : List ℕ)
    → x1 ≡ old ++ a → x2 ≡ x1 ++ b → x3 ≡ x2 ++ c → x4 ≡ x3 ++ d → x5 ≡ x4 ++ e → x6 ≡ x5 ++ f → x7 ≡ x6 ++ g → last ≡ x7 ++ 10 ∷ []
    → last ≡ old ++ ((a ++ (b ++ (c ++ (d ++ (e ++ (f ++ g)))))) ++ 10 ∷ [])
line_of_seven old a b c d e f g x1 x2 x3 x4 x5 x6 x7 last h1 h2 h3 h4 h5 h6 h7 h =
    let y2 = behind x1 x2 b (old ++ a) h2 h1 in
    let y3 = behind x2 x3 c ((old ++ a) ++ b) h3 y2 in
    let y4 = behind x3 x4 d (((old ++ a) ++ b) ++ c) h4 y3 in
    let y5 = behind x4 x5 e ((((old ++ a) ++ b) ++ c) ++ d) h5 y4 in
    let y6 = behind x5 x6 f (((((old ++ a) ++ b) ++ c) ++ d) ++ e) h6 y5 in
    let y7 = behind x6 x7 g ((((((old ++ a) ++ b) ++ c) ++ d) ++ e) ++ f) h7 y6 in
    let all : x7 ≡ old ++ (a ++ (b ++ (c ++ (d ++ (e ++ (f ++ g)))))) =
    y7 ∙ (append_assoc (((((old ++ a) ++ b) ++ c) ++ d) ++ e) f g
    ∙ (append_assoc ((((old ++ a) ++ b) ++ c) ++ d) e (f ++ g)
    ∙ (append_assoc (((old ++ a) ++ b) ++ c) d (e ++ (f ++ g))
    ∙ (append_assoc ((old ++ a) ++ b) c (d ++ (e ++ (f ++ g)))
    ∙ (append_assoc (old ++ a) b (c ++ (d ++ (e ++ (f ++ g)))) ∙ append_assoc old a (b ++ (c ++ (d ++ (e ++ (f ++ g))))))))))
    in behind x7 last (10 ∷ []) (old ++ (a ++ (b ++ (c ++ (d ++ (e ++ (f ++ g))))))) h all ∙ append_assoc old (a ++ (b ++ (c ++ (d ++ (e ++ (f ++ g)))))) (10 ∷ [])
