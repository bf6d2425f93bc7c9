-- Words that begin with `@`.
use Rattle.std.proofs.Common.{◌≡◌, ℕ, true, List, [], ◌∷◌, drop, ap}
use Rattle.std.proofs.lemmas.Bool.{false≢true, eqb-true}
use Rattle.tgff_reader.specs.Words.{is_at}

-- a word that begins with `@` is that byte and the rest
pub at_and_rest : (w : List ℕ) → is_at w ≡ true → w ≡ 64 ∷ drop 1 w
at_and_rest [] h = absurd (false≢true h)
at_and_rest (b ∷ bs) h = ap (λ (x : ℕ). x ∷ bs) (eqb-true b 64 h)
