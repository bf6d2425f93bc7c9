-- Tests and numbers over words, and over the texts that hold them.
use Rattle.std.proofs.Common.{◌≡◌, ℕ, Bool, ◌||◌, List, [], ◌∷◌, refl, ap, Bor}
use Rattle.std.specs.List.{list_any}
use Rattle.line_words.specs.Rules.{said}

-- a test of some word, of lent words
pub any_said : (p : List ℕ → Bool) (ws : List (Bor (List ℕ))) → list_any p (said ws) ≡ list_any (λ w. p w.now) ws
any_said p [] = refl
any_said p (w ∷ ws) = ap (λ (b : Bool). p w.now || b) (any_said p ws)
