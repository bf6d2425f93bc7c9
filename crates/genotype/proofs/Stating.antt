-- The statements of a genotype file.
use Rattle.std.proofs.Common.{◌≡◌, ◌≢◌, [], ◌∷◌, length, None, refl}
use Rattle.line_words.specs.Rules.{Words}
use Rattle.genotype.specs.Statements.{stated_of}

pub other_len : (ws : Words) → length ws ≢ 4 → stated_of ws ≡ None
other_len [] a = refl
other_len (k ∷ []) a = refl
other_len (k ∷ v ∷ []) a = refl
other_len (k ∷ v ∷ p ∷ []) a = refl
other_len (k ∷ v ∷ p ∷ b ∷ []) a = absurd (a refl)
other_len (k ∷ v ∷ p ∷ b ∷ x ∷ more) a = refl
