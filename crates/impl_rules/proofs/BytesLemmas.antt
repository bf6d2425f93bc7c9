-- Bits, and the bytes that hold them.
use Rattle.std.proofs.Common.{◌≡◌, ℕ, zero, suc, Bool, true, false, List, ◌∷◌, set, replicate, refl, ap, ◌∙◌}
use Rattle.std.proofs.lemmas.List.{map-set}
use Rattle.std.specs.Int.{from_bool}
use Rattle.impl_rules.specs.Bytes.{bit_in, bits_in}

pub bits_in-replicate : (n : ℕ) → bits_in (replicate n 0) ≡ replicate n false
bits_in-replicate zero = refl
bits_in-replicate (suc n) = ap (λ bs. false ∷ bs) (bits_in-replicate n)

bit_in_from : (bit : Bool) → bit_in (from_bool bit) ≡ bit
bit_in_from true = refl
bit_in_from false = refl

pub bits_in-set : (bytes : List ℕ) (old : List Bool) (v b : ℕ) (bit : Bool) → b ≡ from_bool bit → bits_in bytes ≡ old → bits_in (set bytes v b) ≡ set old v bit
bits_in-set bytes old v b bit is view =
    map-set bit_in bytes v b ∙ ap (λ x. set (bits_in bytes) v (bit_in x)) is ∙ ap (λ x. set (bits_in bytes) v x) (bit_in_from bit) ∙ ap (λ bs. set bs v bit) view
