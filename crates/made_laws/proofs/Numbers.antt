-- The texts of numbers: a mesh of some side, and words of 32 bits.
use Rattle.std.proofs.Common.{ℕ, ◌*◌, ◌-◌, ◌%◌, ◌/◌, ◌<◌, ◌≤◌, ◌^◌, arith}
use Rattle.std.specs.Int.{rotate_right, w32}
use Rattle.std.proofs.lemmas.Nat.{or_lt}
use Rattle.std.proofs.Math.Nat.{mod-lt, div-le_self}
use Rattle.rand_pcg.specs.Lcg.{Lcg}
use Rattle.rand_pcg.specs.Pcg.{pcg32_of_seed}
use Rattle.rand_core.specs.Pcg32Seed.{pcg32_seed}
use Rattle.genotype.specs.Draws.{after_words}
use Rattle.spec_make.specs.Mesh.{side_of}
use Rattle.spec_make.specs.Made.{word_of, next_of, words_of_seed}
use Rattle.made_laws.specs.Unbroken.{AreOf32Bits, MadeTextIsShort, MadeTextIsReadBack}
use Rattle.made_laws.proofs.Whole.{short_text, read_back}

rotated : (x by : ℕ) → x < 2 ^ 32 → rotate_right w32 x by < 2 ^ 32
rotated x by lt =
    let low = div-le_self x (2 ^ (by % 32)) in
    or_lt 32 (x / 2 ^ (by % 32)) ((x * 2 ^ ((32 - by % 32) % 32)) % 2 ^ 32) (omega (arith, low, lt)) (mod-lt (x * 2 ^ ((32 - by % 32) % 32)) (omega arith))

word_small : (g : Lcg) → word_of g < 2 ^ 32
word_small g = rotated _ _ (mod-lt _ (omega arith))

pub words_small : (number : ℕ) → AreOf32Bits (words_of_seed number)
words_small number k = word_small (after_words next_of k (pcg32_of_seed (pcg32_seed 16 number)))

pub some_side : (number : ℕ) → 2 ≤ side_of number
some_side number = omega arith

pub few_side : (number : ℕ) → side_of number ≤ 5
few_side number = omega arith

pub made_short : MadeTextIsShort
made_short number = short_text (side_of number) (words_of_seed number) (some_side number) (few_side number) (words_small number)

pub made_read : MadeTextIsReadBack
made_read number = read_back (side_of number) (words_of_seed number) (some_side number) (few_side number) (words_small number)
