-- A list of bits, kept as bytes 0 and 1.
use Rattle.std.specs.Prelude.{ℕ, ◌<◌, ◌==◌, List, Bool, map}

-- a byte that stands for a bit
abbrev pub IsBit : ℕ → Type 0
IsBit b = b < 2

-- the bit that a byte stands for
abbrev pub bit_in : ℕ → Bool
bit_in b = b == 1

-- the bits that bytes stand for
abbrev pub bits_in : List ℕ → List Bool
bits_in bytes = map bit_in bytes
