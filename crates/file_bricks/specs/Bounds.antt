-- The bounds of the numbers that are read.
use Rattle.std.specs.Prelude.{ℤ, pos, negsuc, ◌-◌, ◌<ℤ◌}
use Rattle.line_words.specs.Decimal.{most}

-- a decimal below 10 ^ 15 of either sign, in units of 10 ^ -12
pub record IsAmount (v : ℤ) : Type 0 where
  pub above : negsuc (most - 1) <ℤ v
  pub below : v <ℤ pos most
