-- A reason that is there or not, and tests that hold together.
use Rattle.std.proofs.Common.{◌≡◌, Bool, true, false, ◌||◌, Option, Some, None}
use Rattle.line_words.specs.declared.refusals.Why.{Why}

abbrev pub some : Why → Option Why
some w = Some w

abbrev pub none : Option Why
none = None

pub some_is : (x y : Why) → some x ≡ some y → x ≡ y
some_is x y e = cc

pub other : (a b : Bool) → (a || b) ≡ true → a ≡ false → b ≡ true
other true b h f = absurd cc
other false b h f = h
