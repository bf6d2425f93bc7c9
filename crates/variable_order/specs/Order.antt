-- An order of variables.
use Rattle.std.specs.Prelude.{ℕ, List, length, map}
use Rattle.std.specs.List.{range_with_len}
use Rattle.std.specs.List.Sorted.{IsPermutation}
use Rattle.pb_rules.specs.Literal.{Literal}

-- the variable of a literal
abbrev pub var_of : Literal → ℕ
var_of l = l.var

-- the variables of an order are those below its length, each once
abbrev pub IsOrder : List Literal → Type 0
IsOrder order = IsPermutation (range_with_len 0 (length order)) (map var_of order)
