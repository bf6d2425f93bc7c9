use Rattle.std.proofs.Common.{◌≡◌, ◌-◌, ◌≤◌, ◌++◌, map, length}
use Rattle.std.specs.List.{range_with_len}
use Rattle.genotype.specs.Placing.{other_literal}
use Rattle.genotype.proofs.ordering.add_others.Given as goal

abbrev pub invariant-loop-var : goal.invariant-loop-var
invariant-loop-var l =
    (l.literals.items ≡ l.fn.literals.items ++ map other_literal (range_with_len (length l.fn.literals.items) (l.var - length l.fn.literals.items))) × (length l.fn.literals.items ≤ l.var)
