use Rattle.std.proofs.Common.{◌≡◌, ◌++◌, take}
use Rattle.check_run.specs.Texts.{numbers_text}
use Rattle.check_run.proofs.texts.put_numbers.Given as goal

abbrev pub invariant-loop-number : goal.invariant-loop-number
invariant-loop-number l = l.out.items ≡ l.fn.out.items ++ numbers_text (take l.number-index l.numbers)
