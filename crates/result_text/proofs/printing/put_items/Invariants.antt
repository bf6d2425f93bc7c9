use Rattle.std.proofs.Common.{◌≡◌, ◌++◌}
use Rattle.spec_model.specs.Spec.{bits_of}
use Rattle.result_text.specs.Spelling.{items_text}
use Rattle.result_text.proofs.printing.put_items.Given as goal

abbrev pub invariant-loop-v : goal.invariant-loop-v
invariant-loop-v l = l.text.items ≡ l.fn.text.items ++ items_text l.spec (bits_of l.design) l.v
