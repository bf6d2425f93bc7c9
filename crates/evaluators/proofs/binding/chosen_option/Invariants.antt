use Rattle.std.proofs.Common.{◌≡◌, None}
use Rattle.std.specs.List.{find}
use Rattle.spec_model.specs.Spec.{bits_of, those}
use Rattle.spec_model.specs.Rules.{of_task}
use Rattle.evaluators.proofs.binding.chosen_option.Given as goal

abbrev pub invariant-loop-o : goal.invariant-loop-o
invariant-loop-o l = find (bits_of l.design) (those (of_task l.spec l.t.0) l.o) ≡ None
