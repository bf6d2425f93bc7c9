use Rattle.std.proofs.Common.{length}
use Rattle.spec_model.specs.Spec.{bits_of}
use Rattle.spec_model.specs.Rules.{sender_of}
use Rattle.spec_model.specs.Walks.{puts}
use Rattle.encode_views.proofs.Marks.{IsMarked}
use Rattle.encode_views.proofs.reached.starts.Given as goal

abbrev pub invariant-loop-o : goal.invariant-loop-o
invariant-loop-o l = IsMarked (length l.spec.resources) (puts l.spec (bits_of l.design) (sender_of l.spec l.fn.m.0)) l.o l.bits.items
