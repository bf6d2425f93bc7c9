use Rattle.std.proofs.Common.{length}
use Rattle.spec_model.specs.Spec.{bits_of}
use Rattle.encode_views.specs.Reached.{comes_by}
use Rattle.encode_views.proofs.Marks.{IsMarked}
use Rattle.encode_views.proofs.reached.onward.Given as goal

abbrev pub invariant-loop-a : goal.invariant-loop-a
invariant-loop-a l = IsMarked (length l.spec.resources) (comes_by l.spec (bits_of l.design) l.m.0 l.before) l.a l.bits.items
