use Rattle.std.proofs.Common.{◌≡◌, ℕ, ◌<◌, false}
use Rattle.spec_model.specs.Spec.{arc_at}
use Rattle.result_text.specs.Stating.{is_arc_of}
use Rattle.result_text.proofs.items.find_arc.Given as goal

-- none of the arcs so far is the one
abbrev pub invariant-loop-a : goal.invariant-loop-a
invariant-loop-a l = (k : ℕ) → k < l.a → is_arc_of l.link.0 l.tail.0 l.head.0 (arc_at l.spec k) ≡ false
