use Rattle.spec_model.specs.Spec.{below}
use Rattle.spec_make.specs.Made.{resource_lines}
use Rattle.spec_make.proofs.Drawing.{Written}
use Rattle.spec_make.proofs.parts.put_resources.Given as goal

abbrev pub invariant-loop-i : goal.invariant-loop-i
invariant-loop-i g l = Written g.W.Words.gives g.W.Words.after 1 resource_lines l.fn.words l.fn.text.items (below l.i) l.text.items l.words
