use Rattle.spec_model.specs.Spec.{below}
use Rattle.spec_make.specs.Made.{map_lines}
use Rattle.spec_make.proofs.Drawing.{Written}
use Rattle.spec_make.proofs.parts.put_maps.Given as goal

abbrev pub invariant-loop-t : goal.invariant-loop-t
invariant-loop-t g l = Written g.W.Words.gives g.W.Words.after 7 (map_lines l.side) l.fn.words l.fn.text.items (below l.t) l.text.items l.words
