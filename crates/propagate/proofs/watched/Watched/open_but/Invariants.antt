use Rattle.std.proofs.Common.{take}
use Rattle.propagate.specs.Watched.{AreFalseBut}
use Rattle.trail_state.specs.Trail.{value_in}
use Rattle.propagate.proofs.watched.Watched.open_but.Given as goal

abbrev pub invariant-loop-t : goal.invariant-loop-t
invariant-loop-t l = AreFalseBut (value_in l.trail.entries) l.other (take l.t-index l.t-items)
