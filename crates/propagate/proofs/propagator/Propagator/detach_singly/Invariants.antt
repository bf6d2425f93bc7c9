use Rattle.std.proofs.Common.{◌≡◌, take}
use Rattle.propagate.specs.Attached.{Drops}
use Rattle.propagate.proofs.propagator.Propagator.detach_singly.Given as goal

abbrev pub invariant-loop-c : goal.invariant-loop-c
invariant-loop-c l = record {
  drops : Drops (take l.c-index l.dropped) l.fn.self.attached l.self.attached;
  same : l.self ≡ record l.fn.self { attached = l.self.attached };
}
