use Rattle.std.proofs.Common.{◌<◌, length}
use Rattle.spec_model.specs.Spec.{bits_of}
use Rattle.spec_model.proofs.Back.{IsBack}
use Rattle.impl_rules.proofs.walks.has_walk.Given as goal

abbrev pub invariant-loop-hop : goal.invariant-loop-hop
invariant-loop-hop l = (l.at.0 < length l.spec.resources) × IsBack l.spec (bits_of l.design) l.m.0 l.fn.to.0 l.at.0 l._hop
