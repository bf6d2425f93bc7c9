use Rattle.std.proofs.Common.{◌<◌, length}
use Rattle.spec_model.specs.Spec.{bits_of}
use Rattle.spec_model.proofs.Back.{IsBack}
use Rattle.evaluators.proofs.walks.walk_length.Given as goal

abbrev pub invariant-loop-hops : goal.invariant-loop-hops
invariant-loop-hops l = (l.at.0 < length l.spec.resources) × IsBack l.spec (bits_of l.design) l.m.0 l.fn.to.0 l.at.0 l.hops
