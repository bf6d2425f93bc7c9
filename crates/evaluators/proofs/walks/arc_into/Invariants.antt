use Rattle.spec_model.specs.Spec.{bits_of}
use Rattle.impl_rules.specs.Least.{AllBelow}
use Rattle.impl_rules.specs.Routes.{EntersNot}
use Rattle.evaluators.proofs.walks.arc_into.Given as goal

abbrev pub invariant-loop-a : goal.invariant-loop-a
invariant-loop-a l = AllBelow (EntersNot l.spec (bits_of l.design) l.m.0 l.r.0) l.a
