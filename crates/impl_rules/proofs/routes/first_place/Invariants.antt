use Rattle.spec_model.specs.Spec.{bits_of}
use Rattle.impl_rules.specs.Least.{AllBelow}
use Rattle.impl_rules.specs.Routes.{MeetsAt}
use Rattle.impl_rules.proofs.routes.first_place.Given as goal

abbrev pub invariant-loop-place : goal.invariant-loop-place
invariant-loop-place l = AllBelow (MeetsAt l.spec (bits_of l.design) l.rule l.m.0) l.place
