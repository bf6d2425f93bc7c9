use Rattle.spec_model.specs.Spec.{bits_of}
use Rattle.impl_rules.specs.Least.{AllPairsBelow}
use Rattle.impl_rules.specs.Routes.{MeetsAt, places}
use Rattle.impl_rules.proofs.routes.first_message.Given as goal

abbrev pub invariant-loop-m : goal.invariant-loop-m
invariant-loop-m l = AllPairsBelow (MeetsAt l.spec (bits_of l.design) l.rule) l.m (places l.spec l.rule)
