use Rattle.spec_model.specs.Spec.{bits_of}
use Rattle.impl_rules.specs.Least.{AllBelow}
use Rattle.impl_rules.proofs.Searches.{LinksNot}
use Rattle.impl_rules.proofs.allocation.is_link_needed.Given as goal

abbrev pub invariant-loop-a : goal.invariant-loop-a
invariant-loop-a l = AllBelow (LinksNot l.spec (bits_of l.design) l.l.0) l.a
