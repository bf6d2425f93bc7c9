use Rattle.std.proofs.Common.{ap, subst}
use Rattle.spec_model.specs.Spec.{SpecValue}
use Rattle.spec_model.specs.WellFormed.{IsWellFormed}
use Rattle.spec_graph.proofs.Reading.{arc_read}
use Rattle.spec_graph.proofs.spec.Spec.arc.Goals as goal

pub returns-clause-link_there : goal.returns-clause-link_there
returns-clause-link_there c =
    (arc_read c.args.self.now c.self.inside.held.arcs.items c.args.a.0 c.index.result.now (subst IsWellFormed c.self.view_is c.self.invariant.well_formed)
    (ap (λ (s : SpecValue). s.arcs) c.self.view_is) c.requires c.index.ensures).link

pub returns-clause-tail_there : goal.returns-clause-tail_there
returns-clause-tail_there c =
    (arc_read c.args.self.now c.self.inside.held.arcs.items c.args.a.0 c.index.result.now (subst IsWellFormed c.self.view_is c.self.invariant.well_formed)
    (ap (λ (s : SpecValue). s.arcs) c.self.view_is) c.requires c.index.ensures).tail

pub returns-clause-head_there : goal.returns-clause-head_there
returns-clause-head_there c =
    (arc_read c.args.self.now c.self.inside.held.arcs.items c.args.a.0 c.index.result.now (subst IsWellFormed c.self.view_is c.self.invariant.well_formed)
    (ap (λ (s : SpecValue). s.arcs) c.self.view_is) c.requires c.index.ensures).head
