use Rattle.std.proofs.Common.{ap, subst}
use Rattle.spec_model.specs.Spec.{SpecValue}
use Rattle.spec_model.specs.WellFormed.{IsWellFormed}
use Rattle.spec_graph.proofs.Reading.{option_read}
use Rattle.spec_graph.proofs.spec.Spec.option.Goals as goal

pub returns-clause-task_there : goal.returns-clause-task_there
returns-clause-task_there c =
    (option_read c.args.self.now c.self.inside.held.options c.args.o.0 c.at.result (subst IsWellFormed c.self.view_is c.self.invariant.well_formed)
    (ap (λ (s : SpecValue). s.options) c.self.view_is) c.requires c.at.ensures).task

pub returns-clause-resource_there : goal.returns-clause-resource_there
returns-clause-resource_there c =
    (option_read c.args.self.now c.self.inside.held.options c.args.o.0 c.at.result (subst IsWellFormed c.self.view_is c.self.invariant.well_formed)
    (ap (λ (s : SpecValue). s.options) c.self.view_is) c.requires c.at.ensures).resource

pub returns-clause-small : goal.returns-clause-small
returns-clause-small c =
    (option_read c.args.self.now c.self.inside.held.options c.args.o.0 c.at.result (subst IsWellFormed c.self.view_is c.self.invariant.well_formed)
    (ap (λ (s : SpecValue). s.options) c.self.view_is) c.requires c.at.ensures).time
