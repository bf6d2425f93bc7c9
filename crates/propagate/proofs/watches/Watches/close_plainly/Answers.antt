use Rattle.std.proofs.Common.{◌∙◌}
use Rattle.propagate.specs.Watches.{watched_in}
use Rattle.propagate.proofs.Appending.{Appends-trans}
use Rattle.propagate.proofs.watches.Watches.close_plainly.Goals as goal

pub returns-in-Some-clause-appends : goal.returns-in-Some-clause-appends
returns-in-Some-clause-appends c = Appends-trans (watched_in c.args.self.now) c.args.trail.now.entries c.passing.trail.entries c.look_through_all.new.trail.entries c.passing.invariant.appends
    c.look_through_all.ensures.appends

pub passing-preserved : goal.passing-preserved
passing-preserved c = record {
  variables = c.look_through_all.ensures.variables ∙ c.passing.invariant.variables;
  appends = Appends-trans (watched_in c.args.self.now) c.args.trail.now.entries c.passing.trail.entries c.look_through_all.new.trail.entries c.passing.invariant.appends
      c.look_through_all.ensures.appends;
}
