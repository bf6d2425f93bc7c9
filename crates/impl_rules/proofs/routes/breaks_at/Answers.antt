use Rattle.std.proofs.Common.{arith, nat_lt}
use Rattle.std.proofs.lemmas.Bool.{OnTrue_from}
use Rattle.spec_model.specs.Spec.{bits_of}
use Rattle.spec_model.specs.Rules.{IsCrowded}
use Rattle.impl_rules.proofs.Tests.{more_than_one}
use Rattle.impl_rules.proofs.routes.breaks_at.Goals as goal

pub returns-in-NoArcIntoSender-clause-broken : goal.returns-in-NoArcIntoSender-clause-broken
returns-in-NoArcIntoSender-clause-broken c = rw c.in-NoArcIntoSender.is c.enters_source.ensures.broken

pub returns-in-OneArcInto-clause-broken : goal.returns-in-OneArcInto-clause-broken
returns-in-OneArcInto-clause-broken c =
    rw c.in-OneArcInto.is (OnTrue_from (nat_lt 1 c.arcs_into.result) (IsCrowded c.args.spec.now (bits_of c.args.design.now) c.args.m.0 c.args.place)
    (λ e. record { in_range = rw c.in-OneArcInto.is at c.requires.place; two = omega (arith, more_than_one _ e, c.arcs_into.ensures) }))

pub returns-in-ShortWalk-clause-broken : goal.returns-in-ShortWalk-clause-broken
returns-in-ShortWalk-clause-broken c = rw c.in-ShortWalk.is c.is_stray.ensures.broken

pub returns-in-Reached-clause-broken : goal.returns-in-Reached-clause-broken
returns-in-Reached-clause-broken c = rw c.in-Reached.is c.is_unreached.ensures.broken

pub returns-in-GoesOn-clause-broken : goal.returns-in-GoesOn-clause-broken
returns-in-GoesOn-clause-broken c = rw c.in-GoesOn.is c.is_dangling.ensures.broken
