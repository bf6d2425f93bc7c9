use Rattle.std.proofs.Common.{sym, subst}
use Rattle.pb_rules.specs.Literal.{Literal}
use Rattle.trail_state.specs.Trail.{value_in}
use Rattle.propagate.specs.Watched.{HasLiteral}
use Rattle.propagate.proofs.Guarding.{true_closed, open_closed}
use Rattle.propagate.proofs.plain.look_through.Goals as goal

pub returns-in-None-clause-closed : goal.returns-in-None-clause-closed
returns-in-None-clause-closed c = λ z.
    let w = c.args.c.now in
    let q = value_in c.push_last.new.trail.entries in
    let k = c.terms-terms.ensures.watched in
    let L : Literal → Type 0 = λ l. HasLiteral w.whole.terms l in
    true_closed q w k.clause (record { lit = c.first-first.result; there = subst L (sym c.first-first.ensures) k.first_there; holds = c.push_last.ensures.pushed z })

pub returns-in-None-open_but-clause-closed : goal.returns-in-None-open_but-clause-closed
returns-in-None-open_but-clause-closed c = λ z.
    let w = c.args.c.now in
    true_closed (value_in c.push_last-in-None-open_but.new.trail.entries) w c.terms-terms.ensures.watched.clause
    (record { lit = c.in-Some.last; there = c.in-Some.ensures.there; holds = c.push_last-in-None-open_but.ensures.pushed z })

pub returns-in-Some-open_but-clause-closed : goal.returns-in-Some-open_but-clause-closed
returns-in-Some-open_but-clause-closed c = λ _.
    let w = c.args.c.now in
    open_closed (value_in c.args.trail.now.entries) w.whole c.in-Some-open_but._open c.in-Some.last c.terms-terms.ensures.watched.clause c.in-Some-open_but.ensures.there c.in-Some.ensures.there
    c.in-Some-open_but.ensures.apart c.in-Some-open_but.ensures.«open» c.in-Some.ensures.«open»
