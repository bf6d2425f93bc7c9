use Rattle.std.proofs.Common.{◌∙◌, length, false, refl, ◌≡◌, sym, set, ◌++◌, ◌∷◌, []}
use Rattle.std.specs.Prelude.{is_err}
use Rattle.trail_state.specs.Trail.{value_in}
use Rattle.propagate.specs.Counters.{literal_number}
use Rattle.propagate.specs.Watches.{watches_of}
use Rattle.propagate.proofs.Placing.{on_ok}
use Rattle.propagate.proofs.Placed.{literal_in_range}
use Rattle.propagate.proofs.Turning.{turned_fresh}
use Rattle.propagate.proofs.visits.watch_another.Goals as goal

pub returns-else-is_err-clause-turned : goal.returns-else-is_err-clause-turned
returns-else-is_err-clause-turned c =
    let w = c.args.c.now in
    let lists = c.args.lists.now in
    let other = c.in-Some.other in
    let fresh = c.in-Some-open_but.open in
    let o = c.in-Some-open_but.ensures in
    let fine : is_err c.push.result ≡ false = sym c.is_err.ensures.value ∙ c.if-is_err.false in
    let grown = on_ok c.push.result c.push.new.self (set lists (literal_number fresh) (watches_of lists (literal_number fresh) ++ record { slot = c.args.slot; other = other } ∷ [])) fine
    c.push.ensures.ok in
    turned_fresh (value_in c.args.trail.now.entries) c.args.gone other fresh c.args.slot w c.watch.new.self lists c.push.new.self c.requires.falsified o.open c.terms-terms.ensures.watched
    c.in-Some.ensures.some (literal_in_range w.whole.terms fresh fresh c.args.trail.now.variables (length lists) c.requires.in_range o.there refl c.requires.wide) c.watch.ensures grown
