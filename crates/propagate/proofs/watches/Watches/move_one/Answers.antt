use Rattle.std.proofs.Common.{◌∙◌, Option, set, sym, subst, arith}
use Rattle.std.proofs.lemmas.List.{get_or_default}
use Rattle.constraint_store.specs.Live.{new_id}
use Rattle.propagate.specs.Counters.{IsOneMoved}
use Rattle.propagate.specs.Watched.{WatchedView}
use Rattle.propagate.proofs.Wholes.{no_clause}
use Rattle.propagate.proofs.Moving.{one_placed}
use Rattle.propagate.proofs.watches.Watches.move_one.Goals as goal

pub index_mut-requires-in-Some : goal.index_mut-requires-in-Some
index_mut-requires-in-Some c =
    let f = c.of.ensures.never_rises (record { 0 = c.args.slot }) c.in-Some.id (sym c.of.ensures.value ∙ c.in-Some.is) in
    let h = c.requires.here in
    omega (arith, f, h, c.args.self.now.slots.ok.0)

pub returns-in-Some-clause-moved : goal.returns-in-Some-clause-moved
returns-in-Some-clause-moved c =
    let slots = c.args.self.now.slots.items in
    let i = c.args.slot in
    let d = c.in-Some.id in
    let to = new_id c.args.moves.now in
    let goes = sym c.of.ensures.value ∙ c.in-Some.is in
    let out = c.take-out.ensures.value ∙ c.index_mut.ensures.value ∙ get_or_default slots i c.index_mut.result.now no_clause c.requires.here in
    let P : Option WatchedView → Type 0 = λ u. IsOneMoved to (record { 0 = i }) slots (set (set slots i u) d.0 c.take-out.result) in
    subst P (sym c.take-out.ensures.after) (one_placed to i d c.take-out.result slots c.requires.here (c.of.ensures.never_rises (record { 0 = i }) d goes) goes out)
