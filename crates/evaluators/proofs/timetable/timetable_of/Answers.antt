use Rattle.std.proofs.Common.{◌+◌, ◌*◌, ◌^◌, ◌∙◌, [], List, take, ap, sym, subst, arith}
use Rattle.std.specs.List.{fold}
use Rattle.spec_model.specs.Spec.{bits_of}
use Rattle.spec_model.specs.Schedule.{Slot, place}
use Rattle.evaluators.specs.Placed.{ArePlaced}
use Rattle.evaluators.proofs.Timing.{ends_later, slots_more, slots_all}
use Rattle.evaluators.proofs.timetable.timetable_of.Goals as goal

pub place-requires-clause-room : goal.place-requires-clause-room
place-requires-clause-room c = ends_later (c.loop-i.i * 2 ^ 49) (2 ^ 60) c.loop-i.table (omega (arith, c.in_ok-order.ensures.few, c.facts.ensures.plan.few_tasks)) c.loop-i.invariant.small

pub returns-clause-placed : goal.returns-clause-placed
returns-clause-placed c = subst (λ (slots : List Slot). ArePlaced c.args.spec.now slots c.loop-i.table)
    (slots_all c.args.spec.now (bits_of c.args.design.now) c.in_ok-order.order.items c.loop-i.i c.in_ok-order.ensures.order (omega arith)) c.loop-i.invariant.placed

pub loop-i-preserved : goal.loop-i-preserved
loop-i-preserved c =
    let s = c.args.spec.now in
    let f = bits_of c.args.design.now in
    let items = c.in_ok-order.order.items in
    let slots = fold (place s f) [] (take c.loop-i.i items) in
    let one = slots_more s f items c.loop-i.i c.index.result.now (omega arith) ∙ ap (place s f slots) (sym c.index.ensures) in
    record {
      placed = subst (λ (all : List Slot). ArePlaced s all c.place.new.table) (sym one) (c.place.ensures.placed slots c.loop-i.invariant.placed);
      small = ends_later (c.loop-i.i * 2 ^ 49 + 2 ^ 49) ((c.loop-i.i + 1) * 2 ^ 49) c.place.new.table (omega arith) (c.place.ensures.small (c.loop-i.i * 2 ^ 49) c.loop-i.invariant.small);
      sized = c.place.ensures.sized;
    }
