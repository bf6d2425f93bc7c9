use Rattle.std.proofs.Common.{rules, arith, ◌∙◌, refl}
use Rattle.std.proofs.Common.{◌+◌}
use Rattle.evo_explore.proofs.Counting.{room_for, rose_at_most, rose_more, picked_more, place_below}
use Rattle.evo_explore.proofs.measuring.measure_chosen.Goals as goal

pub measure_at-requires-clause-room : goal.measure_at-requires-clause-room
measure_at-requires-clause-room g c = room_for _ _ _ _ _ c.loop-place-test.true refl c.loop-place.invariant.rose c.requires.room

pub returns-in_err-number-clause-values : goal.returns-in_err-number-clause-values
returns-in_err-number-clause-values g c s d = c.measure_at.ensures.values s d ∙ c.loop-place.invariant.values s d

pub returns-in_err-push-clause-values : goal.returns-in_err-push-clause-values
returns-in_err-push-clause-values g c s d = c.measure_at.ensures.values s d ∙ c.loop-place.invariant.values s d

pub returns-in_err-push-clause-at_most : goal.returns-in_err-push-clause-at_most
returns-in_err-push-clause-at_most g c = rose_at_most _ _ _ (c.loop-place.place-index + 1) (rose_more _ _ _ _ _ _ c.loop-place-test.true refl
    (place_below _ _ _ c.loop-place.place-index c.loop-place-test.true c.requires.within (omega arith)) c.in_ok-number.ensures.counted c.loop-place.invariant.rose)

pub loop-place-preserved : goal.loop-place-preserved
loop-place-preserved g c = record {
  rose =
      rose_more _ _ _ _ _ _ c.loop-place-test.true refl (place_below _ _ _ c.loop-place.place-index c.loop-place-test.true c.requires.within (omega arith)) c.in_ok-number.ensures.counted
      c.loop-place.invariant.rose;
  len = search rules;
  tags = c.measure_at.ensures.tags ∙ c.loop-place.invariant.tags;
  values = λ s d. c.measure_at.ensures.values s d ∙ c.loop-place.invariant.values s d;
  measured = picked_more _ _ _ _ _ _ _ c.loop-place-test.true c.in_ok-number.ensures.answer (c.loop-place.invariant.values _ _) c.in_ok-push.ensures.items c.loop-place.invariant.measured;
}
