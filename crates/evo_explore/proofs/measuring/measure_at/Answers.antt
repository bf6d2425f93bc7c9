use Rattle.std.proofs.Common.{arith}
use Rattle.evo_explore.proofs.Readings.{counted_at, uncounted_at, same_at}
use Rattle.evo_explore.proofs.measuring.measure_at.Goals as goal

pub returns-clause-counted : goal.returns-clause-counted
returns-clause-counted g c = counted_at _ _ _ _ c.index_mut.result.now _ (omega arith) c.index_mut.ensures.value c.measure_one.ensures.counted

pub returns-clause-uncounted : goal.returns-clause-uncounted
returns-clause-uncounted g c = uncounted_at _ _ _ _ c.index_mut.result.now _ c.index_mut.ensures.value c.measure_one.ensures.uncounted

pub returns-clause-tags : goal.returns-clause-tags
returns-clause-tags g c = same_at _ _ _ c.index_mut.result.now _ c.index_mut.ensures.value c.measure_one.ensures.same_tag

pub returns-clause-values : goal.returns-clause-values
returns-clause-values g c s d = same_at _ _ _ c.index_mut.result.now _ c.index_mut.ensures.value (c.measure_one.ensures.same_value s d)
