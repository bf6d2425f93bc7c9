use Rattle.std.proofs.Common.{◌++◌, ◌∷◌, [], take}
use Rattle.pb_rules.specs.declared.Op.TheVariants.{Id}
use Rattle.constraint_store.specs.Live.{proof_id_of}
use Rattle.conflict_graph.specs.Learning.{seen}
use Rattle.conflict_graph.proofs.Writing.{Explains}
use Rattle.conflict_graph.proofs.reasons.explain.Given as goal

abbrev pub invariant-loop-t : goal.invariant-loop-t
invariant-loop-t l = Explains (seen l.trail.entries l.place l.made) (take l.t-index l.terms) (l.fn.ops.items ++ Id (proof_id_of l.store l.c) ∷ []) l.ops.items l.room l.greatest
