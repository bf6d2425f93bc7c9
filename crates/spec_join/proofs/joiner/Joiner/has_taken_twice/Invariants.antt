use Rattle.tgff_reader.specs.Looking.{table_at}
use Rattle.spec_join.specs.Tables.{HasBelow}
use Rattle.spec_join.proofs.TableLines.{IsTakenAt}
use Rattle.spec_join.proofs.joiner.Joiner.has_taken_twice.Given as goal

abbrev pub invariant-loop-t : goal.invariant-loop-t
invariant-loop-t l = HasBelow l.t (IsTakenAt l.self (table_at l.self.tables l.table) l.place.0 l.keys) → ⊥
