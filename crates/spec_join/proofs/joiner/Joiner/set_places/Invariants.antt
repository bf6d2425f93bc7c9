use Rattle.std.proofs.Common.{◌≡◌, take}
use Rattle.tgff_reader.specs.Looking.{table_at}
use Rattle.spec_join.specs.Effects.{with_plan}
use Rattle.spec_join.specs.Tables.{with_places}
use Rattle.spec_join.proofs.joiner.Joiner.set_places.Given as goal

abbrev pub invariant-loop-place : goal.invariant-loop-place
invariant-loop-place l =
    l.self ≡ with_plan l.initial.self (with_places l.initial.self (table_at l.initial.self.tables l.table) l.resource (take l.place-index l.places) l.initial.self.plan)
