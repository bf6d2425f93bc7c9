use Rattle.std.proofs.Common.{sym, subst, arith}
use Rattle.tgff_reader.specs.Looking.{table_at}
use Rattle.spec_join.specs.Fits.{IsKnownPlace}
use Rattle.spec_join.specs.Tables.{PlaceBreaks}
use Rattle.spec_join.proofs.Lowest.{least_in_more, least_in_all}
use Rattle.spec_join.proofs.joiner.Joiner.places_fault.Goals as goal

pub place_fault-requires-clause-known : goal.place_fault-requires-clause-known
place_fault-requires-clause-known c = subst (IsKnownPlace c.args.self.now.plan.objectives) (sym c.place-item.is) (c.requires.known c.loop-place.place-index c.place-item.result (omega arith))

pub loop-place-preserved : goal.loop-place-preserved
loop-place-preserved c =
    least_in_more (PlaceBreaks c.args.self.now (table_at c.args.self.now.tables c.args.table)) c.args.places.now c.loop-place.place-index c.place-item.result c.loop-place.fault
    c.place_fault.result c.lower_of-fault.result
    (omega arith) c.place-item.is c.lower_of-fault.ensures c.loop-place.invariant c.place_fault.ensures

pub returns : goal.returns
returns c = least_in_all (PlaceBreaks c.args.self.now (table_at c.args.self.now.tables c.args.table)) c.args.places.now c.loop-place.place-index c.loop-place.fault (omega arith) c.loop-place.invariant
