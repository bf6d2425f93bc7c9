use Rattle.std.proofs.Common.{List, map, ap, subst}
use Rattle.std.specs.Prelude.{MatchOption}
use Rattle.spec_model.specs.WellFormed.{AreDistinct}
use Rattle.tgff_reader.specs.Facts.{TgffValue, table_key}
use Rattle.tgff_reader.specs.Looking.{IsTableAt, HasNoTable}
use Rattle.tgff_reader.specs.declared.file.Table.{Table}
use Rattle.tgff_reader.proofs.Found.{only_table}
use Rattle.tgff_reader.proofs.file.Tgff.table.Goals as goal

pub returns-clause-one : goal.returns-clause-one
returns-clause-one c =
    let tables = c.args.self.now.tables in
    let apart : AreDistinct (map table_key tables) = subst (λ (v : TgffValue). AreDistinct (map table_key v.tables)) c.self.view_is c.self.invariant.tables_distinct in
    let found : MatchOption c.find.result (HasNoTable tables c.args.name.now c.args.index) (IsTableAt tables c.args.name.now c.args.index)
    = subst (λ (ts : List Table). MatchOption c.find.result (HasNoTable ts c.args.name.now c.args.index) (IsTableAt ts c.args.name.now c.args.index))
    (ap (λ (v : TgffValue). v.tables) c.self.view_is) c.find.ensures in
    only_table tables c.args.name.now c.args.index c.find.result apart found
