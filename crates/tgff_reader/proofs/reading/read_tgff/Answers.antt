use Rattle.std.proofs.Common.{[], subst}
use Rattle.line_words.specs.Text.{lines}
use Rattle.line_words.specs.Left.{Left}
use Rattle.line_words.specs.Run.{run}
use Rattle.line_words.specs.Reads.{Agrees}
use Rattle.line_words.specs.declared.refusals.FileTag.TheVariants.{Tgff}
use Rattle.line_words.proofs.Answering.{agrees_reads}
use Rattle.tgff_reader.specs.Facts.{TgffValue}
use Rattle.tgff_reader.specs.Tgff.{tgff_rules, graphs_stated, as_seen}
use Rattle.tgff_reader.proofs.Going.{rules_in_order}
use Rattle.tgff_reader.proofs.reading.read_tgff.Goals as goal

pub returns : goal.returns
returns c = agrees_reads {X = TgffValue} Tgff tgff_rules as_seen graphs_stated (lines c.args.bytes.now) c.read_all.result rules_in_order
    (subst (λ (l : Left). Agrees {X = TgffValue} Tgff as_seen graphs_stated (run tgff_rules l.number [] l.lines) c.read_all.result) c.new.ensures c.read_all.ensures)
