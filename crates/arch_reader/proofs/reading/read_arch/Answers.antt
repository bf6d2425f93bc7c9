use Rattle.std.proofs.Common.{[], subst}
use Rattle.line_words.specs.Text.{lines}
use Rattle.line_words.specs.Left.{Left}
use Rattle.line_words.specs.Run.{run}
use Rattle.line_words.specs.Reads.{Agrees}
use Rattle.line_words.specs.declared.refusals.FileTag.TheVariants.{Arch}
use Rattle.line_words.proofs.Answering.{agrees_reads}
use Rattle.arch_reader.specs.Arch.{arch_rules, arch_stated, lines_in, ArchValue}
use Rattle.arch_reader.proofs.Testing.{in_order}
use Rattle.arch_reader.proofs.reading.read_arch.Goals as goal

pub returns-clause-reads : goal.returns-clause-reads
returns-clause-reads c = agrees_reads {X = ArchValue} Arch arch_rules lines_in arch_stated (lines c.args.bytes.now) c.read_all.result in_order
    (subst (λ (l : Left). Agrees {X = ArchValue} Arch lines_in arch_stated (run arch_rules l.number [] l.lines) c.read_all.result) c.new.ensures c.read_all.ensures.agrees)
