use Rattle.std.proofs.Common.{Result, subst}
use Rattle.line_words.specs.Text.{lines}
use Rattle.line_words.specs.Reads.{Reads}
use Rattle.line_words.specs.declared.refusals.FileTag.TheVariants as files
use Rattle.line_words.specs.declared.refusals.ReadFault.{ReadFault}
use Rattle.arch_reader.specs.Arch.{ArchValue, arch_rules, lines_in, arch_stated}
use Rattle.make_run.proofs.Read.{reads_joined, reads_refused}
use Rattle.make_run.proofs.making.read_text.Goals as goal

pub returns-in-Err : goal.returns-in-Err
returns-in-Err c =
    reads_refused c.args.text.now c.in-Err.fault c.requires.short (subst (λ (r : Result ArchValue ReadFault).
    Reads {X = ArchValue} files.Arch arch_rules lines_in arch_stated (lines c.args.text.now) r)
    c.in-Err.is c.read_arch.ensures.reads)

pub returns-in-Ok : goal.returns-in-Ok
returns-in-Ok c =
    reads_joined c.args.text.now _ c.in-Ok.file c.join-in-Ok.result c.none.ensures c.requires.short c.in-Ok.ensures.reads c.in-Ok.ensures.end_line c.join-in-Ok.ensures.reads
