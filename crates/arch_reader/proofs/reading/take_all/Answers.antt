use Rattle.std.proofs.Common.{◌++◌, ◌∷◌, [], refl, ◌∙◌}
use Rattle.line_words.specs.Text.{words_in}
use Rattle.line_words.specs.Rules.{Words, Statement as Line, texts}
use Rattle.line_words.specs.Run.{Reading}
use Rattle.line_words.specs.declared.refusals.FileTag.TheVariants.{Arch}
use Rattle.line_words.proofs.Answering.{stopped, refused_as}
use Rattle.arch_reader.specs.Arch.{arch_stated, lines_in, ArchValue}
use Rattle.arch_reader.specs.Taking.{reading_of, broken_by}
use Rattle.arch_reader.proofs.Kept.{one_taken}
use Rattle.arch_reader.proofs.Going.{count_gives, goes, stops, alone, ends}
use Rattle.arch_reader.proofs.reading.take_all.Goals as goal

pub returns-in-Err-clause-refused : goal.returns-in-Err-clause-refused
returns-in-Err-clause-refused c =
    let total : Reading = reading_of c.args.lines.now in
    let i = c.lines.invariant in
    refused_as {X = ArchValue} Arch lines_in arch_stated total c.in-Err.refusal c.of_file.result c.of_file.ensures
    (alone c.lines.lines c.next.new.self (i.0 ∷ i.1) c.in-Err.refusal total (rw c.in-Err.is at c.in-Some.ensures.line) i.2)

pub returns-in-Err-take_line-clause-refused : goal.returns-in-Err-take_line-clause-refused
returns-in-Err-take_line-clause-refused c =
    let total : Reading = reading_of c.args.lines.now in
    let i = c.lines.invariant in
    let line = c.in-Ok.line in
    let ws : Words = texts (words_in line.content) in
    let s = c.in-Err-take_line.ensures.stops in
    stopped {X = ArchValue} Arch lines_in arch_stated total line.number (broken_by c.lines.taken.seen ws) s.stop c.in-Err-take_line.fault s.fault_is s.stops
    (λ why e. stops c.lines.lines c.next.new.self line i.0 i.1 ws c.lines.taken.seen total why (rw c.in-Ok.is at c.in-Some.ensures.line) refl i.3.seen_is i.2 e)

pub lines-preserved : goal.lines-preserved
lines-preserved c =
    let total : Reading = reading_of c.args.lines.now in
    let i = c.lines.invariant in
    let line = c.in-Ok.line in
    let g = rw c.in-Ok.is at c.in-Some.ensures.line in
    let ws : Words = texts (words_in line.content) in
    let t = c.in-Ok-take_line.ensures.takes in
    let one : Line = record { number = line.number; words = ws } in (
      i.0,
      i.1 ++ one ∷ [],
      goes c.lines.lines c.next.new.self line i.0 i.1 ws c.lines.taken.seen total g refl i.3.seen_is i.2 t.takes.fine,
      one_taken c.lines.taken c.take_line.new.self i.1 one i.3 t.takes t.words,
      count_gives c.lines.lines c.next.new.self line g ∙ i.4,
    )

pub returns-clause-takes : goal.returns-clause-takes
returns-clause-takes c =
    let total : Reading = reading_of c.args.lines.now in
    let i = c.lines.invariant in
    let e = c.in_default.ensures.end in
    record {
      statements = i.0 ∷ i.1;
      gives = ends c.lines.lines c.next.new.self i.0 i.1 total e.0 e.1 i.2;
      lines_are = i.3.lines_are;
      pass = i.3.pass;
    }
