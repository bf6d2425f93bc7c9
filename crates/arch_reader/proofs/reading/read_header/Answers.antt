use Rattle.std.proofs.Common.{◌≡◌, [], List, ℕ, Bor, true, false, Err, refl, sym, ap, ◌∙◌}
use Rattle.line_words.specs.Refused.{fault_at}
use Rattle.line_words.specs.Rules.{Words, said}
use Rattle.line_words.specs.Run.{Reading}
use Rattle.line_words.specs.declared.refusals.FileTag.TheVariants.{Arch}
use Rattle.line_words.specs.declared.refusals.Why.TheVariants.{NoHeader}
use Rattle.line_words.specs.declared.refusals.Stop.TheVariants as stops_by
use Rattle.line_words.proofs.Answering.{refused_as}
use Rattle.arch_reader.specs.Arch.{is_header, arch_stated, lines_in, ArchValue}
use Rattle.arch_reader.specs.Taking.{reading_of}
use Rattle.arch_reader.proofs.Going.{count_gives, begins, no_header, no_statement, alone, at_fault}
use Rattle.arch_reader.proofs.reading.read_header.Goals as goal

pub returns-in-None-clause-refused : goal.returns-in-None-clause-refused
returns-in-None-clause-refused c =
    let e = c.in-None.ensures.end in
    let total : Reading = reading_of c.args.lines.now in
    at_fault total c.no_header.result c.end_line.result NoHeader c.no_header.ensures (no_statement c.args.lines.now c.next.new.self c.end_line.result total e.0 e.1 c.end_line.ensures refl)

pub returns-in-Some-Err-clause-refused : goal.returns-in-Some-Err-clause-refused
returns-in-Some-Err-clause-refused c =
    let total : Reading = reading_of c.args.lines.now in
    refused_as {X = ArchValue} Arch lines_in arch_stated total c.in-Some-Err.refusal c.of_file.result c.of_file.ensures
    (alone c.args.lines.now c.next.new.self [] c.in-Some-Err.refusal total (rw c.in-Some-Err.field-0-is at c.in-Some-Err.ensures.line) refl)

pub returns-then-is_headed-clause-begins : goal.returns-then-is_headed-clause-begins
returns-then-is_headed-clause-begins c =
    let line = c.in-Some-Ok.line in
    let g = rw c.in-Some-Ok.field-0-is at c.in-Some-Ok.ensures.line in
    let ws : Words = said c.in_ok-words.words.items in
    let fine : is_header ws ≡ true = ap (λ (ws : List (Bor (List ℕ))). is_header (said ws)) (sym c.deref.ensures.value) ∙ sym c.is_headed.ensures ∙ c.if-is_headed.true in
    record {
      header = record { number = line.number; words = ws };
      goes = begins c.args.lines.now c.next.new.self line ws _ g c.in_ok-words.ensures.words fine refl;
      count = count_gives c.args.lines.now c.next.new.self line g;
    }

pub returns-clause-refused : goal.returns-clause-refused
returns-clause-refused c =
    let total : Reading = reading_of c.args.lines.now in
    let line = c.in-Some-Ok.line in
    let g = rw c.in-Some-Ok.field-0-is at c.in-Some-Ok.ensures.line in
    let ws : Words = said c.in_ok-words.words.items in
    let no : is_header ws ≡ false = ap (λ (ws : List (Bor (List ℕ))). is_header (said ws)) (sym c.deref.ensures.value) ∙ sym c.is_headed.ensures ∙ c.if-is_headed.false in
    let refused : total ≡ Err (record { line = line.number; why = NoHeader }) = no_header c.args.lines.now c.next.new.self line ws total g c.in_ok-words.ensures.words no refl in
    at_fault total c.no_header-else-is_headed.result line.number NoHeader
    (c.no_header-else-is_headed.ensures ∙ ap (λ (n : ℕ). fault_at Arch n (stops_by.Broken NoHeader)) c.number.ensures) refused
