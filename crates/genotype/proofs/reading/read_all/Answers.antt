use Rattle.std.proofs.Common.{◌≡◌, ◌++◌, ◌∷◌, [], length, List, ℕ, Bor, refl, sym, ap, ◌∙◌, Option, Some}
use Rattle.std.proofs.lemmas.List.{length-replicate}
use Rattle.line_words.specs.Rules.{Words, Statement, Test, first_broken, said}
use Rattle.line_words.specs.declared.refusals.Why.{Why}
use Rattle.line_words.specs.declared.refusals.Why.TheVariants.{NoHeader}
use Rattle.line_words.specs.declared.refusals.FileTag.TheVariants.{Genotype}
use Rattle.line_words.specs.declared.refusals.Stop.TheVariants.{Broken}
use Rattle.file_bricks.specs.Headed.{after_header, end_after_header}
use Rattle.line_words.proofs.Steps.{goes_on, stops_here, refused_alone, ends_well, ends_broken}
use Rattle.file_bricks.proofs.Headed.{header_wrong, header_right}
use Rattle.line_words.proofs.Answering.{stopped, refused_as}
use Rattle.spec_model.specs.Genotypes.{GeneValue, natural, plain_gene}
use Rattle.genotype.specs.Statements.{is_header, later, stated_tests, end_tests, stated_of, least_after, with_stated, genes_of, as_seen}
use Rattle.genotype.proofs.Going.{least_from-push, with_all-push, length-with_stated}
use Rattle.genotype.proofs.reading.read_all.Goals as goal

abbrev statement : ℕ → List Statement → Words → List Test
statement n = after_header is_header (later n)

abbrev end : List Statement → List Test
end = end_after_header end_tests

pub returns-in-None : goal.returns-in-None
returns-in-None c =
    let e = c.in-None.ensures.end in
    stopped Genotype as_seen (genes_of c.args.n) _ c.end_line.result (Some NoHeader) (Broken NoHeader) c.at_line.result c.at_line.ensures refl
    (λ why is. ends_broken (statement c.args.n) end [] c.args.lines c.next.new.self c.end_line.result _ why e.0 e.1 c.end_line.ensures refl is)

pub returns-in-Some-Err : goal.returns-in-Some-Err
returns-in-Some-Err c =
    refused_as Genotype as_seen (genes_of c.args.n) _ c.in-Some-Err.fault c.of_file.result c.of_file.ensures
    (refused_alone (statement c.args.n) end [] c.args.lines c.next.new.self c.in-Some-Err.fault _ (rw c.in-Some-Err.field-0-is at c.in-Some-Err.ensures.line) refl)

pub returns-then-not-is_headed : goal.returns-then-not-is_headed
returns-then-not-is_headed c =
    let line = c.in-Some-Ok.line in
    let w = said c.in_ok-words.words.items in
    let same : is_header w ≡ c.is_headed.result = sym (c.is_headed.ensures ∙ ap (λ (ws : List (Bor (List ℕ))). is_header (said ws)) c.deref.ensures.value) in
    stopped Genotype as_seen (genes_of c.args.n) _ line.number (Some NoHeader) (Broken NoHeader) c.at_line-then-not-is_headed.result (rw c.number.ensures at c.at_line-then-not-is_headed.ensures) refl
    (λ why is. stops_here (statement c.args.n) end [] c.args.lines c.next.new.self line w _ why (rw c.in-Some-Ok.field-0-is at c.in-Some-Ok.ensures.line) c.in_ok-words.ensures.words refl
    (header_wrong is_header (later c.args.n) w (same ∙ c.if-not-is_headed.true) ∙ is))

pub lines-init : goal.lines-init
lines-init c =
    let line = c.in-Some-Ok.line in
    let w = said c.in_ok-words.words.items in
    let same : is_header w ≡ c.is_headed.result = sym (c.is_headed.ensures ∙ ap (λ (ws : List (Bor (List ℕ))). is_header (said ws)) c.deref.ensures.value) in (
      record { number = line.number; words = w },
      [],
      goes_on (statement c.args.n) end [] c.args.lines c.next.new.self line w _ (rw c.in-Some-Ok.field-0-is at c.in-Some-Ok.ensures.line) c.in_ok-words.ensures.words refl
          (header_right is_header (later c.args.n) w (same ∙ c.if-not-is_headed.false)),
      refl,
      c.in_ok-natural.ensures,
      ap length c.in_ok-natural.ensures ∙ length-replicate c.args.n plain_gene,
    )

pub returns-in-Err : goal.returns-in-Err
returns-in-Err c =
    let i = c.lines.invariant in
    refused_as Genotype as_seen (genes_of c.args.n) _ c.in-Err.fault c.of_file-in-Err.result c.of_file-in-Err.ensures
    (refused_alone (statement c.args.n) end (i.0 ∷ i.1) c.lines.lines c.next-in-lines.new.self c.in-Err.fault _ (rw c.in-Err.is at c.in-Some.ensures.line) i.2)

abbrev fault_of : ℕ → ℕ → Words → Option Why
fault_of n least w = first_broken (stated_tests n least (stated_of w))

pub returns-in-Err-take : goal.returns-in-Err-take
returns-in-Err-take c =
    let i = c.lines.invariant in
    let line = c.in-Ok.line in
    let w = said c.in_ok-words-2.words.items in
    let form : stated_of (said c.deref-in-Some.result.now) ≡ stated_of w = ap (λ (ws : List (Bor (List ℕ))). stated_of (said ws)) c.deref-in-Some.ensures.value in
    let t = rw form at c.in-Err-take.ensures in
    stopped Genotype as_seen (genes_of c.args.n) _ line.number (fault_of c.args.n c.lines.seen.least w) (Broken c.in-Err-take.why) c.at_line-in-Err-take.result
    (rw c.number-in-Err-take.ensures at c.at_line-in-Err-take.ensures) t
    (λ why e. stops_here (statement c.args.n) end (i.0 ∷ i.1) c.lines.lines c.next-in-lines.new.self line w _ why (rw c.in-Ok.is at c.in-Some.ensures.line) c.in_ok-words-2.ensures.words i.2
    (ap (λ (least : ℕ). fault_of c.args.n least w) (sym i.3) ∙ e))

pub lines-preserved : goal.lines-preserved
lines-preserved c =
    let i = c.lines.invariant in
    let line = c.in-Ok.line in
    let w = said c.in_ok-words-2.words.items in
    let form : stated_of (said c.deref-in-Some.result.now) ≡ stated_of w = ap (λ (ws : List (Bor (List ℕ))). stated_of (said ws)) c.deref-in-Some.ensures.value in
    let t = rw form at c.in-Ok-take.ensures in
    let s : Statement = record { number = line.number; words = w } in (
      i.0,
      i.1 ++ s ∷ [],
      goes_on (statement c.args.n) end (i.0 ∷ i.1) c.lines.lines c.next-in-lines.new.self line w _ (rw c.in-Ok.is at c.in-Some.ensures.line) c.in_ok-words-2.ensures.words i.2
          (ap (λ (least : ℕ). fault_of c.args.n least w) (sym i.3) ∙ t.0),
      t.1 ∙ ap (λ (least : ℕ). least_after least (stated_of w)) i.3 ∙ sym (least_from-push 0 i.1 s),
      t.2 ∙ ap (λ (genes : List GeneValue). with_stated genes (stated_of w)) i.4 ∙ sym (with_all-push (natural c.args.n) i.1 s),
      ap length t.2 ∙ length-with_stated c.lines.seen.genotype (stated_of w) ∙ i.5,
    )

pub returns : goal.returns
returns c =
    let i = c.lines.invariant in
    let e = c.in_default.ensures.end in
    (i.0 ∷ i.1, ends_well (statement c.args.n) end (i.0 ∷ i.1) c.lines.lines c.next-in-lines.new.self _ e.0 e.1 i.2 refl, i.4)
