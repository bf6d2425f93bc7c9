-- The steps of the reader, over what `Lines` gives.
use Rattle.std.proofs.Common.{◌≡◌, ℕ, ◌+◌, true, false, List, [], ◌∷◌, ◌++◌, length, Option, Some, None, Ok, Err, refl, sym, ap, subst, ◌∙◌, arith, length-append}
use Rattle.line_words.specs.Text.{words_in}
use Rattle.line_words.specs.Rules.{Words, Statement as Line, Test, first_broken, texts}
use Rattle.line_words.specs.Left.{Left, Numbered, Passes, Gives, Refuses}
use Rattle.line_words.specs.Run.{Reading, run}
use Rattle.line_words.specs.Reads.{Agrees}
use Rattle.line_words.specs.declared.refusals.FileTag.TheVariants.{Arch}
use Rattle.line_words.specs.declared.refusals.ReadFault.{ReadFault}
use Rattle.line_words.specs.declared.refusals.ReadFault.TheVariants as faults
use Rattle.line_words.specs.declared.refusals.Why.{Why}
use Rattle.line_words.specs.declared.refusals.Why.TheVariants.{NoHeader}
use Rattle.line_words.specs.declared.refusals.Refusal1.{Refusal1}
use Rattle.line_words.proofs.Steps.{goes_on, stops_here, refused_alone, ends_well, ends_broken}
use Rattle.file_bricks.specs.Headed.{after_header, end_after_header}
use Rattle.file_bricks.proofs.Headed.{header_wrong, header_right}
use Rattle.arch_reader.specs.Shapes.{form_of}
use Rattle.arch_reader.specs.Seen.{seen}
use Rattle.arch_reader.specs.Tests.{tests}
use Rattle.arch_reader.specs.Arch.{is_header, later, at_end, arch_rules, lines_of, statements_in, arch_stated, lines_in, ArchValue}
use Rattle.arch_reader.specs.declared.seen.Seen.{Seen}

abbrev statement : List Line → Words → List Test
statement before ws = after_header is_header later before ws

abbrev end : List Line → List Test
end before = end_after_header at_end before

-- ---- how many lines there are

-- a line is given: the number past the last line stays
pub count_gives : (old new : Left) (line : Numbered) → Gives old new line → new.number + length new.lines ≡ old.number + length old.lines
count_gives old new line g =
    let p = g.passes in
    let n = length-append p.passed (g.line ∷ new.lines) in
    let l = ap length p.lines_are in
    omega (arith, n, l, p.number_is, g.number_is)

-- ---- the header

pub begins : (old new : Left) (line : Numbered) (ws : Words) (total : Reading) → Gives old new line → ws ≡ texts (words_in line.content) → is_header ws ≡ true
    → run arch_rules old.number [] old.lines ≡ total → run arch_rules new.number (record { number = line.number; words = ws } ∷ []) new.lines ≡ total
begins old new line ws total g e h so_far = goes_on statement end [] old new line ws total g e so_far (header_right is_header later ws h)

pub no_header : (old new : Left) (line : Numbered) (ws : Words) (total : Reading) → Gives old new line → ws ≡ texts (words_in line.content) → is_header ws ≡ false
    → run arch_rules old.number [] old.lines ≡ total → total ≡ Err (record { line = line.number; why = NoHeader })
no_header old new line ws total g e h so_far = stops_here statement end [] old new line ws total NoHeader g e so_far (header_wrong is_header later ws h)

pub no_statement : (old new : Left) (number : ℕ) (total : Reading) → Passes old new → new.lines ≡ [] → number ≡ new.number + length new.lines
    → run arch_rules old.number [] old.lines ≡ total → total ≡ Err (record { line = number; why = NoHeader })
no_statement old new number total p none n so_far = ends_broken statement end [] old new number total NoHeader p none n so_far refl

-- ---- a later statement

abbrev broken_by : Seen → Words → Option Why
broken_by s ws = first_broken (tests s (form_of ws))

pub goes : (old new : Left) (line : Numbered) (header : Line) (done : List Line) (ws : Words) (s : Seen) (total : Reading) → Gives old new line → ws ≡ texts (words_in line.content)
    → s ≡ seen (statements_in (lines_of done)) → run arch_rules old.number (header ∷ done) old.lines ≡ total → broken_by s ws ≡ None
    → run arch_rules new.number (header ∷ (done ++ record { number = line.number; words = ws } ∷ [])) new.lines ≡ total
goes old new line header done ws s total g e is so_far fine =
    goes_on statement end (header ∷ done) old new line ws total g e so_far (ap (λ (x : Seen). broken_by x ws) (sym is) ∙ fine)

pub stops : (old new : Left) (line : Numbered) (header : Line) (done : List Line) (ws : Words) (s : Seen) (total : Reading) (why : Why) → Gives old new line → ws ≡ texts (words_in line.content)
    → s ≡ seen (statements_in (lines_of done)) → run arch_rules old.number (header ∷ done) old.lines ≡ total → broken_by s ws ≡ Some why
    → total ≡ Err (record { line = line.number; why = why })
stops old new line header done ws s total why g e is so_far broken =
    stops_here statement end (header ∷ done) old new line ws total why g e so_far (ap (λ (x : Seen). broken_by x ws) (sym is) ∙ broken)

pub alone : (old new : Left) (before : List Line) (refusal : Refusal1) (total : Reading) → Refuses old new refusal → run arch_rules old.number before old.lines ≡ total → total ≡ Err refusal
alone old new before refusal total r so_far = refused_alone statement end before old new refusal total r so_far

pub ends : (old new : Left) (header : Line) (done : List Line) (total : Reading) → Passes old new → new.lines ≡ [] → run arch_rules old.number (header ∷ done) old.lines ≡ total
    → total ≡ Ok (header ∷ done)
ends old new header done total p none so_far = ends_well statement end (header ∷ done) old new total p none so_far refl

-- ---- what the reader answers

-- a refusal of this file
pub at_fault : (total : Reading) (fault : ReadFault) (line : ℕ) (why : Why) → fault ≡ faults.Refused (record { file = Arch; line = line; why = why })
    → total ≡ Err (record { line = line; why = why }) → Agrees {X = ArchValue} Arch lines_in arch_stated total (Err fault)
at_fault total fault line why e t = subst (λ (f : ReadFault). Agrees {X = ArchValue} Arch lines_in arch_stated total (Err f)) (sym e) (refl, t)
