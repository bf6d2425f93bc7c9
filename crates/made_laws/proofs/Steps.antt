-- Lines of an architecture file, one after another: what is declared before each, and after it.
use Rattle.std.proofs.Common.{◌≡◌, ℕ, ◌+◌, List, [], ◌∷◌, ◌++◌, Some, None, Option, refl, sym, ap, ◌∙◌, subst, append-nil, append_assoc}
use Rattle.std.proofs.lemmas.List.{flat_map_more, map_push}
use Rattle.line_words.specs.Rules.{Words, Statement as Line, first_broken}
use Rattle.arch_reader.specs.Shapes.{form_of, plain}
use Rattle.arch_reader.specs.Seen.{seen, after}
use Rattle.arch_reader.specs.Tests.{tests}
use Rattle.arch_reader.specs.Arch.{line_with, line_of, lines_of, statement_of, statements_in}
use Rattle.arch_reader.specs.declared.statement.Statement.{Statement}
use Rattle.arch_reader.specs.declared.statement.ArchLine.{ArchLine}
use Rattle.arch_reader.specs.declared.form.Form.{Form}
use Rattle.arch_reader.specs.declared.seen.Seen.{Seen}
use Rattle.arch_reader.proofs.Declared.{seen-push}
use Rattle.made_laws.specs.Reading.{numbered, BreakNone}
use Rattle.made_laws.specs.Unbroken.{arch_tests}
use Rattle.made_laws.proofs.Short.{IsShortLine, AreShortLines, line_of_short}

-- a line has a form, breaks no rule, and declares something more
pub record Step (s : Seen) (ws : Words) (t : Seen) : Type 0 where
  pub statement : Statement
  pub line : IsShortLine ws
  pub form : form_of ws ≡ Some (plain statement)
  pub fine : first_broken (tests s (Some (plain statement))) ≡ None
  pub declared : after s statement ≡ t

-- lines that do so one after another
abbrev pub Goes : Seen → List Words → Seen → Type 0
Goes s [] t = s ≡ t
Goes s (ws ∷ ls) t = (u : Seen) × Step s ws u × Goes u ls t

pub one_step : (s t : Seen) (ws : Words) → Step s ws t → Goes s (ws ∷ []) t
one_step s t ws h = (t, h, refl)

pub goes_on : (s t u : Seen) (ls ms : List Words) → Goes s ls t → Goes t ms u → Goes s (ls ++ ms) u
goes_on s t u [] ms g h = subst (λ x. Goes x ms u) (sym g) h
goes_on s t u (ws ∷ ls) ms g h = (g.0, g.1, goes_on g.0 t u ls ms g.2 h)

pub short_lines : (s t : Seen) (ls : List Words) → Goes s ls t → AreShortLines ls
short_lines s t [] g = tt
short_lines s t (ws ∷ ls) g = (g.1.line, short_lines g.0 t ls g.2)

abbrev at_line : ℕ → Statement → ArchLine
at_line n s = record { line = n; statement = s }

declared_then : (before : List Line) (s t : Seen) (number : ℕ) (ws : Words) → seen (statements_in (lines_of before)) ≡ s → (h : Step s ws t)
    → seen (statements_in (lines_of (before ++ record { number = number; words = ws } ∷ []))) ≡ t
declared_then before s t number ws so h =
    let l : Line = record { number = number; words = ws } in
    let one : line_of l ≡ at_line number h.statement ∷ [] = ap (line_with number) h.form in
    let lines : lines_of before ++ at_line number h.statement ∷ [] ≡ lines_of (before ++ l ∷ [])
    = ap (λ (ls : List ArchLine). lines_of before ++ ls) (sym one) ∙ flat_map_more line_of [] before l in
    ap (λ (ls : List ArchLine). seen (statements_in ls)) (sym lines)
    ∙ ap seen (map_push statement_of (lines_of before) (at_line number h.statement))
    ∙ seen-push (statements_in (lines_of before)) h.statement
    ∙ ap (λ (x : Seen). after x h.statement) so
    ∙ h.declared

-- what is declared after all of them
pub seen_after : (number : ℕ) (before : List Line) (s t : Seen) (ls : List Words) → seen (statements_in (lines_of before)) ≡ s → Goes s ls t
    → seen (statements_in (lines_of (before ++ numbered number ls))) ≡ t
seen_after number before s t [] so g = ap (λ (bs : List Line). seen (statements_in (lines_of bs))) (append-nil before) ∙ so ∙ g
seen_after number before s t (ws ∷ ls) so g =
    let l : Line = record { number = number; words = ws } in
    ap (λ (bs : List Line). seen (statements_in (lines_of bs))) (sym (append_assoc before (l ∷ []) (numbered (number + 1) ls)))
    ∙ seen_after (number + 1) (before ++ l ∷ []) g.0 t ls (declared_then before s g.0 number ws so g.1) g.2

pub break_none : (header : Line) (number : ℕ) (before : List Line) (s t : Seen) (ls : List Words)
    → seen (statements_in (lines_of before)) ≡ s
    → Goes s ls t
    → BreakNone arch_tests number (header ∷ before) ls
break_none header number before s t [] so g = tt
break_none header number before s t (ws ∷ ls) so g =
    let fine = ap (λ (x : Seen). first_broken (tests x (form_of ws))) so ∙ ap (λ (f : Option Form). first_broken (tests s f)) g.1.form ∙ g.1.fine in (
      line_of_short ws g.1.line,
      (fine, break_none header (number + 1) (before ++ record { number = number; words = ws } ∷ []) g.0 t ls (declared_then before s g.0 number ws so g.1) g.2),
    )
