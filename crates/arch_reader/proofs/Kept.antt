-- What is kept of the lines that were read.
use Rattle.std.proofs.Common.{◌≡◌, ℕ, List, [], ◌∷◌, ◌++◌, Option, Some, None, sym, ap, subst, ◌∙◌, append_assoc}
use Rattle.std.specs.List.{All}
use Rattle.std.proofs.lemmas.List.{append-nil, flat_map_more, map_push}
use Rattle.line_words.specs.Rules.{Statement as Line, first_broken}
use Rattle.file_bricks.specs.Words.{IsWord}
use Rattle.arch_reader.specs.Shapes.{plain}
use Rattle.arch_reader.specs.Seen.{seen, after}
use Rattle.arch_reader.specs.Tests.{tests}
use Rattle.arch_reader.specs.Arch.{line_with, line_of, lines_of, statement_of, statements_in, Passes, AllPass}
use Rattle.arch_reader.specs.Taking.{Takes}
use Rattle.arch_reader.specs.declared.statement.Statement.{Statement}
use Rattle.arch_reader.specs.declared.statement.ArchLine.{ArchLine}
use Rattle.arch_reader.specs.declared.form.Form.{Form}
use Rattle.arch_reader.specs.declared.seen.Seen.{Seen}
use Rattle.arch_reader.specs.declared.reading.Taken.{Taken}
use Rattle.arch_reader.proofs.Declared.{seen-push}
use Rattle.arch_reader.proofs.Naming.{IsSaid, said_of}
use Rattle.arch_reader.proofs.Testing.{passes}

-- the statements of these lines were taken
pub record IsTaken (taken : Taken) (done : List Line) : Type 0 where
  pub seen_is : taken.seen ≡ seen (statements_in (lines_of done))
  pub lines_are : taken.lines ≡ lines_of done
  pub pass : AllPass [] taken.lines

-- one more statement passes
AllPass-push : (before : List Statement) (ls : List ArchLine) (l : ArchLine) → AllPass before ls → Passes (before ++ statements_in ls) l.statement → AllPass before (ls ++ l ∷ [])
AllPass-push before [] l a p = (subst (λ (b : List Statement). Passes b l.statement) (append-nil before) p, tt)
AllPass-push before (x ∷ ls) l a p =
    (a.0, AllPass-push (before ++ x.statement ∷ []) ls l a.1 (subst (λ (b : List Statement). Passes b l.statement) (sym (append_assoc before (x.statement ∷ []) (statements_in ls))) p))

abbrev at_line : ℕ → Statement → ArchLine
at_line n s = record { line = n; statement = s }

pub one_taken : (old new : Taken) (done : List Line) (line : Line) → IsTaken old done → Takes old new line.number line.words → All IsWord line.words → IsTaken new (done ++ line ∷ [])
one_taken old new done line i t words =
    let s = t.statement in
    let one : line_of line ≡ at_line line.number s ∷ [] = ap (line_with line.number) t.form_is in
    let lines : lines_of done ++ at_line line.number s ∷ [] ≡ lines_of (done ++ line ∷ [])
    = ap (λ (ls : List ArchLine). lines_of done ++ ls) (sym one) ∙ flat_map_more line_of [] done line in
    let lines_are : new.lines ≡ lines_of done ++ at_line line.number s ∷ [] = t.keeps.lines_are ∙ ap (λ (ls : List ArchLine). ls ++ at_line line.number s ∷ []) i.lines_are in
    let seen_is : new.seen ≡ seen (statements_in (lines_of done) ++ s ∷ []) = t.keeps.seen_is ∙ ap (λ (x : Seen). after x s) i.seen_is ∙ sym (seen-push (statements_in (lines_of done)) s) in
    let statements : statements_in (lines_of done) ++ s ∷ [] ≡ statements_in (lines_of done ++ at_line line.number s ∷ []) = sym (map_push statement_of (lines_of done) (at_line line.number s)) in
    let tried : first_broken (tests (seen (statements_in (lines_of done))) (Some (plain s))) ≡ None
    = ap (λ (x : Seen). first_broken (tests x (Some (plain s)))) (sym i.seen_is) ∙ ap (λ (f : Option Form). first_broken (tests old.seen f)) (sym t.form_is) ∙ t.fine in
    let said : IsSaid s = said_of line.words s words t.form_is in
    let pass : AllPass [] (lines_of done ++ at_line line.number s ∷ [])
    = AllPass-push [] (lines_of done) (at_line line.number s) (subst (AllPass []) i.lines_are i.pass) (passes (statements_in (lines_of done)) s said tried) in
    record {
      seen_is = seen_is ∙ ap seen statements ∙ ap (λ (ls : List ArchLine). seen (statements_in ls)) lines;
      lines_are = lines_are ∙ lines;
      pass = subst (AllPass []) (sym lines_are) pass;
    }
