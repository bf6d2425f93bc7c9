-- Lines of an architecture file that are joined one after another, of which none is refused.
use Rattle.std.proofs.Common.{◌≡◌, ℕ, zero, suc, ◌+◌, ◌<◌, List, [], ◌∷◌, ◌++◌, length, take, fold, Option, Some, sym, ap, subst, arith}
use Rattle.std.proofs.lemmas.List.{length-map, take_all}
use Rattle.line_words.specs.Rules.{Words}
use Rattle.line_words.specs.declared.refusals.Why.{Why}
use Rattle.arch_reader.specs.Shapes.{form_of, plain}
use Rattle.arch_reader.specs.Seen.{seen}
use Rattle.arch_reader.specs.Arch.{line_with, lines_of, statement_of, statements_in}
use Rattle.arch_reader.specs.declared.form.Form.{Form}
use Rattle.arch_reader.specs.declared.statement.ArchLine.{ArchLine}
use Rattle.arch_reader.specs.declared.statement.Statement.{Statement}
use Rattle.tgff_reader.specs.Facts.{TgffValue}
use Rattle.spec_join.specs.Joining.{Joining, start}
use Rattle.spec_join.specs.Effects.{effect}
use Rattle.spec_join.specs.Refusals.{StatementBreaks}
use Rattle.spec_join.specs.Reading.{NoneBreaks, after_all, statement_at}
use Rattle.made_laws.specs.Reading.{numbered}

-- a line has a form, and its statement isn't refused
pub record Joins (s : Joining) (ws : Words) (st : Statement) : Type 0 where
  pub form : form_of ws ≡ Some (plain st)
  pub none : (why : Why) → StatementBreaks s st why → ⊥

-- all lines do, and what they make is as it should be
abbrev pub Carries : Joining → List Words → (Joining → Type 0) → Type 0
Carries s [] P = P s
Carries s (ws ∷ ls) P = (st : Statement) × Joins s ws st × Carries (effect s st) ls P

pub carries_on : (s : Joining) (ls ms : List Words) (P Q : Joining → Type 0) → Carries s ls P → ((t : Joining) → P t → Carries t ms Q) → Carries s (ls ++ ms) Q
carries_on s [] ms P Q h on = on s h
carries_on s (ws ∷ ls) ms P Q h on = (h.0, h.1, carries_on (effect s h.0) ls ms P Q h.2 on)

-- ---- as statements

-- the statements of lines
abbrev pub stated_from : ℕ → List Words → List Statement
stated_from number ls = statements_in (lines_of (numbered number ls))

stated_cons : (s : Joining) (number : ℕ) (ws : Words) (ls : List Words) (st : Statement) → Joins s ws st → stated_from number (ws ∷ ls) ≡ st ∷ stated_from (number + 1) ls
stated_cons s number ws ls st h = ap (λ (f : Option Form). statements_in (line_with number f ++ lines_of (numbered (number + 1) ls))) h.form

-- none of the statements is refused, after those before it
abbrev pub NoneOf : Joining → List Statement → Type 0
NoneOf s sts = (k : ℕ) (why : Why) → k < length sts → StatementBreaks (fold effect s (take k sts)) (statement_at sts k) why → ⊥

none_cons : (s : Joining) (st : Statement) (sts : List Statement) → ((why : Why) → StatementBreaks s st why → ⊥) → NoneOf (effect s st) sts → NoneOf s (st ∷ sts)
none_cons s st sts here later zero why lt h = here why h
none_cons s st sts here later (suc k) why lt h = later k why (omega (arith, lt)) h

pub none_of : (s : Joining) (number : ℕ) (ls : List Words) (P : Joining → Type 0) → Carries s ls P → NoneOf s (stated_from number ls)
none_of s number [] P h = λ k why lt b. omega (arith, lt)
none_of s number (ws ∷ ls) P h =
    subst (NoneOf s) (sym (stated_cons s number ws ls h.0 h.1)) (none_cons s h.0 (stated_from (number + 1) ls) h.1.none (none_of (effect s h.0) (number + 1) ls P h.2))

pub at_last : (s : Joining) (number : ℕ) (ls : List Words) (P : Joining → Type 0) → Carries s ls P → P (fold effect s (stated_from number ls))
at_last s number [] P h = h
at_last s number (ws ∷ ls) P h =
    subst (λ (sts : List Statement). P (fold effect s sts)) (sym (stated_cons s number ws ls h.0 h.1)) (at_last (effect s h.0) (number + 1) ls P h.2)

-- ---- as what joining a file asks

pub none_in_file : (tgff : TgffValue) (ls : List ArchLine) → NoneOf (start tgff (seen (statements_in ls))) (statements_in ls) → NoneBreaks tgff (statements_in ls) (length ls)
none_in_file tgff ls h k why lt b = h k why (omega (arith, lt, length-map ls statement_of)) b

pub made_of_file : (tgff : TgffValue) (ls : List ArchLine) → fold effect (start tgff (seen (statements_in ls))) (statements_in ls) ≡ after_all tgff ls
made_of_file tgff ls =
    let all = take_all (length ls) (statements_in ls) (omega (arith, length-map ls statement_of)) in
    ap (λ (sts : List Statement). fold effect (start tgff (seen (statements_in ls))) sts) (sym all)
