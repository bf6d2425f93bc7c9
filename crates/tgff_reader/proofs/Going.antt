-- The steps of the reader, over what `Lines` gives.
use Rattle.std.proofs.Common.{◌≡◌, ℕ, ◌+◌, true, false, List, [], ◌∷◌, ◌++◌, length, Option, Some, None, Ok, Err, refl, sym, ap, subst, ◌∙◌, All}
use Rattle.std.specs.Prelude.{if◌then◌else◌}
use Rattle.line_words.specs.Text.{words_in}
use Rattle.line_words.specs.Refused.{rank}
use Rattle.line_words.specs.Rules.{Words, Statement, Test, IsRanked, AreInOrder, first_broken, texts}
use Rattle.line_words.specs.Left.{Left, Numbered, Passes, Gives}
use Rattle.line_words.specs.Run.{Reading, run}
use Rattle.line_words.specs.declared.refusals.Why.{Why}
use Rattle.line_words.specs.declared.refusals.Why.TheVariants.{NoHeader, Unclosed, StrayClose}
use Rattle.line_words.proofs.Steps.{ranked, in_order, goes_on, stops_here, ends_well, ends_broken}
use Rattle.tgff_reader.specs.Words.{first, is_at}
use Rattle.tgff_reader.specs.Lines.{is_opening, block_name, block_index, is_closing, keyword_of}
use Rattle.tgff_reader.specs.Faults.{tests, tests_in, opening_tests, inner_tests, known_tests, is_open, end_tests}
use Rattle.tgff_reader.specs.After.{after, after_all, start, state_of}
use Rattle.file_bricks.specs.Words.{IsWord}
use Rattle.tgff_reader.specs.Tgff.{later, at_end, tgff_rules}
use Rattle.tgff_reader.specs.declared.keyword.Keyword.{Keyword}
use Rattle.tgff_reader.specs.declared.keyword.Keyword.TheVariants.{Period, Task, Arc, HardDeadline, SoftDeadline}
use Rattle.tgff_reader.specs.declared.file.Graph.{Graph}
use Rattle.tgff_reader.specs.declared.state.Blocks.{Blocks}
use Rattle.tgff_reader.specs.declared.state.Open.{Open}
use Rattle.tgff_reader.specs.declared.state.Open.TheVariants.{Outside, InGraph, InTable}
use Rattle.tgff_reader.specs.declared.state.State.{State}
use Rattle.file_bricks.proofs.Deciding.{ranked_if}
use Rattle.file_bricks.proofs.Said.{some_word}
use Rattle.tgff_reader.proofs.Kept.{IsState, start_stands, stands_more}

-- ---- the rules stand in their order

-- where the rules of statements begin
abbrev low : ℕ
low = rank NoHeader

ranked_known : (b : Blocks) (g : Graph) (ws : Words) (keyword : Option Keyword) → IsRanked low (known_tests b g ws keyword)
ranked_known b g ws None = tt
ranked_known b g ws (Some Period) = ranked low (known_tests b g ws (Some Period)) refl
ranked_known b g ws (Some Task) = ranked low (known_tests b g ws (Some Task)) refl
ranked_known b g ws (Some Arc) = ranked low (known_tests b g ws (Some Arc)) refl
ranked_known b g ws (Some HardDeadline) = ranked low (known_tests b g ws (Some HardDeadline)) refl
ranked_known b g ws (Some SoftDeadline) = ranked low (known_tests b g ws (Some SoftDeadline)) refl

ranked_inner : (ws : Words) (own : List Test) → IsRanked low own → IsRanked low (inner_tests ws own)
ranked_inner ws own h =
    ranked_if low (is_closing ws) [] (if is_at (first ws) then (Unclosed, true) ∷ [] else own) tt (ranked_if low (is_at (first ws)) ((Unclosed, true) ∷ []) own
    (ranked low ((Unclosed, true) ∷ []) refl) h)

ranked_in : (c : Open) (b : Blocks) (ws : Words) → IsRanked low (tests_in c b ws)
ranked_in Outside b ws =
    let opening = opening_tests b (block_name ws) (block_index ws) in
    ranked_if low (is_opening ws) opening ((StrayClose, is_closing ws) ∷ []) (ranked low opening refl) (ranked low ((StrayClose, is_closing ws) ∷ []) refl)
ranked_in (InGraph g) b ws = ranked_inner ws (known_tests b g ws (keyword_of (first ws))) (ranked_known b g ws (keyword_of (first ws)))
ranked_in (InTable t) b ws = ranked_inner ws [] tt

pub rules_in_order : AreInOrder tgff_rules
rules_in_order = in_order later at_end (λ before ws. ranked_in (state_of before).current (state_of before).blocks ws) (λ before. ranked low (at_end before) refl)

-- ---- one statement more

after_all-push : (s : State) (done : List Statement) (line : Statement) → after_all s (done ++ line ∷ []) ≡ after (after_all s done) line.words
after_all-push s [] line = refl
after_all-push s (d ∷ done) line = after_all-push (after s d.words) done line

-- some lines are done: reading on gives what the file gives, and what stands then is what they state
pub record IsDone (done : List Statement) (left : Left) (state : State) (total : Reading) : Type 0 where
  pub so_far : run tgff_rules left.number done left.lines ≡ total
  pub state_is : state ≡ state_of done
  pub stands : IsState state

pub none_done : (left : Left) (state : State) → state ≡ start → IsDone [] left state (run tgff_rules left.number [] left.lines)
none_done left state e = record { so_far = refl; state_is = e; stands = subst IsState (sym e) start_stands }

pub line_done : (done : List Statement) (old new : Left) (state next : State) (total : Reading) (line : Numbered) (ws : Words) → IsDone done old state total → Gives old new line
    → ws ≡ texts (words_in line.content) → All IsWord (texts (words_in line.content)) → first_broken (tests state ws) ≡ None → next ≡ after state ws
    → IsDone (done ++ record { number = line.number; words = ws } ∷ []) new next total
line_done done old new state next total line ws d g e words fine is = record {
  so_far = goes_on later at_end done old new line ws total g e d.so_far (ap (λ (s : State). first_broken (tests s ws)) (sym d.state_is) ∙ fine);
  state_is = is ∙ ap (λ (s : State). after s ws) d.state_is ∙ sym (after_all-push start done (record { number = line.number; words = ws }));
  stands = subst IsState (sym is) (stands_more state ws d.stands (subst (All IsWord) (sym e) words) (some_word old new line ws g e) fine);
}

pub line_refused : (done : List Statement) (old new : Left) (state : State) (total : Reading) (line : Numbered) (ws : Words) (why : Why) → IsDone done old state total → Gives old new line
    → ws ≡ texts (words_in line.content) → first_broken (tests state ws) ≡ Some why → total ≡ Err (record { line = line.number; why = why })
line_refused done old new state total line ws why d g e broken =
    stops_here later at_end done old new line ws total why g e d.so_far (ap (λ (s : State). first_broken (tests s ws)) (sym d.state_is) ∙ broken)

closed_end : (s : State) → is_open s.current ≡ false → first_broken (end_tests s) ≡ None
closed_end s e = rw e refl

pub open_end : (s : State) → is_open s.current ≡ true → first_broken (end_tests s) ≡ Some Unclosed
open_end s e = rw e refl

pub file_done : (done : List Statement) (old new : Left) (state : State) (total : Reading) → IsDone done old state total → Passes old new → new.lines ≡ [] → is_open state.current ≡ false
    → total ≡ Ok done
file_done done old new state total d p none fine =
    ends_well later at_end done old new total p none d.so_far (ap (λ (s : State). first_broken (end_tests s)) (sym d.state_is) ∙ closed_end state fine)

pub file_refused : (done : List Statement) (old new : Left) (state : State) (number : ℕ) (total : Reading) (why : Why) → IsDone done old state total → Passes old new → new.lines ≡ []
    → number ≡ new.number + length new.lines → first_broken (end_tests state) ≡ Some why → total ≡ Err (record { line = number; why = why })
file_refused done old new state number total why d p none n broken =
    ends_broken later at_end done old new number total why p none n d.so_far (ap (λ (s : State). first_broken (end_tests s)) (sym d.state_is) ∙ broken)
