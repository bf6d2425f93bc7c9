-- What a solve's answer says of a search.
use Rattle.std.proofs.Common.{◌≡◌, ◌≢◌, ℕ, ◌+◌, ◌*◌, ◌<◌, ◌≤◌, ◌^◌, Bool, false, Some, List, [], ◌∷◌, ◌++◌, length, get_or, take, refl, sym, ap, ◌∙◌, subst, arith, inl, pow_mono}
use Rattle.std.specs.Prelude.{All}
use Rattle.std.proofs.lemmas.Nat.{mul-le}
use Rattle.std.proofs.lemmas.List.{get_or-take, append_assoc, append-nil, length-append}
use Rattle.pb_rules.specs.Literal.{Literal}
use Rattle.pb_rules.specs.Linear.{Linear, IsModel, HasNoModel}
use Rattle.pb_rules.specs.Order.{IsFirstModel}
use Rattle.pb_rules.specs.Frames.{Line, Given, given_by, base_of, blocks_by, derived_from, derived_by, derived_count}
use Rattle.pb_rules.specs.Clauses.{contradiction}
use Rattle.pb_rules.proofs.Given.{derived-append}
use Rattle.pb_rules.proofs.Closed.{models_front}
use Rattle.proof_log.specs.Log.{LogValue}
use Rattle.proof_log.specs.HonestLog.{EndsASolve, AreHonestSolves}
use Rattle.spec_model.specs.Spec.{SpecValue, bits_of, design_variables, all_variables}
use Rattle.spec_model.specs.Vectors.{vector_of}
use Rattle.spec_model.specs.Genotypes.{natural}
use Rattle.spec_model.specs.WellFormed.{IsWellFormed}
use Rattle.encode_model.specs.Encoding.{encoding}
use Rattle.encode_model.specs.Block.{cover_frame}
use Rattle.block_encode.specs.Laws.{variables_to}
use Rattle.block_encode.proofs.Framing.{blocks_make_frame}
use Rattle.genotype.specs.Order.{IsOrderOf}
use Rattle.result_text.specs.Answers.{EntryValue}
use Rattle.ordered_solver.proofs.Agreeing.{agrees_new}
use Rattle.ordered_solver.specs.Solver.{SolverValue, constraints_of, numbered}
use Rattle.ordered_solver.specs.Answers.{IsFirst, AnswerSays, CountSays, GoesOnDerived, AnswersInFrames, AreHonestSteps, IsRefutation, new_lines}
use Rattle.ordered_solver.specs.declared.answer.Answer.{Answer}
use Rattle.ordered_solver.specs.declared.answer.Answer.TheVariants as answers
use Rattle.ordered_solver.proofs.Numbered.{numbered_back}
use Rattle.front_lists.specs.Lists.{IsNext, FoundWhole, vectors_in, covers_of}
use Rattle.front_lists.specs.Laws.{searched}
use Rattle.front_lists.proofs.Few.{found_are_few}
use Rattle.front_lists.proofs.Searching.{first_model_is_next, no_model_is_whole}
use Rattle.front_search.specs.declared.ending.SearchEnd.TheVariants as ends
use Rattle.front_search.specs.Searches.{EndSays, most_lines}
use Rattle.front_search.specs.Turns.{IsSearching, IsUnfinished, IsFoundNext}
use Rattle.proof_log.proofs.Solves.{begins_honest}
use Rattle.front_search.proofs.Steps.{HasSolved, count_solved, honest_solved, honest_log, covers_stand, searching_solved, refutes, mul-suc}

-- what is known after a solve, whatever it answered
pub solved_of : (s : SpecValue) (found : List EntryValue) (old new : SolverValue) (order : List Literal) (answer : Answer) → IsSearching s found old → GoesOnDerived old.log new.log
    → AnswersInFrames old new order answer → new ≡ record old { kept = new.kept; log = new.log } → HasSolved s old new (new_lines old.log new.log)
solved_of s found old new order answer h goes frames same = record {
  variables_same = ap (λ (v : SolverValue). v.variables) same;
  given_same = ap (λ (v : SolverValue). v.given) same;
  lines_are = ap (λ (v : LogValue). v.lines) goes.kept;
  derived_each = goes.derived_each;
  agrees = (frames (cover_frame s) h.agrees).agrees;
}

-- ---- how many lines there are

most_grows : (s : SpecValue) (m n b c : ℕ) → m ≤ n → b ≤ c → most_lines s m b ≤ most_lines s n c
most_grows s m n b c le few =
    let wider : variables_to s b ≤ variables_to s c = omega (arith, mul-le b (length s.objectives) c (length s.objectives) few (omega arith)) in
    mul-le m (2 ^ variables_to s b) n (2 ^ variables_to s c) le (pow_mono wider)

-- one solve more
most_after : (s : SpecValue) (b variables n old new : ℕ) → new ≡ old + n → n < 2 ^ variables → variables ≡ variables_to s b → old ≤ most_lines s b b → new < most_lines s (b + 1) b
most_after s b variables n old new e few is h =
    let same : 2 ^ variables ≡ 2 ^ variables_to s b = ap (λ (k : ℕ). 2 ^ k) is in
    omega (arith, e, few, same, h, mul-suc b (2 ^ variables_to s b))

-- one block more
pub most_covered : (s : SpecValue) (b lines : ℕ) → lines ≤ most_lines s (b + 1) b → lines ≤ most_lines s (b + 1) (b + 1)
most_covered s b lines h = omega (arith, h, most_grows s (b + 1) (b + 1) b (b + 1) (omega arith) (omega arith))

module _ (s : SpecValue) (found : List EntryValue) (old new : SolverValue) (order : List Literal) (budget left : ℕ) (wf : IsWellFormed s) (h : IsSearching s found old)
    (open_log : IsUnfinished s budget old.log.lines) (starts : EndsASolve old.log.lines) (bounded : derived_count old.log.lines ≤ most_lines s (length found) (length found))
    (rest : left + derived_count old.log.lines ≡ budget) (goes : GoesOnDerived old.log new.log) where
  pub count_said : derived_count new.log.lines ≡ derived_count old.log.lines + length (new_lines old.log new.log)
  count_said = count_solved old.log.lines new.log.lines (new_lines old.log new.log) (ap (λ (v : LogValue). v.lines) goes.kept) goes.derived_each

  honest_said : (g : Given) → given_by (cover_frame s) old.log.lines ≡ Some g → AreHonestSteps (cover_frame s) g (constraints_of old.given) (new_lines old.log new.log)
      → All (λ c. c ≢ contradiction) (derived_by (cover_frame s) new.log.lines) × AreHonestSolves (cover_frame s) new.log.lines
  honest_said g legal x =
      honest_solved s budget old.log.lines new.log.lines (new_lines old.log new.log) g open_log starts (ap (λ (v : LogValue). v.lines) goes.kept) legal
      (subst (λ (cs : List Linear). AreHonestSteps (cover_frame s) g cs (new_lines old.log new.log)) h.given_are x)

  pub model_turn : (n : ℕ) (values : List Bool) (e : EntryValue) (first : IsFirst (constraints_of old.given) order values)
      → IsOrderOf (natural (design_variables s)) n order → design_variables s ≤ n → length e.design ≡ design_variables s → e.design ≡ take (design_variables s) values
      → e.vector ≡ vector_of s (bits_of e.design)
      → IsNext s (vectors_in found) e
  model_turn n values e first o few len part vector =
      let is_first : IsFirstModel (searched s old.log.lines) order (bits_of values) = subst (λ (cs : List Linear). IsFirstModel cs order (bits_of values)) h.given_are first.first in
      let next = first_model_is_next s found old.log.lines n order (bits_of values) e.design wf h.prefix h.covers_are few o is_first len
      (λ v l. sym (ap (λ (xs : List Bool). get_or xs v false) part ∙ get_or-take (design_variables s) values v false l)) in
      subst (λ (w : List ℕ). IsNext s (vectors_in found) (record { design = e.design; vector = w })) (sym vector) next

  -- an answer other than that there is no model leaves the log honest
  pub model_open : (answer : Answer) (values : _) → answer ≡ answers.Model values → AnswersInFrames old new order answer → CountSays old.variables left (length (new_lines old.log new.log)) answer
      → IsUnfinished s budget new.log.lines
  model_open answer values e frames counts =
      let a = subst (λ (x : Answer). AnswersInFrames old new order x) e frames (cover_frame s) h.agrees in
      let k = subst (CountSays old.variables left (length (new_lines old.log new.log))) e counts in
      let said = honest_said a.before a.legal_before a.lines.honest in
      record { few = omega (arith, count_said, k.0, rest); none = said.0; honest = said.1 }

  pub model_most : (answer : Answer) (values : _) → answer ≡ answers.Model values → CountSays old.variables left (length (new_lines old.log new.log)) answer
      → derived_count new.log.lines ≤ most_lines s (length found + 1) (length found)
  model_most answer values e counts =
      let k = subst (CountSays old.variables left (length (new_lines old.log new.log))) e counts in
      omega (arith, most_after s (length found) old.variables (length (new_lines old.log new.log)) (derived_count old.log.lines) (derived_count new.log.lines) count_said k.1 h.variables_are bounded)

  pub budget_turn : (answer : Answer) → answer ≡ answers.Budget → AnswersInFrames old new order answer → CountSays old.variables left (length (new_lines old.log new.log)) answer
      → EndSays s budget found new.log.lines ends.Budget
  budget_turn answer e frames counts =
      let a = subst (λ (x : Answer). AnswersInFrames old new order x) e frames (cover_frame s) h.agrees in
      let k = subst (CountSays old.variables left (length (new_lines old.log new.log))) e counts in
      let all : derived_count new.log.lines ≡ budget = omega (arith, count_said, k.0, rest) in
      let most = most_after s (length found) old.variables (length (new_lines old.log new.log)) (derived_count old.log.lines) (derived_count new.log.lines) count_said k.1 h.variables_are bounded in
      let said = honest_said a.before a.legal_before a.lines in
      record {
        used_up = all;
        small =
            λ vs each. (let few = found_are_few s found vs h.prefix each in omega (
              arith,
              all,
              most,
              most_grows s (length found + 1) (length vs + 1) (length found) (length vs) (omega (arith, few)) few,
            ));
        honest = honest_log s new.log.lines said.0 said.1;
      }

  last_gives : (g : Given) → given_by (cover_frame s) old.log.lines ≡ Some g → (r : IsRefutation (cover_frame s) g (constraints_of old.given) (new_lines old.log new.log))
      → derived_by (cover_frame s) new.log.lines ≡ (derived_by (cover_frame s) old.log.lines ++ derived_from (cover_frame s) g r.steps) ++ contradiction ∷ []
  last_gives g legal r =
      ap (λ (v : LogValue). derived_by (cover_frame s) v.lines) goes.kept ∙ (derived-append (cover_frame s) (base_of (cover_frame s)) g old.log.lines (new_lines old.log new.log) legal
      ∙ (ap (λ (cs : List Linear). derived_by (cover_frame s) old.log.lines ++ cs) r.contradicts ∙ sym
      (append_assoc (derived_by (cover_frame s) old.log.lines) (derived_from (cover_frame s) g r.steps) (contradiction ∷ []))))

  pub nothing_turn : (answer : Answer) → answer ≡ answers.Nothing → covers_of new.log.lines ≡ vectors_in found → AnswersInFrames old new order answer
      → AnswerSays (constraints_of old.given) order answer → CountSays old.variables left (length (new_lines old.log new.log)) answer → EndSays s budget found new.log.lines ends.Complete
  nothing_turn answer e covers frames says counts =
      let k = subst (CountSays old.variables left (length (new_lines old.log new.log))) e counts in
      let a = subst (λ (x : Answer). AnswersInFrames old new order x) e frames (cover_frame s) h.agrees in
      let none : HasNoModel (constraints_of old.given) = subst (AnswerSays (constraints_of old.given) order) e says in
      let lines : new.log.lines ≡ old.log.lines ++ new_lines old.log new.log = ap (λ (v : LogValue). v.lines) goes.kept in
      record {
        whole = no_model_is_whole s found old.log.lines wf h.prefix h.covers_are (subst HasNoModel h.given_are none);
        refute = refutes s found old.log.lines new.log.lines (new_lines old.log new.log) a.before a.agrees.given (constraints_of old.given) (covers_stand s found new.log.lines h.prefix covers)
            lines goes.derived_each a.legal_before a.agrees.legal a.lines;
        last = (derived_by (cover_frame s) old.log.lines ++ derived_from (cover_frame s) a.before a.lines.steps, last_gives a.before a.legal_before a.lines);
        within = omega (arith, count_said, k.1, rest);
      }

-- a model says something of as many variables as the order has
pub model_says : (given : List Linear) (order : List Literal) (answer : Answer) (values : _) → answer ≡ answers.Model values → AnswerSays given order answer → IsFirst given order values.items
model_says given order answer values e says = subst (AnswerSays given order) e says

-- ---- the start

pub starts_searching : (s : SpecValue) (variables : ℕ) (cs : List Linear) (solver : SolverValue) → IsWellFormed s → variables ≡ all_variables s → cs ≡ encoding s → length cs + 1 < 2 ^ 62
    → solver ≡ record { variables = variables; given = numbered 1 cs; kept = []; log = record { first = length cs + 1; lines = [] }; spent = false } → IsSearching s [] solver
starts_searching s variables cs solver wf ev ec few e =
    let fresh : List Linear → SolverValue = λ ds. record { variables = variables; given = numbered 1 ds; kept = []; log = record { first = length ds + 1; lines = [] }; spent = false } in
    let is : solver ≡ fresh (encoding s) = e ∙ ap fresh ec in
    let short : length (encoding s) + 1 < 2 ^ 62 = subst (λ (ds : List Linear). length ds + 1 < 2 ^ 62) ec few in
    subst (IsSearching s []) (sym is) (record {
      variables_are = omega (arith, ev);
      given_are = numbered_back 1 (encoding s) ∙ sym (append-nil (encoding s));
      covers_are = refl;
      agrees = agrees_new (cover_frame s) variables false (blocks_make_frame s wf) short;
      prefix = λ i d l. absurd (omega (arith, l));
    })

pub starts_unfinished : (s : SpecValue) (budget : ℕ) (ls : List Line) → 0 < budget → ls ≡ [] → IsUnfinished s budget ls
starts_unfinished s budget ls some e = subst (IsUnfinished s budget) (sym e) (record { few = some; none = λ k d l. absurd (omega (arith, l)); honest = begins_honest (cover_frame s) })

-- ---- the design of a model

-- a model of all constraints is one of the encoding
pub model_encodes : (s : SpecValue) (found : List EntryValue) (old : SolverValue) (order : List Literal) (values : List Bool) → IsSearching s found old
    → IsFirst (constraints_of old.given) order values → IsModel (encoding s) (bits_of values)
model_encodes s found old order values h first =
    models_front (bits_of values) (encoding s) (blocks_by (cover_frame s) old.log.lines) (subst (λ (cs : List Linear). IsModel cs (bits_of values)) h.given_are first.first.model)
