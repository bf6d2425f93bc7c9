-- What the solver's answer says, said of the decoder's answer that stands for it.
use Rattle.std.proofs.Common.{◌≡◌, ℕ, ◌+◌, ◌<◌, ◌^◌, Bool, true, false, Some, List, [], ◌++◌, length, refl, sym, ap, ◌∙◌, subst, arith}
use Rattle.std.specs.Prelude.{All}
use Rattle.std.proofs.lemmas.List.Elements.{All-append}
use Rattle.pb_rules.specs.Literal.{Literal}
use Rattle.pb_rules.specs.Linear.{Linear}
use Rattle.pb_rules.specs.Frames.{Line, Frame, Given, derived_by, is_derived}
use Rattle.proof_log.specs.Log.{LogValue}
use Rattle.spec_model.specs.Spec.{SpecValue, design_variables, all_variables}
use Rattle.spec_model.specs.WellFormed.{IsWellFormed}
use Rattle.spec_model.specs.Genotypes.{GeneValue}
use Rattle.encode_model.specs.Encoding.{encoding}
use Rattle.genotype.specs.Order.{IsOrderOf}
use Rattle.pb_constraints.specs.Sets.{SetValue}
use Rattle.ordered_solver.specs.declared.answer.Answer.{Answer}
use Rattle.ordered_solver.specs.declared.answer.Answer.TheVariants as answers
use Rattle.ordered_solver.specs.Answers.{IsFirst, AnswerSays, AnswersInFrames, CountSays, GoesOnDerived, LinesSay, new_lines}
use Rattle.ordered_solver.specs.Solver.{SolverValue, Agrees, constraints_of, numbered}
use Rattle.ordered_solver.proofs.Agreeing.{agrees_new}
use Rattle.ordered_solver.proofs.Numbered.{numbered_back}
use Rattle.sat_decoder.specs.declared.decoded.Decoded.{Decoded}
use Rattle.sat_decoder.specs.declared.decoded.Decoded.TheVariants.{First, Nothing, Budget}
use Rattle.sat_decoder.specs.Decoder.{IsFrameOf, IsLogOf, IsSolverOf}
use Rattle.sat_decoder.specs.Decoding.{DecodedSays, LineCountSays, NewLinesSay, IsShown}
use Rattle.sat_decoder.specs.Models.{MayHaveModel, StandsFor}
use Rattle.sat_decoder.proofs.Firsts.{first_valid, no_valid, shows_design}

-- the given constraints of a solver of a specification
encoding_given : (s : SpecValue) (solver : SolverValue) → IsSolverOf s solver → constraints_of solver.given ≡ encoding s
encoding_given s solver h = ap constraints_of h.given_are ∙ numbered_back 1 (encoding s)

-- a solver's model is one of the encoding
pub may_have_model : (s : SpecValue) (solver : SolverValue) (order : List Literal) (answer : Answer) → IsSolverOf s solver → length order ≡ all_variables s
    → AnswerSays (constraints_of solver.given) order answer → MayHaveModel s answer
may_have_model s solver order (answers.Model values) tie len h =
    let k : IsFirst (encoding s) order values.items = subst (λ (cs : List Linear). IsFirst cs order values.items) (encoding_given s solver tie) h in
    record { one_each = k.one_each ∙ len; model = k.first.model }
may_have_model s solver order answers.Nothing tie len h = tt
may_have_model s solver order answers.Budget tie len h = tt

says_of : (s : SpecValue) (genes : List GeneValue) (order : List Literal) (answer : Answer) (decoded : Decoded) → IsWellFormed s → length genes ≡ design_variables s
    → IsOrderOf genes (all_variables s) order → AnswerSays (encoding s) order answer → StandsFor s answer decoded → DecodedSays s genes decoded
says_of s genes order (answers.Model values) (First design) wf few o h x = first_valid s genes order values.items design wf few o h x
says_of s genes order (answers.Model values) Nothing wf few o h x = absurd x
says_of s genes order (answers.Model values) Budget wf few o h x = absurd x
says_of s genes order answers.Nothing (First design) wf few o h x = absurd x
says_of s genes order answers.Nothing Nothing wf few o h x = no_valid s wf h
says_of s genes order answers.Nothing Budget wf few o h x = absurd x
says_of s genes order answers.Budget (First design) wf few o h x = absurd x
says_of s genes order answers.Budget Nothing wf few o h x = absurd x
says_of s genes order answers.Budget Budget wf few o h x = tt

-- what is said of the designs
pub says : (s : SpecValue) (genes : List GeneValue) (solver : SolverValue) (order : List Literal) (answer : Answer) (decoded : Decoded) → IsSolverOf s solver → IsWellFormed s
    → length genes ≡ design_variables s → IsOrderOf genes (all_variables s) order → AnswerSays (constraints_of solver.given) order answer → StandsFor s answer decoded → DecodedSays s genes decoded
says s genes solver order answer decoded tie wf few o h x =
    says_of s genes order answer decoded wf few o (subst (λ (cs : List Linear). AnswerSays cs order answer) (encoding_given s solver tie) h) x

counts_of : (s : SpecValue) (budget n : ℕ) (answer : Answer) (decoded : Decoded) → CountSays (all_variables s) budget n answer → StandsFor s answer decoded → LineCountSays s budget n decoded
counts_of s budget n (answers.Model values) (First design) h x = h
counts_of s budget n (answers.Model values) Nothing h x = absurd x
counts_of s budget n (answers.Model values) Budget h x = absurd x
counts_of s budget n answers.Nothing (First design) h x = absurd x
counts_of s budget n answers.Nothing Nothing h x = h
counts_of s budget n answers.Nothing Budget h x = absurd x
counts_of s budget n answers.Budget (First design) h x = absurd x
counts_of s budget n answers.Budget Nothing h x = absurd x
counts_of s budget n answers.Budget Budget h x = h

-- what is said of how many lines there are
pub counts : (s : SpecValue) (solver : SolverValue) (budget n : ℕ) (answer : Answer) (decoded : Decoded) → IsSolverOf s solver → CountSays solver.variables budget n answer
    → StandsFor s answer decoded → LineCountSays s budget n decoded
counts s solver budget n answer decoded tie h x =
    counts_of s budget n answer decoded (subst (λ (k : ℕ). CountSays k budget n answer) tie.variables_are h) x

lines_of : (f : Frame) (before : Given) (s : SpecValue) (genes : List GeneValue) (order : List Literal) (ls whole : List Line) (answer : Answer) (decoded : Decoded)
    → length genes ≡ design_variables s → IsOrderOf genes (all_variables s) order → LinesSay f before (encoding s) order ls whole answer → StandsFor s answer decoded
    → NewLinesSay f before s genes ls whole decoded
lines_of f before s genes order ls whole (answers.Model values) (First design) few o h x =
    record { honest = h.honest; shows = shows_design s genes order values.items design (encoding s ++ derived_by f whole) few o x h.shows }
lines_of f before s genes order ls whole (answers.Model values) Nothing few o h x = absurd x
lines_of f before s genes order ls whole (answers.Model values) Budget few o h x = absurd x
lines_of f before s genes order ls whole answers.Nothing (First design) few o h x = absurd x
lines_of f before s genes order ls whole answers.Nothing Nothing few o h x = h
lines_of f before s genes order ls whole answers.Nothing Budget few o h x = absurd x
lines_of f before s genes order ls whole answers.Budget (First design) few o h x = absurd x
lines_of f before s genes order ls whole answers.Budget Nothing few o h x = absurd x
lines_of f before s genes order ls whole answers.Budget Budget few o h x = h

-- what is said of the lines
pub shown : (s : SpecValue) (genes : List GeneValue) (old new : SolverValue) (order : List Literal) (answer : Answer) (decoded : Decoded) → IsSolverOf s old → length genes ≡ design_variables s
    → IsOrderOf genes (all_variables s) order → AnswersInFrames old new order answer → StandsFor s answer decoded → IsShown s genes old.log new.log decoded
shown s genes old new order answer decoded tie few o h x f frame =
    let a = h f (tie.agrees f frame) in
    let ls : List Line = new_lines old.log new.log in
    let L : List Linear → Type 0 = λ cs. LinesSay f a.before cs order ls new.log.lines answer in
    record {
      before = a.before;
      legal_before = a.legal_before;
      after = a.agrees.given;
      legal_after = a.agrees.legal;
      lines = lines_of f a.before s genes order ls new.log.lines answer decoded few o (subst L (encoding_given s old tie) a.lines) x;
    }

abbrev IsDerived : Line → Type 0
IsDerived l = is_derived l ≡ true

-- a log of the specification goes on by legal derived lines
log_later : (s : SpecValue) (old new : SolverValue) (order : List Literal) (answer : Answer) → IsSolverOf s old → GoesOnDerived old.log new.log → AnswersInFrames old new order answer
    → IsLogOf s new.log
log_later s old new order answer tie goes h = record {
  first_after = ap (λ (v : LogValue). v.first) goes.kept ∙ tie.log_of.first_after;
  derived_each = subst (All IsDerived) (sym (ap (λ (v : LogValue). v.lines) goes.kept)) (All-append IsDerived old.log.lines (new_lines old.log new.log) tie.log_of.derived_each goes.derived_each);
  legal = λ f frame. (let a = h f (tie.agrees f frame) in record { given = a.agrees.given; legal = a.agrees.legal });
}

-- a solver of the specification stays one
pub solver_later : (s : SpecValue) (old new : SolverValue) (order : List Literal) (answer : Answer) → IsSolverOf s old → new ≡ record old { kept = new.kept; log = new.log }
    → GoesOnDerived old.log new.log → AnswersInFrames old new order answer → IsSolverOf s new
solver_later s old new order answer tie same goes h = record {
  variables_are = ap (λ (v : SolverValue). v.variables) same ∙ tie.variables_are;
  given_are = ap (λ (v : SolverValue). v.given) same ∙ tie.given_are;
  not_spent = ap (λ (v : SolverValue). v.spent) same ∙ tie.not_spent;
  log_of = log_later s old new order answer tie goes h;
  agrees = λ f frame. (let a = h f (tie.agrees f frame) in a.agrees);
}

-- a new solver over constraints
abbrev solver_over : ℕ → List Linear → SolverValue
solver_over variables cs = record { variables = variables; given = numbered 1 cs; kept = []; log = record { first = length cs + 1; lines = [] }; spent = false }

agrees_first : (s : SpecValue) (f : Frame) → IsFrameOf s f → length (encoding s) + 1 < 2 ^ 62 → Agrees f (solver_over (all_variables s) (encoding s))
agrees_first s f h few =
    let short : length f.base + 1 < 2 ^ 62 = subst (λ (cs : List Linear). length cs + 1 < 2 ^ 62) (sym h.base_is) few in
    subst (λ (cs : List Linear). Agrees f (solver_over (all_variables s) cs)) h.base_is (agrees_new f (all_variables s) false h.frame short)

solver_first : (s : SpecValue) → length (encoding s) + 1 < 2 ^ 62 → IsSolverOf s (solver_over (all_variables s) (encoding s))
solver_first s few = record {
  variables_are = refl;
  given_are = refl;
  not_spent = refl;
  log_of = record {
    first_after = refl;
    derived_each = λ i d l. absurd (omega (arith, l));
    legal = λ f frame. (let a = agrees_first s f frame few in record { given = a.given; legal = a.legal });
  };
  agrees = λ f frame. agrees_first s f frame few;
}

-- a solver that was made of the encoding is a solver of the specification
pub solver_new : (s : SpecValue) (set : SetValue) (solver : SolverValue) → set.variables ≡ all_variables s → set.constraints ≡ encoding s → length set.constraints + 1 < 2 ^ 62
    → solver ≡ record { variables = set.variables; given = numbered 1 set.constraints; kept = []; log = record { first = length set.constraints + 1; lines = [] }; spent = false } → IsSolverOf s solver
solver_new s set solver ev ec few e =
    let is : solver ≡ solver_over (all_variables s) (encoding s) = e ∙ (ap (λ (n : ℕ). solver_over n set.constraints) ev ∙ ap (solver_over (all_variables s)) ec) in
    subst (IsSolverOf s) (sym is) (solver_first s (subst (λ (cs : List Linear). length cs + 1 < 2 ^ 62) ec few))
