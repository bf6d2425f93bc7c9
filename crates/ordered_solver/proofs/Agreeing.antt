-- Frames that agree with a solver: what a search says of them, and how given constraints are numbered.
use Rattle.std.proofs.Common.{◌≡◌, ℕ, ◌+◌, ◌<◌, ◌^◌, Bool, true, List, [], ◌∷◌, ◌++◌, length, get_or, map, take, refl, sym, ap, ◌∙◌, subst, arith, zero, suc, append_assoc}
use Rattle.std.specs.Prelude.{All, Contains}
use Rattle.std.specs.List.{list_all}
use Rattle.std.proofs.lemmas.List.{map-append, length_push}
use Rattle.std.proofs.lemmas.List.Elements.{All-push}
use Rattle.pb_rules.specs.Literal.{Literal}
use Rattle.pb_rules.specs.Linear.{Linear, IsModel, AreAmong, bits_of}
use Rattle.pb_rules.specs.Operations.{Context, small_number}
use Rattle.pb_rules.specs.Frames.{Line, cover, Frame, IsFrame, FitsFrom, Given, context_of, base_of, given_by, derived_from, derived_by, with_block}
use Rattle.pb_rules.proofs.Closed.{unabsorbed_among, among_append, among_front, among_back}
use Rattle.pb_rules.proofs.Given.{given-append, given-cover, derived-append, under_at}
use Rattle.proof_log.specs.Log.{LogValue}
use Rattle.constraint_store.specs.Live.{Live, Content, content}
use Rattle.conflict_graph.specs.Learned.{constraints_in}
use Rattle.ordered_solver.specs.declared.answer.Answer.{Answer}
use Rattle.ordered_solver.specs.declared.answer.Answer.TheVariants.{Model, Nothing, Budget}
use Rattle.ordered_solver.specs.Answers.{AnswerSays, AnswersInFrames, AreHonestSteps, AreNewOverKept, AreNewSays, IsRefutation, LinesSay, new_lines}
use Rattle.ordered_solver.specs.Engines.{given_of, kept_of}
use Rattle.ordered_solver.specs.Lessons.{IsAnswered, IsFound}
use Rattle.ordered_solver.specs.Solver.{SolverValue, Agrees, AreKept, AreLastDerived, StandsIn, constraints_of, numbered}
use Rattle.ordered_solver.proofs.KeptOn.{stands_on}
use Rattle.ordered_solver.proofs.Parts.{under_parts, model_all, model_given, given_among, both_among, all_among}
use Rattle.ordered_solver.proofs.Shown.{shown_among}

-- lists with the same models have the same answer
says_same : (cs ds : List Linear) (order : List Literal) (answer : Answer) → ((v : ℕ → Bool) → IsModel cs v → IsModel ds v) → ((v : ℕ → Bool) → IsModel ds v → IsModel cs v)
    → AnswerSays cs order answer → AnswerSays ds order answer
says_same cs ds order (Model values) to from h = record {
  one_each = h.one_each;
  first = record { model = to (bits_of values.items) h.first.model; first = λ w m. h.first.first w (from w m) };
}
says_same cs ds order Nothing to from h = λ v m. h v (from v m)
says_same cs ds order Budget to from h = tt

-- a search's end, said of the given constraints
pub says_given : (start : List Live) (log : LogValue) (order : List Literal) (answer : Answer) → AreKept (given_of log start) (kept_of log start) log
    → AnswerSays (constraints_in start) order answer → AnswerSays (constraints_of (given_of log start)) order answer
says_given start log order answer keeps h =
    says_same (constraints_in start) (constraints_of (given_of log start)) order answer (λ v m. model_given v log start m) (λ v m. model_all v log start m (keeps.follow v m)) h

-- what is honest over a list is honest over a part of it
steps_part : (f : Frame) (g : Given) (cs ds : List Linear) (ls : List Line) → AreAmong cs ds → AreHonestSteps f g ds ls → AreHonestSteps f g cs ls
steps_part f g cs ds ls among h =
    let w = h.honest in
    let clauses : List Linear = derived_from f g ls in
    record {
      honest = record {
        derived_each = w.derived_each;
        after = w.after;
        legal = w.legal;
        honest = record {
          clauses_each = w.honest.clauses_each;
          unabsorbed = λ k d l.
              (let earlier : List Linear = take k clauses in
              unabsorbed_among (cs ++ earlier) (ds ++ earlier) (get_or clauses k d) (among_append cs earlier (ds ++ earlier) (λ x m. among_front ds earlier x (among x m)) (among_back ds earlier))
              (w.honest.unabsorbed k d l));
        };
      };
      no_contradiction = h.no_contradiction;
    }

refutation_part : (f : Frame) (g : Given) (cs ds : List Linear) (ls : List Line) → AreAmong cs ds → IsRefutation f g ds ls → IsRefutation f g cs ls
refutation_part f g cs ds ls among h = record { steps = h.steps; last = h.last; split = h.split; honest = steps_part f g cs ds h.steps among h.honest; contradicts = h.contradicts }

-- what is said of lines over all constraints, said over a part of them
lines_part : (f : Frame) (g : Given) (cs ds : List Linear) (order : List Literal) (ls whole : List Line) (answer : Answer) → AreAmong cs ds
    → AreAmong (ds ++ derived_by f whole) (cs ++ derived_by f whole) → LinesSay f g ds order ls whole answer → LinesSay f g cs order ls whole answer
lines_part f g cs ds order ls whole (Model values) among all h =
    record { honest = steps_part f g cs ds ls among h.honest; shows = shown_among (ds ++ derived_by f whole) (cs ++ derived_by f whole) order (bits_of values.items) all h.shows }
lines_part f g cs ds order ls whole Nothing among all h = refutation_part f g cs ds ls among h
lines_part f g cs ds order ls whole Budget among all h = steps_part f g cs ds ls among h

new_part : (f : Frame) (g : Given) (cs ds : List Linear) (order : List Literal) (ls whole : List Line) (answer : Answer) → AreAmong cs ds → LinesSay f g ds order ls whole answer
    → AreNewSays f g cs ls answer
new_part f g cs ds order ls whole (Model values) among h = steps_part f g cs ds ls among h.honest
new_part f g cs ds order ls whole Nothing among h = refutation_part f g cs ds ls among h
new_part f g cs ds order ls whole Budget among h = steps_part f g cs ds ls among h

-- all constraints are among the given ones and what the whole log derives, where the kept clauses are
derived_among : (cs gs ks earlier later ds : List Linear) → AreAmong cs (gs ++ ks) → ds ≡ (earlier ++ ks) ++ later → AreAmong (cs ++ ds) (gs ++ ds)
derived_among cs gs ks earlier later ds among e =
    let kept : AreAmong ks ds = λ c m. subst (λ (xs : List Linear). Contains xs c) (sym e) (among_front (earlier ++ ks) later c (among_back earlier ks c m)) in
    let both : AreAmong (gs ++ ks) (gs ++ ds) = among_append gs ks (gs ++ ds) (among_front gs ds) (λ c m. among_back gs ds c (kept c m)) in
    among_append cs ds (gs ++ ds) (λ c m. both c (among c m)) (among_back gs ds)

-- in a frame that agrees with the solver before, what the search's end says of the lines
answered : (start : List Live) (s : SolverValue) (new : LogValue) (order : List Literal) (variables budget : ℕ) (answer : Answer) (f : Frame) → s.given ≡ given_of s.log start
    → s.kept ≡ kept_of s.log start → AreKept (given_of s.log start) (kept_of s.log start) s.log → IsFound start s.log new order variables budget answer → (a : Agrees f s)
    → IsAnswered f a.given (constraints_in start) s.log new order answer × AreLastDerived f a.given s.log.lines (kept_of s.log start)
answered start s new order variables budget answer f eg ek keeps h a =
    let context : Context = context_of a.given in
    let stand : All (StandsIn context) (given_of s.log start) = subst (λ (cs : List Content). All (StandsIn context) cs) eg a.stand in
    let kp = keeps.last f a.given a.frame a.fits a.legal stand in
    (h.shown f a.given a.frame a.fits a.legal (under_parts context s.log start stand kp.stand), kp)

pub in_frames : (start : List Live) (s t : SolverValue) (order : List Literal) (variables budget : ℕ) (answer : Answer) → s.given ≡ given_of s.log start → s.kept ≡ kept_of s.log start
    → t.given ≡ s.given → AreKept (given_of s.log start) (kept_of s.log start) s.log → IsFound start s.log t.log order variables budget answer → AnswersInFrames s t order answer
in_frames start s t order variables budget answer eg ek same keeps h f a =
    let r = answered start s t.log order variables budget answer f eg ek keeps h a in
    let w = r.0 in
    let kp = r.1 in
    let lines : List Line = new_lines s.log t.log in
    let whole : List Linear = derived_by f t.log.lines in
    let gs : List Linear = constraints_of (given_of s.log start) in
    let ks : List Linear = constraints_of (kept_of s.log start) in
    let first : s.log.first ≡ t.log.first = sym (ap (λ (v : LogValue). v.first) h.log.kept) in
    let T : List Content → Type 0 = λ cs. All (StandsIn (context_of w.after)) cs in
    let grown : whole ≡ (kp.earlier ++ ks) ++ derived_from f a.given lines = ap (λ (v : LogValue). derived_by f v.lines) h.log.kept ∙ derived-append f (base_of f) a.given s.log.lines lines a.legal
    ∙ ap (λ (cs : List Linear). cs ++ derived_from f a.given lines) kp.last in
    let among = derived_among (constraints_in start) gs ks kp.earlier (derived_from f a.given lines) whole (all_among s.log start) grown in
    let L : List Content → Type 0 = λ cs. LinesSay f a.given (constraints_of cs) order lines t.log.lines answer in
    record {
      agrees = record {
        frame = a.frame;
        fits = subst (FitsFrom f) first a.fits;
        given = w.after;
        legal = ap (λ (v : LogValue). given_by f v.lines) h.log.kept ∙ given-append f (base_of f) a.given s.log.lines lines a.legal ∙ w.legal;
        stand = subst T (sym same) (stands_on f a.given w.after lines s.given w.legal a.stand);
      };
      before = a.given;
      legal_before = a.legal;
      lines = subst L (sym eg) (lines_part f a.given gs (constraints_in start) order lines t.log.lines answer (given_among s.log start) among w.lines);
    }

pub new_over-kept : (start : List Live) (s t : SolverValue) (order : List Literal) (variables budget : ℕ) (answer : Answer) → s.given ≡ given_of s.log start → s.kept ≡ kept_of s.log start
    → AreKept (given_of s.log start) (kept_of s.log start) s.log → IsFound start s.log t.log order variables budget answer → AreNewOverKept s t answer
new_over-kept start s t order variables budget answer eg ek keeps h f a =
    let r = answered start s t.log order variables budget answer f eg ek keeps h a in
    let w = r.0 in
    let lines : List Line = new_lines s.log t.log in
    let both = new_part f a.given (constraints_of (given_of s.log start) ++ constraints_of (kept_of s.log start)) (constraints_in start) order lines t.log.lines answer (both_among s.log start)
    w.lines in
    let G : List Content → Type 0 = λ cs. AreNewSays f a.given (constraints_of cs ++ constraints_of (kept_of s.log start)) lines answer in
    let K : List Content → Type 0 = λ cs. AreNewSays f a.given (constraints_of s.given ++ constraints_of cs) lines answer in
    subst K (sym ek) (subst G (sym eg) both)

-- one constraint more is under the next id
pub numbered-push : (id : ℕ) (cs : List Linear) (c : Linear) → numbered id (cs ++ c ∷ []) ≡ numbered id cs ++ record { constraint = c; proof_id = id + length cs } ∷ []
numbered-push id [] c = ap (λ n. record { constraint = c; proof_id = n } ∷ []) (omega arith)
numbered-push id (d ∷ cs) c =
    let n : (id + 1) + length cs ≡ id + suc (length cs) = omega arith in
    let rest = numbered-push (id + 1) cs c ∙ ap (λ m. numbered (id + 1) cs ++ record { constraint = c; proof_id = m } ∷ []) n in
    ap (λ (xs : List Content). record { constraint = d; proof_id = id } ∷ xs) rest

-- one constraint more under the next id
pub numbered_last : (cs : List Linear) (live : List Live) (x : Live) → x.proof_id ≡ length cs + 1 → map content live ≡ numbered 1 cs
    → map content (live ++ x ∷ []) ≡ numbered 1 (cs ++ x.constraint ∷ [])
numbered_last cs live x id e =
    let n : 1 + length cs ≡ x.proof_id = omega arith in
    map-append content live (x ∷ []) ∙ ap (λ (xs : List Content). xs ++ content x ∷ []) e ∙ sym (numbered-push 1 cs x.constraint
    ∙ ap (λ m. numbered 1 cs ++ record { constraint = x.constraint; proof_id = m } ∷ []) n)

-- constraints alone, given by no line
abbrev only : List Linear → Given
only cs = record { constraints = cs; covers = 0 }

-- the constraints of a new solver stand under their ids
numbered_stands : (id : ℕ) (early cs : List Linear) → id ≡ length early + 1 → id + length cs < 2 ^ 62 → All (StandsIn (context_of (only (early ++ cs)))) (numbered id cs)
numbered_stands id early [] e h k d l = absurd (omega arith)
numbered_stands id early (c ∷ cs) e h zero d l = record { small = omega arith; there = under_at early c cs id e }
numbered_stands id early (c ∷ cs) e h (suc k) d l =
    let len = length_push early c in
    let rest = numbered_stands (id + 1) (early ++ c ∷ []) cs (omega arith) (omega arith) k d (omega arith) in
    let P : List Linear → Type 0 = λ xs. StandsIn (context_of (only xs)) (get_or (numbered (id + 1) cs) k d) in
    subst P (append_assoc early (c ∷ []) cs) rest

-- a new solver agrees with its frame
pub agrees_new : (f : Frame) (variables : ℕ) (spent : Bool) → IsFrame f → length f.base + 1 < 2 ^ 62
    → Agrees f (record { variables = variables; given = numbered 1 f.base; kept = []; log = record { first = length f.base + 1; lines = [] }; spent = spent })
agrees_new f variables spent frame few = record { frame = frame; fits = refl; given = base_of f; legal = refl; stand = numbered_stands 1 [] f.base refl (omega arith) }

pub agrees_constraint : (f : Frame) (s : SolverValue) (c : Content) (a : Agrees f s) → StandsIn (context_of a.given) c → Agrees f (record s { given = s.given ++ c ∷ [] })
agrees_constraint f s c a stands = record { frame = a.frame; fits = a.fits; given = a.given; legal = a.legal; stand = All-push (StandsIn (context_of a.given)) s.given c a.stand stands }

pub agrees-cover : (f : Frame) (s : SolverValue) (v : List ℕ) → Agrees f s → list_all small_number v ≡ true → Agrees f (record s { log = record s.log { lines = s.log.lines ++ cover v ∷ [] } })
agrees-cover f s v a small =
    let one = given-cover f a.given a.given [] v refl small in
    record {
      frame = a.frame;
      fits = a.fits;
      given = with_block f a.given v;
      legal = given-cover f (base_of f) a.given s.log.lines v a.legal small;
      stand = stands_on f a.given (with_block f a.given v) (cover v ∷ []) s.given one a.stand;
    }
