-- What a search ends with: the budget, that there is no model, or the first model.
use Rattle.std.proofs.Common.{◌≡◌, ◌≢◌, ℕ, ◌+◌, ◌<◌, Bool, true, Some, None, List, [], ◌∷◌, ◌++◌, length, get_or, take, drop, refl, sym, ap, ◌∙◌, subst, arith, append_assoc}
use Rattle.std.specs.Prelude.{All, Contains}
use Rattle.std.specs.Global.{Vec}
use Rattle.std.proofs.lemmas.List.{drop_at, length_push}
use Rattle.std.proofs.lemmas.List.Elements.{All-push, All-map, All-contains}
use Rattle.pb_constraints.specs.declared.ConId.{ConId}
use Rattle.pb_rules.specs.declared.Op.{Op}
use Rattle.pb_rules.specs.Literal.{Literal}
use Rattle.pb_rules.specs.Linear.{Linear, Holds, IsModel, AreAmong, bits_of}
use Rattle.pb_rules.specs.Partial.{IsClosed, whole}
use Rattle.pb_rules.specs.Clauses.{contradiction}
use Rattle.pb_rules.specs.Honest.{LeavesOne}
use Rattle.pb_rules.specs.Order.{ShowsFirst}
use Rattle.pb_rules.specs.Frames.{Line, derived, Frame, Given, context_of, base_of, given_from, derived_from, derived_by, with_derived}
use Rattle.pb_rules.proofs.Closed.{no_model, contradiction_absorbed, unabsorbed_not, models_front, among_front, among_back, among_append}
use Rattle.pb_rules.proofs.Given.{given-push, given_knows, derived-push, derived-append}
use Rattle.proof_log.specs.Log.{LogValue}
use Rattle.proof_log.specs.HonestLog.{AreHonestLines}
use Rattle.constraint_store.specs.Live.{Live}
use Rattle.trail_state.specs.Trail.{Entry, value_in, IsDistinct}
use Rattle.trail_state.proofs.Levels.{first_at}
use Rattle.propagate.specs.Attached.{Attached, attached_at}
use Rattle.propagate.specs.Forced.{AllClosed}
use Rattle.conflict_graph.specs.Learned.{constraints_in}
use Rattle.ordered_solver.specs.declared.answer.Answer.TheVariants.{Model, Nothing, Budget}
use Rattle.ordered_solver.specs.Answers.{GoesOnDerived, AreHonestSteps, IsRefutation, new_lines}
use Rattle.ordered_solver.specs.Engines.{IsAttached, IsInRange}
use Rattle.ordered_solver.specs.Lessons.{HasLearned, IsFound, IsCounted, Refutes}
use Rattle.ordered_solver.specs.Marks.{marks}
use Rattle.ordered_solver.specs.Trails.{IsSearch, IsFull, HasValues, Covers}
use Rattle.ordered_solver.proofs.Words.{word-lt}
use Rattle.ordered_solver.proofs.Lessons.{IsDerived, constraints-append}
use Rattle.ordered_solver.proofs.Shown.{TakesBelow, shows_first, shown_among, first_of_shown, closed_holds}

-- the new lines of a log are those that were written
lines_are : (old new : LogValue) (lines : List Line) → new ≡ record old { lines = old.lines ++ lines } → new_lines old new ≡ lines
lines_are old new lines w = ap (λ (v : LogValue). drop (length old.lines) v.lines) w ∙ drop_at old.lines lines (length old.lines) refl

goes_derived : (old new : LogValue) (lines : List Line) → new ≡ record old { lines = old.lines ++ lines } → All IsDerived lines → GoesOnDerived old new
goes_derived old new lines w each =
    let is = lines_are old new lines w in
    record {
      kept = w ∙ ap (λ (ls : List Line). record old { lines = old.lines ++ ls }) (sym is);
      derived_each = subst (All IsDerived) (sym is) each;
    }

-- what is honest does not give `0 >= 1`
honest_steps : (f : Frame) (g : Given) (base : List Linear) (ls : List Line) → AreHonestLines f g base ls → AreHonestSteps f g base ls
honest_steps f g base ls h = record {
  honest = h;
  no_contradiction = λ k d l e. (let cs : List Linear = base ++ take k (derived_from f g ls) in
      unabsorbed_not cs (get_or (derived_from f g ls) k d) (h.honest.unabsorbed k d l) (λ p closed left. contradiction_absorbed cs p closed (subst (LeavesOne p) e left)));
}

-- the budget is used up
pub found_budget : (start live : List Live) (ids ids_after : List ConId) (old new : LogValue) (order : List Literal) (variables budget n : ℕ) (es : List Entry)
    → HasLearned start live ids ids_after old new n → n ≡ budget → IsCounted variables es n → IsFound start old new order variables budget Budget
found_budget start live ids ids_after old new order variables budget n es h e counted =
    let is = lines_are old new h.added.lines h.added.written in
    let len : length (new_lines old new) ≡ n = ap length is ∙ h.counted in
    let top = word-lt variables (marks es) in
    record {
      says = tt;
      log = goes_derived old new h.added.lines h.added.written h.added.derived_each;
      count = (omega arith, omega arith);
      shown = λ f g frame fits legal under.
          (let s = h.added.shown f g frame fits legal under in
          let new-ones = h.honest f g frame fits legal under in
          let L : List Line → Type 0 = λ ls. given_from f g ls ≡ Some s.after in
          let A : List Line → Type 0 = λ ls. AreHonestSteps f g (constraints_in start) ls in
          record { after = s.after; legal = subst L (sym is) s.legal; lines = subst A (sym is) (honest_steps f g (constraints_in start) h.added.lines new-ones) });
    }

-- there is no model
pub found_nothing : (start live after : List Live) (ids ids_after : List ConId) (old mid new : LogValue) (id : ConId) (order : List Literal) (variables budget n : ℕ) (es : List Entry)
    → HasLearned start live ids ids_after old mid n → Refutes live after mid new id → n < budget → IsCounted variables es n → IsFound start old new order variables budget Nothing
found_nothing start live after ids ids_after old mid new id order variables budget n es h r below counted =
    let ops : List Op = (r.derives).ops in
    let last : Line = derived ops in
    let lines : List Line = h.added.lines ++ last ∷ [] in
    let written : new ≡ record old { lines = old.lines ++ lines } = (r.derives).one_more ∙ ap (λ (v : LogValue). record v { lines = v.lines ++ last ∷ [] }) h.added.written
    ∙ ap (λ (ls : List Line). record old { lines = ls }) (append_assoc old.lines h.added.lines (last ∷ [])) in
    let is = lines_are old new lines written in
    let len : length (new_lines old new) ≡ n + 1 = ap length is ∙ length_push h.added.lines last ∙ ap (λ m. m + 1) h.counted in
    let top = word-lt variables (marks es) in
    record {
      says = λ v m. no_model (constraints_in live) r.propagated v (h.added.follow v m);
      log = goes_derived old new lines written (All-push IsDerived h.added.lines last h.added.derived_each refl);
      count = (omega arith, (omega arith, omega arith));
      shown = λ f g frame fits legal under.
          (let s = h.added.shown f g frame fits legal under in
          let new-ones = h.honest f g frame fits legal under in
          let gives = (r.derives).legal (context_of s.after) (given_knows s.after) s.under in
          let L : List Line → Type 0 = λ ls. given_from f g ls ≡ Some (with_derived s.after contradiction) in
          let A : List Line → Type 0 = λ ls. IsRefutation f g (constraints_in start) ls in
          record {
            after = with_derived s.after contradiction;
            legal = subst L (sym is) (given-push f g s.after h.added.lines ops contradiction s.legal gives);
            lines = subst A (sym is) (record {
              steps = h.added.lines;
              last = last;
              split = refl;
              honest = honest_steps f g (constraints_in start) h.added.lines new-ones;
              contradicts = derived-push f g s.after h.added.lines ops contradiction s.legal gives;
            });
          });
    }

-- the values of a trail have its literals
takes_values : (es : List Entry) (variables : ℕ) (values : List Bool) → IsDistinct es → All (λ (e : Entry). e.lit.var < variables) es → HasValues variables es values
    → TakesBelow (whole (bits_of values)) es (length es)
takes_values es variables values distinct below h j d l =
    let at = first_at es (get_or es j d).lit.var j d l refl (distinct j d l) in
    ap (λ (b : Bool). Some b) (h.each (get_or es j d).lit.var (get_or es j d).lit.yes (below j d l) at.value)

-- each variable has a value
full_below : (order : List Literal) (es : List Entry) (variables : ℕ) → Covers order variables → IsFull order es → (x : ℕ) → x < variables → value_in es x ≢ None
full_below order es variables covers full x l =
    let c = covers x l in
    let d : Literal = record { var = 0; yes = true } in
    let P : ℕ → Type 0 = λ y. value_in es y ≢ None in
    subst P (c.2 d) (full c.0 d c.1)

-- each attached constraint is one of the live ones
abbrev pub AreHeld : List Live → List Attached → Type 0
AreHeld live held = (c : ConId) (k : Linear) → attached_at held c ≡ Some k → Contains (constraints_in live) k

-- each variable has a value, and nothing is in conflict
pub found_model : (start live : List Live) (ids ids_after : List ConId) (held : List Attached) (old new : LogValue) (order : List Literal) (variables budget n : ℕ) (es : List Entry)
    (values : Vec Bool) → HasLearned start live ids ids_after old new n → n < budget → IsCounted variables es n → length order ≡ variables → Covers order variables → All (IsAttached held) live
    → All (IsInRange variables) live → AreHeld live held → IsSearch held order es → IsFull order es → AllClosed held es → IsDistinct es → All (λ (e : Entry). e.lit.var < variables) es
    → HasValues variables es values.items → IsFound start old new order variables budget (Model values)
found_model start live ids ids_after held old new order variables budget n es values h below counted every covers attached in_range among decided full closed distinct inside has =
    let v : ℕ → Bool = bits_of values.items in
    let is = lines_are old new h.added.lines h.added.written in
    let len : length (new_lines old new) ≡ n = ap length is ∙ h.counted in
    let top = word-lt variables (marks es) in
    let takes = takes_values es variables values.items distinct inside has in
    let shown : ShowsFirst (constraints_in live) order v = shows_first held (constraints_in live) order es v decided full takes
    (λ b closed-b c k at. All-contains (IsClosed b) (constraints_in live) k closed-b (among c k at)) in
    let model : IsModel (constraints_in live) v = All-map (Holds v) (λ (e : Live). e.constraint) live
    (λ i d l. closed_holds es v (get_or live i d).constraint takes (λ j t lt. full_below order es variables covers full (get_or (get_or live i d).constraint.terms j t).lit.var
    (in_range i d l j t lt)) (closed (get_or live i d).id (get_or live i d).constraint (attached i d l))) in
    let split : constraints_in live ≡ constraints_in start ++ constraints_in h.added.more = ap constraints_in h.added.split ∙ constraints-append start h.added.more in
    let M : List Linear → Type 0 = λ cs. IsModel cs v in
    record {
      says = record {
        one_each = has.one_each ∙ sym every;
        first = record {
          model = models_front v (constraints_in start) (constraints_in h.added.more) (subst M split model);
          first = λ w m. first_of_shown (constraints_in live) order v w shown (h.added.follow w m);
        };
      };
      log = goes_derived old new h.added.lines h.added.written h.added.derived_each;
      count = (omega arith, omega arith);
      shown = λ f g frame fits legal under.
          (let s = h.added.shown f g frame fits legal under in
          let new-ones = h.honest f g frame fits legal under in
          let L : List Line → Type 0 = λ ls. given_from f g ls ≡ Some s.after in
          let A : List Line → Type 0 = λ ls. AreHonestSteps f g (constraints_in start) ls in
          let whole-derived : derived_by f new.lines ≡ derived_by f old.lines ++ constraints_in h.added.more = ap (λ (w : LogValue). derived_by f w.lines) h.added.written
          ∙ derived-append f (base_of f) g old.lines h.added.lines legal ∙ ap (λ (cs : List Linear). derived_by f old.lines ++ cs) s.gives in
          let all : AreAmong (constraints_in live) (constraints_in start ++ derived_by f new.lines) =
          live-among (constraints_in start) (derived_by f old.lines) (constraints_in h.added.more) (constraints_in live) (derived_by f new.lines) split whole-derived in
          record {
            after = s.after;
            legal = subst L (sym is) s.legal;
            lines = record {
              honest = subst A (sym is) (honest_steps f g (constraints_in start) h.added.lines new-ones);
              shows = shown_among (constraints_in live) (constraints_in start ++ derived_by f new.lines) order v all shown;
            };
          });
    }
  where
    live-among : (first early more all ds : List Linear) → all ≡ first ++ more → ds ≡ early ++ more → AreAmong all (first ++ ds)
    live-among first early more all ds a d =
        let P : List Linear → Type 0 = λ cs. AreAmong cs (first ++ ds) in
        let Q : List Linear → Type 0 = λ cs. AreAmong more (first ++ cs) in
        let back : AreAmong more (first ++ (early ++ more)) = λ c k. among_back first (early ++ more) c (among_back early more c k) in
        subst P (sym a) (among_append first more (first ++ ds) (among_front first ds) (subst Q (sym d) back))
