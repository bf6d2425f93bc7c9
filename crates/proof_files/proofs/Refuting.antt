-- Lines that refute the encoding are accepted by who checks a front.
use Rattle.std.proofs.Common.{◌≡◌, ◌∙◌, ◌+◌, ◌++◌, ◌∷◌, [], ℕ, true, List, Option, Some, Result, Ok, Err, All, length, get_or, refl, sym, ap, subst, arith}
use Rattle.std.specs.Result.{result_ok}
use Rattle.std.proofs.lemmas.List.{append_cancel_left, get_or_push, length_push}
use Rattle.pb_rules.specs.declared.Op.{Op}
use Rattle.pb_rules.specs.Linear.{Linear}
use Rattle.pb_rules.specs.Operations.{Fault, line_gives}
use Rattle.pb_rules.specs.Clauses.{contradiction}
use Rattle.pb_rules.specs.Frames.{Line, derived, cover, Frame, Given, base_of, context_of, given_by, given_from, derived_by, derived_from, derived_count, is_derived, onto_some}
use Rattle.pb_rules.proofs.Given.{derived-append}
use Rattle.spec_model.specs.Spec.{SpecValue}
use Rattle.encode_model.specs.Encoding.{encoding}
use Rattle.encode_model.specs.Block.{cover_frame}
use Rattle.front_model.specs.Proofs.{MayStand, Refute}
use Rattle.ordered_solver.specs.Answers.{IsRefutation}
use Rattle.proof_files.specs.Proving.{AreDerived, IsWithin, RefuteAll}

-- a derived line gives the one constraint that it is said to give
gives_one : (r : Result Linear Fault) (c : Linear) → onto_some (result_ok r) (λ c. []) ≡ c ∷ [] → r ≡ Ok c
gives_one (Ok d) c e = let q : d ≡ c = cc in ap Ok q
gives_one (Err f) c e = absurd (cc)

-- the last line of a refutation derives `0 >= 1`
last_gives : (f : Frame) (g h : Given) (steps : List Line) (ops : List Op) → given_from f g steps ≡ Some h
    → derived_from f g (steps ++ derived ops ∷ []) ≡ derived_from f g steps ++ contradiction ∷ [] → line_gives (context_of h) ops ≡ Ok contradiction
last_gives f g h steps ops legal e =
    let rest : derived_from f h (derived ops ∷ []) ≡ contradiction ∷ [] = append_cancel_left (derived_from f g steps) _ _ (sym (derived-append f g h steps (derived ops ∷ []) legal) ∙ e) in
    gives_one (line_gives (context_of h) ops) contradiction rest

-- derived lines are no covers
no_covers : (s : SpecValue) (us : List (List ℕ)) (ls : List Line) → All (λ l. is_derived l ≡ true) ls → All (MayStand s us) ls
no_covers s us ls each = λ k d l. one (get_or ls k d) (each k d l)
  where
    one : (l : Line) → is_derived l ≡ true → MayStand s us l
    one (derived ops) e = tt
    one (cover v) e = absurd (cc)

refutes : (s : SpecValue) (steps : List Line) (last : Line) (ls : List Line) → All (λ l. is_derived l ≡ true) ls → is_derived last ≡ true → ls ≡ steps ++ last ∷ [] → (h : Given)
    → given_by (cover_frame s) steps ≡ Some h → derived_by (cover_frame s) ls ≡ derived_by (cover_frame s) steps ++ contradiction ∷ [] → Refute s [] ls
refutes s steps (cover v) ls each is split h legal e = absurd (cc)
refutes s steps (derived ops) ls each is split h legal e = record {
  covers = no_covers s [] ls each;
  early = steps;
  last = ops;
  whole = split;
  before = h;
  legal = legal;
  clash = contradiction;
  gives =
      last_gives (cover_frame s) (base_of (cover_frame s)) h steps ops legal (subst (λ (ks : List Line). derived_by (cover_frame s) ks ≡ derived_by (cover_frame s) steps ++ contradiction ∷ [])
      split e);
  clashes = record { no_terms = refl; asks = omega arith };
}

-- the last of derived lines is derived
last_derived : (steps : List Line) (last : Line) (ls : List Line) → All (λ l. is_derived l ≡ true) ls → ls ≡ steps ++ last ∷ [] → is_derived last ≡ true
last_derived steps last ls each split =
    let len : length ls ≡ length steps + 1 = ap length split ∙ length_push steps last in
    let at : get_or ls (length steps) last ≡ last = ap (λ (ks : List Line). get_or ks (length steps) last) split ∙ get_or_push steps last last (length steps) refl in
    subst (λ (l : Line). is_derived l ≡ true) at (each (length steps) last (omega (arith, len)))

-- what an answer says that no design is valid is worth
pub refute_all : (s : SpecValue) (budget : Option ℕ) (ls : List Line) (after : Given) → AreDerived ls → given_by (cover_frame s) ls ≡ Some after → IsWithin budget (derived_count ls)
    → IsRefutation (cover_frame s) (base_of (cover_frame s)) (encoding s) ls → RefuteAll s budget ls
refute_all s budget ls after each legal within says = record {
  lines = record {
    derived_each = each;
    legal = (after, legal);
    early = derived_by (cover_frame s) says.steps;
    last = says.contradicts;
    within = within;
  };
  refute = refutes s says.steps says.last ls each (last_derived says.steps says.last ls each says.split) says.split says.honest.honest.after says.honest.honest.legal says.contradicts;
}
