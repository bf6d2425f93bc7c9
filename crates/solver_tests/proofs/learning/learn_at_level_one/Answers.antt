use Rattle.std.proofs.Common.{◌≡◌, ◌<◌, ◌≤◌, ◌+◌, ◌++◌, ◌∷◌, [], ◌∙◌, sym, ap, refl, subst, arith, List, ℕ, Bool, true, false, Option, Some, None, zero, suc, length, take, get_or}
use Rattle.pb_constraints.specs.declared.ConId.{ConId}
use Rattle.pb_rules.specs.declared.Term.{Term}
use Rattle.pb_rules.specs.Linear.{Linear, VarsBelow}
use Rattle.pb_rules.specs.Literal.{Literal}
use Rattle.pb_rules.specs.Partial.{InConflict, Forces}
use Rattle.constraint_store.specs.Live.{Live, is_live, constraint_of}
use Rattle.trail_state.specs.Trail.{Entry, TrailView, value_in}
use Rattle.conflict_graph.specs.Conditions.{IsUsable, IsForcedBy, AllForced, HasCurrent}
use Rattle.solver_tests.proofs.learning.learn_at_level_one.Goals as goal

term : ℕ → Bool → Term
term x b = record { coef = 1; lit = record { var = x; yes = b } }

abbrev either : Bool → Linear
either b = record { terms = record { coef = 1; lit = record { var = 0; yes = true } } ∷ record { coef = 1; lit = record { var = 1; yes = b } } ∷ []; degree = 1 }

abbrev entries : ConId → List Entry
entries a = record { lit = record { var = 0; yes = false }; reason = None } ∷ record { lit = record { var = 1; yes = true }; reason = Some a } ∷ []

-- both variables are below 2
in-range : (b : Bool) (k : ℕ) (d : Term) → k < 2 → (get_or (either b).terms k d).lit.var < 2
in-range b zero d l = omega arith
in-range b (suc zero) d l = omega arith
in-range b (suc (suc k)) d l = absurd (omega arith)

forces : (a : ConId) → Forces (value_in (take 1 (entries a))) (either true) (record { var = 1; yes = true })
forces a = record { unassigned = refl; coef = 1; there = (1, omega arith, refl); beyond = omega arith }

in_conflict : (a : ConId) → InConflict (value_in (entries a)) (either false)
in_conflict a = omega arith

current : (a : ConId) → HasCurrent (entries a) (either false).terms
current a = record { term = record { coef = 1; lit = record { var = 0; yes = true } }; there = (0, omega arith, refl); false_there = refl; current = refl }

forced : (live : List Live) (a : ConId) → IsUsable live 2 a → constraint_of live a ≡ either true → AllForced live 2 (entries a)
forced live a u e zero d r l h = absurd (cc)
forced live a u e (suc zero) d r l h =
    let q : a ≡ r = cc in
    let P : ConId → Type 0 = λ r. IsForcedBy live 2 (take 1 (entries a)) (record { lit = record { var = 1; yes = true }; reason = Some a }) r in
    let Q : Linear → Type 0 = λ c. Forces (value_in (take 1 (entries a))) c (record { var = 1; yes = true }) in
    subst P q (record { usable = u; forces = subst Q (sym e) (forces a) })
forced live a u e (suc (suc k)) d r l h = absurd (omega arith)

abbrev decided : Literal → List Entry
decided l = record { lit = l; reason = None } ∷ []

abbrev implied : ConId → Literal → List Entry
implied a l = record { lit = l; reason = Some a } ∷ []

built : (t0 t1 t2 : List Entry) (l m : Literal) (a : ConId) → t0 ≡ [] → t1 ≡ t0 ++ decided l → t2 ≡ t1 ++ implied a m → l ≡ record { var = 0; yes = false } → m ≡ record { var = 1; yes = true }
    → t2 ≡ entries a
built t0 t1 t2 l m a e f g h k =
    g ∙ ap (λ (es : List Entry). es ++ implied a m) f ∙ ap (λ (es : List Entry). (es ++ decided l) ++ implied a m) e ∙ ap (λ (l : Literal). decided l ++ implied a m) h
    ∙ ap (λ (m : Literal). decided (record { var = 0; yes = false }) ++ implied a m) k

usable : (live : List Live) (a : ConId) (b : Bool) → is_live live a ≡ true → constraint_of live a ≡ either b → IsUsable live 2 a
usable live a b l e =
    let P : Linear → Type 0 = λ k. VarsBelow 2 k.terms in
    record { live_there = l; in_range = subst P (sym e) (in-range b) }

-- all conditions of the analysis
record Meets (live : List Live) (n : ℕ) (es : List Entry) (b : ConId) : Type 0 where
  pub usable : IsUsable live n b
  pub conflict : InConflict (value_in es) (constraint_of live b)
  pub current : HasCurrent es (constraint_of live b).terms
  pub forced : AllForced live n es

meets : (live : List Live) (n : ℕ) (es : List Entry) (a b : ConId) → n ≡ 2 → es ≡ entries a → is_live live a ≡ true → is_live live b ≡ true → constraint_of live a ≡ either true
    → constraint_of live b ≡ either false → Meets live n es b
meets live n es a b en ee la lb ca cb =
    let P : ℕ → Type 0 = λ n. Meets live n es b in
    let Q : List Entry → Type 0 = λ es. Meets live 2 es b in
    let C : Linear → Type 0 = λ k. InConflict (value_in (entries a)) k in
    let H : Linear → Type 0 = λ k. HasCurrent (entries a) k.terms in
    subst P (sym en) (subst Q (sym ee) (record {
      usable = usable live b false lb cb;
      conflict = subst C (sym cb) (in_conflict a);
      current = subst H (sym cb) (current a);
      forced = forced live a (usable live a true la ca) ca;
    }))

pub analyse-requires-clause-usable : goal.analyse-requires-clause-usable
analyse-requires-clause-usable c = (meets c.args.store.now c.push.new.self.variables c.push.new.self.entries c.args.forcing c.args.conflict
    (c.push.ensures.variables ∙ c.decide.ensures.variables ∙ ap (λ (t : TrailView). t.variables) c.in_ok-trail.ensures)
    (built c.in_ok-trail.trail.entries c.decide.new.self.entries c.push.new.self.entries c.no.result c.yes.result c.args.forcing (ap (λ (t : TrailView). t.entries) c.in_ok-trail.ensures)
    c.decide.ensures.entries c.push.ensures.entries c.no.ensures c.yes.ensures) c.requires.forcing_live c.requires.conflict_live c.requires.forcing c.requires.conflict).usable

pub analyse-requires-clause-conflict : goal.analyse-requires-clause-conflict
analyse-requires-clause-conflict c = (meets c.args.store.now c.push.new.self.variables c.push.new.self.entries c.args.forcing c.args.conflict
    (c.push.ensures.variables ∙ c.decide.ensures.variables ∙ ap (λ (t : TrailView). t.variables) c.in_ok-trail.ensures)
    (built c.in_ok-trail.trail.entries c.decide.new.self.entries c.push.new.self.entries c.no.result c.yes.result c.args.forcing (ap (λ (t : TrailView). t.entries) c.in_ok-trail.ensures)
    c.decide.ensures.entries c.push.ensures.entries c.no.ensures c.yes.ensures) c.requires.forcing_live c.requires.conflict_live c.requires.forcing c.requires.conflict).conflict

pub analyse-requires-clause-current : goal.analyse-requires-clause-current
analyse-requires-clause-current c = λ _. (meets c.args.store.now c.push.new.self.variables c.push.new.self.entries c.args.forcing c.args.conflict
    (c.push.ensures.variables ∙ c.decide.ensures.variables ∙ ap (λ (t : TrailView). t.variables) c.in_ok-trail.ensures)
    (built c.in_ok-trail.trail.entries c.decide.new.self.entries c.push.new.self.entries c.no.result c.yes.result c.args.forcing (ap (λ (t : TrailView). t.entries) c.in_ok-trail.ensures)
    c.decide.ensures.entries c.push.ensures.entries c.no.ensures c.yes.ensures) c.requires.forcing_live c.requires.conflict_live c.requires.forcing c.requires.conflict).current

pub analyse-requires-clause-forced : goal.analyse-requires-clause-forced
analyse-requires-clause-forced c = (meets c.args.store.now c.push.new.self.variables c.push.new.self.entries c.args.forcing c.args.conflict
    (c.push.ensures.variables ∙ c.decide.ensures.variables ∙ ap (λ (t : TrailView). t.variables) c.in_ok-trail.ensures)
    (built c.in_ok-trail.trail.entries c.decide.new.self.entries c.push.new.self.entries c.no.result c.yes.result c.args.forcing (ap (λ (t : TrailView). t.entries) c.in_ok-trail.ensures)
    c.decide.ensures.entries c.push.ensures.entries c.no.ensures c.yes.ensures) c.requires.forcing_live c.requires.conflict_live c.requires.forcing c.requires.conflict).forced
