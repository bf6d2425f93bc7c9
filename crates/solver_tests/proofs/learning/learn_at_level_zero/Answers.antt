use Rattle.std.proofs.Common.{◌≡◌, ◌<◌, ◌≤◌, ◌+◌, ◌++◌, ◌∷◌, [], ◌∙◌, sym, ap, refl, subst, arith, List, ℕ, Bool, true, false, Option, Some, None, zero, suc, length, take, get_or}
use Rattle.pb_constraints.specs.declared.ConId.{ConId}
use Rattle.pb_rules.specs.declared.Term.{Term}
use Rattle.pb_rules.specs.Linear.{Linear, VarsBelow}
use Rattle.pb_rules.specs.Literal.{Literal}
use Rattle.pb_rules.specs.Partial.{InConflict, Forces}
use Rattle.constraint_store.specs.Live.{Live, is_live, constraint_of}
use Rattle.trail_state.specs.Trail.{Entry, TrailView, value_in, level_of}
use Rattle.conflict_graph.specs.Conditions.{IsUsable, IsForcedBy, AllForced, HasCurrent}
use Rattle.solver_tests.proofs.learning.learn_at_level_zero.Goals as goal

abbrev only : Linear
only = record { terms = record { coef = 1; lit = record { var = 0; yes = true } } ∷ []; degree = 1 }

abbrev either : Bool → Linear
either b = record { terms = record { coef = 1; lit = record { var = 0; yes = false } } ∷ record { coef = 1; lit = record { var = 1; yes = b } } ∷ []; degree = 1 }

abbrev x0 : Literal
x0 = record { var = 0; yes = true }

abbrev x1 : Literal
x1 = record { var = 1; yes = true }

abbrev entries : ConId → ConId → List Entry
entries a b = record { lit = x0; reason = Some a } ∷ record { lit = x1; reason = Some b } ∷ []

-- all variables are below 2
only_in_range : (k : ℕ) (d : Term) → k < 1 → (get_or only.terms k d).lit.var < 2
only_in_range zero d l = omega arith
only_in_range (suc k) d l = absurd (omega arith)

either_in_range : (b : Bool) (k : ℕ) (d : Term) → k < 2 → (get_or (either b).terms k d).lit.var < 2
either_in_range b zero d l = omega arith
either_in_range b (suc zero) d l = omega arith
either_in_range b (suc (suc k)) d l = absurd (omega arith)

forces_first : (a b : ConId) → Forces (value_in (take 0 (entries a b))) only x0
forces_first a b = record { unassigned = refl; coef = 1; there = (0, omega arith, refl); beyond = omega arith }

forces_second : (a b : ConId) → Forces (value_in (take 1 (entries a b))) (either true) x1
forces_second a b = record { unassigned = refl; coef = 1; there = (1, omega arith, refl); beyond = omega arith }

in_conflict : (a b : ConId) → InConflict (value_in (entries a b)) (either false)
in_conflict a b = omega arith

forced : (live : List Live) (a b : ConId) → IsUsable live 2 a → IsUsable live 2 b → constraint_of live a ≡ only → constraint_of live b ≡ either true → AllForced live 2 (entries a b)
forced live a b u w e f zero d r l h =
    let q : a ≡ r = cc in
    let P : ConId → Type 0 = λ r. IsForcedBy live 2 (take 0 (entries a b)) (record { lit = x0; reason = Some a }) r in
    let Q : Linear → Type 0 = λ c. Forces (value_in (take 0 (entries a b))) c x0 in
    subst P q (record { usable = u; forces = subst Q (sym e) (forces_first a b) })
forced live a b u w e f (suc zero) d r l h =
    let q : b ≡ r = cc in
    let P : ConId → Type 0 = λ r. IsForcedBy live 2 (take 1 (entries a b)) (record { lit = x1; reason = Some b }) r in
    let Q : Linear → Type 0 = λ c. Forces (value_in (take 1 (entries a b))) c x1 in
    subst P q (record { usable = w; forces = subst Q (sym f) (forces_second a b) })
forced live a b u w e f (suc (suc k)) d r l h = absurd (omega arith)

abbrev implied : ConId → Literal → List Entry
implied a l = record { lit = l; reason = Some a } ∷ []

built : (t0 t1 t2 : List Entry) (l m : Literal) (a b : ConId) → t0 ≡ [] → t1 ≡ t0 ++ implied a l → t2 ≡ t1 ++ implied b m → l ≡ x0 → m ≡ x1 → t2 ≡ entries a b
built t0 t1 t2 l m a b e f g h k =
    g ∙ ap (λ (es : List Entry). es ++ implied b m) f ∙ ap (λ (es : List Entry). (es ++ implied a l) ++ implied b m) e ∙ ap (λ (l : Literal). implied a l ++ implied b m) h
    ∙ ap (λ (m : Literal). implied a x0 ++ implied b m) k

usable : (live : List Live) (a : ConId) (k : Linear) → is_live live a ≡ true → constraint_of live a ≡ k → VarsBelow 2 k.terms → IsUsable live 2 a
usable live a k l e w =
    let P : Linear → Type 0 = λ k. VarsBelow 2 k.terms in
    record { live_there = l; in_range = subst P (sym e) w }

-- all conditions of the analysis
record Meets (live : List Live) (n : ℕ) (es : List Entry) (c : ConId) : Type 0 where
  pub usable : IsUsable live n c
  pub conflict : InConflict (value_in es) (constraint_of live c)
  pub current : 0 < level_of es → HasCurrent es (constraint_of live c).terms
  pub forced : AllForced live n es

meets : (live : List Live) (n : ℕ) (es : List Entry) (a b c : ConId) → n ≡ 2 → es ≡ entries a b → is_live live a ≡ true → is_live live b ≡ true → is_live live c ≡ true
    → constraint_of live a ≡ only → constraint_of live b ≡ either true → constraint_of live c ≡ either false → Meets live n es c
meets live n es a b c en ee la lb lc ca cb ck =
    let P : ℕ → Type 0 = λ n. Meets live n es c in
    let Q : List Entry → Type 0 = λ es. Meets live 2 es c in
    let C : Linear → Type 0 = λ k. InConflict (value_in (entries a b)) k in
    subst P (sym en) (subst Q (sym ee) (record {
      usable = usable live c (either false) lc ck (either_in_range false);
      conflict = subst C (sym ck) (in_conflict a b);
      current = λ h. absurd (omega arith);
      forced = forced live a b (usable live a only la ca only_in_range) (usable live b (either true) lb cb (either_in_range true)) ca cb;
    }))

pub analyse-requires-clause-usable : goal.analyse-requires-clause-usable
analyse-requires-clause-usable c = (meets c.args.store.now c.push-2.new.self.variables c.push-2.new.self.entries c.args.first c.args.second c.args.conflict
    (c.push-2.ensures.variables ∙ c.push.ensures.variables ∙ ap (λ (t : TrailView). t.variables) c.in_ok-trail.ensures)
    (built c.in_ok-trail.trail.entries c.push.new.self.entries c.push-2.new.self.entries c.yes.result c.yes-2.result c.args.first c.args.second
    (ap (λ (t : TrailView). t.entries) c.in_ok-trail.ensures) c.push.ensures.entries c.push-2.ensures.entries c.yes.ensures c.yes-2.ensures) c.requires.first_live c.requires.second_live
    c.requires.conflict_live c.requires.first c.requires.second c.requires.conflict).usable

pub analyse-requires-clause-conflict : goal.analyse-requires-clause-conflict
analyse-requires-clause-conflict c = (meets c.args.store.now c.push-2.new.self.variables c.push-2.new.self.entries c.args.first c.args.second c.args.conflict
    (c.push-2.ensures.variables ∙ c.push.ensures.variables ∙ ap (λ (t : TrailView). t.variables) c.in_ok-trail.ensures)
    (built c.in_ok-trail.trail.entries c.push.new.self.entries c.push-2.new.self.entries c.yes.result c.yes-2.result c.args.first c.args.second
    (ap (λ (t : TrailView). t.entries) c.in_ok-trail.ensures) c.push.ensures.entries c.push-2.ensures.entries c.yes.ensures c.yes-2.ensures) c.requires.first_live c.requires.second_live
    c.requires.conflict_live c.requires.first c.requires.second c.requires.conflict).conflict

pub analyse-requires-clause-current : goal.analyse-requires-clause-current
analyse-requires-clause-current c = (meets c.args.store.now c.push-2.new.self.variables c.push-2.new.self.entries c.args.first c.args.second c.args.conflict
    (c.push-2.ensures.variables ∙ c.push.ensures.variables ∙ ap (λ (t : TrailView). t.variables) c.in_ok-trail.ensures)
    (built c.in_ok-trail.trail.entries c.push.new.self.entries c.push-2.new.self.entries c.yes.result c.yes-2.result c.args.first c.args.second
    (ap (λ (t : TrailView). t.entries) c.in_ok-trail.ensures) c.push.ensures.entries c.push-2.ensures.entries c.yes.ensures c.yes-2.ensures) c.requires.first_live c.requires.second_live
    c.requires.conflict_live c.requires.first c.requires.second c.requires.conflict).current

pub analyse-requires-clause-forced : goal.analyse-requires-clause-forced
analyse-requires-clause-forced c = (meets c.args.store.now c.push-2.new.self.variables c.push-2.new.self.entries c.args.first c.args.second c.args.conflict
    (c.push-2.ensures.variables ∙ c.push.ensures.variables ∙ ap (λ (t : TrailView). t.variables) c.in_ok-trail.ensures)
    (built c.in_ok-trail.trail.entries c.push.new.self.entries c.push-2.new.self.entries c.yes.result c.yes-2.result c.args.first c.args.second
    (ap (λ (t : TrailView). t.entries) c.in_ok-trail.ensures) c.push.ensures.entries c.push-2.ensures.entries c.yes.ensures c.yes-2.ensures) c.requires.first_live c.requires.second_live
    c.requires.conflict_live c.requires.first c.requires.second c.requires.conflict).forced
