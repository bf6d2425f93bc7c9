-- Why a trail decided along the order shows its values to be the first: closed assignments take what follows from the decisions.
use Rattle.std.proofs.Common.{◌≡◌, ◌≢◌, ℕ, ◌+◌, ◌<◌, ◌≤◌, Bool, true, false, not, cond, Option, Some, None, List, [], ◌∷◌, length, get_or, take, refl, sym, ap, ◌∙◌, subst, arith, zero, suc, inl, inr, ◌⊎◌}
use Rattle.std.proofs.lemmas.Bool.{cases_eq, cases_lt, false≢true}
use Rattle.std.proofs.lemmas.Bool.Decides.{nat_tests}
use Rattle.std.proofs.lemmas.List.{get_or-take, length-take, get_or_default}
use Rattle.pb_constraints.specs.declared.ConId.{ConId}
use Rattle.pb_rules.specs.declared.Term.{Term}
use Rattle.pb_rules.specs.Literal.{Literal, lit_true}
use Rattle.pb_rules.specs.Linear.{Linear, Holds, IsModel, AreAmong}
use Rattle.pb_rules.specs.Order.{IsBeforeAlong, AgreeOn, ShowsFirst}
use Rattle.pb_rules.specs.Partial.{falsifies, is_false, IsClosed, IsClosedFor, whole, GoesOn}
use Rattle.pb_rules.proofs.Assignments.{FalseToo, room_falls}
use Rattle.pb_rules.proofs.Closed.{closed_goes, model_closed, closed_among, open-whole}
use Rattle.trail_state.specs.Trail.{Entry, value_in}
use Rattle.trail_state.proofs.Entries.{none_below, none_apart, place_of}
use Rattle.propagate.specs.Attached.{Attached, attached_at}
use Rattle.ordered_solver.specs.Trails.{IsSearch, IsFull}

-- an assignment closed for all that is attached
abbrev pub ClosedAll : List Attached → (ℕ → Option Bool) → Type 0
ClosedAll held b = (c : ConId) (k : Linear) → attached_at held c ≡ Some k → IsClosed b k

-- an assignment has the literals of the first entries
abbrev pub TakesBelow : (ℕ → Option Bool) → List Entry → ℕ → Type 0
TakesBelow b es k = (j : ℕ) (d : Entry) → j < k → b (get_or es j d).lit.var ≡ Some (get_or es j d).lit.yes

pub goes_from : (b : ℕ → Option Bool) (fs : List Entry) → TakesBelow b fs (length fs) → GoesOn (value_in fs) b
goes_from b [] h x y e = absurd (cc)
goes_from b (f ∷ fs) h x y e =
    elim (cases_eq f.lit.var x) [
      | inl q ↦ (let a : value_in (f ∷ fs) x ≡ Some f.lit.yes = grind (arith, nat_tests) in
          ap b (sym q) ∙ h 0 f (omega arith) ∙ sym a ∙ e)
      | inr n ↦ (let a : value_in (f ∷ fs) x ≡ value_in fs x = grind (arith, nat_tests) in
          goes_from b fs (λ j d l. h (suc j) d (omega arith)) x y (sym a ∙ e))
    ]

pub goes_below : (b : ℕ → Option Bool) (es : List Entry) (k : ℕ) → k ≤ length es → TakesBelow b es k → GoesOn (value_in (take k es)) b
goes_below b es k l h = goes_from b (take k es) (λ j d lt.
    let len = length-take k es in
    let e : get_or (take k es) j d ≡ get_or es j d = get_or-take k es j d (omega arith) in
    rw e (h j d (omega arith)))

-- a closed assignment that has the decisions has all that follows them
pub takes_upto : (held : List Attached) (order : List Literal) (es : List Entry) (b : ℕ → Option Bool) → IsSearch held order es → ClosedAll held b → (k : ℕ) → k ≤ length es
    → ((j : ℕ) (d : Entry) → j < k → (get_or es j d).reason ≡ None → b (get_or es j d).lit.var ≡ Some (get_or es j d).lit.yes) → TakesBelow b es k
takes_upto held order es b s closed zero l dec j d lt = absurd (omega arith)
takes_upto held order es b s closed (suc k) l dec j d lt =
    let ih : TakesBelow b es k = takes_upto held order es b s closed k (omega arith) (λ i f h. dec i f (omega arith)) in
    elim (cases_lt j k) [
      | inl h ↦ ih j d h
      | inr g ↦ (elim (s j d (omega arith)) [
        | inl f ↦ closed_goes (value_in (take j es)) b f.constraint (get_or es j d).lit f.forces (goes_below b es j (omega arith) (λ i e h. ih i e (omega arith)))
            (closed f.reason f.constraint f.attached)
        | inr t ↦ dec j d (omega arith) t.no_reason
      ])
    ]

some_same : (a b : Bool) → Some a ≡ Some b → a ≡ b
some_same a b e = cc

is_true : (y b : Bool) → b ≡ y → cond y b (not b) ≡ true
is_true true b h = h
is_true false true h = sym h
is_true false false h = refl

-- the variable of an entry is not that of one before it
apart_below : (es : List Entry) (j k x : ℕ) (e : Entry) → j < k → k < length es → value_in (take k es) x ≡ None → (get_or es j e).lit.var ≢ x
apart_below es j k x e lt h free q =
    let len = length-take k es in
    let g : get_or (take k es) j e ≡ get_or es j e = get_or-take k es j e lt in
    none_apart (take k es) x j e free (omega arith) (ap (λ (f : Entry). f.lit.var) g ∙ q)

-- a decision before a place where a variable of the order has no value yet stands before it in the order
decided_before : (held : List Attached) (order : List Literal) (es : List Entry) (v : ℕ → Bool) (b : ℕ → Option Bool) → IsSearch held order es → TakesBelow (whole v) es (length es)
    → (k n : ℕ) (d : Literal) → k < length es → value_in (take k es) (get_or order n d).var ≡ None → ((j : ℕ) (f : Literal) → j < n → b (get_or order j f).var ≡ Some (v (get_or order j f).var))
    → (j : ℕ) (e : Entry) → j < k → (get_or es j e).reason ≡ None → b (get_or es j e).lit.var ≡ Some (get_or es j e).lit.yes
decided_before held order es v b s agree k n d h free same j e lt none =
    elim (s j e (omega arith)) [
      | inl q ↦ (let t = q.there in absurd (cc))
      | inr q ↦ (let x : ℕ = (get_or order n d).var in
          let next = q.next in
          let there : get_or order next.place d ≡ (get_or es j e).lit = next.there d in
          elim (cases_lt next.place n) [
            | inl l ↦ (let B : Literal → Type 0 = λ m. b m.var ≡ Some (v m.var) in
                let here : b (get_or es j e).lit.var ≡ Some (v (get_or es j e).lit.var) = subst B there (same next.place d l) in
                here ∙ agree j e (omega arith))
            | inr ge ↦ (elim (cases_eq next.place n) [
              | inl eq ↦ absurd (apart_below es j k x e lt h free (sym (ap (λ (m : Literal). m.var) there) ∙ ap (λ (m : ℕ). (get_or order m d).var) eq))
              | inr up ↦ absurd (next.earlier n d (omega arith) (none_below es j k x (omega arith) free))
            ])
          ])
    ]

-- where the values haven't the order's literal, each closed assignment that agrees with them before takes their value too
pub shown_at : (held : List Attached) (order : List Literal) (es : List Entry) (v : ℕ → Bool) (b : ℕ → Option Bool) → IsSearch held order es → ClosedAll held b
    → TakesBelow (whole v) es (length es) → (n : ℕ) (d : Literal) → value_in es (get_or order n d).var ≢ None → lit_true v (get_or order n d) ≡ false
    → ((j : ℕ) (f : Literal) → j < n → b (get_or order j f).var ≡ Some (v (get_or order j f).var)) → b (get_or order n d).var ≡ Some (v (get_or order n d).var)
shown_at held order es v b s closed agree n d assigned untrue same = go (value_in es (get_or order n d).var) refl
  where
    x : ℕ
    x = (get_or order n d).var

    blank : Entry
    blank = record { lit = d; reason = None }

    at : (k : ℕ) → k < length es → (get_or es k blank).lit.var ≡ x → b x ≡ Some (v x)
    at k h var-is = elim (s k blank h) [
      | inl f ↦ (let V : ℕ → Type 0 = λ y. value_in (take k es) y ≡ None in
          let free : value_in (take k es) x ≡ None = subst V var-is (f.forces).unassigned in
          let below = takes_upto held order es b s closed k (omega arith) (decided_before held order es v b s agree k n d h free same) in
          let taken : b (get_or es k blank).lit.var ≡ Some (get_or es k blank).lit.yes = closed_goes (value_in (take k es)) b f.constraint (get_or es k blank).lit f.forces
          (goes_below b es k (omega arith) below) (closed f.reason f.constraint f.attached) in
          let own : Some (v (get_or es k blank).lit.var) ≡ Some (get_or es k blank).lit.yes = agree k blank h in
          let B : ℕ → Type 0 = λ y. b y ≡ Some (v y) in
          subst B var-is (taken ∙ sym own))
      | inr q ↦ (let next = q.next in
          let there : get_or order next.place d ≡ (get_or es k blank).lit = next.there d in
          let V : ℕ → Type 0 = λ y. value_in (take k es) y ≡ None in
          let free : value_in (take k es) x ≡ None = subst V var-is next.unassigned in
          elim (cases_lt next.place n) [
            | inl l ↦ (let B : ℕ → Type 0 = λ y. b y ≡ Some (v y) in
                subst B (ap (λ (m : Literal). m.var) there ∙ var-is) (same next.place d l))
            | inr ge ↦ (elim (cases_eq next.place n) [
              | inl eq ↦ absurd (
                  let lit-is : get_or order n d ≡ (get_or es k blank).lit = ap (λ (m : ℕ). get_or order m d) (sym eq) ∙ there in
                  let own : v (get_or es k blank).lit.var ≡ (get_or es k blank).lit.yes = some_same (v (get_or es k blank).lit.var) (get_or es k blank).lit.yes (agree k blank h) in
                  let t : lit_true v (get_or es k blank).lit ≡ true = is_true (get_or es k blank).lit.yes (v (get_or es k blank).lit.var) own in
                  let T : Literal → Type 0 = λ m. lit_true v m ≡ true in
                  false≢true (sym untrue ∙ subst T (sym lit-is) t))
              | inr up ↦ absurd (next.earlier n d (omega arith) free)
            ])
          ])
    ]

    go : (o : Option Bool) → value_in es x ≡ o → b x ≡ Some (v x)
    go None e = absurd (assigned e)
    go (Some y) e = (let p = place_of es x y e in at p.0 p.1 (p.2 blank))

-- a whole search shows its values to be the first
pub shows_first : (held : List Attached) (cs : List Linear) (order : List Literal) (es : List Entry) (v : ℕ → Bool) → IsSearch held order es → IsFull order es → TakesBelow (whole v) es (length es)
    → ((b : ℕ → Option Bool) → IsClosedFor cs b → ClosedAll held b) → ShowsFirst cs order v
shows_first held cs order es v s full agree all place d h untrue b closed same = shown_at held order es v b s (all b closed) agree place d (full place d h) untrue same

pub shown_among : (cs ds : List Linear) (order : List Literal) (v : ℕ → Bool) → AreAmong cs ds → ShowsFirst cs order v → ShowsFirst ds order v
shown_among cs ds order v among shown place d h untrue b closed same = shown place d h untrue b (closed_among cs ds b among closed) same

same_or-not : (a b : Bool) → (a ≡ b) ⊎ (a ≢ b)
same_or-not true true = inl refl
same_or-not true false = inr (λ e. false≢true (sym e))
same_or-not false true = inr (λ e. false≢true e)
same_or-not false false = inl refl

-- of two different values one has the literal, and not the other
turns : (y a b : Bool) → a ≢ b → cond y a (not a) ≡ true → cond y b (not b) ≡ false
turns true true true n h = absurd (n refl)
turns true true false n h = refl
turns true false b n h = absurd (false≢true h)
turns false true b n h = absurd (false≢true h)
turns false false true n h = refl
turns false false false n h = absurd (n refl)

-- what constraints show to be the first is before every other model
pub first_of_shown : (cs : List Linear) (order : List Literal) (v w : ℕ → Bool) → ShowsFirst cs order v → IsModel cs w → AgreeOn order v w ⊎ IsBeforeAlong order v w
first_of_shown cs order v w shown model = from (length order) 0 (omega arith) (λ j d lt. absurd (omega arith))
  where
    blank : Literal
    blank = record { var = 0; yes = true }

    differ : (n : ℕ) → n < length order → ((j : ℕ) (d : Literal) → j < n → v (get_or order j d).var ≡ w (get_or order j d).var) → v (get_or order n blank).var ≢ w (get_or order n blank).var
        → (o : Bool) → lit_true v (get_or order n blank) ≡ o → lit_true v (get_or order n blank) ≡ true
    differ n h same ne true e = e
    differ n h same ne false e =
        let t : Some (w (get_or order n blank).var) ≡ Some (v (get_or order n blank).var) = shown n blank h e (whole w) (model_closed cs w model)
        (λ j d l. ap (λ (a : Bool). Some a) (sym (same j d l))) in
        absurd (ne (sym (some_same (w (get_or order n blank).var) (v (get_or order n blank).var) t)))

    from : (m n : ℕ) → n + m ≡ length order → ((j : ℕ) (d : Literal) → j < n → v (get_or order j d).var ≡ w (get_or order j d).var) → AgreeOn order v w ⊎ IsBeforeAlong order v w
    from zero n e same = inl (λ j d lt. same j d (omega arith))
    from (suc m) n e same =
        elim (same_or-not (v (get_or order n blank).var) (w (get_or order n blank).var)) [
          | inl q ↦ from m (n + 1) (omega arith) (λ j d lt. elim (cases_lt j n) [
            | inl l ↦ same j d l
            | inr g ↦ (let eq : j ≡ n = omega arith in
                let a : get_or order j d ≡ get_or order n blank = ap (λ (i : ℕ). get_or order i d) eq ∙ get_or_default order n d blank (omega arith) in
                let W : Literal → Type 0 = λ m. v m.var ≡ w m.var in
                subst W (sym a) q)
          ])
          | inr ne ↦ inr (
              let l : lit_true v (get_or order n blank) ≡ true = differ n (omega arith) same ne (lit_true v (get_or order n blank)) refl in
              record {
                place = n;
                in_order = omega arith;
                same_before = same;
                has = λ d. (let a = get_or_default order n d blank (omega arith) in rw a l);
                has_not = λ d. (let a = get_or_default order n d blank (omega arith) in rw a (turns (get_or order n blank).yes (v (get_or order n blank).var) (w (get_or order n blank).var) ne l));
              })
        ]

-- a constraint that is closed under values of all its variables holds
pub closed_holds : (es : List Entry) (v : ℕ → Bool) (c : Linear) → TakesBelow (whole v) es (length es) → ((i : ℕ) (d : Term) → i < length c.terms → value_in es (get_or c.terms i d).lit.var ≢ None)
    → IsClosed (value_in es) c → Holds v c
closed_holds es v c agree assigned closed =
    let goes = goes_from (whole v) es agree in
    let too : FalseToo (whole v) (value_in es) c.terms = λ i d l f. turned (get_or c.terms i d).lit (value_in es (get_or c.terms i d).lit.var) refl goes (assigned i d l) f in
    let less = room_falls (whole v) (value_in es) c.terms too in
    let same = open-whole v c.terms in
    let enough = closed.no_conflict in
    omega arith
  where
    turned : (l : Literal) (o : Option Bool) → value_in es l.var ≡ o → GoesOn (value_in es) (whole v) → value_in es l.var ≢ None → is_false (whole v) l ≡ true → is_false (value_in es) l ≡ true
    turned l None e goes a f = absurd (a e)
    turned l (Some b) e goes a f = ap (λ q. falsifies q l.yes) (e ∙ sym (goes l.var b e)) ∙ f
