-- What is reached along arcs is what chains of messages lead to, and a table of followers tells it.
use Rattle.std.proofs.Common.{◌≡◌, ℕ, Bool, true, false, List, [], ◌∷◌, ◌++◌, get_or, refl, sym, ap, subst, ◌∙◌, arith, ◌⊎◌, inl, inr, Contains, append_assoc}
use Rattle.std.specs.Prelude.{◌||◌, ◌&&◌, ◌==◌, ◌↔◌, map}
use Rattle.std.proofs.lemmas.Bool.{false≢true, eqb-true, eq-eqb, cases_Bool, and_parts, or_cases, or_left, or_right, and_from}
use Rattle.std.proofs.lemmas.List.{append-nil, map_push}
use Rattle.spec_model.specs.Spec.{Message}
use Rattle.spec_model.specs.WellFormed.{Reaches, Leads, HasCycle}
use Rattle.spec_model.proofs.Chains.{chain_cases, chain_before, reaches_cases, reaches_from_follows, follows_by, still_none}
use Rattle.task_order.specs.Order.{is_in, comes_after, is_joined}
use Rattle.tgff_reader.specs.Reaching.{is_itself, with_arc, with_arcs, reaches, arc_message, messages_of, IsOrder}
use Rattle.tgff_reader.specs.declared.file.TgffArc.{TgffArc}
use Rattle.file_bricks.proofs.Deciding.{or_or}

-- ---- a table of followers

abbrev Way : Type 0
Way = ℕ → ℕ → Bool

with_arcs-push : (r : Way) (arcs : List TgffArc) (arc : TgffArc) → with_arcs r (arcs ++ arc ∷ []) ≡ with_arc (with_arcs r arcs) arc
with_arcs-push r [] arc = refl
with_arcs-push r (x ∷ arcs) arc = with_arcs-push (with_arc r x) arcs arc

eqb_turned : (a b : ℕ) → (a == b) ≡ (b == a)
eqb_turned a b = elim (cases_Bool (a == b)) [
  | inl t ↦ t ∙ sym (eq-eqb b a (sym (eqb-true a b t)))
  | inr f ↦ elim (cases_Bool (b == a)) [
    | inl u ↦ absurd (false≢true (sym f ∙ eq-eqb a b (sym (eqb-true b a u))))
    | inr g ↦ f ∙ sym g
  ]
]

-- one arc more, given what is reached from its second task
pub order_more : (rows next : List (List Bool)) (after : List Bool) (arcs : List TgffArc) (arc : TgffArc) → IsOrder rows arcs → ((b : ℕ) → is_in after b ≡ reaches arcs arc.to b)
    → ((a b : ℕ) → comes_after next a b ≡ is_joined rows arc.from after a b) → IsOrder next (arcs ++ arc ∷ [])
order_more rows next after arcs arc o s j a b =
    ap (λ (x : Bool). (b == a) || x) (j a b)
    ∙ or_or (b == a) (comes_after rows a b) (((a == arc.from) || comes_after rows a arc.from) && is_in after b)
    ∙ ap (λ (x : Bool). x || (((a == arc.from) || comes_after rows a arc.from) && is_in after b)) (o a b)
    ∙ ap (λ (x : Bool). reaches arcs a b || ((x || comes_after rows a arc.from) && is_in after b)) (eqb_turned a arc.from)
    ∙ ap (λ (x : Bool). reaches arcs a b || (x && is_in after b)) (o a arc.from)
    ∙ ap (λ (x : Bool). reaches arcs a b || (reaches arcs a arc.from && x)) (s b)
    ∙ ap (λ (r : Way). r a b) (sym (with_arcs-push is_itself arcs arc))

-- ---- chains of messages

-- a test tells exactly where a chain leads
abbrev pub Tells : Way → List Message → Type 0
Tells r ms = (a b : ℕ) → (r a b ≡ true) ↔ Reaches ms a b

tells_none : Tells is_itself []
tells_none a b = (
  λ h. record { hops = 0; chain = sym (eqb-true b a h) },
  λ x. elim (reaches_cases [] a b x) [ inl e ↦ eq-eqb b a (sym e) | inr f ↦ absurd (omega (arith, f.chain.1.there.1)) ],
)

-- an entry of one is that one
pub among_one : (x y : ℕ) → Contains (x ∷ []) y → x ≡ y
among_one x y c = let z : c.0 ≡ 0 = omega (arith, c.1) in subst (λ (i : ℕ). get_or (x ∷ []) i y ≡ y) z c.2

tells_more : (r : Way) (ms : List Message) (arc : TgffArc) → Tells r ms → Tells (with_arc r arc) (ms ++ arc_message arc ∷ [])
tells_more r ms arc t a b = (to, from)
  where
    m : Message
    m = arc_message arc

    along : (r a arc.from ≡ true) × (r arc.to b ≡ true) → Reaches (ms ++ m ∷ []) a b
    along p = reaches_from_follows (ms ++ m ∷ []) a b (follows_by ms m a b ((t a arc.from).0 p.0) (record { start = arc.to; among = (0, omega arith, refl); reaches = (t arc.to b).0 p.1 }))

    to_cases : (r a b ≡ true) ⊎ ((r a arc.from && r arc.to b) ≡ true) → Reaches (ms ++ m ∷ []) a b
    to_cases (inl y) = let x = (t a b).0 y in record { hops = x.hops; chain = chain_before ms m x.hops a b x.chain }
    to_cases (inr y) = along (and_parts (r a arc.from) (r arc.to b) y)

    to : with_arc r arc a b ≡ true → Reaches (ms ++ m ∷ []) a b
    to h = to_cases (or_cases (r a b) (r a arc.from && r arc.to b) h)

    by_arc : Reaches ms a arc.from → Leads ms (arc.to ∷ []) b → (r a arc.from && r arc.to b) ≡ true
    by_arc x l = and_from (r a arc.from) (r arc.to b) ((t a arc.from).1 x) ((t arc.to b).1 (subst (λ (s : ℕ). Reaches ms s b) (sym (among_one arc.to l.start l.among)) l.reaches))

    from : Reaches (ms ++ m ∷ []) a b → with_arc r arc a b ≡ true
    from x = elim (chain_cases ms m x.hops a b x.chain) [
      | inl p ↦ or_left (r a b) (r a arc.from && r arc.to b) ((t a b).1 (record { hops = x.hops; chain = p }))
      | inr q ↦ or_right (r a b) (r a arc.from && r arc.to b) (by_arc q.0 q.1)
    ]

tells_all : (r : Way) (ms : List Message) (arcs : List TgffArc) → Tells r ms → Tells (with_arcs r arcs) (ms ++ map arc_message arcs)
tells_all r ms [] t = subst (Tells r) (sym (append-nil ms)) t
tells_all r ms (x ∷ arcs) t =
    subst (Tells (with_arcs (with_arc r x) arcs)) (append_assoc ms (arc_message x ∷ []) (map arc_message arcs)) (tells_all (with_arc r x) (ms ++ arc_message x ∷ []) arcs (tells_more r ms x t))

-- A task is reached exactly where a chain of messages leads to it.
pub reaches_tells : (arcs : List TgffArc) → Tells (reaches arcs) (messages_of arcs)
reaches_tells arcs = tells_all is_itself [] arcs tells_none

-- an arc whose first task isn't reached from its second one closes no cycle
pub no_cycle_more : (arcs : List TgffArc) (arc : TgffArc) → ¬ HasCycle (messages_of arcs) → reaches arcs arc.to arc.from ≡ false → ¬ HasCycle (messages_of (arcs ++ arc ∷ []))
no_cycle_more arcs arc none shut =
    subst (λ (ms : List Message). ¬ HasCycle ms) (sym (map_push arc_message arcs arc)) (still_none (messages_of arcs) (arc_message arc) none closed)
  where
    closed : ¬ Leads (messages_of arcs) (arc.to ∷ []) arc.from
    closed l =
        let way : Reaches (messages_of arcs) arc.to arc.from = subst (λ (s : ℕ). Reaches (messages_of arcs) s arc.from) (sym (among_one arc.to l.start l.among)) l.reaches in
        false≢true (sym shut ∙ (reaches_tells arcs arc.to arc.from).1 way)
