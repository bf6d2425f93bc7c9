-- What a reader gives, from what it read of the fields.
use Rattle.std.proofs.Common.{◌≡◌, ℕ, zero, suc, ◌+◌, ◌-◌, ◌*◌, ◌/◌, ◌%◌, ◌<◌, ◌≤◌, ◌^◌, List, length, get_or, map, sym, ap, ◌∙◌, subst, arith}
use Rattle.std.proofs.Math.Nat.{div-lt_iff_lt-mul}
use Rattle.std.proofs.lemmas.List.{get_or-map, length-map}
use Rattle.spec_model.specs.Spec.{SpecValue, Arc as ArcValue, Choice as ChoiceValue, arc_at, message_at, arc_var, resource_var, link_var, design_variables}
use Rattle.spec_model.specs.Vectors.{weight_in, arc_weight, weight}
use Rattle.spec_model.specs.WellFormed.{IsWellFormed, IsArcIn, IsOptionIn}
use Rattle.spec_model.proofs.Numbers.{design_variables-le}
use Rattle.spec_model.proofs.VariableWeights.{weight_option, weight_arc, weight_resource, weight_link}
use Rattle.spec_graph.specs.Lists.{arc_value, choice_value}
use Rattle.spec_graph.specs.declared.numbers.Arc.{Arc}
use Rattle.spec_graph.specs.declared.numbers.Choice.{Choice}

pub arc_read : (s : SpecValue) (xs : List Arc) (i : ℕ) (a : Arc) → IsWellFormed s → map arc_value xs ≡ s.arcs → i < length s.arcs → a ≡ get_or xs i a → IsArcIn s (arc_value a)
arc_read s xs i a w e l h =
    let within : i < length xs = omega (arith, l, ap length e, length-map xs arc_value) in
    let value : get_or s.arcs i (arc_value a) ≡ arc_value a = ap (λ (ys : List ArcValue). get_or ys i (arc_value a)) (sym e)
    ∙ (get_or-map arc_value xs i a (arc_value a) within ∙ ap arc_value (sym h)) in
    subst (IsArcIn s) value (w.plan.arcs_in i (arc_value a) l)

pub option_read : (s : SpecValue) (xs : List Choice) (i : ℕ) (o : Choice) → IsWellFormed s → map choice_value xs ≡ s.options → i < length s.options → o ≡ get_or xs i o → IsOptionIn s (choice_value o)
option_read s xs i o w e l h =
    let within : i < length xs = omega (arith, l, ap length e, length-map xs choice_value) in
    let value : get_or s.options i (choice_value o) ≡ choice_value o = ap (λ (ys : List ChoiceValue). get_or ys i (choice_value o)) (sym e)
    ∙ (get_or-map choice_value xs i o (choice_value o) within ∙ ap choice_value (sym h)) in
    subst (IsOptionIn s) value (w.plan.options_in i (choice_value o) l)

-- the number of design variables is small
pub few_design : (s : SpecValue) (n : ℕ) → IsWellFormed s → n ≡ design_variables s → n ≤ 2 ^ 20
few_design s n w e = omega (arith, e, design_variables-le s, w.few_variables)

pub design_is : (s : SpecValue) (o m a r l : ℕ) → o ≡ length s.options → m ≡ length s.messages → a ≡ length s.arcs → r ≡ length s.resources → l ≡ length s.links
    → o + m * a + r + l ≡ design_variables s
design_is s o m a r l eo em ea er el = rw (eo, em, ea, er, el)

pub arc_weight_is : (s : SpecValue) (j m a l q w : ℕ) → l ≡ (arc_at s a).link → q ≡ (message_at s m).quantity → w ≡ weight_in s.traffic_weights j l → w * q ≡ arc_weight s j m a
unfolding arc_weight
arc_weight_is s j m a l q w el eq ew = rw (eq, ew, el)

pub option_weight_is : (s : SpecValue) (j v w : ℕ) → v < length s.options → w ≡ weight_in s.option_weights j v → w ≡ weight s j v
option_weight_is s j v w h e = e ∙ sym (weight_option s j v h)

-- a variable of an arc of a message, by its place behind the options
pub arc_weight_at : (s : SpecValue) (j v o u n w : ℕ) → o ≡ length s.options → n ≡ length s.arcs → u ≡ length s.messages → o ≤ v → v - o < u * n → w ≡ arc_weight s j ((v - o) / n) ((v - o) % n)
    → w ≡ weight s j v
arc_weight_at s j v o u n w eo en eu l h e =
    let p = split (v - o) u n h in
    e ∙ (sym (weight_arc s j ((v - o) / n) ((v - o) % n) (omega (arith, p.0, eu)) (omega (arith, p.1, en))) ∙ ap (weight s j) place)
  where
    -- a number below u * n is that of a place in u rows of n
    split : (x u n : ℕ) → x < u * n → (x / n < u) × (x % n < n)
    split x u zero h = absurd (omega (arith, h))
    split x u (suc n) h = (let k = div-lt_iff_lt-mul {k = suc n} {x = x} {y = u} (omega arith) in k.1 h, omega arith)

    place : arc_var s ((v - o) / n) ((v - o) % n) ≡ v
    place = rw (← eo, ← en) (omega arith)

-- a variable of a resource, by its place behind the options and the arcs
pub resource_weight_at : (s : SpecValue) (j v o u n r w : ℕ) → o ≡ length s.options → n ≡ length s.arcs → u ≡ length s.messages → r ≡ length s.resources → o ≤ v → u * n ≤ v - o
    → (v - o) - u * n < r → w ≡ weight_in s.resource_weights j ((v - o) - u * n) → w ≡ weight s j v
resource_weight_at s j v o u n r w eo en eu er l k h e =
    e ∙ (sym (weight_resource s j ((v - o) - u * n) (omega (arith, h, er))) ∙ ap (weight s j) place)
  where
    place : resource_var s ((v - o) - u * n) ≡ v
    place = rw (← eo, ← eu, ← en) (omega arith)

-- a variable of a link, by its place behind all others
pub link_weight_at : (s : SpecValue) (j v o u n r w : ℕ) → o ≡ length s.options → n ≡ length s.arcs → u ≡ length s.messages → r ≡ length s.resources → o ≤ v → u * n ≤ v - o → r ≤ (v - o) - u * n
    → v < design_variables s → w ≡ weight_in s.link_weights j (((v - o) - u * n) - r) → w ≡ weight s j v
link_weight_at s j v o u n r w eo en eu er l k q h e =
    e ∙ (sym (weight_link s j (((v - o) - u * n) - r) (omega (arith, below_all, l, k, q))) ∙ ap (weight s j) place)
  where
    below_all : v < o + u * n + r + length s.links
    below_all = rw (eo, eu, en, er) h

    place : link_var s (((v - o) - u * n) - r) ≡ v
    place = rw (← eo, ← eu, ← en, ← er) (omega arith)
