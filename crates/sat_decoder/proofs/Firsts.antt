-- From the first model of an encoding to the first valid design, and what a log shows of both.
use Rattle.std.proofs.Common.{◌≡◌, ◌≢◌, ℕ, ◌+◌, ◌<◌, ◌≤◌, ◌⊎◌, Bool, true, false, cond, not, Option, Some, List, length, get_or, take, refl, sym, ap, ◌∙◌, subst, arith, inl, inr}
use Rattle.std.proofs.lemmas.Bool.{cases_lt}
use Rattle.std.proofs.lemmas.List.{get_or-take}
use Rattle.pb_rules.specs.Literal.{Literal, lit_true}
use Rattle.pb_rules.specs.Linear.{Linear, HasNoModel}
use Rattle.pb_rules.specs.Order.{ShowsFirst}
use Rattle.spec_model.specs.Spec.{SpecValue, Bits, bits_of, design_variables, all_variables}
use Rattle.spec_model.specs.WellFormed.{IsWellFormed}
use Rattle.spec_model.specs.Genotypes.{GeneValue, gene_at, StandsBefore, IsBefore, HasNoValid}
use Rattle.spec_model.proofs.Numbers.{design_variables-le}
use Rattle.encode_model.specs.Encoding.{encoding}
use Rattle.encode_laws.proofs.Laws.{valid_are_models}
use Rattle.genotype.specs.Order.{IsOrderOf}
use Rattle.genotype.proofs.Firsts.{first_along}
use Rattle.ordered_solver.specs.Answers.{IsFirst}
use Rattle.ordered_solver.proofs.Orders.{order_covers}
use Rattle.sat_decoder.specs.Decoding.{IsFirstDesign, ShowsFirstDesign}
use Rattle.sat_decoder.specs.Models.{IsPartOf}

-- a model has the values of its design part
part_reads : (s : SpecValue) (values design : List Bool) (v : ℕ) → IsPartOf s values design → v < design_variables s → bits_of values v ≡ bits_of design v
part_reads s values design v h l = sym (ap (λ (xs : List Bool). get_or xs v false) h.part ∙ get_or-take (design_variables s) values v false l)

-- before, of designs that agree at each variable with a gene
before_along : (genes : List GeneValue) (f g x y : Bits) → ((v : ℕ) → v < length genes → f v ≡ x v) → ((v : ℕ) → v < length genes → g v ≡ y v) → IsBefore genes f g → IsBefore genes x y
before_along genes f g x y fx gy b = record {
  variable = b.variable;
  in_range = b.in_range;
  phase = sym (fx b.variable b.in_range) ∙ b.phase;
  differ = λ e. b.differ (gy b.variable b.in_range ∙ (e ∙ sym (fx b.variable b.in_range)));
  same = λ w l stands. sym (fx w l) ∙ (b.same w l stands ∙ gy w l);
}

-- the design part of the first model is the first valid design
pub first_valid : (s : SpecValue) (genes : List GeneValue) (order : List Literal) (values design : List Bool) → IsWellFormed s → length genes ≡ design_variables s
    → IsOrderOf genes (all_variables s) order → IsFirst (encoding s) order values → IsPartOf s values design → IsFirstDesign s genes design
first_valid s genes order values design wf few o first part = record {
  one_each = part.one_each;
  first = record {
    meets = part.valid;
    first = λ g valid.
        (let one = valid_are_models s g wf valid in
        let m : Bits = one.model in
        let at : (v : ℕ) → v < length genes → bits_of values v ≡ bits_of design v = λ v l. part_reads s values design v part (omega (arith, l, few)) in
        let there : (v : ℕ) → v < length genes → m v ≡ g v = λ v l. one.only.same v (omega (arith, l, few)) in
        elim (first_along genes (all_variables s) order (bits_of values) m o (omega (arith, few, design_variables-le s)) (first.first.first m one.only.holds)) [
          | inl same ↦ inl (λ v l. (let k : v < length genes = omega (arith, l, few) in sym (at v k) ∙ (same v k ∙ there v k)))
          | inr b ↦ inr (before_along genes (bits_of values) m (bits_of design) g at there b)
        ]);
  };
}

-- where there is no model no design is valid
pub no_valid : (s : SpecValue) → IsWellFormed s → HasNoModel (encoding s) → HasNoValid s
no_valid s wf none f valid = (let one = valid_are_models s f wf valid in none one.model one.only.holds)

-- a literal of the other value is false
false_there : (yes value : Bool) → value ≢ yes → cond yes value (not value) ≡ false
false_there true true n = absurd (n refl)
false_there true false n = refl
false_there false true n = refl
false_there false false n = absurd (n refl)

-- a variable with a gene has its place among the first
own_place : (genes : List GeneValue) (variables : ℕ) (order : List Literal) (i v : ℕ) → IsOrderOf genes variables order → i < length order → ((d : Literal) → (get_or order i d).var ≡ v)
    → v < length genes → i < length genes
own_place genes variables order i v o within is lt =
    elim (cases_lt i (length genes)) [
      | inl low ↦ low
      | inr high ↦
          let d : Literal = record { var = 0; yes = false } in
          let at : (get_or order i d).var ≡ i = ap (λ (l : Literal). l.var) (o.rest i d high (omega (arith, o.len, within))) in
          let there : (get_or order i d).var ≡ v = is d in
          absurd (omega (arith, at, there, lt, high))
    ]

-- what is shown of the model is shown of its design part
pub shows_design : (s : SpecValue) (genes : List GeneValue) (order : List Literal) (values design : List Bool) (cs : List Linear) → length genes ≡ design_variables s
    → IsOrderOf genes (all_variables s) order → IsPartOf s values design → ShowsFirst cs order (bits_of values) → ShowsFirstDesign cs genes (bits_of design)
shows_design s genes order values design cs few o part shows v lt other p closed before =
    let d : Literal = record { var = 0; yes = false } in
    let at : (w : ℕ) → w < length genes → bits_of values w ≡ bits_of design w = λ w l. part_reads s values design w part (omega (arith, l, few)) in
    let place = order_covers order (all_variables s) o.each_once o.len v (omega (arith, lt, few, design_variables-le s)) in
    let i : ℕ = place.0 in
    let own : i < length genes = own_place genes (all_variables s) order i v o place.1 place.2 lt in
    let l : Literal = get_or order i d in
    let is : l.var ≡ v = place.2 d in
    let phase : l.yes ≡ (gene_at genes v).phase = o.phases i d own ∙ ap (λ (w : ℕ). (gene_at genes w).phase) is in
    let differs : bits_of values l.var ≢ l.yes = λ e. other (sym (at v lt) ∙ (ap (bits_of values) (sym is) ∙ (e ∙ phase))) in
    let got : p l.var ≡ Some (bits_of values l.var) =
    shows i d place.1 (false_there l.yes (bits_of values l.var) differs) p closed
    (λ j e lj. (let w : ℕ = (get_or order j e).var in
    let within : w < length genes = o.leads j e (omega (arith, lj, own)) in
    let stands : StandsBefore genes w v = subst (StandsBefore genes w) (place.2 e) (o.stands j i e lj own) in
    before w within stands ∙ ap (λ (b : Bool). Some b) (sym (at w within)))) in
    subst (λ (w : ℕ). p w ≡ Some (bits_of values w)) is got ∙ ap (λ (b : Bool). Some b) (at v lt)
