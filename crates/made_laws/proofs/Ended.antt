-- What a made specification has made breaks no rule at its end.
use Rattle.std.proofs.Common.{◌≡◌, ℕ, ◌*◌, ◌≤◌, ◌^◌, List, [], length, ap, ◌∙◌, subst, arith, All, inl, inr}
use Rattle.std.specs.Prelude.{slice_index_or}
use Rattle.std.proofs.lemmas.Bool.{cases_lt}
use Rattle.std.proofs.lemmas.List.{length-map, get_or_past}
use Rattle.std.proofs.lemmas.List.Elements.{All-map}
use Rattle.line_words.specs.declared.refusals.Why.{Why}
use Rattle.line_words.specs.declared.refusals.Why.TheVariants.{TooBig, Limit}
use Rattle.line_words.specs.declared.refusals.What.TheVariants.{Variables, Terms}
use Rattle.spec_model.specs.Spec.{SpecValue}
use Rattle.spec_model.specs.WellFormed.{most_hops}
use Rattle.spec_graph.specs.Plan.{finished, with_limit_at_most}
use Rattle.spec_graph.specs.Refusals.{HasBigTimes, HasBigProduct}
use Rattle.spec_join.specs.Joining.{Joining}
use Rattle.spec_join.specs.Refusals.{BreaksEnd}
use Rattle.made_laws.proofs.Named.{names_long}
use Rattle.made_laws.proofs.Forward.{IsForward}
use Rattle.made_laws.proofs.Sizes.{IsShortWay, IsSmall, few_variables, few_terms}
use Rattle.made_laws.proofs.Made.{Made, IsLow, low_row}

-- ---- products

low_weight : (row : List ℕ) (j : ℕ) → IsLow row → slice_index_or row j 0 ≤ 2 ^ 40
low_weight row j h =
    elim (cases_lt j (length row)) [
      | inl lt ↦ h j 0 lt
      | inr past ↦ omega (arith, get_or_past row j 0 past)
    ]

times_one : (w q : ℕ) → q ≡ 1 → w ≤ 2 ^ 40 → w * q ≤ 2 ^ 40
times_one w q one low = let same : w * q ≡ w * 1 = ap (λ k. w * k) one in omega (arith, same, low)

no_big_times : (row : List ℕ) (q : ℕ) → q ≡ 1 → IsLow row → HasBigTimes row q → ⊥
no_big_times row q one low big = omega (arith, times_one (slice_index_or row big.objective 0) q one (low_weight row big.objective low), big.big)

no_big_product : (p : SpecValue) → All IsLow p.traffic_weights → All IsForward p.messages → HasBigProduct p → ⊥
no_big_product p low forward x =
    let f = subst IsForward x.3 (forward x.0 x.1 x.2) in
    let on = x.4 in
    no_big_times (slice_index_or p.traffic_weights on.1.link []) x.1.quantity f.one (low_row p.traffic_weights on.1.link low) on.4

-- ---- sizes

small_end : (r l t m k c : ℕ) (s : Joining) → r ≤ 25 → l ≤ 40 → m ≤ 50 → c ≤ 150 → Made r l t m k c s → IsSmall (finished s.plan)
small_end r l t m k c s rs ls ms cs h =
    let long : length s.plan.resources ≡ r = ap length h.mesh.named ∙ names_long 114 r in
    let kept = length-map s.plan.messages (with_limit_at_most (most_hops s.plan)) in
    record {
      resources = omega (arith, long, rs);
      links = omega (arith, h.mesh.few_links, ls);
      arcs = omega (arith, h.mesh.few_arcs, ls);
      options = omega (arith, h.mapped.few, cs);
      messages = omega (arith, kept, h.sent.few, ms);
      ways = All-map IsShortWay (with_limit_at_most (most_hops s.plan)) s.plan.messages (λ i d lt. record { hops = omega (arith, long, rs); receivers = (h.sent.forward i d lt).few });
    }

pub none_at_end : (r l t m k c : ℕ) (s : Joining) → r ≤ 25 → l ≤ 40 → m ≤ 50 → c ≤ 150 → Made r l t m k c s → (why : Why) → BreaksEnd s.plan why → ⊥
none_at_end r l t m k c s rs ls ms cs h TooBig b = no_big_product s.plan h.mesh.low h.sent.forward b
none_at_end r l t m k c s rs ls ms cs h (Limit Variables) b = omega (arith, few_variables (finished s.plan) (small_end r l t m k c s rs ls ms cs h), b)
none_at_end r l t m k c s rs ls ms cs h (Limit Terms) b = omega (arith, few_terms (finished s.plan) (small_end r l t m k c s rs ls ms cs h), b)
none_at_end r l t m k c s rs ls ms cs h _ b = absurd b
