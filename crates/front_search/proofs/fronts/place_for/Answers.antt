use Rattle.std.proofs.Common.{arith, sym, ap, ◌∙◌, ◌≡◌, ◌<◌, subst, List, ℕ, length, get_or, inl, inr}
use Rattle.std.proofs.lemmas.Bool.{cases_lt}
use Rattle.front_model.specs.Fronts.{StandsBefore}
use Rattle.front_lists.specs.Lists.{vectors_in}
use Rattle.front_search.specs.Searches.{seen}
use Rattle.front_search.proofs.Places.{long_at, vector_at, vectors_many, before_along}
use Rattle.front_search.proofs.fronts.place_for.Goals as goal

pub stands_before-requires : goal.stands_before-requires
stands_before-requires c = ap length c.numbers.ensures ∙ long_at (length c.args.v.now) c.args.front.now c.loop-k.k c.index-front-k.result c.requires (omega arith) c.index-front-k.is

pub returns-then-not-stands_before : goal.returns-then-not-stands_before
returns-then-not-stands_before c =
    let es = c.args.front.now in
    let k = c.loop-k.k in
    let e = c.index-front-k.result in
    let v = c.args.v.now in
    record {
      within = omega (arith, vectors_many es);
      behind = c.loop-k.invariant;
      stops = λ d l b. before_along c.numbers.result.now e.vector v c.stands_before.result c.numbers.ensures c.if-not-stands_before.true c.stands_before.ensures.1
          (subst (λ (u : List ℕ). StandsBefore u v) (vector_at es k e d (omega arith) c.index-front-k.is) b);
    }

pub loop-k-preserved : goal.loop-k-preserved
loop-k-preserved c =
    let es = c.args.front.now in
    let k = c.loop-k.k in
    let e = c.index-front-k.result in
    let v = c.args.v.now in
    λ j d l. elim (cases_lt j k) [
      | inl before ↦ c.loop-k.invariant j d before
      | inr g ↦
          let at : j ≡ k = omega (arith, l, g) in
          let here : StandsBefore e.vector v = subst (λ (u : List ℕ). StandsBefore u v) c.numbers.ensures (c.stands_before.ensures.0 c.if-not-stands_before.false) in
          subst (λ (n : ℕ). StandsBefore (get_or (vectors_in (seen es)) n d) v) (sym at) (subst (λ (u : List ℕ). StandsBefore u v) (sym (vector_at es k e d (omega arith) c.index-front-k.is)) here)
    ]
