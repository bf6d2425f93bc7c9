use Rattle.std.proofs.Common.{arith, sym, ap, ◌∙◌, ◌≡◌, ◌<◌, subst, List, ℕ, length, get_or, inl, inr}
use Rattle.std.proofs.lemmas.Bool.{cases_lt}
use Rattle.spec_model.specs.Vectors.{Dominates}
use Rattle.result_text.specs.Answers.{as_seen}
use Rattle.front_lists.specs.Lists.{vectors_in}
use Rattle.front_lists.proofs.Kept.{vector_there}
use Rattle.front_search.specs.Searches.{seen}
use Rattle.front_search.proofs.Places.{long_at, vector_at, seen_there, dominates_along}
use Rattle.front_search.proofs.fronts.is_dominated.Goals as goal

pub dominates-requires : goal.dominates-requires
dominates-requires c = ap length c.numbers.ensures ∙ long_at (length c.args.v.now) c.args.found.now c.loop-k.k c.index-found-k.result c.requires (omega arith) c.index-found-k.is

pub returns-then-dominates-clause-yes : goal.returns-then-dominates-clause-yes
returns-then-dominates-clause-yes c q free =
    let es = c.args.found.now in
    let e = c.index-found-k.result in
    let there = vector_there (seen es) (as_seen e) (seen_there es c.loop-k.k e (omega arith) c.index-found-k.is) in
    free e.vector there (subst (λ (u : List ℕ). Dominates u c.args.v.now) c.numbers.ensures (c.dominates.ensures.0 c.if-dominates.true))

pub loop-k-preserved : goal.loop-k-preserved
loop-k-preserved c =
    let es = c.args.found.now in
    let k = c.loop-k.k in
    let e = c.index-found-k.result in
    let v = c.args.v.now in
    λ j d l h. elim (cases_lt j k) [
      | inl before ↦ c.loop-k.invariant j d before h
      | inr g ↦
          let at : j ≡ k = omega (arith, l, g) in
          let here : Dominates e.vector v = subst (λ (u : List ℕ). Dominates u v) (vector_at es k e d (omega arith) c.index-found-k.is)
          (subst (λ (n : ℕ). Dominates (get_or (vectors_in (seen es)) n d) v) at h) in
          dominates_along c.numbers.result.now e.vector v c.dominates.result c.numbers.ensures c.if-dominates.false c.dominates.ensures.1 here
    ]
