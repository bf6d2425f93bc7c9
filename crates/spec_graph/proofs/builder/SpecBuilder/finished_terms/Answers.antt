use Rattle.std.proofs.Common.{ℕ, ◌≡◌, length, ap, ◌∙◌, map, subst}
use Rattle.spec_model.specs.Spec.{SpecValue, below}
use Rattle.spec_graph.specs.Lists.{choice_value}
use Rattle.spec_model.specs.WellFormed.{IsPlan}
use Rattle.spec_graph.specs.Sums.{options_of_task}
use Rattle.spec_graph.proofs.Finishing.{few_counted, all_counted, long_counts, finished_terms_is}
use Rattle.spec_graph.proofs.builder.SpecBuilder.finished_terms.Goals as goal

pub sum_terms-requires-clause-there : goal.sum_terms-requires-clause-there
sum_terms-requires-clause-there c =
    let counts : c.deref-2.result.now ≡ map (options_of_task c.list.result.now) (below c.tasks.result) = c.deref-2.ensures.value ∙ c.in_ok-counts.ensures in
    all_counted c.args.self.now c.deref-2.result.now c.deref.result.now (subst IsPlan c.self.view_is c.self.invariant.plan)
    (long_counts c.list.result.now c.tasks.result c.deref-2.result.now counts ∙ c.tasks.ensures.count) (c.deref.ensures.value ∙ ap (λ (s : SpecValue). s.messages) c.self.view_is)

pub sum_terms-requires-clause-few : goal.sum_terms-requires-clause-few
sum_terms-requires-clause-few c =
    let counts : c.deref-2.result.now ≡ map (options_of_task c.list.result.now) (below (length c.args.self.now.tasks)) = c.deref-2.ensures.value
    ∙ (c.in_ok-counts.ensures ∙ ap (λ (n : ℕ). map (options_of_task c.list.result.now) (below n)) c.tasks.ensures.count) in
    few_counted c.args.self.now c.list.result.now c.deref-2.result.now (subst IsPlan c.self.view_is c.self.invariant.plan)
    (ap (map choice_value) c.list.ensures ∙ ap (λ (s : SpecValue). s.options) c.self.view_is) counts

pub returns : goal.returns
returns c =
    let counts : c.deref-2.result.now ≡ map (options_of_task c.list.result.now) (below (length c.args.self.now.tasks)) = c.deref-2.ensures.value
    ∙ (c.in_ok-counts.ensures ∙ ap (λ (n : ℕ). map (options_of_task c.list.result.now) (below n)) c.tasks.ensures.count) in
    finished_terms_is c.args.self.now c.list.result.now c.deref-2.result.now _ _ _ _ _ _ c.deref.result.now (subst IsPlan c.self.view_is c.self.invariant.plan)
    (ap (map choice_value) c.list.ensures ∙ ap (λ (s : SpecValue). s.options) c.self.view_is) counts c.options.ensures.count c.resources-resources.ensures.count c.links.ensures.count
    c.arcs-arcs.ensures.count c.most_hops.ensures.most (c.deref.ensures.value ∙ ap (λ (s : SpecValue). s.messages) c.self.view_is) c.sum_terms.ensures.sum
