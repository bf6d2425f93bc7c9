use Rattle.std.proofs.Common.{ℕ, List, ◌≡◌, map, sym, ap, ◌∙◌, subst}
use Rattle.spec_model.specs.Spec.{Message, all_variables}
use Rattle.spec_model.specs.WellFormed.{IsWellFormed, size, most_hops, IsPlan}
use Rattle.spec_graph.specs.Held.{held_spec}
use Rattle.spec_graph.specs.Plan.{finished, with_limit_at_most}
use Rattle.spec_graph.proofs.Finishing.{put_back, finished_well}
use Rattle.spec_graph.proofs.builder.SpecBuilder.into_spec.Goals as goal

pub returns : goal.returns
returns c =
    let most : c.most_hops-most.result ≡ most_hops (held_spec c.self.inside.held) = c.most_hops-most.ensures.most ∙ sym (ap most_hops c.self.view_is) in
    let cut = put_back (with_limit_at_most c.most_hops-most.result) c.self.inside.held.messages.items c.apply_to_all.new.messages c.deref_mut.result.now c.self.inside.held.messages.len
    c.self.inside.held.messages.ok.0 c.deref_mut.ensures.value c.apply_to_all.ensures in
    ap (λ (ms : List Message). record (held_spec c.self.inside.held) { messages = ms }) (cut ∙ ap (λ (n : ℕ). map (with_limit_at_most n) c.self.inside.held.messages.items) most)
    ∙ ap finished c.self.view_is

pub invariant_of-result : goal.invariant_of-result
invariant_of-result c =
    let e = returns c in
    record {
      well_formed = subst IsWellFormed (sym e) (finished_well c.args.self (subst IsPlan c.self.view_is c.self.invariant.plan) c.requires.accepted);
      variables = c.requires.all_variables ∙ ap all_variables (sym e);
      terms = c.requires.all_terms ∙ ap size (sym e);
    }
