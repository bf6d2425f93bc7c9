use Rattle.std.proofs.Common.{ℕ, List, map, ap, subst, sym, ◌∙◌}
use Rattle.std.proofs.lemmas.Bool.{false≢true}
use Rattle.spec_model.specs.WellFormed.{AreDistinct}
use Rattle.spec_graph.specs.Lists.{message_number}
use Rattle.spec_graph.specs.Merged.{AreOfOneSender, IsMergeRepeated, IsMergeRefused}
use Rattle.line_words.specs.declared.refusals.Stop.{Stop}
use Rattle.arch_reader.specs.declared.statement.Statement.TheVariants as statements
use Rattle.spec_join.specs.Joining.{Joining}
use Rattle.spec_join.specs.Stops.{Refuses}
use Rattle.spec_join.proofs.Merges.{IsGathered, one_sender, merge_refused, merge_accepted}
use Rattle.spec_join.proofs.joiner.Joiner.merge.Goals as goal

pub merge-requires-clause-one_sender : goal.merge-requires-clause-one_sender
merge-requires-clause-one_sender c =
    let s = c.args.self.now in
    let listed : List ℕ = map message_number c.deref-2.result.now in
    let g : IsGathered s.plan c.args.names.now listed = record {
      agree = λ d. false≢true (sym c.if-differ_in_sender.false ∙ c.differ_in_sender.ensures.1 d);
      known = c.in_ok-listed.ensures.known;
      is = ap (map message_number) c.deref-2.ensures.value ∙ c.in_ok-listed.ensures.numbers;
    } in
    subst (λ (x : Joining). AreOfOneSender x.plan.messages listed) (sym c.self.view_is) (one_sender s.plan c.args.names.now listed g)

pub returns-in-Ok-clause-accepted : goal.returns-in-Ok-clause-accepted
returns-in-Ok-clause-accepted c =
    let s = c.args.self.now in
    let listed : List ℕ = map message_number c.deref-2.result.now in
    let g : IsGathered s.plan c.args.names.now listed = record {
      agree = λ d. false≢true (sym c.if-differ_in_sender.false ∙ c.differ_in_sender.ensures.1 d);
      known = c.in_ok-listed.ensures.known;
      is = ap (map message_number) c.deref-2.ensures.value ∙ c.in_ok-listed.ensures.numbers;
    } in
    merge_accepted s c.args.name.now c.args.names.now listed g (subst (λ (x : Joining). IsMergeRepeated x.plan c.args.name.now listed → ⊥) c.self.view_is c.in-Ok.ensures.accepted)

pub returns-clause-refused : goal.returns-clause-refused
returns-clause-refused c =
    let s = c.args.self.now in
    let listed : List ℕ = map message_number c.deref-2.result.now in
    let g : IsGathered s.plan c.args.names.now listed = record {
      agree = λ d. false≢true (sym c.if-differ_in_sender.false ∙ c.differ_in_sender.ensures.1 d);
      known = c.in_ok-listed.ensures.known;
      is = ap (map message_number) c.deref-2.ensures.value ∙ c.in_ok-listed.ensures.numbers;
    } in
    let d : AreDistinct s.plan.message_names = subst (λ (x : Joining). AreDistinct x.plan.message_names) c.self.view_is c.facts.ensures.messages_distinct in
    let h = merge_refused s c.args.name.now c.args.names.now listed c.in-Err.fault d g (subst (λ (x : Joining). IsMergeRefused x.plan c.args.name.now listed c.in-Err.fault) c.self.view_is
    c.in-Err.ensures.refused) in
    subst (λ (x : Stop). Refuses s (statements.Merge c.args.name.now c.args.names.now) x) (sym c.stop_for.ensures) h
