use Rattle.std.proofs.Common.{◌≡◌, ℕ, ◌<◌, List, length, map, All, sym, ap, ◌∙◌, subst, arith}
use Rattle.std.specs.Prelude.{MatchOption}
use Rattle.std.proofs.lemmas.List.{length-map}
use Rattle.std.proofs.lemmas.List.Elements.{All-map}
use Rattle.spec_model.specs.Spec.{SpecValue, Message}
use Rattle.task_order.specs.Order.{IsOrderOf}
use Rattle.spec_graph.specs.Held.{held_spec}
use Rattle.spec_graph.specs.Lists.{message_number}
use Rattle.spec_graph.specs.Merged.{AreOfOneSender, IsMergeRepeated, IsNameOfOther, merged_message, merged_names, messages_at}
use Rattle.spec_graph.specs.Refusals.{HasTwice}
use Rattle.spec_graph.proofs.Mapped.{never, neither}
use Rattle.spec_graph.proofs.OneMessage.{kept_short, merged_is, plan_merged, plan_merged_at, order_merged}
use Rattle.spec_graph.proofs.builder.SpecBuilder.merge.Goals as goal

pub push_reserved-requires : goal.push_reserved-requires
push_reserved-requires c =
    let ms = c.self.inside.held.messages.items in
    let listed = map message_number c.args.messages.now in
    let long : length ms ≡ length c.args.self.now.messages = ap (λ (s : SpecValue). length s.messages) c.self.view_is in
    let value : c.in-Some.listed ≡ listed = subst (λ r. MatchOption r (HasTwice listed) (λ l. l ≡ listed)) c.in-Some.is c.in_ok-listed.ensures.value in
    let there : All (λ m. m < length ms) listed = All-map (λ m. m < length ms) message_number c.args.messages.now (λ k d l. omega (arith, c.requires.messages_there k d l, long)) in
    let short = kept_short ms c.keep_others.new.messages.items c.in-Some.listed listed c.keep_others.ensures.kept value
    (omega (arith, c.requires.some_message, length-map c.args.messages.now message_number)) there in
    omega (arith, short, c.keep_others.new.messages.ok.0, c.self.inside.held.messages.ok.0, c.self.inside.held.messages.ok.1, c.keep_others.ensures.capacity)

pub overflow_cast-result : goal.overflow_cast-result
overflow_cast-result c =
    let ms = c.self.inside.held.messages.items in
    let listed = map message_number c.args.messages.now in
    let long : length ms ≡ length c.args.self.now.messages = ap (λ (s : SpecValue). length s.messages) c.self.view_is in
    let value : c.in-Some.listed ≡ listed = subst (λ r. MatchOption r (HasTwice listed) (λ l. l ≡ listed)) c.in-Some.is c.in_ok-listed.ensures.value in
    let there : All (λ m. m < length ms) listed = All-map (λ m. m < length ms) message_number c.args.messages.now (λ k d l. omega (arith, c.requires.messages_there k d l, long)) in
    let short = kept_short ms c.keep_others.new.messages.items c.in-Some.listed listed c.keep_others.ensures.kept value
    (omega (arith, c.requires.some_message, length-map c.args.messages.now message_number)) there in
    omega (arith, short, c.keep_others.new.messages.ok.0, c.len-number.ensures, c.self.invariant.plan.few_messages)

pub invariant_of-self : goal.invariant_of-self
invariant_of-self c =
    let ms = c.self.inside.held.messages.items in
    let names = c.self.inside.held.message_names in
    let listed = map message_number c.args.messages.now in
    let long : length ms ≡ length c.args.self.now.messages = ap (λ (s : SpecValue). length s.messages) c.self.view_is in
    let value : c.in-Some.listed ≡ listed = subst (λ r. MatchOption r (HasTwice listed) (λ l. l ≡ listed)) c.in-Some.is c.in_ok-listed.ensures.value in
    let some : 0 < length listed = omega (arith, c.requires.some_message, length-map c.args.messages.now message_number) in
    let there : All (λ m. m < length ms) listed = All-map (λ m. m < length ms) message_number c.args.messages.now (λ k d l. omega (arith, c.requires.messages_there k d l, long)) in
    let one : AreOfOneSender ms listed = subst (λ (s : SpecValue). AreOfOneSender s.messages listed) (sym c.self.view_is) c.requires.one_sender in
    let free : ¬ IsNameOfOther names c.args.name.now listed = subst (λ (xs : List ℕ). ¬ IsNameOfOther names c.args.name.now xs) value
    (never c.is_name_of_other.result c.is_name_of_other.ensures c.if-is_name_of_other.false) in
    let message : c.in_ok-message.message ≡ merged_message (messages_at ms listed) = c.in_ok-message.ensures
    ∙ ap (λ (ks : List Message). merged_message (messages_at ks listed)) c.deref.ensures.value in
    let new = merged_is ms c.keep_others.new.messages.items c.push_reserved.new.self.items c.in_ok-message.message c.in-Some.listed listed c.keep_others.ensures.kept value message
    c.push_reserved.ensures.items in
    let named : c.in_ok-self-inside.field-0 ≡ merged_names names c.args.name.now listed = c.in_ok-self-inside.ensures ∙ ap (merged_names names c.args.name.now) value in
    record {
      plan = plan_merged_at (held_spec c.self.inside.held) c.args.name.now listed c.in_ok-self-inside.field-0 c.push_reserved.new.self.items named new
          (plan_merged (held_spec c.self.inside.held) c.args.name.now listed c.self.invariant.plan some there one free);
      order = subst (IsOrderOf c.self.inside.order) (sym new) (order_merged c.self.inside.order ms listed there one c.self.invariant.order);
      room = c.self.invariant.room;
    }

pub returns-clause-accepted : goal.returns-clause-accepted
returns-clause-accepted c =
    let names = c.self.inside.held.message_names in
    let listed = map message_number c.args.messages.now in
    let value : c.in-Some.listed ≡ listed = subst (λ r. MatchOption r (HasTwice listed) (λ l. l ≡ listed)) c.in-Some.is c.in_ok-listed.ensures.value in
    let once : ¬ HasTwice listed = subst (λ (xs : List ℕ). ¬ HasTwice xs) value (subst (λ r. MatchOption r (HasTwice listed) (λ l. ¬ HasTwice l)) c.in-Some.is c.in_ok-listed.ensures.once) in
    let free : ¬ IsNameOfOther names c.args.name.now listed = subst (λ (xs : List ℕ). ¬ IsNameOfOther names c.args.name.now xs) value
    (never c.is_name_of_other.result c.is_name_of_other.ensures c.if-is_name_of_other.false) in
    subst (λ (s : SpecValue). ¬ IsMergeRepeated s c.args.name.now listed) c.self.view_is (neither once free)
