use Rattle.std.proofs.Common.{◌≡◌, ◌<◌, [], All, get_or, map, ap, sym, subst, ◌∙◌}
use Rattle.spec_model.specs.Spec.{Message}
use Rattle.spec_graph.specs.Lists.{task_number}
use Rattle.spec_graph.specs.Marks.{HasFewReceivers}
use Rattle.spec_graph.specs.Merged.{with_receivers, with_all_once}
use Rattle.spec_graph.specs.declared.numbers.MsgNo.{MsgNo}
use Rattle.spec_graph.proofs.Mapped.{all_of_map}
use Rattle.spec_graph.proofs.Parts.{fold_part}
use Rattle.spec_graph.proofs.merging.receivers_of.Goals as goal

pub add_all-requires : goal.add_all-requires
add_all-requires c =
    let d : MsgNo = record { 0 = 0 } in
    let there = c.requires.there c.loop-m.m-index d c.loop-m-test.true in
    let few : All (λ w. w < 1024) c.index-messages-m.result.receivers = subst HasFewReceivers (sym c.index-messages-m.is)
    (c.requires.few (get_or c.args.listed.now c.loop-m.m-index d).0 c.index-messages-m.result there) in
    let same : map task_number c.as_slice.result.now ≡ c.index-messages-m.result.receivers = ap (map task_number) c.as_slice.ensures.value ∙ ap (λ (k : Message). k.receivers) c.message.view_is in
    all_of_map task_number (λ w. w < 1024) c.as_slice.result.now (subst (All (λ w. w < 1024)) (sym same) few)

pub loop-m-preserved : goal.loop-m-preserved
loop-m-preserved c =
    let d : MsgNo = record { 0 = 0 } in
    let there = c.requires.there c.loop-m.m-index d c.loop-m-test.true in
    let same : map task_number c.as_slice.result.now ≡ c.index-messages-m.result.receivers = ap (map task_number) c.as_slice.ensures.value ∙ ap (λ (k : Message). k.receivers) c.message.view_is in
    fold_part with_receivers [] c.args.messages.now c.args.listed.now c.loop-m.m-index d c.index-messages-m.result c.loop-m.gathered c.add_all.new.self c.loop-m-test.true there
    c.index-messages-m.is c.loop-m.invariant (c.in_ok-add_all.ensures ∙ ap (with_all_once c.loop-m.gathered) same)
