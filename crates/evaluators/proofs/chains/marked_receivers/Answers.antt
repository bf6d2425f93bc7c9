use Rattle.std.proofs.Common.{◌≡◌, ◌∙◌, ap, length, arith}
use Rattle.evaluators.specs.Marks.{is_marked}
use Rattle.evaluators.proofs.Deepening.{written}
use Rattle.evaluators.proofs.Marking.{sent_more, sent_same, sender_is, marked_by}
use Rattle.evaluators.proofs.chains.marked_receivers.Goals as goal
use Rattle.evaluators.proofs.chains.marked_receivers.Goals.{then-marks-sender, else-marks-sender}

pub loop-m-preserved : goal.loop-m-preserved
loop-m-preserved c =
    elim c.if-marks-sender.branch [
      | then-marks-sender w ↦
          let before : w.deref_mut.result.now ≡ c.loop-m.next.items = w.deref_mut.ensures.value in
          let long : length w.mark_each.new.marks ≡ length w.deref_mut.result.now = w.mark_each.ensures.len in
          let next : c.if-marks-sender.next.items ≡ w.mark_each.new.marks = ap (λ v. v.items) w.next-is ∙ written w.mark_each.new.marks _ _ (omega (arith, long, w.deref_mut.ensures.len)) in
          record {
            long = ap length next ∙ (long ∙ (ap length before ∙ c.loop-m.invariant.long));
            marked = sent_more c.args.spec.now c.args.marks.now c.loop-m.next.items c.if-marks-sender.next.items c.loop-m.m
                (sender_is c.args.spec.now c.args.marks.now c.loop-m.m _ _ c.sender.ensures.sender w.if-marks-sender.true)
                c.loop-m.invariant.marked
                (marked_by c.args.spec.now c.loop-m.m _ _ _ _ _ before next w.receivers.ensures w.mark_each.ensures.marked);
          }
      | else-marks-sender w ↦
          let same : c.if-marks-sender.next.items ≡ c.loop-m.next.items = ap (λ v. v.items) w.next-is in
          record {
            long = ap length same ∙ c.loop-m.invariant.long;
            marked = λ t. ap (λ ms. is_marked ms t) same ∙ sent_same c.args.spec.now c.args.marks.now c.loop-m.next.items c.loop-m.m
                (sender_is c.args.spec.now c.args.marks.now c.loop-m.m _ _ c.sender.ensures.sender w.if-marks-sender.false) c.loop-m.invariant.marked t;
          }
    ]
