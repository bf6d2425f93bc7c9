use Rattle.std.proofs.Common.{◌∙◌, arith, sym}
use Rattle.constraint_store.proofs.Tables.{ranks_more_none, ranks_more_some}
use Rattle.constraint_store.proofs.spans.new_ids.Goals.{then-is_some+in_ok-push, else-is_some+in_ok-push-2}
use Rattle.constraint_store.proofs.spans.new_ids.Goals as goal

pub loop-span-preserved : goal.loop-span-preserved
loop-span-preserved c =
    let l = c.loop-span in
    elim c.if-is_some.branch [
      | then-is_some+in_ok-push w ↦ (
          let more = ranks_more_some c.args.spans.now l.span-index l.next l.ids.items w.push.new.self.items c.loop-span-test.true (sym c.is_some.ensures ∙ w.if-is_some.true) l.invariant.ids
          l.invariant.next w.in_ok-push.ensures.items in
          rw (w.ids-is, w.next-is) (record { ids = more.0; next = more.1; few = omega (arith, l.invariant.few) })
          )
      | else-is_some+in_ok-push-2 w ↦ (
          let more = ranks_more_none c.args.spans.now l.span-index l.next l.ids.items w.push-else-is_some.new.self.items c.loop-span-test.true (sym c.is_some.ensures ∙ w.if-is_some.false)
          l.invariant.ids l.invariant.next w.in_ok-push-2.ensures.items in
          rw (w.ids-is, w.next-is) (record { ids = more.0; next = more.1; few = omega (arith, l.invariant.few) })
          )
    ]
