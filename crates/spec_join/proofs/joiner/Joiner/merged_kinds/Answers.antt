use Rattle.std.proofs.Common.{◌≡◌, ◌<◌, ℕ, List, length, Option, get_or, sym, ◌∙◌, ap, map, arith}
use Rattle.spec_graph.specs.Lists.{message_number}
use Rattle.spec_graph.specs.Merged.{is_unlisted}
use Rattle.spec_join.specs.Joining.{Joining}
use Rattle.spec_join.proofs.MessageKinds.{kinds_yes, kinds_no}
use Rattle.spec_join.proofs.joiner.Joiner.merged_kinds.Goals as goal
use Rattle.spec_join.proofs.joiner.Joiner.merged_kinds.Goals.{then-is_unlisted+in_ok-push, else-is_unlisted}

pub loop-m-preserved : goal.loop-m-preserved
loop-m-preserved c = elim c.if-is_unlisted.branch [
  | then-is_unlisted+in_ok-push w ↦
      let kinds : List (Option ℕ) = c.args.self.now.message_kinds in
      let same : c.self.inside.message_kinds.items ≡ kinds = ap (λ (x : Joining). x.message_kinds) c.self.view_is in
      let within : c.loop-m.m < length kinds = omega (arith, ap length same) in
      kinds_yes kinds (is_unlisted (map message_number c.args.listed.now)) c.loop-m.m c.loop-m.kinds.items c.if-is_unlisted.kinds.items w.index.result.now w.index.result.now
      (sym c.is_unlisted.ensures ∙ w.if-is_unlisted.true) within (w.index.ensures ∙ ap (λ (xs : List (Option ℕ)). get_or xs c.loop-m.m w.index.result.now) same) c.loop-m.invariant
      (ap (λ v. v.items) w.kinds-is ∙ w.in_ok-push.ensures.items)
  | else-is_unlisted w ↦ kinds_no c.args.self.now.message_kinds (is_unlisted (map message_number c.args.listed.now)) c.loop-m.m c.loop-m.kinds.items c.if-is_unlisted.kinds.items
      (sym c.is_unlisted.ensures ∙ w.if-is_unlisted.false) c.loop-m.invariant (ap (λ v. v.items) w.kinds-is)
]
