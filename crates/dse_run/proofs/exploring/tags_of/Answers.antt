use Rattle.std.proofs.Common.{◌∙◌, ap, arith, map, string_bytes}
use Rattle.std.proofs.lemmas.List.{take_all}
use Rattle.dse_run.proofs.Keeping.{one_more}
use Rattle.dse_run.proofs.exploring.tags_of.Goals as goal

pub loop-i-preserved : goal.loop-i-preserved
loop-i-preserved g c =
    one_more (λ t. (goal.Evaluator-dyn g (t.vtable, t.value)).text t.value) string_bytes c.args.tools.now c.loop-i.i c.index-tools-i.result c.loop-i.tags.items _ c.in_ok-tag.tag
    c.loop-i.invariant c.in_ok-push.ensures.items c.in_ok-tag.ensures c.index-tools-i.is (omega arith)

pub returns : goal.returns
returns g c = c.loop-i.invariant ∙ ap (map (λ t. (goal.Evaluator-dyn g (t.vtable, t.value)).text t.value)) (take_all c.loop-i.i c.args.tools.now (omega arith))
