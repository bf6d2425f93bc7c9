use Rattle.std.proofs.Common.{◌++◌, ◌∷◌, ◌∙◌, ap, sym, map}
use Rattle.std.specs.List.{flat_map}
use Rattle.std.proofs.lemmas.List.{map_push}
use Rattle.spec_model.specs.Spec.{below}
use Rattle.spec_model.proofs.Those.{below_more}
use Rattle.spelled_lines.specs.Lines.{spelled}
use Rattle.spec_make.specs.Made.{hops_words, task_words}
use Rattle.spec_make.proofs.Drawing.{line_more}
use Rattle.spec_make.proofs.parts.put_tasks.Goals as goal

pub loop-i-preserved : goal.loop-i-preserved
loop-i-preserved c =
    let old = c.args.text.now.items in
    let done = map task_words (below c.loop-i.i) in
    line_more old c.loop-i.text.items c.put_task.new.text.items (hops_words c.args.side ∷ done) (task_words c.loop-i.i) c.loop-i.invariant c.in_ok-put_task.ensures
    ∙ ap (λ ls. old ++ flat_map spelled (hops_words c.args.side ∷ ls)) (sym (ap (map task_words) (below_more c.loop-i.i) ∙ map_push task_words (below c.loop-i.i) c.loop-i.i))
