use Rattle.std.proofs.Common.{ap, ◌∙◌, ◌++◌, ◌∷◌, List, ℕ, arith}
use Rattle.explore_run.proofs.Lines.{word_more}
use Rattle.explore_run.proofs.saying.put_objectives.Goals as goal

pub loop-j-preserved : goal.loop-j-preserved
loop-j-preserved c =
    let push = c.in_ok-put_word.ensures ∙ ap (λ (w : List ℕ). c.loop-j.out.items ++ 32 ∷ w) c.objective_name.ensures in
    word_more c.args.out.now.items c.loop-j.out.items c.put_word.new.out.items c.args.spec.now.objectives c.loop-j.j c.loop-j.invariant push (omega arith)
