use Rattle.std.proofs.Common.{ap, ◌∙◌, ◌++◌, ◌∷◌, List, ℕ, arith}
use Rattle.std.specs.Prelude.{codes}
use Rattle.result_text.proofs.FrontPrinting.{name_more}
use Rattle.result_text.proofs.front_printing.put_objectives.Goals as goal

pub loop-j-preserved : goal.loop-j-preserved
loop-j-preserved c =
    let push = c.in_ok-put_word.ensures ∙ ap (λ (w : List ℕ). c.loop-j.text.items ++ 32 ∷ w) c.objective_name.ensures in
    name_more (codes "objectives") c.args.text.now.items c.loop-j.text.items c.put_word.new.text.items c.args.spec.now.objectives c.loop-j.j c.loop-j.invariant push (omega arith)
