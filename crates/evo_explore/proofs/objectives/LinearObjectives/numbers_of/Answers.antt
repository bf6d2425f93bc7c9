use Rattle.std.proofs.Common.{ℕ, List, [], ◌∷◌, ◌++◌, length, ap, ap₂, sym, ◌∙◌, arith}
use Rattle.spec_model.specs.Spec.{bits_of, design_variables}
use Rattle.spec_model.specs.Vectors.{weight, vector_at}
use Rattle.spec_model.proofs.Those.{map-below_more}
use Rattle.evo_explore.proofs.Weighing.{length-map_below, rows_are, row_is}
use Rattle.evo_explore.proofs.objectives.LinearObjectives.numbers_of.Goals as goal

pub index-requires : goal.index-requires
index-requires c =
    let w = c.self.inside.weights in
    omega (arith, rows_are c.args.spec.now w.items (c.self.view_is ∙ c.requires.laid_out), w.ok.0, c.loop-j-test.true, c.objectives-j-end.ensures.count)

pub number-requires : goal.number-requires
number-requires c =
    let s = c.args.spec.now in
    let j = c.loop-j.j in
    let row = row_is s c.self.inside.weights.items j c.index.result.now (c.self.view_is ∙ c.requires.laid_out) (omega (arith, c.loop-j-test.true, c.objectives-j-end.ensures.count)) c.index.ensures in
    c.requires.bits ∙ sym (ap length row ∙ length-map_below (weight s j) (design_variables s))

pub loop-j-preserved : goal.loop-j-preserved
loop-j-preserved c =
    let s = c.args.spec.now in
    let j = c.loop-j.j in
    let row = row_is s c.self.inside.weights.items j c.index.result.now (c.self.view_is ∙ c.requires.laid_out) (omega (arith, c.loop-j-test.true, c.objectives-j-end.ensures.count)) c.index.ensures in
    c.in_ok-push.ensures.items ∙ ap₂ (λ (ns : List ℕ) (n : ℕ). ns ++ n ∷ []) c.loop-j.invariant (c.number.ensures s j row)
    ∙ sym (map-below_more (vector_at s (bits_of c.args.design.now)) j)
