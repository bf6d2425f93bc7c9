use Rattle.std.proofs.Common.{◌≡◌, ◌<◌, arith, sym, ◌∙◌}
use Rattle.line_words.specs.Rules.{said}
use Rattle.spec_model.specs.Spec.{design_variables}
use Rattle.spec_model.proofs.Numbers.{design_variables-le}
use Rattle.result_text.specs.Stating.{item_variable}
use Rattle.result_text.specs.Answers.{state_of}
use Rattle.result_text.proofs.Going.{item_line}
use Rattle.result_text.proofs.reading.take_words.Goals as goal

pub returns-in-Err : goal.returns-in-Err
returns-in-Err c =
    item_line c.args.spec.now (state_of c.args.seen.now) (said c.args.words.now) c.in-Err.why (sym c.is_some.ensures ∙ c.if-is_some.false) (sym c.has_empty.ensures ∙ c.if-has_empty.false)
    (sym c.is_vector.ensures ∙ c.if-is_vector.false) c.in-Err.ensures

pub overflow_add-seen : goal.overflow_add-seen
overflow_add-seen c =
    let is : c.in-Ok.variable ≡ item_variable c.args.spec.now (said c.args.words.now) = c.in-Ok.ensures.1 in
    let small : item_variable c.args.spec.now (said c.args.words.now) < design_variables c.args.spec.now = c.in-Ok.ensures.2 in
    omega (arith, is, small, c.facts.ensures.few_variables, design_variables-le c.args.spec.now)
