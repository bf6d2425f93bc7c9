use Rattle.std.proofs.Common.{◌≡◌, sym, ap, ◌∙◌, Some}
use Rattle.std.specs.Prelude.{option_map}
use Rattle.line_words.specs.Rules.{said}
use Rattle.result_text.specs.Fronts.{front_of}
use Rattle.front_model.specs.Fronts.{vectors_of}
use Rattle.front_model.specs.Judging.{numbers_of}
use Rattle.proof_checker.proofs.Keeping.{cover_refused}
use Rattle.proof_checker.proofs.covers.cover_of.Goals as goal

pub returns-in-Err : goal.returns-in-Err
returns-in-Err c =
    let v = c.in-Some.numbers.items in
    let is : numbers_of (said c.args.words.now) ≡ Some v = sym c.in_ok-numbers_of.ensures ∙ ap (option_map (λ v. v.items)) c.in-Some.is in
    cover_refused c.args.spec.now (vectors_of (front_of c.args.front.now)) (numbers_of (said c.args.words.now)) v c.deref.result.now c.in-Err.fault is c.deref.ensures.value c.in-Err.ensures
