-- What the verdict on a proof says of acceptance.
use Rattle.std.proofs.Common.{◌≡◌, ◌∙◌, ℕ, List, sym}
use Rattle.spec_model.specs.Spec.{SpecValue}
use Rattle.result_text.specs.Fronts.{FrontValue}
use Rattle.front_model.specs.Fronts.{vectors_of, IsClaim}
use Rattle.front_model.specs.Proofs.{Accepts}
use Rattle.front_model.specs.Laws.{JudgedExactly}
use Rattle.front_model.specs.declared.refusals.Refused.{Refused}
use Rattle.front_model.specs.declared.refusals.Verdict.TheVariants as verdicts
use Rattle.check_run.specs.Judging.{verdict_on}

pub accepted : (s : SpecValue) (front : FrontValue) (proof : List ℕ) → JudgedExactly → IsClaim s front → verdict_on s front proof ≡ verdicts.Accepted → Accepts s front proof
accepted s front proof judged claim e = record { claim = claim; proof = (judged s (vectors_of front) proof).0 e }

pub not_accepted : (s : SpecValue) (front : FrontValue) (proof : List ℕ) (r : Refused) → JudgedExactly → verdict_on s front proof ≡ verdicts.Refused r → ¬ Accepts s front proof
not_accepted s front proof r judged e accepts =
    let got : verdict_on s front proof ≡ verdicts.Accepted = (judged s (vectors_of front) proof).1 accepts.proof in
    (let c : verdicts.Refused r ≡ verdicts.Accepted = sym e ∙ got in cc)
