use Rattle.std.proofs.Common.{Result, Err, IsOkAnd, refl, sym, subst}
use Rattle.std.proofs.Math.Logic.{⊎_map}
use Rattle.std.proofs.lemmas.Result.{IfOk-weaker}
use Rattle.line_words.specs.declared.refusals.ReadFault.{ReadFault}
use Rattle.spec_model.specs.Spec.{SpecValue}
use Rattle.run_base.specs.After.{GoesOn}
use Rattle.check_run.specs.Checking.{ChecksSpec}
use Rattle.check_run.specs.Calls.{HasClaim}
use Rattle.check_run.proofs.Contents.{any_content, of_weaker}
use Rattle.check_run.proofs.checking.check_spec.Goals as goal

pub returns-in-Ok-clause-checked : goal.returns-in-Ok-clause-checked
returns-in-Ok-clause-checked g c =
    IfOk-weaker c.check_with.result _ _
    (λ tried h world third. of_weaker _ _ _ _
    (λ proof checks. subst (λ (read : Result SpecValue ReadFault). GoesOn read (ChecksSpec world proof) tried) (sym c.in-Ok.is) checks)
    (h world third))
    c.check_with.ensures.checked

pub returns-in-Err-clause-checked : goal.returns-in-Err-clause-checked
returns-in-Err-clause-checked g c = λ world third.
    any_content (g.D.Desk.files c.args.desk.now) c.args.name.now _
    (λ proof. subst (λ (read : Result SpecValue ReadFault). GoesOn read (ChecksSpec world proof) (Err c.in-Err.fault)) (sym c.in-Err.is) refl)

pub returns-in-Ok-clause-late : goal.returns-in-Ok-clause-late
returns-in-Ok-clause-late g c = λ world third.
    ⊎_map
    (λ claim. subst (λ (read : Result SpecValue ReadFault). IsOkAnd read (HasClaim world)) (sym c.in-Ok.is) claim)
    (λ none. none)
    (c.check_with.ensures.late world third)
