use Rattle.std.proofs.Common.{Result, Err, refl, sym, subst}
use Rattle.line_words.specs.declared.refusals.ReadFault.{ReadFault}
use Rattle.result_text.specs.declared.fronts.Front.{Front}
use Rattle.run_base.specs.After.{GoesOn}
use Rattle.check_run.specs.Checking.{ChecksFront}
use Rattle.check_run.proofs.Contents.{any_content}
use Rattle.check_run.proofs.checking.check_front.Goals as goal

pub returns-in-Err-clause-checked : goal.returns-in-Err-clause-checked
returns-in-Err-clause-checked g c =
    any_content (g.D.Desk.files c.args.desk.now) c.args.name.now _
    (λ proof. subst (λ (read : Result Front ReadFault). GoesOn read (ChecksFront c.args.spec.now proof) (Err c.in-Err.fault)) (sym c.in-Err.is) refl)
