use Rattle.std.proofs.Common.{Result, sym, subst}
use Rattle.line_words.specs.declared.refusals.ReadFault.{ReadFault}
use Rattle.spec_model.specs.Spec.{SpecValue}
use Rattle.run_base.specs.After.{GoesOn}
use Rattle.front_run.specs.Fronting.{FrontsSpec}
use Rattle.front_run.specs.Wanting.{wanted_value}
use Rattle.front_run.proofs.fronting.front_spec.Goals as goal

pub returns-in-Ok : goal.returns-in-Ok
returns-in-Ok c = subst (λ (read : Result SpecValue ReadFault). GoesOn read (FrontsSpec (wanted_value c.args.wanted)) c.front_with.result) (sym c.in-Ok.is) c.front_with.ensures
