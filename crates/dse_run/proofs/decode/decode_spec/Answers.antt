use Rattle.std.proofs.Common.{Result, sym, subst}
use Rattle.line_words.specs.declared.refusals.ReadFault.{ReadFault}
use Rattle.spec_model.specs.Spec.{SpecValue}
use Rattle.run_base.specs.After.{GoesOn}
use Rattle.dse_run.specs.Decoding.{DecodesSpec}
use Rattle.dse_run.specs.Searching.{evidence_value}
use Rattle.dse_run.proofs.decode.decode_spec.Goals as goal

pub returns-in-Ok : goal.returns-in-Ok
returns-in-Ok c =
    λ world third. subst (λ (read : Result SpecValue ReadFault). GoesOn read (DecodesSpec (evidence_value c.args.wanted) world) c.decode_with.result) (sym c.in-Ok.is)
    (c.decode_with.ensures world third)
