use Rattle.std.proofs.Common.{◌∙◌, ◌++◌, ℕ, List, ap, inl, inr}
use Rattle.result_text.specs.Fronts.{front_of}
use Rattle.check_run.specs.Texts.{front_refused_text}
use Rattle.check_run.proofs.Faults.{fault_no_claim}
use Rattle.check_run.proofs.checking.refuse_front.Goals as goal

pub returns : goal.returns
returns c = λ proof. record {
  ends = inr (
    c.said.ensures.ending,
    record {
      fails = λ accepts. fault_no_claim c.args.spec.now (front_of c.args.front.now) c.args.refused c.requires accepts.claim;
      fault =
          inl (record {
            refused = c.args.refused;
            first = c.requires;
            says = c.said.ensures.text ∙ (c.in_ok-put_front_refused.ensures
                ∙ ap (λ (t : List ℕ). t ++ front_refused_text c.args.refused) c.new-text.ensures.items);
          });
    },
  );
  none_written = c.said.ensures.writes;
}
