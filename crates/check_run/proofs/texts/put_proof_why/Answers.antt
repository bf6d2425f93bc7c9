use Rattle.std.proofs.Common.{◌≡◌, ◌∙◌, ◌++◌, ℕ, List, OnOk, ap, sym, subst}
use Rattle.front_model.specs.declared.refusals.ProofWhy.{ProofWhy}
use Rattle.check_run.specs.Texts.{proof_why_text, not_dominated_text}
use Rattle.check_run.proofs.texts.put_proof_why.Goals as goal

pub returns-in_ok-extend_from_slice-in-NoContradiction : goal.returns-in_ok-extend_from_slice-in-NoContradiction
returns-in_ok-extend_from_slice-in-NoContradiction c =
    c.in_ok-extend_from_slice-in-NoContradiction.ensures.items ∙ sym (ap (λ (w : ProofWhy). c.args.out.now.items ++ proof_why_text w) c.in-NoContradiction.is)

pub returns-in-CoverNotDominated : goal.returns-in-CoverNotDominated
returns-in-CoverNotDominated c =
    subst (λ (w : ProofWhy). OnOk c.put_not_dominated.result (c.put_not_dominated.new.out.items ≡ c.args.out.now.items ++ proof_why_text w))
    (sym c.in-CoverNotDominated.is)
    (subst (λ (v : List ℕ). OnOk c.put_not_dominated.result (c.put_not_dominated.new.out.items ≡ c.args.out.now.items ++ not_dominated_text v)) c.numbers.ensures c.put_not_dominated.ensures)
