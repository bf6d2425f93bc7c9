use Rattle.std.proofs.Common.{◌≡◌, ◌∙◌, ◌++◌, ℕ, List, length, sym, ap, inl, inr}
use Rattle.std.proofs.lemmas.List.{length-map}
use Rattle.result_text.specs.Answers.{as_seen}
use Rattle.result_text.specs.Fronts.{front_of}
use Rattle.front_model.specs.declared.refusals.Verdict.TheVariants as verdicts
use Rattle.check_run.specs.Judging.{verdict_on}
use Rattle.check_run.specs.Texts.{accepted_text, proof_refused_text}
use Rattle.check_run.proofs.Verdicts.{accepted, not_accepted}
use Rattle.check_run.proofs.checking.end_by.Goals as goal

pub returns-in_ok-put_accepted-in-Accepted : goal.returns-in_ok-put_accepted-in-Accepted
returns-in_ok-put_accepted-in-Accepted c = λ proof is.
    let s = c.args.spec.now in
    let front = front_of c.args.front.now in
    let accepts = accepted s front proof c.law_of_judging.ensures.judged c.requires (sym is ∙ c.in-Accepted.is) in
    let entries : length c.list.result.now ≡ length front.entries = sym (length-map c.list.result.now as_seen) ∙ ap length c.list.ensures in
    record {
      ends = inl (
        c.said.ensures.ending,
        record {
          accepts = accepts;
          exact = c.law_of_fronts.ensures.values s front proof c.facts.ensures accepts;
          says =
              c.said.ensures.text ∙ (c.in_ok-put_accepted-in-Accepted.ensures ∙ (ap (λ (t : List ℕ). t ++ accepted_text (length c.list.result.now)) c.new-text.ensures.items
              ∙ ap accepted_text entries));
        },
      );
      none_written = c.said.ensures.writes;
    }

pub returns-in_ok-put_proof_refused-in-Refused : goal.returns-in_ok-put_proof_refused-in-Refused
returns-in_ok-put_proof_refused-in-Refused c = λ proof is.
    let s = c.args.spec.now in
    let front = front_of c.args.front.now in
    let refused = c.in-Refused.refused in
    let first : verdict_on s front proof ≡ verdicts.Refused refused = sym is ∙ c.in-Refused.is in
    record {
      ends = inr (
        c.said-in-Refused.ensures.ending,
        record {
          fails = not_accepted s front proof refused c.law_of_judging.ensures.judged first;
          fault = inr (record {
            claim = c.requires;
            refused = refused;
            first = first;
            says = c.said-in-Refused.ensures.text ∙ (c.in_ok-put_proof_refused-in-Refused.ensures ∙ ap (λ (t : List ℕ). t ++ proof_refused_text refused) c.new-text.ensures.items);
          });
        },
      );
      none_written = c.said-in-Refused.ensures.writes;
    }
