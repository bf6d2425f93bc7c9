use Rattle.std.proofs.Common.{◌∙◌, ◌++◌, ℕ, List, ap}
use Rattle.dse_run.specs.Searching.{answer_text, evidence_value}
use Rattle.dse_run.proofs.Found.{finds}
use Rattle.dse_run.proofs.decode.outcome_of.Goals as goal

pub returns : goal.returns
returns c =
    let s = c.args.spec.now in
    let decoded = c.args.decoded.now in
    let says = c.in_ok-put_answer.ensures ∙ ap (λ (t : List ℕ). t ++ answer_text s c.args.wanted.budget decoded) c.new-text.ensures.items in
    finds c.law_of_files.ensures.legal (evidence_value c.args.wanted) s c.args.genotype.now decoded c.args.log
    (record { ending = c.ending_of.result; text = c.put_answer.new.text; writes = c.in_ok-writes.writes })
    c.requires.searched c.ending_of.ensures says c.in_ok-writes.ensures
