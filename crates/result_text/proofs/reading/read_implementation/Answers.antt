use Rattle.line_words.specs.declared.refusals.FileTag.TheVariants.{Front}
use Rattle.line_words.proofs.Answering.{agrees_reads}
use Rattle.spelled_lines.specs.Lines.{pieces}
use Rattle.result_text.specs.Statements.{result_rules}
use Rattle.result_text.specs.Answers.{as_seen, entry_of}
use Rattle.result_text.proofs.Going.{in_order}
use Rattle.result_text.proofs.Exactly.{printed, back}
use Rattle.result_text.proofs.reading.read_implementation.Goals as goal

pub returns-clause-reads : goal.returns-clause-reads
returns-clause-reads c =
    let s = c.args.spec.now in
    agrees_reads Front (result_rules s) as_seen (entry_of s) (pieces c.args.bytes.now) c.read_all.result (in_order s) c.read_all.ensures

pub returns-clause-printed : goal.returns-clause-printed
returns-clause-printed c = printed c.args.spec.now c.facts.ensures c.args.bytes.now c.read_all.result (returns-clause-reads c)

pub returns-clause-back : goal.returns-clause-back
returns-clause-back c = λ e is.
    let names = c.facts_of_names.ensures in
    back c.args.spec.now c.facts.ensures (record { tasks = names.tasks; messages = names.messages; resources = names.resources; links = names.links }) c.args.bytes.now c.read_all.result
    (returns-clause-reads c) e is
