use Rattle.line_words.specs.declared.refusals.FileTag.TheVariants as files
use Rattle.line_words.proofs.Answering.{agrees_reads}
use Rattle.spelled_lines.specs.Lines.{pieces}
use Rattle.result_text.specs.Printed.{HasNames}
use Rattle.result_text.specs.Fronts.{front_of}
use Rattle.result_text.specs.FrontLines.{front_rules, front_in}
use Rattle.result_text.proofs.FrontGoing.{front_in_order}
use Rattle.result_text.proofs.FrontExactly.{front_printed, front_back}
use Rattle.result_text.proofs.front_reading.read_front.Goals as goal

pub returns-clause-reads : goal.returns-clause-reads
returns-clause-reads c =
    let s = c.args.spec.now in
    agrees_reads files.Front (front_rules s) front_of (front_in s) (pieces c.args.bytes.now) c.read_all.result (front_in_order s) c.read_all.ensures

pub returns-clause-printed : goal.returns-clause-printed
returns-clause-printed c = front_printed c.args.spec.now c.facts.ensures c.args.bytes.now c.read_all.result (returns-clause-reads c)

pub returns-clause-back : goal.returns-clause-back
returns-clause-back c = λ front is.
    let names = c.facts_of_names.ensures in
    let words : HasNames c.args.spec.now = record { tasks = names.tasks; messages = names.messages; resources = names.resources; links = names.links } in
    front_back c.args.spec.now c.facts.ensures words names.objectives c.args.bytes.now c.read_all.result c.is_short.ensures (returns-clause-reads c) front is
