use Rattle.std.proofs.Common.{sym, ◌∙◌}
use Rattle.arch_reader.proofs.Testing.{accepted_plain}
use Rattle.arch_reader.proofs.reading.accepted.Goals as goal

pub returns-in-None-clause-plain : goal.returns-in-None-clause-plain
returns-in-None-clause-plain c = accepted_plain c.args.seen.now c.args.form (sym c.fault.ensures ∙ c.in-None.is)
