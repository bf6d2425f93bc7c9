use Rattle.std.proofs.lemmas.Result.{IfOk-weaker}
use Rattle.check_run.proofs.Readings.{front_read}
use Rattle.check_run.proofs.fronts.read_short.Goals as goal

pub returns-clause-reads : goal.returns-clause-reads
returns-clause-reads c = front_read c.args.spec.now c.args.bytes.now c.read_front.result c.requires c.read_front.ensures.reads c.read_front.ensures.printed c.read_front.ensures.back

pub returns-clause-shaped : goal.returns-clause-shaped
returns-clause-shaped c = IfOk-weaker c.read_front.result _ _ (λ front text. text.entries) c.read_front.ensures.printed
