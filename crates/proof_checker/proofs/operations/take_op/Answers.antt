use Rattle.proof_checker.specs.Answers.{context_over}
use Rattle.proof_checker.proofs.operations.take_op.Goals as goal

pub returns-in-Add : goal.returns-in-Add
returns-in-Add c = rw c.in-Add.is (c.add_top.ensures (context_over c.args.given.now))

pub returns-in-Times : goal.returns-in-Times
returns-in-Times c = rw c.in-Times.is (c.multiply_top.ensures (context_over c.args.given.now))

pub returns-in-Divide : goal.returns-in-Divide
returns-in-Divide c = rw c.in-Divide.is (c.divide_top.ensures (context_over c.args.given.now))

pub returns-in-Saturate : goal.returns-in-Saturate
returns-in-Saturate c = rw c.in-Saturate.is (c.saturate_top.ensures (context_over c.args.given.now))
