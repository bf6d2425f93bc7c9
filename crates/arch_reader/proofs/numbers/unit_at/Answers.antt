use Rattle.std.proofs.Common.{lit<}
use Rattle.std.proofs.Math.Nat.{one-le-pow}
use Rattle.arch_reader.proofs.numbers.unit_at.Goals as goal

pub returns-clause-positive : goal.returns-clause-positive
returns-clause-positive c = rw c.pow.ensures (one-le-pow c.saturating_sub.result 10 (lit< tt))
