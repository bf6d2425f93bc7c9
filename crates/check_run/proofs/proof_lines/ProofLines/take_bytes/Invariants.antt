use Rattle.std.proofs.Common.{length}
use Rattle.check_run.specs.Taking.{HasNoLf}
use Rattle.check_run.proofs.Taking.{Follows}
use Rattle.check_run.proofs.proof_lines.ProofLines.take_bytes.Given as goal

-- the lines so far are taken: the rest leads as far as all bytes do
abbrev pub invariant-loop-body : goal.invariant-loop-body
invariant-loop-body l = HasNoLf l.self.held.items × Follows l.fn.self l.self l.bytes l.rest

abbrev pub decreases-loop-body : goal.decreases-loop-body
decreases-loop-body l = length l.rest
