use Rattle.result_text.specs.Fronts.{front_of}
use Rattle.proof_checker.proofs.Keeping.{claim_long}
use Rattle.proof_checker.proofs.checker.Checker.judge.Goals as goal

pub judge_next-requires-clause-long : goal.judge_next-requires-clause-long
judge_next-requires-clause-long c = claim_long c.self.inside.spec.now (front_of c.self.inside.front.now) c.self.invariant.claim
