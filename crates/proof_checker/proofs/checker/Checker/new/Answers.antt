use Rattle.std.proofs.Common.{ap, List, false}
use Rattle.std.specs.Prelude.{None}
use Rattle.pb_rules.specs.Linear.{Linear}
use Rattle.result_text.specs.Fronts.{front_of}
use Rattle.proof_checker.specs.Checkers.{progress_of}
use Rattle.proof_checker.proofs.Keeping.{new_checker}
use Rattle.proof_checker.proofs.checker.Checker.new.Goals as goal

pub invariant_of-result : goal.invariant_of-result
invariant_of-result c =
    new_checker c.args.spec.now (front_of c.args.front.now) (progress_of c.in_ok-constraints.constraints.items 0 0 false None) c.facts.ensures c.in_default.ensures.claim
    (ap (λ (cs : List Linear). progress_of cs 0 0 false None) c.in_ok-constraints.ensures)
