use Rattle.std.proofs.Common.{◌≡◌, ◌+◌, ◌-◌, ◌≤◌, length}
use Rattle.std.specs.Prelude.{All}
use Rattle.proof_checker.specs.Runs.{IsRun}
use Rattle.proof_checker.proofs.weakenings.run_at.Given as goal

-- the words so far are a run, and none of its variables is above the least that may follow
abbrev pub invariant-loop-next : goal.invariant-loop-next
invariant-loop-next l = record {
  run : IsRun l.known l.words l.from l.vars.items;
  here : l.next ≡ l.from + length l.vars.items;
  bound : All (λ y. y ≤ l.least) l.vars.items;
}

abbrev pub decreases-loop-next : goal.decreases-loop-next
decreases-loop-next l = length l.words - l.next
