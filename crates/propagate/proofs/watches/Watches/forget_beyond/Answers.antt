use Rattle.std.proofs.Common.{rules, ◌≤◌, ℕ}
use Rattle.std.specs.Prelude.{All}
use Rattle.std.proofs.lemmas.Fn.{All-from_retain}
use Rattle.propagate.specs.Watches.{IsClosedAt}
use Rattle.propagate.proofs.Closed.{All-retained, closed_fewer}
use Rattle.propagate.proofs.watches.Watches.forget_beyond.Goals as goal

pub returns-clause-closed : goal.returns-clause-closed
returns-clause-closed c =
    λ ls closed k d h.
    (let old = c.args.self.now in
    let ns = c.retain.new.self.items in
    let r = c.retain.ensures.filtered in
    let Few : ℕ → Type 0 = λ n. n ≤ c.args.left in
    let few : All Few ns = All-from_retain _ Few _ (λ x b f' k. search rules) old.closed.items ns r in
    let kept = All-retained _ (IsClosedAt ls old.slots.items) _ old.closed.items ns r closed in
    closed_fewer ls old.slots.items c.args.left _ (few k d h) (kept k d h))
