use Rattle.std.proofs.Common.{◌≡◌, ◌∙◌, ◌+◌, ◌-◌, ℕ, length, take, subst, arith}
use Rattle.proof_log.specs.Log.{LogValue}
use Rattle.ordered_solver.specs.Engines.{HasKeptIds, AreLeaving}
use Rattle.ordered_solver.specs.Lessons.{HasDropped}
use Rattle.ordered_solver.specs.Solver.{kept_limit}
use Rattle.ordered_solver.proofs.Dropping.{dropped_more}
use Rattle.ordered_solver.proofs.engine.Engine.drop_oldest.Goals as goal

pub loop-self-preserved : goal.loop-self-preserved
loop-self-preserved c =
    let s = c.args.self.now in
    let l = c.loop-self.self in
    let w = c.remove_first.new.self in
    let i = c.loop-self.invariant in
    let d = c.remove_first.ensures in
    let one = d.one in
    let many = i.count in
    let test = c.loop-self-test.true in
    let len = c.len.ensures in
    let n = length w.kept.items - kept_limit in
    let left : length l.kept.items - kept_limit ≡ n + 1 = omega (arith, l.kept.ok) in
    let L : ℕ → Type 0 = λ m. AreLeaving l.store l.propagator l.trail (take m l.kept.items) in
    record {
      dropped = dropped_more s.log s.store l.store w.store i.dropped (subst (λ (v : LogValue). HasDropped v l.store w.store) i.log d.dropped);
      leaving = d.leaving n (subst L left i.leaving);
      listed = subst (λ (v : LogValue). HasKeptIds w.store w.kept.items v) (d.log ∙ i.log) d.listed;
      count = omega (arith, l.kept.ok);
      log = d.log ∙ i.log;
      trail = d.trail ∙ i.trail;
    }
