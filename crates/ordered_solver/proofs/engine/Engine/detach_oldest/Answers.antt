use Rattle.std.proofs.Common.{◌≡◌, ◌∙◌, ap, take}
use Rattle.propagate.specs.Attached.{Drops}
use Rattle.propagate.specs.Propagator.{PropagatorView, IsCounted}
use Rattle.ordered_solver.proofs.Loading.{counted_same}
use Rattle.ordered_solver.proofs.Leaving.{drops_parts, leaving_all}
use Rattle.ordered_solver.proofs.engine.Engine.detach_oldest.Goals as goal

pub returns-clause-leaving : goal.returns-clause-leaving
returns-clause-leaving c =
    let s = c.args.self.now in
    let all = s.kept.items in
    let many = c.args.many in
    let front = c.as_slices.result.0.now in
    let back = c.as_slices.result.1.now in
    let first = c.min-first.result in
    let p : PropagatorView = s.propagator in
    let q : PropagatorView = c.detach_each.new.self in
    let r : PropagatorView = c.detach_each-2.new.self in
    let a = c.detach_each.ensures in
    let b = c.detach_each-2.ensures in
    let drops : Drops (take many all) p.attached r.attached = drops_parts front back all many first p.attached q.attached r.attached c.as_slices.ensures.items c.min-first.ensures a.attached
    b.attached in
    let same : r.variables ≡ p.variables = ap (λ (x : PropagatorView). x.variables) b.same ∙ ap (λ (x : PropagatorView). x.variables) a.same in
    let counted : IsCounted r s.trail = counted_same q r s.trail b.same (counted_same p q s.trail a.same c.requires.idle.loaded.ready.counted) in
    leaving_all s.store p r s.trail (take many all) c.requires.idle.loaded drops same counted
