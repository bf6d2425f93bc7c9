use Rattle.std.proofs.Common.{◌≡◌, List, ap, length, map, subst, sym, take}
use Rattle.pb_rules.specs.Literal.{Literal}
use Rattle.constraint_store.specs.Live.{Live}
use Rattle.trail_state.specs.Trail.{Entry}
use Rattle.propagate.specs.Propagator.{PropagatorView, IsReady}
use Rattle.propagate.proofs.Ready.{ready_remove}
use Rattle.solver_tests.proofs.lives.Pair.take_out.Goals as goal

pub returns : goal.returns
returns c =
    let s = c.args.self.now in
    let q = c.detach.new.self in
    let same : q ≡ record s.propagator { attached = q.attached } = c.detach.ensures.same in
    let N : List Literal → Type 0 = λ ls. take (length ls) (map (λ (e : Entry). e.lit) s.trail.entries) ≡ ls in
    let P : List Live → Type 0 = λ ls. IsReady q ls s.trail in
    subst P (sym c.remove.ensures) (ready_remove s.propagator q s.store s.trail c.args.id c.requires.ready c.detach.ensures.attached (ap (λ (p : PropagatorView). p.variables) same)
    (subst N (sym (ap (λ (p : PropagatorView). p.counted) same)) c.requires.ready.counted))
