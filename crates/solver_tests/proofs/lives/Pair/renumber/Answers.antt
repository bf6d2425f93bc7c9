use Rattle.std.proofs.Common.{◌≡◌, List, ap, length, map, subst, sym, take}
use Rattle.pb_rules.specs.Literal.{Literal}
use Rattle.trail_state.specs.Trail.{Entry}
use Rattle.propagate.specs.Propagator.{PropagatorView}
use Rattle.propagate.proofs.Ready.{ready_remap}
use Rattle.solver_tests.proofs.lives.Pair.renumber.Goals as goal

pub returns : goal.returns
returns c =
    let s = c.args.self.now in
    let q = c.remap.new.self in
    let same : q ≡ record s.propagator { attached = q.attached } = c.remap.ensures.same in
    let N : List Literal → Type 0 = λ ls. take (length ls) (map (λ (e : Entry). e.lit) s.trail.entries) ≡ ls in
    ready_remap s.propagator q s.store c.compact.new.self c.in_ok-moves.moves s.trail c.requires c.in_ok-moves.ensures.moves c.of-first.ensures.one_to_one c.remap.ensures.attached
    (ap (λ (p : PropagatorView). p.variables) same) (subst N (sym (ap (λ (p : PropagatorView). p.counted) same)) c.requires.counted)
