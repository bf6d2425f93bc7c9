use Rattle.std.proofs.Common.{ap}
use Rattle.propagate.specs.Propagator.{PropagatorView}
use Rattle.ordered_solver.proofs.Loading.{counted_same}
use Rattle.ordered_solver.proofs.Dropping.{kept_renamed, loaded_renamed}
use Rattle.ordered_solver.proofs.engine.Engine.close_gaps.Goals as goal

pub returns-clause-idle : goal.returns-clause-idle
returns-clause-idle c =
    let s = c.args.self.now in
    let p : PropagatorView = s.propagator in
    let q : PropagatorView = c.remap.new.self in
    record {
      loaded = loaded_renamed s.store c.compact.new.self p q s.trail c.in-Ok.moves c.requires.idle.loaded c.in-Ok.ensures.moves c.of-first.ensures.one_to_one c.remap.ensures.attached
          (ap (λ (x : PropagatorView). x.variables) c.remap.ensures.same) (counted_same p q s.trail c.remap.ensures.same c.requires.idle.loaded.ready.counted);
      nothing = c.requires.idle.nothing;
    }

pub returns-clause-listed : goal.returns-clause-listed
returns-clause-listed c =
    let s = c.args.self.now in
    kept_renamed s.log s.store c.compact.new.self c.in-Ok.moves s.kept.items c.rename.new.ids.items c.in-Ok.ensures.moves c.requires.listed c.rename.ensures
