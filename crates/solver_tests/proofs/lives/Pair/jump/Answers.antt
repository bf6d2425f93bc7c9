use Rattle.std.proofs.Common.{◌≡◌, List, length, subst, sym, take}
use Rattle.trail_state.specs.Trail.{Entry}
use Rattle.trail_state.proofs.Levels.{upto_level-take}
use Rattle.propagate.proofs.Ready.{along_kept}
use Rattle.solver_tests.proofs.lives.Pair.jump.Goals as goal

pub back-requires : goal.back-requires
back-requires c =
    let s = c.args.self.now in
    let P : List Entry → Type 0 = λ us. take (length us) s.trail.entries ≡ us in
    along_kept s.propagator s.trail c.jump_back.new.self c.requires.counted (subst P (sym c.jump_back.ensures.entries) (upto_level-take c.args.level s.trail.entries))
