use Rattle.std.proofs.Common.{◌^◌, ◌-◌, ap, arith}
use Rattle.pb_rules.specs.Frames.{derived_count}
use Rattle.proof_log.specs.Log.{LogValue}
use Rattle.evo_explore.proofs.Rounds.{never_used_up}
use Rattle.evo_explore.proofs.run.first_valid.Goals as goal

pub design_in-requires : goal.design_in-requires
design_in-requires c =
    let x = c.in_ok-decoded.ensures in
    let lines = ap (λ (l : LogValue). derived_count l.lines) c.log.ensures.log in
    never_used_up c.args.decoder.now.spec c.args.decoder.now.log c.decode.new.self.log (2 ^ 64 - 1) c.in_ok-decoded.decoded x.count x.log (omega arith)
    (omega (arith, c.learned-learned.ensures.value, c.learned-learned.ensures.small, lines))
