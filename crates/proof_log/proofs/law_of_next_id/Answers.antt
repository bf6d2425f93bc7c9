use Rattle.std.proofs.Common.{arith}
use Rattle.pb_rules.specs.Frames.{base_of}
use Rattle.pb_rules.proofs.Given.{given-ids}
use Rattle.proof_log.proofs.law_of_next_id.Goals as goal

pub returns : goal.returns
returns c f log g frame fits e =
    let n = given-ids f (base_of f) g log.lines frame e in
    let b = fits in
    omega arith
