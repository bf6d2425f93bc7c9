use Rattle.std.proofs.Common.{◌≡◌, ◌∙◌, ◌+◌, ap, arith, length}
use Rattle.pb_rules.specs.Frames.{context_of, base_of, given_by}
use Rattle.pb_rules.proofs.Given.{given-push, given-ids, given_knows, derived_stands}
use Rattle.proof_log.specs.Log.{LogValue, next_id}
use Rattle.conflict_graph.proofs.law_of_frames.Goals as goal

pub returns-clause-legal : goal.returns-clause-legal
returns-clause-legal c live old new clause d f g e has =
    ap (λ (v : LogValue). given_by f v.lines) d.one_more ∙ given-push f (base_of f) g old.lines d.ops clause e (d.legal (context_of g) (given_knows g) has)

pub returns-clause-stands : goal.returns-clause-stands
returns-clause-stands c live old new clause f g d frame fits e small =
    let n = given-ids f (base_of f) g old.lines frame e in
    let b = fits in
    let i : next_id old ≡ length g.constraints + 1 = omega arith in
    derived_stands g clause (next_id old) small i
