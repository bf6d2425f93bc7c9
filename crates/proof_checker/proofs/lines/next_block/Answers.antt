use Rattle.std.proofs.Common.{sym, subst, List, ℕ}
use Rattle.encode_model.specs.Block.{IsWithinWeights}
use Rattle.line_words.specs.Rules.{said}
use Rattle.result_text.specs.Fronts.{front_of}
use Rattle.front_model.specs.Fronts.{vectors_of}
use Rattle.front_model.proofs.Lines.{cover_may}
use Rattle.proof_checker.proofs.lines.next_block.Goals as goal

pub block-requires-clause-within : goal.block-requires-clause-within
block-requires-clause-within c =
    let s = c.args.spec.now in
    let m = cover_may s (vectors_of (front_of c.args.front.now)) c.in_ok-cover.cover.items (said c.args.words.now) c.in_ok-cover.ensures in
    subst (λ (v : List ℕ). IsWithinWeights s v) (sym c.deref.ensures.value) m.within
