use Rattle.std.proofs.Common.{◌≡◌, ◌∷◌, take, map}
use Rattle.std.specs.Prelude.{codes}
use Rattle.std.specs.List.{join_with_byte}
use Rattle.proof_words.specs.Words.{op_text}
use Rattle.proof_words.proofs.printing.derivation_of.Given as goal

abbrev pub invariant-loop-op : goal.invariant-loop-op
invariant-loop-op l = l.text.items ≡ join_with_byte 32 (codes "p" ∷ map op_text (take l.op-index l.ops))
