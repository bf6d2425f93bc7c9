use Rattle.spelled_lines.proofs.FirstPiece.{IsUtf8-front}
use Rattle.spelled_lines.proofs.pieces.words_of.Goals as goal

pub unreachable-requires : goal.unreachable-requires
unreachable-requires c = c.in_default.ensures.cases.0 (rw c.body_of.ensures (IsUtf8-front c.args.piece.now _ c.requires))
