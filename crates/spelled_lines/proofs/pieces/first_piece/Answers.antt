use Rattle.std.proofs.Common.{◌∙◌, arith}
use Rattle.std.proofs.lemmas.List.{take_all, drop_all}
use Rattle.spelled_lines.proofs.FirstPiece.{pieces_first, pieces_last}
use Rattle.spelled_lines.proofs.pieces.first_piece.Goals as goal

pub returns-then-len-bytes-clause-pieces : goal.returns-then-len-bytes-clause-pieces
returns-then-len-bytes-clause-pieces c =
    let bytes = c.args.bytes.now in
    let s = c.split_at.ensures in
    rw (s.front, s.back, c.len_before_lf-len.ensures.value) (pieces_first bytes (omega (arith, c.if-len-bytes.true, c.len_before_lf-len.ensures.value)))

pub returns-else-len-bytes-clause-pieces : goal.returns-else-len-bytes-clause-pieces
returns-else-len-bytes-clause-pieces c =
    let bytes = c.args.bytes.now in
    let s = c.split_at-else-len-bytes.ensures in
    let front = s.front ∙ take_all c.len_before_lf-len.result bytes (omega arith) in
    let back = s.back ∙ drop_all c.len_before_lf-len.result bytes (omega arith) in
    rw (front, back) (pieces_last bytes c.requires (omega (arith, c.if-len-bytes.false, c.len_before_lf-len.ensures.value)))
