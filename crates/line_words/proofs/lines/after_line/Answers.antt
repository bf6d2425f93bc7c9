use Rattle.std.proofs.Common.{◌≡◌, ◌+◌, ℕ, List, drop, length, ap, sym, ◌∙◌, arith, ◌∷◌}
use Rattle.std.proofs.lemmas.List.{take_rest, drop_all}
use Rattle.line_words.specs.Front.{line_of}
use Rattle.line_words.specs.Text.{lines}
use Rattle.line_words.proofs.FirstLine.{lines_first}
use Rattle.line_words.proofs.lines.after_line.Goals as goal

pub returns-then-len-bytes-clause-lines : goal.returns-then-len-bytes-clause-lines
returns-then-len-bytes-clause-lines c = rw (take_rest, c.requires.len) (lines_first c.args.bytes.now c.requires.some)

pub returns-else-len-bytes-clause-lines : goal.returns-else-len-bytes-clause-lines
returns-else-len-bytes-clause-lines c =
    let bytes = c.args.bytes.now in
    let e : drop (c.args.len + 1) bytes ≡ drop (length bytes) bytes = drop_all (c.args.len + 1) bytes (omega (arith, c.if-len-bytes.false)) ∙ sym (drop_all (length bytes) bytes (omega arith)) in
    rw take_rest (lines_first bytes c.requires.some ∙ ap (λ (k : ℕ). line_of bytes ∷ lines (drop (k + 1) bytes)) (sym c.requires.len) ∙ ap (λ (r : List ℕ). line_of bytes ∷ lines r) e)
