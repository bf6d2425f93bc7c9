use Rattle.std.proofs.Common.{sym, ◌∙◌}
use Rattle.spelled_lines.specs.Lines.{is_empty}
use Rattle.spelled_lines.proofs.Saying.{any_said}
use Rattle.spelled_lines.proofs.pieces.has_empty.Goals as goal

pub returns : goal.returns
returns c = c.any_empty.ensures ∙ sym (any_said is_empty c.args.words.now)
