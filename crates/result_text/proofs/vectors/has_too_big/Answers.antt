use Rattle.std.proofs.Common.{sym, ◌∙◌}
use Rattle.result_text.specs.Stating.{too_big}
use Rattle.spelled_lines.proofs.Saying.{any_said}
use Rattle.result_text.proofs.vectors.has_too_big.Goals as goal

pub returns : goal.returns
returns c = c.any_too_big.ensures ∙ sym (any_said too_big c.args.words.now)
