use Rattle.std.proofs.Common.{sym, ◌∙◌}
use Rattle.result_text.specs.Stating.{no_number}
use Rattle.spelled_lines.proofs.Saying.{any_said}
use Rattle.result_text.proofs.vectors.has_no_number.Goals as goal

pub returns : goal.returns
returns c = c.any_no_number.ensures ∙ sym (any_said no_number c.args.words.now)
