use Rattle.made_laws.proofs.Whole.{lines_break_none}
use Rattle.made_laws.proofs.law_of_made_lines.Goals as goal

pub returns : goal.returns
returns c = lines_break_none
