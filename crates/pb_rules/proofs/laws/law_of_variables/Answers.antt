use Rattle.std.proofs.Common.{◌∙◌, sym}
use Rattle.pb_rules.specs.Frames.{base_of, blocks_by, context_of}
use Rattle.pb_rules.proofs.Given.{given_knows}
use Rattle.pb_rules.proofs.Known.{line_known, mentions-append, derived-knows, given_variables}
use Rattle.pb_rules.proofs.laws.law_of_variables.Goals as goal

pub returns-clause-live : goal.returns-clause-live
returns-clause-live c = given_knows

pub returns-clause-known : goal.returns-clause-known
returns-clause-known c = line_known

pub returns-clause-kept : goal.returns-clause-kept
returns-clause-kept c g ops d e = derived-knows g d (line_known (context_of g) ops d (given_knows g) e)

pub returns-clause-of_covers : goal.returns-clause-of_covers
returns-clause-of_covers c f g ls e x = given_variables f (base_of f) g ls e x ∙ sym (mentions-append f.base (blocks_by f ls) x)
