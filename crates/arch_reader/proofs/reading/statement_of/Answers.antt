use Rattle.std.proofs.Common.{Option, sym, ap, ◌∙◌}
use Rattle.line_words.specs.Rules.{first_broken}
use Rattle.arch_reader.specs.Tests.{tests}
use Rattle.arch_reader.specs.declared.form.Form.{Form}
use Rattle.arch_reader.proofs.Testing.{no_form}
use Rattle.arch_reader.proofs.reading.statement_of.Goals as goal

pub returns-in-None-clause-stops : goal.returns-in-None-clause-stops
returns-in-None-clause-stops c = ap (λ (f : Option Form). first_broken (tests c.args.seen.now f)) (sym c.in_ok-form_of.ensures ∙ c.in-None.is) ∙ no_form c.args.seen.now
