use Rattle.std.proofs.Common.{◌≡◌, true, subst}
use Rattle.std.specs.List.{list_all}
use Rattle.line_words.specs.Text.{is_content_byte}
use Rattle.line_words.specs.Left.{Numbered}
use Rattle.line_words.proofs.Spans.{words_in_spans, words_from_plain}
use Rattle.line_words.proofs.lines.Line.words.Goals as goal

pub returns-clause-spans : goal.returns-clause-spans
returns-clause-spans c = words_in_spans c.args.self.now.content

pub returns-clause-plain : goal.returns-clause-plain
returns-clause-plain c =
    words_from_plain c.args.self.now.content 0 (subst (λ (line : Numbered). list_all is_content_byte line.content ≡ true) c.self.view_is c.self.invariant.1)
