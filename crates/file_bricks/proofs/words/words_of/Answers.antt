use Rattle.std.proofs.Common.{refl}
use Rattle.line_words.specs.Text.{words_in}
use Rattle.line_words.specs.Rules.{texts}
use Rattle.line_words.specs.Word.{piece}
use Rattle.line_words.proofs.Collected.{collected_more, collected_all}
use Rattle.file_bricks.proofs.Said.{words_plain}
use Rattle.file_bricks.proofs.words.words_of.Goals as goal

pub each-preserved : goal.each-preserved
each-preserved c =
    rw c.in_ok-push.ensures.items (collected_more c.each.found.items c.in-Some.word.text c.each.words c.next.new.self (piece c.in-Some.word) (texts (words_in c.args.line.now.content))
    c.each.invariant c.in-Some.ensures.steps refl)

pub returns-clause-words : goal.returns-clause-words
returns-clause-words c = collected_all c.each.found.items c.each.words (texts (words_in c.args.line.now.content)) c.each.invariant c.in_default.ensures.steps.0

pub returns-clause-plain : goal.returns-clause-plain
returns-clause-plain c = words_plain c.args.line.now.content 0 (words_in c.args.line.now.content) c.words-words.ensures.spans c.words-words.ensures.plain

pub returns-in_err-push-clause-plain : goal.returns-in_err-push-clause-plain
returns-in_err-push-clause-plain c = words_plain c.args.line.now.content 0 (words_in c.args.line.now.content) c.words-words.ensures.spans c.words-words.ensures.plain
