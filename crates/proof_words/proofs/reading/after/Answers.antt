use Rattle.std.proofs.lemmas.Str.Pattern.{strip_prefix_char}
use Rattle.proof_words.proofs.Marks.{after_match}
use Rattle.proof_words.proofs.reading.after.Goals as goal

pub returns : goal.returns
returns c = after_match c.args.letter c.args.word.now c.strip_prefix.result (strip_prefix_char c.args.letter c.args.word.now c.strip_prefix.result c.strip_prefix.ensures.cases c.requires)
