use Rattle.std.proofs.Common.{ℕ, List, Option, None, drop, lit<, Bor}
use Rattle.std.proofs.lemmas.Str.Pattern.{strip_prefix_char}
use Rattle.tgff_reader.proofs.Marked.{at_and_rest}
use Rattle.tgff_reader.proofs.words.after_at.Goals as goal

pub returns-in-None : goal.returns-in-None
returns-in-None c =
    let none : Option (Bor (List ℕ)) = None in
    absurd (strip_prefix_char 64 c.args.word.now none c.in-None.ensures.cases (lit< tt) (drop 1 c.args.word.now) (at_and_rest c.args.word.now c.requires))
