use Rattle.std.proofs.Common.{◌≡◌, ◌-◌, ◌++◌, length, take}
use Rattle.genotype.specs.Draws.{random_genes, after_words}
use Rattle.genotype.proofs.draws.fill_random.Given as goal

abbrev pub invariant-loop-v : goal.invariant-loop-v
invariant-loop-v g l = record {
  long : length l.drawn ≡ l.n;
  genes : take l.v l.drawn ++ random_genes g.W.Words.gives g.W.Words.after (l.n - l.v) l.words ≡ random_genes g.W.Words.gives g.W.Words.after (l.n) l.fn.words;
  after : after_words g.W.Words.after (l.n - l.v) l.words ≡ after_words g.W.Words.after (l.n) l.fn.words;
}
