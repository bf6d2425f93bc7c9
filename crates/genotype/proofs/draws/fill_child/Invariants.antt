use Rattle.std.proofs.Common.{◌≡◌, ◌++◌, length, take, drop}
use Rattle.genotype.specs.Draws.{child_genes, after_child}
use Rattle.genotype.proofs.draws.fill_child.Given as goal

abbrev pub invariant-loop-v : goal.invariant-loop-v
invariant-loop-v g l = record {
  long : length l.drawn ≡ length l.fn.drawn;
  genes : take l.v l.drawn ++ child_genes g.W.Words.gives g.W.Words.after l.n (drop l.v l.a) (drop l.v l.b) l.words ≡ child_genes g.W.Words.gives g.W.Words.after l.n l.a l.b l.fn.words;
  after : after_child g.W.Words.gives g.W.Words.after l.n (drop l.v l.a) l.words ≡ after_child g.W.Words.gives g.W.Words.after l.n l.a l.fn.words;
}
