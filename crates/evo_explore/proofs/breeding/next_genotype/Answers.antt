use Rattle.evo_explore.proofs.Bred.{length_as, length-random}
use Rattle.evo_explore.proofs.breeding.next_genotype.Goals as goal

pub returns-then-is_empty-clause-len : goal.returns-then-is_empty-clause-len
returns-then-is_empty-clause-len g c = length_as c.random.result _ c.args.n (length-random g.W.Words.gives g.W.Words.after c.args.n c.args.words.now) c.random.ensures.drawn

pub returns-then-word-eq0-clause-len : goal.returns-then-word-eq0-clause-len
returns-then-word-eq0-clause-len g c = length_as c.random-then-word-eq0.result _ c.args.n (length-random g.W.Words.gives g.W.Words.after c.args.n _) c.random-then-word-eq0.ensures.drawn

pub returns-clause-len : goal.returns-clause-len
returns-clause-len g c = c.bred.ensures.len
