use Rattle.constraint_store.proofs.Parts.{behind_copied}
use Rattle.constraint_store.proofs.spans.move_down.Goals as goal

pub returns-clause-behind : goal.returns-clause-behind
returns-clause-behind c =
    behind_copied c.args.terms.now.items c.copy_within.new.self.items c.args.span.start c.args.to c.args.span.count c.requires.before c.requires.within c.copy_within.ensures.items
