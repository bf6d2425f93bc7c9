use Rattle.std.proofs.Common.{◌++◌, ◌∷◌, [], ℕ, List, ap, ◌∙◌}
use Rattle.evo_explore.proofs.run.keep.Goals as goal

pub offer-requires : goal.offer-requires
offer-requires c = c.requires

pub returns-clause-history : goal.returns-clause-history
returns-clause-history c = c.in_ok-add.ensures.ok ∙ ap (λ (v : List ℕ). c.args.found.now.history ++ v ∷ []) (c.in_ok-vector.ensures ∙ c.numbers.ensures)

pub returns-clause-members : goal.returns-clause-members
returns-clause-members c = c.in_ok-offer.ensures.members

pub returns-clause-best : goal.returns-clause-best
returns-clause-best c = c.in_ok-offer.ensures.best

pub returns-clause-width : goal.returns-clause-width
returns-clause-width c = c.in_ok-offer.ensures.width
