use Rattle.front_archive.specs.Members.{covers}
use Rattle.front_archive.proofs.Bests.{found_any}
use Rattle.front_archive.proofs.Offering.{found_offered, best_offer, entered_members, entered_best}
use Rattle.front_archive.proofs.archive.Archive.offer.Goals as goal

pub returns-in-Some-clause-members : goal.returns-in-Some-clause-members
returns-in-Some-clause-members c = found_offered _ _ (found_any (λ x. covers x c.args.m) _ c.in-Some.p c.in-Some.ensures)

pub returns-in-Some-clause-best : goal.returns-in-Some-clause-best
returns-in-Some-clause-best c history e = best_offer history _ _ _ (returns-in-Some-clause-members c) e

pub returns-in-None-clause-members : goal.returns-in-None-clause-members
returns-in-None-clause-members c =
    entered_members c.enter.result c.args.self.now.members c.enter.new.self.members c.args.m c.in-None.ensures c.enter.ensures.members

pub returns-in-None-clause-best : goal.returns-in-None-clause-best
returns-in-None-clause-best c =
    entered_best c.enter.result c.args.self.now.members c.enter.new.self.members c.args.m (returns-in-None-clause-members c)
