use Rattle.std.proofs.Common.{subst}
use Rattle.std.specs.List.{All}
use Rattle.front_archive.specs.Members.{ArchiveValue, HasWidth}
use Rattle.front_archive.proofs.archive.Archive.members.Goals as goal

pub returns-clause-widths : goal.returns-clause-widths
returns-clause-widths c = subst (λ (a : ArchiveValue). All (HasWidth a.width) a.members) c.self.view_is c.self.invariant.widths
