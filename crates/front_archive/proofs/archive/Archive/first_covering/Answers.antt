use Rattle.std.proofs.Common.{◌≡◌, ◌∙◌, ℕ, List, ap, sym, subst, length, MatchOption}
use Rattle.std.specs.List.{position}
use Rattle.dominance_lanes.specs.Columns.{NoneBelow, IsFirstBelow}
use Rattle.front_archive.specs.Members.{covers, ArchiveValue}
use Rattle.front_archive.proofs.Marked.{first_place}
use Rattle.front_archive.proofs.archive.Archive.first_covering.Goals as goal

pub first_below-requires : goal.first_below-requires
first_below-requires c = ap length c.numbers.ensures ∙ c.requires ∙ sym (ap (λ (a : ArchiveValue). a.width) c.self.view_is)

pub returns : goal.returns
returns c =
    let columns = c.self.inside.columns in
    let width : length c.args.m.now.vector ≡ columns.width = c.requires ∙ sym (ap (λ (a : ArchiveValue). a.width) c.self.view_is) in
    let found = subst (λ (v : List ℕ). MatchOption c.first_below.result (NoneBelow columns.vectors v (length columns.vectors)) (IsFirstBelow columns.vectors v)) c.numbers.ensures
    c.first_below.ensures in
    first_place c.args.m.now columns.width width columns.vectors c.self.inside.members.items c.first_below.result c.self.invariant.same c.self.invariant.widths found
    ∙ ap (λ (a : ArchiveValue). position (λ x. covers x c.args.m.now) a.members) c.self.view_is
