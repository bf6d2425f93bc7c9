-- Members, and which covers which.
use Rattle.std.specs.Prelude.{◌≡◌, ℕ, List, Bool, All, length, map}
use Rattle.dominance_lanes.specs.Columns.{Vectors}
use Rattle.front_archive.specs.AtMost.{at_most}
use Rattle.front_archive.specs.declared.member.Member.{Member}

-- the vector of the first is at most that of the second
abbrev pub covers : Member → Member → Bool
covers a b = at_most a.vector b.vector

-- a member with a vector of so many numbers
abbrev pub HasWidth : ℕ → Member → Type 0
HasWidth width m = length m.vector ≡ width

-- an archive: its members in the order in which they entered, and how many numbers a vector has
pub record ArchiveValue : Type 0 where
  pub width : ℕ
  pub members : List Member

abbrev pub vectors_of : List Member → List (List ℕ)
vectors_of members = map (λ m. m.vector) members

-- columns keep the vectors of members, in their order
pub record AreColumnsOf (members : List Member) (columns : Vectors) : Type 0 where
  pub same : columns.vectors ≡ vectors_of members
  pub widths : All (HasWidth columns.width) members
