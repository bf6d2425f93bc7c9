-- What is answered to an offer.
use Rattle.std.specs.Prelude.{◌≡◌, List, position, Some, None}
use Rattle.front_archive.specs.Members.{covers}
use Rattle.front_archive.specs.declared.member.Member.{Member}
use Rattle.front_archive.specs.declared.archive.Offer.{Offer}
use Rattle.front_archive.specs.declared.archive.Offer.TheVariants.{Entered, Covered}

-- the lowest place of a member that covers the offered one, or that there is none
abbrev pub Answers : List Member → Member → Offer → Type 0
Answers members m Entered = position (λ x. covers x m) members ≡ None
Answers members m (Covered p) = position (λ x. covers x m) members ≡ Some p
