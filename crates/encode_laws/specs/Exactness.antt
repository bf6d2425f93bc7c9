-- What the models of an encoding are.
use Rattle.std.specs.Prelude.{◌≡◌, ℕ, ◌<◌, List, length, Contains, ◌↔◌}
use Rattle.pb_rules.specs.Linear.{Linear, IsModel}
use Rattle.spec_model.specs.Spec.{SpecValue, Bits, all_variables, message_at}
use Rattle.spec_model.specs.Rules.{IsRouted, IsValid, IsUnreached}
use Rattle.spec_model.specs.Genotypes.{IsSameDesign}
use Rattle.spec_model.specs.WellFormed.{IsWellFormed}
use Rattle.encode_model.specs.Encoding.{encoding, route_encoding, receiver_covered, view}

-- a model of constraints whose view is the design, and no other is one
pub record IsOnlyModel (s : SpecValue) (cs : List Linear) (design model : Bits) : Type 0 where
  pub holds : IsModel cs model
  pub same : IsSameDesign s model design
  pub only : (other : Bits) → IsModel cs other → IsSameDesign s other design → (v : ℕ) → v < all_variables s → other v ≡ model v

-- exactly one model of constraints has the design as its view
pub record HasOneModel (s : SpecValue) (cs : List Linear) (design : Bits) : Type 0 where
  pub model : Bits
  pub only : IsOnlyModel s cs design model

-- without the family receivers covered: the view of each model meets all rules but the one on receivers
abbrev pub ModelsAreRouted : Type 0
ModelsAreRouted = (s : SpecValue) (f : Bits) → IsWellFormed s → IsModel (route_encoding s) f → IsRouted s (view s f)

-- and each design that meets them is the view of exactly one model
abbrev pub RoutedAreModels : Type 0
RoutedAreModels = (s : SpecValue) (f : Bits) → IsWellFormed s → IsRouted s f → HasOneModel s (route_encoding s) f

-- under such a model the constraints of a receiver of a message hold exactly where a walk leads to it
abbrev pub CoveredAreReached : Type 0
CoveredAreReached =
    (s : SpecValue) (f : Bits) (m w : ℕ) → IsWellFormed s → IsModel (route_encoding s) f → m < length s.messages → Contains (message_at s m).receivers w
    → IsModel (receiver_covered s m w) f ↔ ¬ IsUnreached s (view s f) m w

-- the view of each model of the encoding is valid
abbrev pub ModelsAreValid : Type 0
ModelsAreValid = (s : SpecValue) (f : Bits) → IsWellFormed s → IsModel (encoding s) f → IsValid s (view s f)

-- each valid design is the view of exactly one model of the encoding
abbrev pub ValidAreModels : Type 0
ValidAreModels = (s : SpecValue) (f : Bits) → IsWellFormed s → IsValid s f → HasOneModel s (encoding s) f
