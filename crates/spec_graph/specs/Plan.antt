-- What a builder's calls make of a plan, and the specification that a plan becomes.
use Rattle.std.specs.Prelude.{ℕ, min, Bool, if◌then◌else◌, List, [], ◌∷◌, ◌++◌, length, map}
use Rattle.spec_model.specs.Spec.{Name, SpecValue, Message, Arc}
use Rattle.spec_model.specs.WellFormed.{most_hops}

-- the arcs of a link: from its first to its second resource, and where it is two-way the arc back
abbrev pub arcs_of_link : ℕ → ℕ → ℕ → Bool → List Arc
arcs_of_link link a b two_way = record { link = link; tail = a; head = b } ∷ (if two_way then record { link = link; tail = b; head = a } ∷ [] else [])

-- a plan with a link more
abbrev pub with_link : SpecValue → Name → ℕ → ℕ → Bool → List ℕ → List ℕ → SpecValue
with_link s name a b two_way weights traffic = record s {
  links = s.links ++ name ∷ [];
  arcs = s.arcs ++ arcs_of_link (length s.links) a b two_way;
  link_weights = s.link_weights ++ weights ∷ [];
  traffic_weights = s.traffic_weights ++ traffic ∷ [];
}

-- a plan with a message more
abbrev pub with_message : SpecValue → Name → Message → SpecValue
with_message s name m = record s { message_names = s.message_names ++ name ∷ []; messages = s.messages ++ m ∷ [] }

-- a message with its kept hop limit: the stated one, or the greatest that makes a difference
abbrev pub with_limit_at_most : ℕ → Message → Message
with_limit_at_most most m = record m { limit = min m.limit most }

-- the specification that a plan becomes
abbrev pub finished : SpecValue → SpecValue
finished s = record s { messages = map (with_limit_at_most (most_hops s)) s.messages }
