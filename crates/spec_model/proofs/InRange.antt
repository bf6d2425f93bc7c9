-- What holds of each item of a well-formed specification.
use Rattle.std.proofs.Common.{ℕ, ◌<◌, ◌≤◌, length}
use Rattle.spec_model.specs.Spec.{SpecValue, arc_at, option_at, message_at}
use Rattle.spec_model.specs.WellFormed.{IsWellFormed, IsArcIn, IsOptionIn, IsMessageIn, most_hops}

-- the ends of an arc are there
pub arc_in : (s : SpecValue) (a : ℕ) → IsWellFormed s → a < length s.arcs → IsArcIn s (arc_at s a)
arc_in s a w h = w.plan.arcs_in a _ h

-- the task and the resource of an option are there
pub option_in : (s : SpecValue) (o : ℕ) → IsWellFormed s → o < length s.options → IsOptionIn s (option_at s o)
option_in s o w h = w.plan.options_in o _ h

-- the tasks of a message are there
pub message_in : (s : SpecValue) (m : ℕ) → IsWellFormed s → m < length s.messages → IsMessageIn s (message_at s m)
message_in s m w h = w.plan.messages_in m _ h

-- a hop limit is at most the greatest one
pub limit_in : (s : SpecValue) (m : ℕ) → IsWellFormed s → m < length s.messages → (message_at s m).limit ≤ most_hops s
limit_in s m w h = w.limits m _ h
