-- What the calls that change what stands make of a plan.
use Rattle.std.specs.Prelude.{ℕ, ◌≤◌, List, [], slice_index_or, slice_set}
use Rattle.spec_model.specs.Limits.{most_number}
use Rattle.spec_model.specs.Spec.{Message}
use Rattle.spec_graph.specs.Plan.{with_limit_at_most}
use Rattle.spec_graph.specs.Lists.{message_in}
use Rattle.spec_graph.specs.declared.messages.Change.{Change}
use Rattle.spec_graph.specs.declared.messages.Change.TheVariants.{Hops, AtMost, Delay, Quantity}

-- the message after a change
abbrev pub changed : Change → Message → Message
changed (Hops n) m = record m { limit = n }
changed (AtMost n) m = with_limit_at_most n m
changed (Delay n) m = record m { delay = n }
changed (Quantity n) m = record m { quantity = n }

-- a delay or a quantity that a change sets is at most 2^40
abbrev pub IsSmallChange : Change → Type 0
IsSmallChange (Hops _) = Unit {0}
IsSmallChange (AtMost _) = Unit {0}
IsSmallChange (Delay n) = n ≤ most_number
IsSmallChange (Quantity n) = n ≤ most_number

-- the messages, of which message m is changed
abbrev pub with_changed : List Message → ℕ → Change → List Message
with_changed ms m change = slice_set ms m (changed change (message_in ms m))

-- the rows of weights, of which row i has this weight for objective j
abbrev pub with_weight : List (List ℕ) → ℕ → ℕ → ℕ → List (List ℕ)
with_weight rows i j weight = slice_set rows i (slice_set (slice_index_or rows i []) j weight)
