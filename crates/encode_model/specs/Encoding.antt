-- The encoding of a specification: its families of constraints, in their order.
use Rattle.std.specs.Prelude.{ℕ, ◌+◌, ◌-◌, Bool, true, false, ◌&&◌, ◌==◌, List, [], ◌∷◌, ◌++◌, length, map, nat_lt, if◌then◌else◌}
use Rattle.std.specs.List.{flat_map, list_any}
use Rattle.pb_rules.specs.declared.Term.{Term}
use Rattle.pb_rules.specs.Linear.{Linear}
use Rattle.spec_model.specs.Spec.{SpecValue, Bits, below, those, message_at, arc_at, option_at, arc_var, resource_var, link_var, design_variables, step_var, covered_var}
use Rattle.spec_model.specs.Rules.{of_task_on, options_of, arcs_into, arcs_from, arcs_of, leaves, sender_of}

-- a variable with its weight, which counts where the variable is true, or where it is false
unfoldable pub weighted : (ℕ → ℕ) → Bool → ℕ → Term
weighted weight sign v = record { coef = weight v; lit = record { var = v; yes = sign } }

unfoldable pub has_weight : (ℕ → ℕ) → ℕ → Bool
has_weight weight v = nat_lt 0 (weight v)

-- the literal that is true where the variable is, with coefficient 1
abbrev pub positive : ℕ → Term
positive v = record { coef = 1; lit = record { var = v; yes = true } }

-- the literal that is true where the variable is false, with coefficient 1
abbrev pub negative : ℕ → Term
negative v = record { coef = 1; lit = record { var = v; yes = false } }

abbrev pub positives : List ℕ → List Term
positives vs = map positive vs

abbrev pub negatives : List ℕ → List Term
negatives vs = map negative vs

-- a term put in front of the first one of a greater variable
abbrev pub put : Term → List Term → List Term
put t [] = t ∷ []
put t (u ∷ us) = if nat_lt t.lit.var u.lit.var then t ∷ (u ∷ us) else u ∷ put t us

-- terms by rising variable
abbrev pub by_variable : List Term → List Term
by_variable [] = []
by_variable (t ∷ ts) = put t (by_variable ts)

-- the coefficients of the true terms sum to at least n: the normal form, where no two have one variable
unfoldable pub at_least : ℕ → List Term → Linear
at_least n ts = record { terms = by_variable ts; degree = n }

-- the option of a task on a resource, if there is one
abbrev pub option_on : SpecValue → ℕ → ℕ → List ℕ
option_on s t r = those (of_task_on s t r) (length s.options)

unfoldable pub on_resource : SpecValue → ℕ → ℕ → Bool
on_resource s r o = (option_at s o).resource == r

abbrev pub options_on : SpecValue → ℕ → List ℕ
options_on s r = those (on_resource s r) (length s.options)

abbrev pub is_number : ℕ → ℕ → Bool
is_number t w = w == t

-- an option of one of the message's receivers, on a resource
unfoldable pub for_receiver : SpecValue → ℕ → ℕ → ℕ → Bool
for_receiver s m r o = list_any (is_number (option_at s o).task) (message_at s m).receivers && ((option_at s o).resource == r)

abbrev pub receiver_options : SpecValue → ℕ → ℕ → List ℕ
receiver_options s m r = those (for_receiver s m r) (length s.options)

-- the variables of a message's arcs
abbrev pub arc_vars : SpecValue → ℕ → List ℕ → List ℕ
arc_vars s m arcs = map (arc_var s m) arcs

unfoldable pub step_after : SpecValue → ℕ → ℕ → ℕ → ℕ → ℕ
step_after s m r from t = step_var s m r (from + t)

-- the step variables of a resource, from one step up to the hop limit
abbrev pub steps_from : SpecValue → ℕ → ℕ → ℕ → List ℕ
steps_from s m r from = map (step_after s m r from) (below ((message_at s m).limit + 1 - from))

-- one option a task
abbrev pub one_option : SpecValue → ℕ → List Linear
one_option s t =
    at_least 1 (positives (options_of s t)) ∷ (at_least (length (options_of s t) - 1) (negatives (options_of s t)) ∷ [])

-- the sender's start: a resource is reached at step 0 exactly where the sender is on it
abbrev pub sender_start : SpecValue → ℕ → ℕ → List Linear
sender_start s m r =
    let p = option_on s (sender_of s m) r in
    let start = step_var s m r 0 in
    at_least (length p) (negatives p ++ positive start ∷ []) ∷ (at_least 1 (positives p ++ negative start ∷ []) ∷ [])

unfoldable pub option_covers : SpecValue → ℕ → ℕ → Linear
option_covers s m o = at_least 1 (negative o ∷ (positive (covered_var s m (option_at s o).resource) ∷ []))

-- receivers covered: the resource of a receiver is covered
abbrev pub receiver_covered : SpecValue → ℕ → ℕ → List Linear
receiver_covered s m w = map (option_covers s m) (options_of s w)

-- covered once: a covered resource is reached at one step, and another one at none
abbrev pub covered_once : SpecValue → ℕ → ℕ → List Linear
covered_once s m r =
    at_least ((message_at s m).limit + 1) (negatives (steps_from s m r 0) ++ positive (covered_var s m r) ∷ [])
    ∷ (at_least 1 (positives (steps_from s m r 0) ++ negative (covered_var s m r) ∷ []) ∷ [])

-- one arc in: as many used arcs go into a resource as it is reached at later steps
abbrev pub one_arc_in : SpecValue → ℕ → ℕ → List Linear
one_arc_in s m r =
    at_least (message_at s m).limit (positives (arc_vars s m (arcs_into s r)) ++ negatives (steps_from s m r 1))
    ∷ (at_least (length (arcs_into s r)) (negatives (arc_vars s m (arcs_into s r)) ++ positives (steps_from s m r 1)) ∷ [])

unfoldable pub carries : SpecValue → ℕ → ℕ → ℕ → Linear
carries s m a t =
    at_least 1 (negative (arc_var s m a) ∷ (negative (step_var s m (arc_at s a).tail t) ∷ (positive (step_var s m (arc_at s a).head (t + 1)) ∷ [])))

-- arcs carry steps: a used arc carries each step of its tail to the next one of its head; its tail is covered, and not
-- at the last step
abbrev pub arc_carries : SpecValue → ℕ → ℕ → List Linear
arc_carries s m a =
    map (carries s m a) (below (message_at s m).limit)
    ++ at_least 1 (negative (arc_var s m a) ∷ (positive (covered_var s m (arc_at s a).tail) ∷ []))
    ∷ (at_least 1 (negative (arc_var s m a) ∷ (negative (step_var s m (arc_at s a).tail (message_at s m).limit) ∷ [])) ∷ [])

-- an arc leads from one resource to another
unfoldable pub leads_to : SpecValue → ℕ → ℕ → Bool
leads_to s q p = list_any (leaves s p) (arcs_into s q)

-- the resources with an arc to a resource, each once
abbrev pub neighbours : SpecValue → ℕ → List ℕ
neighbours s q = those (leads_to s q) (length s.resources)

unfoldable pub step_at : SpecValue → ℕ → ℕ → ℕ → ℕ
step_at s m t p = step_var s m p t

unfoldable pub has_cause : SpecValue → ℕ → ℕ → ℕ → Linear
has_cause s m q t = at_least 1 (negative (step_var s m q (t + 1)) ∷ positives (map (step_at s m t) (neighbours s q)))

-- steps have a cause: a resource is reached at a later step only where a neighbour is reached one step earlier
abbrev pub steps_have_cause : SpecValue → ℕ → ℕ → List Linear
steps_have_cause s m q = map (has_cause s m q) (below (message_at s m).limit)

-- no dangling branch: a covered resource is the start, or holds a receiver, or a used arc leaves it
abbrev pub no_dangling : SpecValue → ℕ → ℕ → List Linear
no_dangling s m r =
    at_least 1 (positives (receiver_options s m r) ++ positives (arc_vars s m (arcs_from s r)) ++ positive (step_var s m r 0) ∷ (negative (covered_var s m r) ∷ []))
    ∷ []

abbrev pub resources_of : SpecValue → List ℕ
resources_of s = below (length s.resources)

abbrev pub messages_of : SpecValue → List ℕ
messages_of s = below (length s.messages)

-- the families of a message from covered once to no dangling branch
abbrev pub routes_of : SpecValue → ℕ → List Linear
routes_of s m =
    flat_map (covered_once s m) (resources_of s)
    ++ flat_map (one_arc_in s m) (resources_of s)
    ++ flat_map (arc_carries s m) (below (length s.arcs))
    ++ flat_map (steps_have_cause s m) (resources_of s)
    ++ flat_map (no_dangling s m) (resources_of s)

abbrev pub receivers_covered : SpecValue → ℕ → List Linear
receivers_covered s m = flat_map (receiver_covered s m) (message_at s m).receivers

-- the families of a message, in order
abbrev pub message_part : SpecValue → ℕ → List Linear
message_part s m = flat_map (sender_start s m) (resources_of s) ++ receivers_covered s m ++ routes_of s m

-- the same without receivers covered
abbrev pub route_part : SpecValue → ℕ → List Linear
route_part s m = flat_map (sender_start s m) (resources_of s) ++ routes_of s m

-- Allocation: what is used is allocated, and what is allocated is used.
unfoldable pub option_allocates : SpecValue → ℕ → Linear
option_allocates s o = at_least 1 (negative o ∷ (positive (resource_var s (option_at s o).resource) ∷ []))

unfoldable pub cover_allocates : SpecValue → ℕ → ℕ → Linear
cover_allocates s m r = at_least 1 (positive (resource_var s r) ∷ (negative (covered_var s m r) ∷ []))

abbrev pub covers_allocate : SpecValue → ℕ → List Linear
covers_allocate s m = map (cover_allocates s m) (resources_of s)

unfoldable pub cover_of : SpecValue → ℕ → ℕ → ℕ
cover_of s r m = covered_var s m r

unfoldable pub resource_has_use : SpecValue → ℕ → Linear
resource_has_use s r =
    at_least 1 (positives (options_on s r) ++ negative (resource_var s r) ∷ positives (map (cover_of s r) (messages_of s)))

unfoldable pub arc_allocates : SpecValue → ℕ → ℕ → Linear
arc_allocates s m a = at_least 1 (negative (arc_var s m a) ∷ (positive (link_var s (arc_at s a).link) ∷ []))

abbrev pub arcs_allocate : SpecValue → ℕ → List Linear
arcs_allocate s m = map (arc_allocates s m) (below (length s.arcs))

-- the variables of the arcs of a link, for a message
unfoldable pub link_arcs : SpecValue → ℕ → ℕ → List ℕ
link_arcs s l m = arc_vars s m (arcs_of s l)

unfoldable pub link_has_use : SpecValue → ℕ → Linear
link_has_use s l = at_least 1 (positives (flat_map (link_arcs s l) (messages_of s)) ++ negative (link_var s l) ∷ [])

abbrev pub allocation : SpecValue → List Linear
allocation s =
    map (option_allocates s) (below (length s.options))
    ++ flat_map (covers_allocate s) (messages_of s)
    ++ map (resource_has_use s) (resources_of s)
    ++ flat_map (arcs_allocate s) (messages_of s)
    ++ map (link_has_use s) (below (length s.links))

abbrev pub options_chosen : SpecValue → List Linear
options_chosen s = flat_map (one_option s) (below (length s.tasks))

-- the encoding of a specification
unfoldable pub encoding : SpecValue → List Linear
encoding s = options_chosen s ++ flat_map (message_part s) (messages_of s) ++ allocation s

-- the encoding without the family receivers covered
unfoldable pub route_encoding : SpecValue → List Linear
route_encoding s = options_chosen s ++ flat_map (route_part s) (messages_of s) ++ allocation s

-- the view of an assignment: its design variables, and false at all others
abbrev pub view : SpecValue → Bits → Bits
view s f v = if nat_lt v (design_variables s) then f v else false
