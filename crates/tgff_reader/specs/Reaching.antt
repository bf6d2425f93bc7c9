-- Which tasks of a graph can be reached along its arcs.
use Rattle.std.specs.Prelude.{◌≡◌, ℕ, List, [], ◌∷◌, Bool, ◌||◌, ◌&&◌, ◌==◌, map}
use Rattle.spec_model.specs.Spec.{Message}
use Rattle.task_order.specs.Order.{comes_after}
use Rattle.tgff_reader.specs.declared.file.TgffArc.{TgffArc}

-- without arcs a task is reached from itself alone
abbrev pub is_itself : ℕ → ℕ → Bool
is_itself a b = b == a

-- one arc more: a task is reached by the arcs before, or along this arc
abbrev pub with_arc : (ℕ → ℕ → Bool) → TgffArc → ℕ → ℕ → Bool
with_arc reaches arc a b = reaches a b || (reaches a arc.from && reaches arc.to b)

-- what is reached by some arcs more
abbrev pub with_arcs : (ℕ → ℕ → Bool) → List TgffArc → ℕ → ℕ → Bool
with_arcs reaches [] = reaches
with_arcs reaches (arc ∷ arcs) = with_arcs (with_arc reaches arc) arcs

-- task b is reached from task a along the arcs, however many of them the way takes
abbrev pub reaches : List TgffArc → ℕ → ℕ → Bool
reaches arcs = with_arcs is_itself arcs

-- an arc as a message with one receiver
abbrev pub arc_message : TgffArc → Message
arc_message arc = record { sender = arc.from; receivers = arc.to ∷ []; limit = 0; delay = 0; quantity = 0 }

-- arcs as messages
abbrev pub messages_of : List TgffArc → List Message
messages_of arcs = map arc_message arcs

-- a table of followers tells what is reached
abbrev pub IsOrder : List (List Bool) → List TgffArc → Type 0
IsOrder rows arcs = (a b : ℕ) → ((b == a) || comes_after rows a b) ≡ reaches arcs a b
