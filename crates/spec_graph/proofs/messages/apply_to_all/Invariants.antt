use Rattle.std.proofs.Common.{◌≡◌, ◌++◌, map, take, drop}
use Rattle.spec_graph.specs.Changes.{changed}
use Rattle.spec_graph.proofs.messages.apply_to_all.Given as goal

abbrev pub invariant-loop-message : goal.invariant-loop-message
invariant-loop-message l = l.messages ≡ map (changed l.change) (take l.message-index l.initial.messages) ++ drop l.message-index l.initial.messages
