use Rattle.std.proofs.Common.{◌≡◌, ◌++◌}
use Rattle.std.specs.List.{flat_map}
use Rattle.spec_model.specs.Spec.{below, bits_of}
use Rattle.encode_laws.specs.ModelBits.{message_bits}
use Rattle.encode_views.proofs.models.add_messages.Given as goal

abbrev pub invariant-loop-m : goal.invariant-loop-m
invariant-loop-m l = l.model.items ≡ l.fn.model.items ++ flat_map (message_bits l.spec (bits_of l.design)) (below l.m)
