use Rattle.std.proofs.Common.{take}
use Rattle.std.specs.Prelude.{map}
use Rattle.encode_model.specs.Encoding.{option_covers}
use Rattle.route_encode.specs.Adding.{Adds}
use Rattle.route_encode.proofs.families.add_receiver_covered.Given as goal

abbrev pub invariant-loop-o : goal.invariant-loop-o
invariant-loop-o l = Adds l.initial.out l.out (map (option_covers l.index l.m) (take l.o-index l.options))
