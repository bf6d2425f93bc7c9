-- The model of a routed design, as a list of bits.
use Rattle.std.specs.Prelude.{ℕ, ◌+◌, Bool, List, ◌++◌, length, map}
use Rattle.std.specs.List.{flat_map}
use Rattle.spec_model.specs.Spec.{SpecValue, Bits, below, message_at, design_variables}
use Rattle.spec_model.specs.Walks.{walk_test, some_passes}

unfoldable pub step_bit : SpecValue → Bits → ℕ → ℕ → ℕ → Bool
step_bit s f m r t = walk_test s f m t r

unfoldable pub cover_bit : SpecValue → Bits → ℕ → ℕ → Bool
cover_bit s f m r = some_passes (step_bit s f m r) ((message_at s m).limit + 1)

abbrev pub step_row : SpecValue → Bits → ℕ → ℕ → List Bool
step_row s f m r = map (step_bit s f m r) (below ((message_at s m).limit + 1))

abbrev pub message_bits : SpecValue → Bits → ℕ → List Bool
message_bits s f m = flat_map (step_row s f m) (below (length s.resources)) ++ map (cover_bit s f m) (below (length s.resources))

abbrev pub model_list : SpecValue → Bits → List Bool
model_list s f = map f (below (design_variables s)) ++ flat_map (message_bits s f) (below (length s.messages))
