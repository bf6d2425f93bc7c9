-- The model of a design that was worked out by hand, and the way back.
use Rattle.std.specs.Prelude.{◌≡◌, map, refl}
use Rattle.spec_model.specs.Spec.{below}
use Rattle.spec_model.proofs.Rows.{hub}
use Rattle.encode_model.specs.Encoding.{view}
use Rattle.encode_model.proofs.Hub.{hub_model}
use Rattle.encode_laws.specs.ModelBits.{step_bit, cover_bit, model_list}

-- the model's bits, from those of its view alone
model_hub : model_list hub (view hub hub_model) ≡ map hub_model (below 36)
unfolding step_bit cover_bit
model_hub = refl
