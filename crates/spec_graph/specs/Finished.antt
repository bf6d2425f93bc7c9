-- What a finished specification's fields keep.
use Rattle.std.specs.Prelude.{◌≡◌}
use Rattle.spec_model.specs.Spec.{all_variables}
use Rattle.spec_model.specs.WellFormed.{IsWellFormed, size}
use Rattle.spec_graph.specs.Held.{held_spec}
use Rattle.spec_graph.specs.declared.spec.Spec.TheInside.{Inside}

-- the specification is well formed, and the numbers that are kept of it are its own
pub record HoldsSpec (s : Inside) : Type 0 where
  pub well_formed : IsWellFormed (held_spec s.held)
  pub variables : s.variables ≡ all_variables (held_spec s.held)
  pub terms : s.terms ≡ size (held_spec s.held)
