use Rattle.std.proofs.Common.{◌++◌, ℕ, List, ap, ◌∙◌}
use Rattle.spec_model.specs.Spec.{bits_of}
use Rattle.spec_model.specs.Vectors.{vector_of}
use Rattle.evo_explore.proofs.run.measured_vector.Goals as goal

pub returns-clause-measured : goal.returns-clause-measured
returns-clause-measured g c = c.in_ok-vector.ensures ∙ ap (λ (xs : List ℕ). vector_of c.args.spec.now (bits_of c.args.design.now) ++ xs) (c.deref.ensures.value ∙ c.in_ok-measured.ensures.measured)

pub returns-clause-values : goal.returns-clause-values
returns-clause-values g c = c.measure_chosen.ensures.values

pub returns-in_err-vector-clause-values : goal.returns-in_err-vector-clause-values
returns-in_err-vector-clause-values g c = c.measure_chosen.ensures.values

pub returns-in_err-measured-clause-values : goal.returns-in_err-measured-clause-values
returns-in_err-measured-clause-values g c = c.measure_chosen.ensures.values

pub returns-clause-at_most : goal.returns-clause-at_most
returns-clause-at_most g c = c.measure_chosen.ensures.at_most

pub returns-in_err-vector-clause-at_most : goal.returns-in_err-vector-clause-at_most
returns-in_err-vector-clause-at_most g c = c.measure_chosen.ensures.at_most

pub returns-in_err-measured-clause-at_most : goal.returns-in_err-measured-clause-at_most
returns-in_err-measured-clause-at_most g c = c.measure_chosen.ensures.at_most

pub returns-clause-counted : goal.returns-clause-counted
returns-clause-counted g c = c.in_ok-measured.ensures.counted

pub returns-clause-tags : goal.returns-clause-tags
returns-clause-tags g c = c.measure_chosen.ensures.tags

pub measure_chosen-requires-clause-room : goal.measure_chosen-requires-clause-room
measure_chosen-requires-clause-room g c = c.requires.room
