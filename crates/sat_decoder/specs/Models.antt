-- The solver's answers, and the decoder's that stand for them.
use Rattle.std.specs.Prelude.{Bool, ◌≡◌, List, length, take}
use Rattle.pb_rules.specs.Linear.{IsModel}
use Rattle.spec_model.specs.Spec.{SpecValue, bits_of, design_variables, all_variables}
use Rattle.spec_model.specs.Rules.{IsValid}
use Rattle.encode_model.specs.Encoding.{encoding}
use Rattle.ordered_solver.specs.declared.answer.Answer.{Answer}
use Rattle.ordered_solver.specs.declared.answer.Answer.TheVariants as answers
use Rattle.sat_decoder.specs.declared.decoded.Decoded.{Decoded}
use Rattle.sat_decoder.specs.declared.decoded.Decoded.TheVariants.{First, Nothing, Budget}

-- the values of a model of the encoding, one for each variable
pub record IsWholeModel (s : SpecValue) (values : List Bool) : Type 0 where
  pub one_each : length values ≡ all_variables s
  pub model : IsModel (encoding s) (bits_of values)

-- the values, if there are some, are a model
abbrev pub MayHaveModel : SpecValue → Answer → Type 0
MayHaveModel s (answers.Model values) = IsWholeModel s values.items
MayHaveModel s answers.Nothing = Unit {0}
MayHaveModel s answers.Budget = Unit {0}

-- a valid design, which is the design part of a model
pub record IsPartOf (s : SpecValue) (values : List Bool) (design : List Bool) : Type 0 where
  pub one_each : length design ≡ design_variables s
  pub part : design ≡ take (design_variables s) values
  pub valid : IsValid s (bits_of design)

-- an answer stands for the solver's: a model's design part for the model, and else the answer of the same name
abbrev pub StandsFor : SpecValue → Answer → Decoded → Type 0
StandsFor s (answers.Model values) (First design) = IsPartOf s values.items design
StandsFor s (answers.Model values) Nothing = ⊥
StandsFor s (answers.Model values) Budget = ⊥
StandsFor s answers.Nothing (First design) = ⊥
StandsFor s answers.Nothing Nothing = Unit {0}
StandsFor s answers.Nothing Budget = ⊥
StandsFor s answers.Budget (First design) = ⊥
StandsFor s answers.Budget Nothing = ⊥
StandsFor s answers.Budget Budget = Unit {0}
