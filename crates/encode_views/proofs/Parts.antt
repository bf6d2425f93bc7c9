-- The design part of a model is a valid design.
use Rattle.std.proofs.Common.{◌≡◌, ℕ, ◌<◌, Bool, false, List, length, take, get_or, sym, ap, ◌∙◌, subst}
use Rattle.std.proofs.lemmas.List.{get_or-take}
use Rattle.pb_rules.specs.Linear.{IsModel}
use Rattle.spec_model.specs.Spec.{SpecValue, bits_of, design_variables}
use Rattle.spec_model.specs.Rules.{IsValid}
use Rattle.spec_model.specs.WellFormed.{IsWellFormed}
use Rattle.spec_model.proofs.Along.{IsValid-along}
use Rattle.encode_model.specs.Encoding.{encoding}
use Rattle.encode_laws.proofs.Laws.{valid_of_model}

pub valid_part : (s : SpecValue) (model design : List Bool) (n : ℕ) → IsWellFormed s → IsModel (encoding s) (bits_of model) → n ≡ design_variables s → take n design ≡ take n model
    → IsValid s (bits_of design)
valid_part s model design n wf h e same =
    IsValid-along s (bits_of model) (bits_of design)
    (λ v l. (let below_n : v < n = subst (λ (k : ℕ). v < k) (sym e) l in
    sym (get_or-take n model v false below_n) ∙ (ap (λ (xs : List Bool). get_or xs v false) (sym same) ∙ get_or-take n design v false below_n)))
    (valid_of_model s (bits_of model) wf h)
