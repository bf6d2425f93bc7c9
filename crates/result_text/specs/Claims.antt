-- What a line of a design variable is found to say.
use Rattle.std.specs.Prelude.{◌≡◌, ℕ, ◌<◌, List, length, true, Some, None, Result, Ok, Err}
use Rattle.line_words.specs.Rules.{Test, first_broken}
use Rattle.line_words.specs.declared.refusals.Why.{Why}
use Rattle.names.specs.Names.{number_by_name}
use Rattle.spec_model.specs.Spec.{SpecValue, Name, design_variables}
use Rattle.result_text.specs.Stating.{is_name}

-- a word is a name, with its number
pub record Named (names : List Name) (word : List ℕ) (n : ℕ) : Type 0 where
  pub known : is_name names word ≡ true
  pub within : n < length names
  pub is : n ≡ number_by_name names word

-- the tests pass and the variable is found, which is one of the design, or the first that is broken is named
abbrev pub Claims : SpecValue → List Test → ℕ → Result ℕ Why → Type 0
Claims s tests v (Ok found) = (first_broken tests ≡ None) × (found ≡ v) × (v < design_variables s)
Claims s tests v (Err why) = first_broken tests ≡ Some why
