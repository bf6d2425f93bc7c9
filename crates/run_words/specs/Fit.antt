-- What holds of each request.
use Rattle.std.specs.Prelude.{◌≡◌, ◌≢◌, ◌<◌, ◌≤◌, ℕ, All, None, Some, IfSome, List, length, slice_index}
use Rattle.form_words.specs.Line.{Text}
use Rattle.run_words.specs.Decoding.{DecodeValue}
use Rattle.run_words.specs.Exploring.{ExploringValue, most_rounds}
use Rattle.run_words.specs.Fronting.{FrontingValue}
use Rattle.run_words.specs.Making.{MakingValue}
use Rattle.run_words.specs.Values.{RequestValue, decode, explore, front, check, make}
use Rattle.run_words.specs.Requests.{request}

-- a budget is at least 1, and doesn't stand without a proof
pub record HasFitBudget (d : DecodeValue) : Type 0 where
  pub some : IfSome d.budget (λ n. 1 ≤ n)
  pub alone : d.proof ≡ None → d.budget ≡ None

-- a budget is at least 1, and the two files that are written are apart
pub record HasFitFiles (f : FrontingValue) : Type 0 where
  pub some : IfSome f.budget (λ n. 1 ≤ n)
  pub apart : f.front ≢ f.proof

-- each place is above those before it
abbrev pub AreRising : List ℕ → Type 0
AreRising places = (i j : ℕ) → i < j → j < length places → slice_index places i < slice_index places j

-- there are no more rounds than an exploration has at most, and the places are those of tools and rise
pub record HasFitTools (tools : ℕ) (e : ExploringValue) : Type 0 where
  pub few : e.rounds ≤ most_rounds
  pub within : All (λ p. p < tools) e.chosen
  pub rising : AreRising e.chosen

-- there are no more rounds than an exploration has at most
abbrev pub HasFitRounds : MakingValue → Type 0
HasFitRounds m = IfSome m.rounds (λ n. n ≤ most_rounds)

-- a request, where there are so many tools
abbrev pub IsFit : ℕ → RequestValue → Type 0
IsFit tools (decode d) = HasFitBudget d
IsFit tools (explore e) = HasFitTools tools e
IsFit tools (front f) = HasFitFiles f
IsFit tools (check c) = Unit {0}
IsFit tools (make m) = HasFitRounds m

-- so it is of each request of words
abbrev pub RequestsAreFit : Type 0
RequestsAreFit = (tags words : List Text) (asked : RequestValue) → request tags words ≡ Some asked → IsFit (length tags) asked
