-- A proof file that is read in pieces and taken line by line.
use Rattle.std.specs.Prelude.{◌≡◌, ℕ, List, ◌∷◌, ◌++◌, false, length, take, drop, Option, Some, None, Result, Ok, Err, IfSome}
use Rattle.std.specs.List.{list_any}
use Rattle.line_words.specs.Front.{is_lf}
use Rattle.desk_io.specs.Files.{Files, content}
use Rattle.spelled_lines.specs.Lines.{pieces}
use Rattle.front_model.specs.Fronts.{vectors_of}
use Rattle.front_model.specs.Judging.{Progress, take_lines}
use Rattle.front_model.specs.declared.refusals.Refused.{Refused}
use Rattle.proof_checker.specs.Checkers.{CheckerValue}
use Rattle.proof_checker.specs.declared.faults.LineFault.{LineFault}
use Rattle.proof_checker.specs.declared.faults.LineFault.TheVariants as lines
use Rattle.check_run.specs.declared.proof_lines.ProofLines.{ProofLines}

-- no line ends within the bytes
abbrev pub HasNoLf : List ℕ → Type 0
HasNoLf bytes = list_any is_lf bytes ≡ false

-- a line without its LF, and what follows this
pub record IsCut (bytes body more : List ℕ) : Type 0 where
  pub body_only : HasNoLf body
  pub whole : bytes ≡ body ++ 10 ∷ more

abbrev pub CutsFirst : List ℕ → Option (List ℕ × List ℕ) → Type 0
CutsFirst bytes None = HasNoLf bytes
CutsFirst bytes (Some (body, more)) = IsCut bytes body more

-- how far these bytes, cut into lines, lead a checker
abbrev pub led : CheckerValue → List ℕ → Progress
led c bytes = take_lines c.spec (vectors_of c.front) c.progress (pieces bytes)

-- how far they lead, after what is held of a line
abbrev pub left_to : ProofLines → List ℕ → Progress
left_to reader bytes = led reader.checker (reader.held.items ++ bytes)

-- the lines that end within some bytes are taken: what may follow leads as far as it does after the bytes
pub record TakesOn (old new : ProofLines) (bytes : List ℕ) : Type 0 where
  pub held : HasNoLf new.held.items
  pub goes_on : (more : List ℕ) → left_to new more ≡ left_to old (bytes ++ more)

-- a line that ends within them is refused, whatever may follow
abbrev pub RefusesIn : ProofLines → List ℕ → Refused → Type 0
RefusesIn old bytes r = (more : List ℕ) → (left_to old (bytes ++ more)).refused ≡ Some r

-- bytes are taken, or refused; memory may run out
abbrev pub TakesBytes : {T : Type 0} → ProofLines → ProofLines → List ℕ → Result T LineFault → Type 0
TakesBytes old new bytes (Ok t) = TakesOn old new bytes
TakesBytes old new bytes (Err (lines.Refused r)) = RefusesIn old bytes r
TakesBytes old new bytes (Err lines.NoMemory) = Unit {0}

-- the same, where a refusal is an answer
abbrev pub TakesOrRefuses : ProofLines → ProofLines → List ℕ → Option Refused → Type 0
TakesOrRefuses old new bytes None = TakesOn old new bytes
TakesOrRefuses old new bytes (Some r) = RefusesIn old bytes r

-- so many bytes of a file from a place on are taken or refused
pub record TakesPart (files : Option Files) (name : List ℕ) (at count : ℕ) (old new : ProofLines) (refused : Option Refused) : Type 0 where
  pub bytes : List ℕ
  pub count_is : length bytes ≡ count
  pub found : IfSome files (λ all. bytes ≡ take count (drop at (content all name)))
  pub takes : TakesOrRefuses old new bytes refused

-- a checker has taken the lines of a file that end within its first bytes
pub record IsReadTo (files : Option Files) (name : List ℕ) (at : ℕ) (c : CheckerValue) (reader : ProofLines) : Type 0 where
  pub bytes : List ℕ
  pub found : IfSome files (λ all. bytes ≡ take at (content all name))
  pub held : HasNoLf reader.held.items
  pub leads : (more : List ℕ) → left_to reader more ≡ led c (bytes ++ more)
