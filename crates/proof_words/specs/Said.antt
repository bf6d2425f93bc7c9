-- What a word was read as.
use Rattle.std.specs.Prelude.{◌≤◌, ◌^◌}
use Rattle.pb_rules.specs.declared.Op.{Op}
use Rattle.pb_rules.specs.declared.Op.TheVariants.{Axiom}
use Rattle.proof_words.specs.declared.reading.WordOp.{WordOp}
use Rattle.proof_words.specs.declared.reading.WordOp.TheVariants.{Operation, FarAxiom}

-- the operation that the word says
abbrev pub op_in : WordOp → Op
op_in (Operation op) = op
op_in (FarAxiom var is_yes) = Axiom (record { var = var; yes = is_yes })

-- a variable that is said to be far is one that no literal has
abbrev pub IsFarWhereSaid : WordOp → Type 0
IsFarWhereSaid (Operation op) = Unit {0}
IsFarWhereSaid (FarAxiom var is_yes) = 2 ^ 62 ≤ var
