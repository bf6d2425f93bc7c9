use Rattle.made_laws.proofs.Joined.{no_bytes, made_is_read, made_accepted, made_joined}
use Rattle.made_laws.proofs.law_of_made_specification.Goals as goal

pub returns : goal.returns
returns c = record { empty = no_bytes; read = made_is_read; accepted = made_accepted; joined = made_joined }
