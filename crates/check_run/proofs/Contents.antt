-- What holds of the bytes of a file.
use Rattle.std.proofs.Common.{ℕ, List, [], Option, Some, None, refl}
use Rattle.desk_io.specs.Files.{Files, content}
use Rattle.check_run.specs.Checking.{OfContent}

-- what holds of all bytes holds of those of a file
pub any_content : (files : Option Files) (name : List ℕ) (P : List ℕ → Type 0) → ((bytes : List ℕ) → P bytes) → OfContent files name P
any_content None name P h = record { bytes = []; found = tt; holds = h [] }
any_content (Some all) name P h = record { bytes = content all name; found = refl; holds = h (content all name) }

-- what follows of what holds
pub of_weaker : (files : Option Files) (name : List ℕ) (P Q : List ℕ → Type 0) → ((bytes : List ℕ) → P bytes → Q bytes) → OfContent files name P → OfContent files name Q
of_weaker files name P Q f h = record { bytes = h.bytes; found = h.found; holds = f h.bytes h.holds }
