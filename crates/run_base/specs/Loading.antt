-- What is loaded of a file that is read whole.
use Rattle.std.specs.Prelude.{◌≡◌, ℕ, ◌<◌, List, length, Option, Some, None}
use Rattle.line_words.specs.Limits.{most_file_bytes}
use Rattle.run_base.specs.declared.loading.Loaded.{Loaded}
use Rattle.run_base.specs.declared.loading.Loaded.TheVariants.{TooLong, Bytes}

-- all bytes of the content were loaded, or none since it is too long
abbrev pub IsLoaded : Loaded → List ℕ → Type 0
IsLoaded TooLong content = most_file_bytes < length content
IsLoaded (Bytes bytes) content = bytes.items ≡ content

-- the same of a file that may not be named
abbrev pub IsLoadedIfNamed : Option Loaded → Option (List ℕ) → Type 0
IsLoadedIfNamed None None = Unit {0}
IsLoadedIfNamed (Some loaded) (Some content) = IsLoaded loaded content
IsLoadedIfNamed _ _ = ⊥
