-- The files that a command writes, and what writing them leaves.
use Rattle.std.specs.Prelude.{◌≡◌, ◌≢◌, ◌⊎◌, ◌+◌, ◌∷◌, [], ℕ, List, All, Option, Some, None, drop, string_bytes, take}
use Rattle.desk_io.specs.Files.{Files, content, file_at}
use Rattle.proof_log.specs.Text.{proof_text}
use Rattle.file_writes.specs.declared.writes.Content.{Content}
use Rattle.file_writes.specs.declared.writes.Content.TheVariants.{Text, Proof}
use Rattle.file_writes.specs.declared.writes.Write.{Write}

-- the bytes of what is written: these, or those of the proof file that a log's lines become
abbrev pub bytes_of : Content → List ℕ
bytes_of (Text bytes) = bytes.items
bytes_of (Proof log) = proof_text log.lines

-- a file that is written, by its name and its bytes
abbrev pub file_of : Write → List ℕ × List ℕ
file_of write = (string_bytes write.name, bytes_of write.content)

-- the bytes of a file are these now
abbrev pub Becomes : List ℕ → List ℕ → List ℕ → Type 0
Becomes bytes old new = new ≡ bytes

-- they are the first of these, maybe none or all
abbrev pub BecomesPart : List ℕ → List ℕ → List ℕ → Type 0
BecomesPart bytes old new = (n : ℕ) × (new ≡ take n bytes)

-- they are as before, or the first of these
abbrev pub KeepsOrBecomesPart : List ℕ → List ℕ → List ℕ → Type 0
KeepsOrBecomesPart bytes old new = (new ≡ old) ⊎ BecomesPart bytes old new

-- Change holds of the files before and after, where they are told; a desk that told them still does
abbrev pub Leaves : Option Files → Option Files → (Files → Files → Type 0) → Type 0
Leaves None new Change = Unit {0}
Leaves (Some old) None Change = ⊥
Leaves (Some old) (Some new) Change = Change old new

-- Change holds of the bytes of one file before and after, and all others are as before
pub record Rewrites (name : List ℕ) (Change : List ℕ → List ℕ → Type 0) (old new : Files) : Type 0 where
  pub here : Change (content old name) (content new name)
  pub others : (other : List ℕ) → other ≢ name → file_at new other ≡ file_at old other

-- a file was written
abbrev pub IsWritten : Files → Files → List ℕ × List ℕ → Type 0
IsWritten old new file = Becomes file.1 (content old file.0) (content new file.0)

-- a file has what it had, or a first part of what was to be written
abbrev pub IsPartlyWritten : Files → Files → List ℕ × List ℕ → Type 0
IsPartlyWritten old new file = KeepsOrBecomesPart file.1 (content old file.0) (content new file.0)

-- all files but those that were written are as before
abbrev pub KeepOthers : Files → Files → Files → Type 0
KeepOthers old new writes = (name : List ℕ) → file_at writes name ≡ None → file_at new name ≡ file_at old name

-- all were written
pub record AreWritten (writes old new : Files) : Type 0 where
  pub all : All (IsWritten old new) writes
  pub others : KeepOthers old new writes

-- writing was cut short: those before a place were written, the one at this place has what it had or a first part, and no other was begun
pub record ArePartlyWritten (writes old new : Files) : Type 0 where
  pub place : ℕ
  pub all : All (IsWritten old new) (take place writes)
  pub part : All (IsPartlyWritten old new) (take 1 (drop place writes))
  pub others : KeepOthers old new (take (place + 1) writes)

-- one file is written under this name, with P of its bytes
pub record WritesOne (name : List ℕ) (P : List ℕ → Type 0) (writes : Files) : Type 0 where
  pub bytes : List ℕ
  pub only : writes ≡ (name, bytes) ∷ []
  pub holds : P bytes

-- the same of a file that may not be named, in whose place nothing is written
abbrev pub WritesIfNamed : Option (List ℕ) → (List ℕ → Type 0) → Files → Type 0
WritesIfNamed None P writes = writes ≡ []
WritesIfNamed (Some name) P writes = WritesOne name P writes
