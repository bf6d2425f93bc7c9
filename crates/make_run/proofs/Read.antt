-- What a made text reads as: nothing refuses it.
use Rattle.std.proofs.Common.{◌≡◌, ◌≤◌, ℕ, List, None, length, Result, Ok, Err, IsErrAnd, inl, inr, refl, subst, arith}
use Rattle.line_words.specs.Text.{lines}
use Rattle.line_words.specs.Rules.{HasNoFault}
use Rattle.line_words.specs.Reads.{Reads}
use Rattle.line_words.specs.Limits.{most_file_bytes}
use Rattle.line_words.specs.declared.refusals.Refusal.{Refusal}
use Rattle.line_words.specs.declared.refusals.FileTag.TheVariants as files
use Rattle.line_words.specs.declared.refusals.ReadFault.{ReadFault}
use Rattle.line_words.specs.declared.refusals.ReadFault.TheVariants as faults
use Rattle.tgff_reader.specs.Facts.{TgffValue}
use Rattle.arch_reader.specs.Arch.{ArchValue, arch_rules, lines_in, arch_stated}
use Rattle.spec_model.specs.Spec.{SpecValue}
use Rattle.spec_join.specs.Reading.{JoinReads}
use Rattle.spec_make.specs.Made.{made_text}
use Rattle.made_laws.specs.Unbroken.{MadeTextIsShort}
use Rattle.made_laws.specs.Joined.{MadeTextIsRead, MadeTextIsJoined, no_graphs}
use Rattle.run_base.specs.After.{GoesOn, Makes}
use Rattle.run_base.specs.Reading.{ReadsArch, ReadsSpec, ReadsTgff, file_of}
use Rattle.run_base.proofs.ArchFiles.{same_file}

-- what joining answers to a file that isn't too long and breaks no rule of its own
joins_as : (bytes : List ℕ) (reading : Result SpecValue ReadFault) → length bytes ≤ most_file_bytes → HasNoFault arch_rules (lines bytes) → JoinReads no_graphs (file_of bytes) reading
    → ReadsArch bytes no_graphs reading
joins_as bytes (Ok spec) short none h = record { file = record { short = short; unbroken = none }; joined = h }
joins_as bytes (Err (faults.Refused r)) short none h = inr (inr (record { file = record { short = short; unbroken = none }; refused = h }))
joins_as bytes (Err faults.NoMemory) short none h = tt

-- without a file of task graphs, what an architecture file reads as is what both read as
alone : (bytes : List ℕ) (reading : Result SpecValue ReadFault) → ReadsArch bytes no_graphs reading → ReadsSpec None bytes reading
alone bytes reading h = record { reading = Ok no_graphs; reads = refl; rest = h }

pub reads_joined : (bytes : List ℕ) (tgff : TgffValue) (file : ArchValue) (reading : Result SpecValue ReadFault) → tgff ≡ no_graphs → length bytes ≤ most_file_bytes
    → HasNoFault arch_rules (lines bytes) × (file.lines ≡ (file_of bytes).lines) → file.end_line ≡ (file_of bytes).end_line
    → JoinReads tgff file reading → ReadsSpec None bytes reading
reads_joined bytes tgff file reading none short read end h =
    let by_file = subst (λ (f : ArchValue). JoinReads tgff f reading) (same_file file (file_of bytes) read.1 end) h in
    alone bytes reading (joins_as bytes reading short read.0 (subst (λ (t : TgffValue). JoinReads t (file_of bytes) reading) none by_file))

-- a file that is refused before it is joined
pub reads_refused : (bytes : List ℕ) (fault : ReadFault) → length bytes ≤ most_file_bytes → Reads {X = ArchValue} files.Arch arch_rules lines_in arch_stated (lines bytes) (Err fault)
    → ReadsSpec None bytes (Err fault)
reads_refused bytes (faults.Refused r) short h = alone bytes (Err (faults.Refused r)) (inr (inl (record { short = short; file_is = h.0; least = h.1 })))
reads_refused bytes faults.NoMemory short h = alone bytes (Err faults.NoMemory) tt

-- the text of a number is refused nowhere as an architecture file without task graphs
none_refuses : MadeTextIsShort → MadeTextIsRead → MadeTextIsJoined → (number : ℕ) (tgff : TgffValue) (r : Refusal) → tgff ≡ no_graphs → ReadsArch (made_text number) tgff (Err (faults.Refused r)) → ⊥
none_refuses short read joined number tgff r e (inl h) = absurd (omega (arith, short number, h.long))
none_refuses short read joined number tgff r e (inr (inl h)) = read number (Err (faults.Refused r)) (h.file_is, h.least)
none_refuses short read joined number tgff r e (inr (inr h)) =
    joined number (file_of (made_text number)) (Err (faults.Refused r)) (h.file.unbroken, refl) (subst (λ (t : TgffValue). JoinReads t (file_of (made_text number)) (Err (faults.Refused r))) e
    h.refused)

goes_nowhere : MadeTextIsShort → MadeTextIsRead → MadeTextIsJoined → (number : ℕ) (r : Refusal) → ReadsSpec None (made_text number) (Err (faults.Refused r)) → ⊥
goes_nowhere short read joined number r h = go h.reading h.reads h.rest
  where
    go : (reading : Result TgffValue ReadFault) → ReadsTgff None reading → GoesOn reading (ReadsArch (made_text number)) (Err (faults.Refused r)) → ⊥
    go (Ok tgff) is rest = none_refuses short read joined number tgff r is rest
    go (Err (faults.Refused q)) is rest = is
    go (Err faults.NoMemory) is rest = absurd (cc)

pub reads_made : MadeTextIsShort → MadeTextIsRead → MadeTextIsJoined → (number : ℕ) (reading : Result SpecValue ReadFault) → ReadsSpec None (made_text number) reading
    → Makes (λ spec. ReadsSpec None (made_text number) (Ok spec)) reading
reads_made short read joined number (Ok spec) h = h
reads_made short read joined number (Err (faults.Refused r)) h = goes_nowhere short read joined number r h
reads_made short read joined number (Err faults.NoMemory) h = tt

-- what gave up for want of memory is no refusal
pub without_memory : {Y : Type 0} (P : Y → Type 0) (result : Result Y ReadFault) → IsErrAnd result (λ e. e ≡ faults.NoMemory) → Makes P result
without_memory P (Ok y) h = absurd h
without_memory P (Err (faults.Refused r)) h = absurd (cc)
without_memory P (Err faults.NoMemory) h = tt
