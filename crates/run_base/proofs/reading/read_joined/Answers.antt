use Rattle.std.proofs.Common.{◌≡◌, ◌≤◌, ℕ, List, length, Result, Ok, Err, inr, sym, subst}
use Rattle.line_words.specs.Text.{lines}
use Rattle.line_words.specs.Rules.{HasNoFault}
use Rattle.line_words.specs.declared.refusals.ReadFault.{ReadFault}
use Rattle.line_words.specs.declared.refusals.ReadFault.TheVariants as faults
use Rattle.spec_model.specs.Spec.{SpecValue}
use Rattle.tgff_reader.specs.Facts.{TgffValue}
use Rattle.arch_reader.specs.Arch.{ArchValue, arch_rules}
use Rattle.spec_join.specs.Reading.{JoinReads}
use Rattle.line_words.specs.Limits.{most_file_bytes}
use Rattle.run_base.specs.Reading.{file_of, ReadsArch}
use Rattle.run_base.proofs.ArchFiles.{same_file}
use Rattle.run_base.proofs.reading.read_joined.Goals as goal

-- what joining answers to a file that isn't too long and breaks no rule of its own
joins_as : (tgff : TgffValue) (bytes : List ℕ) (reading : Result SpecValue ReadFault) → length bytes ≤ most_file_bytes → HasNoFault arch_rules (lines bytes)
    → JoinReads tgff (file_of bytes) reading → ReadsArch bytes tgff reading
joins_as tgff bytes (Ok spec) short none h = record { file = record { short = short; unbroken = none }; joined = h }
joins_as tgff bytes (Err (faults.Refused r)) short none h = inr (inr (record { file = record { short = short; unbroken = none }; refused = h }))
joins_as tgff bytes (Err faults.NoMemory) short none h = tt

pub returns : goal.returns
returns c = λ bytes loaded.
    let reading = c.join.result in
    let tgff = c.args.tgff.now in
    let short : List ℕ = c.in_ok-bytes.bytes.now in
    let file_is : c.in_ok-file.file ≡ file_of short = same_file c.in_ok-file.file (file_of short) c.in_ok-file.ensures.reads.1 c.in_ok-file.ensures.end_line in
    let joins : JoinReads tgff (file_of short) reading = subst (λ (f : ArchValue). JoinReads tgff f reading) file_is c.join.ensures.reads in
    subst (λ (b : List ℕ). ReadsArch b tgff reading) (sym (c.in_ok-bytes.ensures.whole bytes loaded))
    (joins_as tgff short reading c.in_ok-bytes.ensures.short c.in_ok-file.ensures.reads.0 joins)
