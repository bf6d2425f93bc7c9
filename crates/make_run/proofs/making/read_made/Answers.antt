use Rattle.std.proofs.Common.{◌≤◌, ℕ, List, None, length, subst, sym}
use Rattle.line_words.specs.Limits.{most_file_bytes}
use Rattle.run_base.specs.Reading.{ReadsSpec}
use Rattle.make_run.proofs.Read.{reads_made}
use Rattle.make_run.proofs.making.read_made.Goals as goal

pub read_text-requires : goal.read_text-requires
read_text-requires c = record { short = subst (λ (bytes : List ℕ). length bytes ≤ most_file_bytes) (sym c.requires.made) (c.law_of_made_text.ensures.short c.args.number) }

pub returns : goal.returns
returns c =
    reads_made c.law_of_made_text.ensures.short c.law_of_made_specification.ensures.read c.law_of_made_specification.ensures.joined c.args.number c.read_text.result
    (subst (λ (bytes : List ℕ). ReadsSpec None bytes c.read_text.result) c.requires.made c.read_text.ensures)
