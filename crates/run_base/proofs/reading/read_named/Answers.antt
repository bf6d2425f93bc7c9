use Rattle.std.proofs.Common.{ℕ, List, Some, refl, sym, subst}
use Rattle.line_words.specs.declared.refusals.FileTag.TheVariants.{Tgff}
use Rattle.tgff_reader.specs.Tgff.{tgff_rules, graphs_stated, as_seen}
use Rattle.run_base.specs.Reading.{ReadsTgff}
use Rattle.run_base.proofs.ShortFiles.{read_as}
use Rattle.run_base.proofs.reading.read_named.Goals as goal

pub returns : goal.returns
returns c = λ bytes loaded.
    subst (λ (b : List ℕ). ReadsTgff (Some b) c.read_tgff.result) (sym (c.in_ok-bytes.ensures.whole bytes loaded))
    (read_as Tgff tgff_rules as_seen graphs_stated c.in_ok-bytes.bytes.now c.read_tgff.result (λ x. refl) c.in_ok-bytes.ensures.short c.read_tgff.ensures)
