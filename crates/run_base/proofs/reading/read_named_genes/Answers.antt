use Rattle.std.proofs.Common.{ℕ, List, refl, sym, subst}
use Rattle.line_words.specs.Text.{lines}
use Rattle.line_words.specs.Reads.{Reads}
use Rattle.line_words.specs.declared.refusals.FileTag.TheVariants.{Genotype}
use Rattle.spec_model.specs.Spec.{design_variables}
use Rattle.genotype.specs.Statements.{genotype_rules, genes_of, as_seen}
use Rattle.run_base.specs.Reading.{ReadsFile}
use Rattle.run_base.proofs.ShortFiles.{read_as}
use Rattle.run_base.proofs.reading.read_named_genes.Goals as goal

pub returns-clause-reads : goal.returns-clause-reads
returns-clause-reads c = λ bytes loaded.
    let n = design_variables c.args.spec.now in
    let read = c.in_ok-bytes.bytes.now in
    subst (λ (b : List ℕ). ReadsFile Genotype (genotype_rules n) (genes_of n) b c.read_genotype.result) (sym (c.in_ok-bytes.ensures.whole bytes loaded))
    (read_as Genotype (genotype_rules n) as_seen (genes_of n) read c.read_genotype.result (λ x. refl) c.in_ok-bytes.ensures.short
    (subst (λ (k : ℕ). Reads Genotype (genotype_rules k) as_seen (genes_of k) (lines read) c.read_genotype.result) c.design_variables.ensures.count c.read_genotype.ensures.reads))
