-- The text of a genotype, line by line.
use Rattle.std.proofs.Common.{◌≡◌, ℕ, ◌+◌, ◌<◌, ◌≤◌, List, ◌++◌, length, drop, sym, ap, ◌∙◌, append_assoc}
use Rattle.std.proofs.lemmas.List.{append-nil, drop_more, drop_all}
use Rattle.spec_model.specs.Genotypes.{GeneValue, plain_gene, gene_at}
use Rattle.genotype.specs.Spelling.{gene_text, genes_text}

-- one more gene is written
pub text_step : (genes : List GeneValue) (v : ℕ) (now next all : List ℕ) (g : GeneValue) → now ++ genes_text v (drop v genes) ≡ all → next ≡ now ++ gene_text v g → g ≡ gene_at genes v
    → v < length genes
    → next ++ genes_text (v + 1) (drop (v + 1) genes) ≡ all
text_step genes v now next all g so_far push is lt =
    let more = genes_text (v + 1) (drop (v + 1) genes) in
    ap (λ (xs : List ℕ). xs ++ more) push ∙ append_assoc now (gene_text v g) more ∙ ap (λ (x : GeneValue). now ++ (gene_text v x ++ more)) is
    ∙ ap (λ (xs : List GeneValue). now ++ genes_text v xs) (sym (drop_more genes v plain_gene lt)) ∙ so_far

-- all genes are written
pub text_end : (genes : List GeneValue) (v : ℕ) (now all : List ℕ) → now ++ genes_text v (drop v genes) ≡ all → length genes ≤ v → now ≡ all
text_end genes v now all so_far ge = sym (append-nil now) ∙ ap (λ (xs : List GeneValue). now ++ genes_text v xs) (sym (drop_all v genes ge)) ∙ so_far
