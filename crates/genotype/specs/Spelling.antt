-- How a genotype is written.
use Rattle.std.specs.Prelude.{ℕ, ◌+◌, List, [], ◌∷◌, ◌++◌, Bool, ◌&&◌, not, ◌==◌, if◌then◌else◌, codes, decimal}
use Rattle.spec_model.specs.Genotypes.{GeneValue}

-- a gene of priority 0 and phase false, which isn't written
abbrev pub is_plain : GeneValue → Bool
is_plain g = (g.priority == 0) && not g.phase

-- the digit of a phase
abbrev pub phase_digit : Bool → ℕ
phase_digit phase = if phase then 49 else 48

-- the line of a gene
abbrev pub gene_line : ℕ → GeneValue → List ℕ
gene_line v g = codes "gene " ++ (decimal v ++ (32 ∷ (decimal g.priority ++ (32 ∷ phase_digit g.phase ∷ 10 ∷ []))))

-- what is written of a gene
abbrev pub gene_text : ℕ → GeneValue → List ℕ
gene_text v g = if is_plain g then [] else gene_line v g

-- what is written of the genes of the variables from v on
abbrev pub genes_text : ℕ → List GeneValue → List ℕ
genes_text v [] = []
genes_text v (g ∷ genes) = gene_text v g ++ genes_text (v + 1) genes

-- the line of the header
abbrev pub header_line : List ℕ
header_line = codes "genotype 1" ++ 10 ∷ []

-- the text of a genotype
abbrev pub genotype_text : List GeneValue → List ℕ
genotype_text genes = header_line ++ genes_text 0 genes
