-- Draws from a stream of words. `gives` is the word of a state of the stream, `after` the state after it.
use Rattle.std.specs.Prelude.{ℕ, zero, suc, ◌*◌, ◌/◌, ◌%◌, ◌^◌, ◌==◌, Bool, if◌then◌else◌, List, [], ◌∷◌}
use Rattle.spec_model.specs.Genotypes.{GeneValue}

-- a number draw q
abbrev pub draw : {S : Type 0} → (S → ℕ) → ℕ → S → ℕ
draw gives q s = gives s * q / 2 ^ 32

-- the gene of a word
abbrev pub gene_of : ℕ → GeneValue
gene_of w = record { priority = w / 2; phase = w % 2 == 1 }

-- n genes, each of the next word
abbrev pub random_genes : {S : Type 0} → (S → ℕ) → (S → S) → ℕ → S → List GeneValue
random_genes gives after zero s = []
random_genes gives after (suc n) s = gene_of (gives s) ∷ random_genes gives after n (after s)

-- the state after n words
abbrev pub after_words : {S : Type 0} → (S → S) → ℕ → S → S
after_words after zero s = s
after_words after (suc n) s = after_words after n (after s)

-- a word asks for a random gene in place of a parent's, in a child of n genes
abbrev pub mutates : ℕ → ℕ → Bool
mutates n w = w / 2 % n == 0

-- a gene of a child of n genes: that of one parent or of the other, or that of one further word
abbrev pub child_gene : {S : Type 0} → (S → ℕ) → (S → S) → ℕ → GeneValue → GeneValue → S → GeneValue
child_gene gives after n a b s = if mutates n (gives s) then gene_of (gives (after s)) else (if gives s % 2 == 0 then a else b)

abbrev pub after_gene : {S : Type 0} → (S → ℕ) → (S → S) → ℕ → S → S
after_gene gives after n s = if mutates n (gives s) then after (after s) else after s

-- the genes of a child of n genes, of what is left of its parents' genes
abbrev pub child_genes : {S : Type 0} → (S → ℕ) → (S → S) → ℕ → List GeneValue → List GeneValue → S → List GeneValue
child_genes gives after n [] bs s = []
child_genes gives after n (a ∷ xs) [] s = []
child_genes gives after n (a ∷ xs) (b ∷ ys) s = child_gene gives after n a b s ∷ child_genes gives after n xs ys (after_gene gives after n s)

-- the state after as many genes as the list has
abbrev pub after_child : {S : Type 0} → (S → ℕ) → (S → S) → ℕ → List GeneValue → S → S
after_child gives after n [] s = s
after_child gives after n (a ∷ xs) s = after_child gives after n xs (after_gene gives after n s)
