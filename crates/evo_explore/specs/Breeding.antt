-- The genotype of a round, of the words not yet used and of the best members so far.
use Rattle.std.specs.Prelude.{◌≡◌, ℕ, ◌%◌, ◌==◌, if◌then◌else◌, List, [], ◌∷◌, length, map, slice_index_or}
use Rattle.spec_model.specs.Genotypes.{GeneValue}
use Rattle.genotype.specs.Draws.{draw, random_genes, after_words, child_genes, after_child}
use Rattle.front_archive.specs.declared.member.Member.{Member}

abbrev pub genotype_of : Member → List GeneValue
genotype_of member = member.genotype

-- a member with a gene for each of n variables
abbrev pub HasGenes : ℕ → Member → Type 0
HasGenes n member = length member.genotype ≡ n

-- the genotype of the member at a place
abbrev pub genotype_at : List Member → ℕ → List GeneValue
genotype_at members p = slice_index_or (map genotype_of members) p []

-- the child of two members, each drawn by one word
unfoldable pub bred : {S : Type 0} → (S → ℕ) → (S → S) → ℕ → List Member → S → List GeneValue
bred gives after n members s = child_genes gives after n (genotype_at members (draw gives (length members) s)) (genotype_at members (draw gives (length members) (after s))) (after (after s))

unfoldable pub after_bred : {S : Type 0} → (S → ℕ) → (S → S) → ℕ → List Member → S → S
after_bred gives after n members s = after_child gives after n (genotype_at members (draw gives (length members) s)) (after (after s))

-- a genotype of n genes: a random one where there are no members, and for each fourth word; else a child
abbrev pub next_genes : {S : Type 0} → (S → ℕ) → (S → S) → ℕ → List Member → S → List GeneValue
next_genes gives after n [] s = random_genes gives after n s
next_genes gives after n (m ∷ ms) s = if gives s % 4 == 0 then random_genes gives after n (after s) else bred gives after n (m ∷ ms) (after s)

-- the state of the words after it
abbrev pub after_next : {S : Type 0} → (S → ℕ) → (S → S) → ℕ → List Member → S → S
after_next gives after n [] s = after_words after n s
after_next gives after n (m ∷ ms) s = if gives s % 4 == 0 then after_words after n (after s) else after_bred gives after n (m ∷ ms) (after s)
