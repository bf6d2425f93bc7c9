-- One more gene is drawn: what a loop that fills a genotype has, over what is left to draw.
use Rattle.std.proofs.Common.{◌≡◌, ℕ, suc, ◌+◌, ◌-◌, ◌<◌, List, [], ◌∷◌, ◌++◌, length, take, slice_set, sym, ap, ap₂, ◌∙◌, arith, append_assoc}
use Rattle.std.proofs.lemmas.List.{take_more_set}
use Rattle.spec_model.specs.Genotypes.{GeneValue}
use Rattle.genotype.specs.Draws.{gene_of, random_genes, after_words}

left_more : (n i : ℕ) → i < n → n - i ≡ suc (n - (i + 1))
left_more n i h = omega arith

pub fill_more : {S : Type 0} (gives : S → ℕ) (after : S → S) (n i : ℕ) (xs all : List GeneValue) (y : GeneValue) (s t : S) → i < length xs → i < n → y ≡ gene_of (gives s) → t ≡ after s
    → take i xs ++ random_genes gives after (n - i) s ≡ all → take (i + 1) (slice_set xs i y) ++ random_genes gives after (n - (i + 1)) t ≡ all
fill_more gives after n i xs all y s t in_range h is to inv =
    ap (λ l. l ++ random_genes gives after (n - (i + 1)) t) (take_more_set xs i y in_range)
    ∙ append_assoc (take i xs) (y ∷ []) (random_genes gives after (n - (i + 1)) t)
    ∙ ap₂ (λ z u. take i xs ++ (z ∷ random_genes gives after (n - (i + 1)) u)) is to
    ∙ ap (λ m. take i xs ++ random_genes gives after m s) (sym (left_more n i h)) ∙ inv

pub words_more : {S : Type 0} (after : S → S) (n i : ℕ) (s t end : S) → i < n → t ≡ after s → after_words after (n - i) s ≡ end → after_words after (n - (i + 1)) t ≡ end
words_more after n i s t end h to inv = ap (after_words after (n - (i + 1))) to ∙ ap (λ m. after_words after m s) (sym (left_more n i h)) ∙ inv
