-- The genotypes of members, and how many genes are drawn.
use Rattle.std.proofs.Common.{◌≡◌, ℕ, zero, suc, ◌<◌, List, [], ◌∷◌, length, get_or, refl, sym, ap, ap₂, ◌∙◌, arith, All, Result, Ok, Err, IfOk, OnOk}
use Rattle.std.proofs.lemmas.List.{get_or-map}
use Rattle.spec_model.specs.Genotypes.{GeneValue}
use Rattle.genotype.specs.Draws.{draw, random_genes, child_genes, after_gene, after_child}
use Rattle.front_archive.specs.declared.member.Member.{Member}
use Rattle.evo_explore.specs.Breeding.{genotype_of, genotype_at, HasGenes, bred, after_bred}

genotype_there : (members : List Member) (p : ℕ) (d : Member) → p < length members → genotype_at members p ≡ (get_or members p d).genotype
genotype_there members p d l = get_or-map genotype_of members p d [] l

pub length-random : {S : Type 0} (gives : S → ℕ) (after : S → S) (n : ℕ) (s : S) → length (random_genes gives after n s) ≡ n
length-random gives after zero s = refl
length-random gives after (suc n) s = ap suc (length-random gives after n (after s))

pub length-child : {S : Type 0} (gives : S → ℕ) (after : S → S) (n : ℕ) (xs ys : List GeneValue) (s : S) → length ys ≡ length xs → length (child_genes gives after n xs ys s) ≡ length xs
length-child gives after n [] ys s e = refl
length-child gives after n (x ∷ xs) [] s e = absurd (omega (arith, e))
length-child gives after n (x ∷ xs) (y ∷ ys) s e = ap suc (length-child gives after n xs ys (after_gene gives after n s) (omega (arith, e)))

-- ---- the child of two members that are drawn

-- the member at a drawn place, by the state of the words
drawn_at : {S : Type 0} (gives : S → ℕ) (members : List Member) (count p : ℕ) (d : Member) (g : List GeneValue) (s t : S) → count ≡ length members
    → p ≡ draw gives count s → p < length members → g ≡ (get_or members p d).genotype → s ≡ t → g ≡ genotype_at members (draw gives (length members) t)
drawn_at gives members count p d g s t all place l is same =
    is ∙ (sym (genotype_there members p d l) ∙ ap (genotype_at members) (place ∙ (ap (λ (k : ℕ). draw gives k s) all ∙ ap (draw gives (length members)) same)))

pub bred_is : {S : Type 0} (gives : S → ℕ) (after : S → S) (n count p q : ℕ) (members : List Member) (d e : Member) (a b : List GeneValue) (s t u : S)
    → All (HasGenes n) members → count ≡ length members → p ≡ draw gives count s → t ≡ after s → q ≡ draw gives count t → u ≡ after t → p < length members
    → q < length members → a ≡ (get_or members p d).genotype → b ≡ (get_or members q e).genotype → child_genes gives after (length a) a b u ≡ bred gives after n members s
unfolding bred
bred_is gives after n count p q members d e a b s t u genes all first t_is second u_is l k a_is b_is =
    let long : length a ≡ n = ap length a_is ∙ genes p d l in
    let x = drawn_at gives members count p d a s s all first l a_is refl in
    let y = drawn_at gives members count q e b t (after s) all second k b_is t_is in
    ap (λ (i : ℕ). child_genes gives after i a b u) long
    ∙ (ap₂ (λ (v w : List GeneValue). child_genes gives after n v w u) x y
    ∙ ap (child_genes gives after n (genotype_at members (draw gives (length members) s)) (genotype_at members (draw gives (length members) (after s)))) (u_is ∙ ap after t_is))

pub after_bred_is : {S : Type 0} (gives : S → ℕ) (after : S → S) (n count p : ℕ) (members : List Member) (d : Member) (a : List GeneValue) (s t u : S)
    → All (HasGenes n) members → count ≡ length members → p ≡ draw gives count s → t ≡ after s → u ≡ after t → p < length members → a ≡ (get_or members p d).genotype
    → after_child gives after (length a) a u ≡ after_bred gives after n members s
unfolding after_bred
after_bred_is gives after n count p members d a s t u genes all first t_is u_is l a_is =
    let long : length a ≡ n = ap length a_is ∙ genes p d l in
    let x = drawn_at gives members count p d a s s all first l a_is refl in
    ap (λ (i : ℕ). after_child gives after i a u) long
    ∙ (ap (λ (v : List GeneValue). after_child gives after n v u) x
    ∙ ap (after_child gives after n (genotype_at members (draw gives (length members) s))) (u_is ∙ ap after t_is))

-- ---- what a call answers, in other words

pub drawn_as : {E : Type 0} (r : Result (List GeneValue) E) (x y : List GeneValue) → x ≡ y → IfOk r (λ g. g ≡ x) → IfOk r (λ g. g ≡ y)
drawn_as (Ok g) x y e h = h ∙ e
drawn_as (Err f) x y e h = tt

pub after_as : {T E S : Type 0} (r : Result T E) (w x y : S) → x ≡ y → OnOk r (w ≡ x) → OnOk r (w ≡ y)
after_as (Ok g) w x y e h = h ∙ e
after_as (Err f) w x y e h = tt

pub length_as : {E : Type 0} (r : Result (List GeneValue) E) (x : List GeneValue) (n : ℕ) → length x ≡ n → IfOk r (λ g. g ≡ x) → IfOk r (λ g. length g ≡ n)
length_as (Ok g) x n e h = ap length h ∙ e
length_as (Err f) x n e h = tt
