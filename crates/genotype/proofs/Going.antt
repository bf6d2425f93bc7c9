-- What the statements taken so far say.
use Rattle.std.proofs.Common.{◌≡◌, ℕ, List, [], ◌∷◌, ◌++◌, length, Option, Some, None, Result, Ok, Err, refl, ◌∙◌, ap}
use Rattle.std.specs.Prelude.{IfOk}
use Rattle.std.proofs.lemmas.List.{length-set, length-replicate}
use Rattle.line_words.specs.Refused.{rank}
use Rattle.line_words.specs.Rules.{Statement, IsRanked, AreInOrder, statements, without_header}
use Rattle.line_words.specs.Reads.{Reads}
use Rattle.line_words.specs.declared.refusals.Why.TheVariants.{NoHeader}
use Rattle.line_words.specs.declared.refusals.FileTag.TheVariants.{Genotype}
use Rattle.line_words.specs.declared.refusals.ReadFault.{ReadFault}
use Rattle.line_words.specs.declared.refusals.ReadFault.TheVariants as faults
use Rattle.line_words.proofs.Steps.{ranked}
use Rattle.file_bricks.specs.Numbers.{read_or}
use Rattle.file_bricks.proofs.Headed.{in_order_headed}
use Rattle.spec_model.specs.Genotypes.{GeneValue, natural, plain_gene}
use Rattle.genotype.specs.Statements.{is_header, stated_of, stated_tests, least_after, least_from, with_stated, with_all, later, end_tests, genotype_rules, genes_of, as_seen}
use Rattle.genotype.specs.declared.stated.Stated.{Stated}

pub least_from-push : (least : ℕ) (done : List Statement) (s : Statement) → least_from least (done ++ s ∷ []) ≡ least_after (least_from least done) (stated_of s.words)
least_from-push least [] s = refl
least_from-push least (d ∷ done) s = least_from-push (least_after least (stated_of d.words)) done s

pub with_all-push : (genes : List GeneValue) (done : List Statement) (s : Statement) → with_all genes (done ++ s ∷ []) ≡ with_stated (with_all genes done) (stated_of s.words)
with_all-push genes [] s = refl
with_all-push genes (d ∷ done) s = with_all-push (with_stated genes (stated_of d.words)) done s

pub length-with_stated : (genes : List GeneValue) (stated : Option Stated) → length (with_stated genes stated) ≡ length genes
length-with_stated genes None = refl
length-with_stated genes (Some s) = length-set genes (read_or 0 s.variable) _

length-with_all : (genes : List GeneValue) (done : List Statement) → length (with_all genes done) ≡ length genes
length-with_all genes [] = refl
length-with_all genes (s ∷ more) = length-with_all (with_stated genes (stated_of s.words)) more ∙ length-with_stated genes (stated_of s.words)

-- a genotype that is read for n variables has n genes
pub read_len : (n : ℕ) (ls : List (List ℕ)) (found : Result (List GeneValue) ReadFault) → Reads Genotype (genotype_rules n) as_seen (genes_of n) ls found → IfOk found (λ g. length g ≡ n)
read_len n ls (Ok x) r = ap length r.1 ∙ length-with_all (natural n) (without_header (statements (genotype_rules n) ls)) ∙ length-replicate n plain_gene
read_len n ls (Err (faults.Refused fault)) r = tt
read_len n ls (Err faults.NoMemory) r = tt

stated_ranked : (n least : ℕ) (stated : Option Stated) → IsRanked (rank NoHeader) (stated_tests n least stated)
stated_ranked n least None = ranked (rank NoHeader) (stated_tests n least None) refl
stated_ranked n least (Some s) = ranked (rank NoHeader) (stated_tests n least (Some s)) refl

pub in_order : (n : ℕ) → AreInOrder (genotype_rules n)
in_order n = in_order_headed is_header (later n) end_tests (λ header before ws. stated_ranked n (least_from 0 before) (stated_of ws)) (λ header before. tt)
