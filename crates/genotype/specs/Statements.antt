-- A genotype file: its statements, what each is refused for, and the genes that they state.
use Rattle.std.specs.Prelude.{ℕ, ◌+◌, ◌^◌, List, [], ◌∷◌, slice_set, Bool, true, false, ◌||◌, nat_lt, nat_le, ◌==◌, if◌then◌else◌, Option, Some, None, Result, Ok, Err, codes}
use Rattle.std.specs.Str.{bytes_eq}
use Rattle.line_words.specs.Numbers.{whole_of}
use Rattle.line_words.specs.Rules.{Words, Rules, Statement, Test, without_header}
use Rattle.line_words.specs.declared.numbers.NumberFault.{NumberFault}
use Rattle.line_words.specs.declared.refusals.Why.TheVariants.{BadStatement, BadNumber, UnknownName, TooBig, NotInOrder}
use Rattle.file_bricks.specs.Words.{is_headed}
use Rattle.file_bricks.specs.Numbers.{is_bad, is_big, read_or}
use Rattle.file_bricks.specs.Headed.{headed_rules}
use Rattle.spec_model.specs.Genotypes.{GeneValue, natural}
use Rattle.genotype.specs.declared.stated.Stated.{Stated}

-- the header is `genotype 1`
abbrev pub is_header : Words → Bool
is_header ws = is_headed (codes "genotype") (codes "1") ws

-- the numbers of a statement `gene V P B`: its variable, its priority and its phase
abbrev pub stated_of : Words → Option Stated
stated_of [] = None
stated_of (k ∷ []) = None
stated_of (k ∷ v ∷ []) = None
stated_of (k ∷ v ∷ p ∷ []) = None
stated_of (k ∷ v ∷ p ∷ b ∷ []) = if bytes_eq k (codes "gene") then Some (record { variable = whole_of v; priority = whole_of p; phase = whole_of b }) else None
stated_of (k ∷ v ∷ p ∷ b ∷ a ∷ more) = None

-- a number that is neither 0 nor 1
abbrev pub is_no_bit : Result ℕ NumberFault → Bool
is_no_bit (Ok b) = nat_lt 1 b
is_no_bit (Err e) = false

-- a number that needs more than 32 bits
abbrev pub is_wide : Result ℕ NumberFault → Bool
is_wide (Ok p) = nat_le (2 ^ 32) p
is_wide (Err e) = false

-- a number that isn't below this one
abbrev pub is_from : ℕ → Result ℕ NumberFault → Bool
is_from n (Ok v) = nat_le n v
is_from n (Err e) = false

-- a number that is below this one
abbrev pub is_below : ℕ → Result ℕ NumberFault → Bool
is_below least (Ok v) = nat_lt v least
is_below least (Err e) = false

-- a place has no number, or the phase's number is neither 0 nor 1
abbrev pub has_bad_number : Stated → Bool
has_bad_number s = is_bad s.variable || is_bad s.priority || is_bad s.phase || is_no_bit s.phase

-- a number passes its bound
abbrev pub has_big_number : Stated → Bool
has_big_number s = is_big s.variable || is_big s.priority || is_big s.phase || is_wide s.priority

-- the rules of a gene's statement, where there are n genes and its variable is to be at least `least`
abbrev pub gene_tests : ℕ → ℕ → Stated → List Test
gene_tests n least s = (BadNumber, has_bad_number s) ∷ (UnknownName, is_from n s.variable) ∷ (TooBig, has_big_number s) ∷ (NotInOrder, is_below least s.variable) ∷ []

-- the rules of a statement of any form
abbrev pub stated_tests : ℕ → ℕ → Option Stated → List Test
stated_tests n least None = (BadStatement, true) ∷ []
stated_tests n least (Some s) = gene_tests n least s

-- the least variable that may follow a statement: the one past its variable
abbrev pub least_after : ℕ → Option Stated → ℕ
least_after least None = least
least_after least (Some s) = read_or 0 s.variable + 1

-- the least variable that may follow statements, where it was `least` before them
abbrev pub least_from : ℕ → List Statement → ℕ
least_from least [] = least
least_from least (s ∷ more) = least_from (least_after least (stated_of s.words)) more

-- genes once a statement has set one
abbrev pub with_stated : List GeneValue → Option Stated → List GeneValue
with_stated genes None = genes
with_stated genes (Some s) = slice_set genes (read_or 0 s.variable) (record { priority = read_or 0 s.priority; phase = read_or 0 s.phase == 1 })

-- genes once statements have set some
abbrev pub with_all : List GeneValue → List Statement → List GeneValue
with_all genes [] = genes
with_all genes (s ∷ more) = with_all (with_stated genes (stated_of s.words)) more

-- the rules of a statement after the header and the statements after it
abbrev pub later : ℕ → Words → List Statement → Words → List Test
later n header before ws = stated_tests n (least_from 0 before) (stated_of ws)

-- the end has no rule of its own
abbrev pub end_tests : Words → List Statement → List Test
end_tests header before = []

-- the rules of a genotype file for n genes
abbrev pub genotype_rules : ℕ → Rules
genotype_rules n = headed_rules is_header (later n) end_tests

-- the genes that the statements of a file say, header included: the natural ones, but for those stated
abbrev pub genes_of : ℕ → List Statement → List GeneValue
genes_of n statements = with_all (natural n) (without_header statements)

-- a genotype as it is seen
abbrev pub as_seen : List GeneValue → List GeneValue
as_seen genes = genes
