-- What is written reads as the genotype.
use Rattle.std.proofs.Common.{◌≡◌, ℕ, suc, ◌+◌, ◌^◌, ◌<◌, ◌≤◌, ◌⊎◌, Bool, true, false, not, eqb, ltb, List, [], ◌∷◌, ◌++◌, length, Option, Some, None, Result, Ok, Err, refl, sym, ap, subst, ◌∙◌, arith, inl, inr, All, append_assoc, length-append}
use Rattle.std.specs.Prelude.{decimal, codes, replicate, slice_set}
use Rattle.std.proofs.lemmas.Bool.{cases_Bool, lt-leb, le-ltb, eqb-true, and_parts}
use Rattle.std.proofs.lemmas.Fmt.{decimal_nonempty, length-decimal-le}
use Rattle.std.proofs.Math.Seq.{set-append_seam}
use Rattle.line_words.specs.Text.{lines, words_from}
use Rattle.line_words.specs.Rules.{Words, Statement, Test, first_broken, texts, HasNoFault, statements}
use Rattle.line_words.specs.Numbers.{whole_of}
use Rattle.line_words.specs.Run.{run, Reading}
use Rattle.line_words.specs.Reads.{Reads}
use Rattle.line_words.specs.declared.refusals.FileTag.TheVariants.{Genotype}
use Rattle.line_words.specs.declared.refusals.ReadFault.{ReadFault}
use Rattle.line_words.specs.declared.refusals.ReadFault.TheVariants as faults
use Rattle.line_words.proofs.FirstLine.{lines-nil}
use Rattle.line_words.proofs.Least.{Outcome, run-nil, run_is}
use Rattle.file_bricks.specs.Headed.{after_header, end_after_header}
use Rattle.file_bricks.proofs.Written.{IsWritten, IsLine, States, letter, word_line, line_parts, first_word, last_word, lines_line, line_states, goes_on, decimal_word, whole_of-decimal}
use Rattle.spec_model.specs.Genotypes.{GeneValue, plain_gene, natural}
use Rattle.genotype.specs.Genes.{HasPriority}
use Rattle.genotype.specs.Spelling.{is_plain, phase_digit, gene_line, genes_text, genotype_text}
use Rattle.genotype.specs.Statements.{is_header, stated_of, gene_tests, stated_tests, later, end_tests, genotype_rules, genes_of, as_seen, with_all, with_stated, least_from, least_after}
use Rattle.genotype.specs.declared.stated.Stated.{Stated}
use Rattle.genotype.proofs.Going.{in_order, least_from-push, with_all-push}

-- the number of a phase
abbrev bit : Bool → ℕ
bit true = 1
bit false = 0

whole_of-bit : (phase : Bool) → whole_of (phase_digit phase ∷ []) ≡ Ok (bit phase)
unfolding whole_of
whole_of-bit true = refl
whole_of-bit false = refl

bit_word : (phase : Bool) → IsWritten (phase_digit phase ∷ [])
bit_word true = (record { low = omega arith; high = omega arith; other = λ e. absurd (omega (arith, e)) }, tt)
bit_word false = (record { low = omega arith; high = omega arith; other = λ e. absurd (omega (arith, e)) }, tt)

-- ---- the line of a gene

abbrev gene_words : ℕ → GeneValue → Words
gene_words v g = codes "gene" ∷ decimal v ∷ decimal g.priority ∷ (phase_digit g.phase ∷ []) ∷ []

abbrev gene_body : ℕ → GeneValue → List ℕ
gene_body v g = codes "gene" ++ 32 ∷ (decimal v ++ 32 ∷ (decimal g.priority ++ 32 ∷ (phase_digit g.phase ∷ [])))

gene_word : IsWritten (codes "gene")
gene_word = (
  letter 103 (omega arith) (omega arith) (omega arith),
  (
    letter 101 (omega arith) (omega arith) (omega arith),
    (letter 110 (omega arith) (omega arith) (omega arith), (letter 101 (omega arith) (omega arith) (omega arith), tt)),
  ),
)

body_line : (v : ℕ) (g : GeneValue) → v < 2 ^ 63 → g.priority < 2 ^ 32 → IsLine (gene_body v g)
body_line v g lt small =
    let last = phase_digit g.phase ∷ [] in
    let p = decimal g.priority in
    line_parts (codes "gene") (decimal v ++ 32 ∷ (p ++ 32 ∷ last)) gene_word
    (line_parts (decimal v) (p ++ 32 ∷ last) (decimal_word v (omega (arith, lt))) (line_parts p last (decimal_word g.priority (omega (arith, small))) (word_line last (bit_word g.phase))))

body_short : (v : ℕ) (g : GeneValue) → v < 2 ^ 63 → g.priority < 2 ^ 32 → length (gene_body v g) ≤ 65536
body_short v g lt small =
    let a = length-decimal-le 20 v (omega arith) (omega (arith, lt)) (omega (arith, lt)) in
    let b = length-decimal-le 20 g.priority (omega arith) (omega (arith, small)) (omega (arith, small)) in
    omega (arith, a, b, length-append (decimal v) (32 ∷ (decimal g.priority ++ 32 ∷ (phase_digit g.phase ∷ []))), length-append (decimal g.priority) (32 ∷ (phase_digit g.phase ∷ [])))

body_words : (v : ℕ) (g : GeneValue) → v < 2 ^ 63 → g.priority < 2 ^ 32 → texts (words_from 0 (gene_body v g)) ≡ gene_words v g
body_words v g lt small =
    let last = phase_digit g.phase ∷ [] in
    let p = decimal g.priority in
    first_word (codes "gene") (decimal v ++ 32 ∷ (p ++ 32 ∷ last)) 0 (omega arith) gene_word
    ∙ ap (λ (ws : Words). codes "gene" ∷ ws) (first_word (decimal v) (p ++ 32 ∷ last) _ (decimal_nonempty v (omega (arith, lt))) (decimal_word v (omega (arith, lt))))
    ∙ ap (λ (ws : Words). codes "gene" ∷ decimal v ∷ ws) (first_word p last _ (decimal_nonempty g.priority (omega (arith, small))) (decimal_word g.priority (omega (arith, small))))
    ∙ ap (λ (ws : Words). codes "gene" ∷ decimal v ∷ p ∷ ws) (last_word last _ (omega arith) (bit_word g.phase))

gene_states : (v : ℕ) (g : GeneValue) → v < 2 ^ 63 → g.priority < 2 ^ 32 → States (gene_body v g) (gene_words v g)
gene_states v g lt small = line_states (gene_body v g) (codes "gene") _ (body_line v g lt small) (body_short v g lt small) (body_words v g lt small)

line_body : (v : ℕ) (g : GeneValue) (rest : List ℕ) → gene_line v g ++ rest ≡ gene_body v g ++ 10 ∷ rest
line_body v g rest = simp append_assoc

abbrev numbers_of : ℕ → GeneValue → Stated
numbers_of v g = record { variable = Ok v; priority = Ok g.priority; phase = Ok (bit g.phase) }

stated_gene : (v : ℕ) (g : GeneValue) → v < 2 ^ 63 → g.priority < 2 ^ 32 → stated_of (gene_words v g) ≡ Some (numbers_of v g)
stated_gene v g lt small = rw (whole_of-decimal v lt, whole_of-decimal g.priority (omega (arith, small)), whole_of-bit g.phase) refl

is_one : (phase : Bool) → ltb 1 (bit phase) ≡ false
is_one true = refl
is_one false = refl

gene_fine : (n least v : ℕ) (g : GeneValue) → v < n → least ≤ v → g.priority < 2 ^ 32 → first_broken (gene_tests n least (numbers_of v g)) ≡ None
gene_fine n least v g lt from small = rw (is_one g.phase, lt-leb n v lt, lt-leb (2 ^ 32) g.priority small, le-ltb v least from) refl

abbrev made : ℕ → Bool → GeneValue
made priority phase = record { priority = priority; phase = phase }

gene_back : (priority : ℕ) (phase : Bool) → made priority (eqb (bit phase) 1) ≡ made priority phase
gene_back priority true = refl
gene_back priority false = refl

plain_is : (g : GeneValue) → is_plain g ≡ true → g ≡ plain_gene
plain_is g h =
    let parts = and_parts (eqb g.priority 0) (not g.phase) h in
    plain_parts g.priority g.phase (eqb-true g.priority 0 parts.0) parts.1
  where
    plain_parts : (priority : ℕ) (phase : Bool) → priority ≡ 0 → not phase ≡ true → made priority phase ≡ plain_gene
    plain_parts priority true e f = absurd cc
    plain_parts priority false e f = ap (λ (p : ℕ). made p false) e

-- ---- all lines

abbrev statement : ℕ → List Statement → Words → List Test
statement n = after_header is_header (later n)

abbrev end : List Statement → List Test
end = end_after_header end_tests

-- reading gives statements that state these genes
pub record Gives (n : ℕ) (reading : Reading) (genes : List GeneValue) : Type 0 where
  pub all : List Statement
  pub is : reading ≡ Ok all
  pub value : genes_of n all ≡ genes

genes_read : (n : ℕ) (rest front : List GeneValue) (number v : ℕ) (head : Statement) (done : List Statement)
    → length front ≡ v → v + length rest ≡ n → n < 2 ^ 63 → All HasPriority rest → least_from 0 done ≤ v → with_all (natural n) done ≡ front ++ replicate (length rest) plain_gene
    → Gives n (run (genotype_rules n) number (head ∷ done) (lines (genes_text v rest))) (front ++ rest)
genes_read n [] front number v head done len total few small least so_far = record {
  all = head ∷ done;
  is = ap (run (genotype_rules n) number (head ∷ done)) lines-nil ∙ run-nil (genotype_rules n) number (head ∷ done);
  value = so_far;
}
genes_read n (g ∷ rest) front number v head done len total few small least so_far =
    let here : g.priority < 2 ^ 32 = small 0 g (omega arith) in
    let others : All HasPriority rest = λ k d lt. small (suc k) d (omega (arith, lt)) in
    let tail = replicate (length rest) plain_gene in
    let longer : length (front ++ g ∷ []) ≡ v + 1 = omega (arith, length-append front (g ∷ []), len) in
    let count : v + 1 + length rest ≡ n = omega (arith, total) in
    let below_n : v < n = omega (arith, total) in
    let small_v : v < 2 ^ 63 = omega (arith, below_n, few) in
    elim (cases_Bool (is_plain g)) [
      | inl plain ↦
          let text : genes_text v (g ∷ rest) ≡ genes_text (v + 1) rest = rw plain refl in
          let seen : with_all (natural n) done ≡ (front ++ g ∷ []) ++ tail = so_far ∙ ap (λ (x : GeneValue). front ++ x ∷ tail) (sym (plain_is g plain)) ∙ sym (append_assoc front (g ∷ []) tail) in
          let more = genes_read n rest (front ++ g ∷ []) number (v + 1) head done longer count few others (omega (arith, least)) seen in
          record {
            all = more.all;
            is = ap (λ (t : List ℕ). run (genotype_rules n) number (head ∷ done) (lines t)) text ∙ more.is;
            value = more.value ∙ append_assoc front (g ∷ []) rest;
          }
      | inr written ↦
          let s : Statement = record { number = number; words = gene_words v g } in
          let numbers = stated_gene v g small_v here in
          let text : genes_text v (g ∷ rest) ≡ gene_body v g ++ 10 ∷ genes_text (v + 1) rest = rw written (line_body v g (genes_text (v + 1) rest)) in
          let fine : first_broken (statement n (head ∷ done) (gene_words v g)) ≡ None = ap (λ (stated : Option Stated). first_broken (stated_tests n (least_from 0 done) stated)) numbers
          ∙ gene_fine n (least_from 0 done) v g below_n least here in
          let next_least : least_from 0 (done ++ s ∷ []) ≡ v + 1 = least_from-push 0 done s ∙ ap (least_after (least_from 0 done)) numbers in
          let set_here : with_stated (front ++ plain_gene ∷ tail) (Some (numbers_of v g)) ≡ front ++ g ∷ tail =
          ap (λ (x : GeneValue). slice_set (front ++ plain_gene ∷ tail) v x) (gene_back g.priority g.phase) ∙ ap (λ (k : ℕ). slice_set (front ++ plain_gene ∷ tail) k g) (sym len)
          ∙ set-append_seam front plain_gene tail g in
          let seen : with_all (natural n) (done ++ s ∷ []) ≡ (front ++ g ∷ []) ++ tail =
          with_all-push (natural n) done s ∙ ap (with_stated (with_all (natural n) done)) numbers ∙ ap (λ (genes : List GeneValue). with_stated genes (Some (numbers_of v g))) so_far ∙ set_here
          ∙ sym (append_assoc front (g ∷ []) tail) in
          let more = genes_read n rest (front ++ g ∷ []) (number + 1) (v + 1) head (done ++ s ∷ []) longer count few others (omega (arith, next_least)) seen in
          record {
            all = more.all;
            is = ap (λ (t : List ℕ). run (genotype_rules n) number (head ∷ done) (lines t)) text
                ∙ ap (run (genotype_rules n) number (head ∷ done)) (lines_line (gene_body v g) (genes_text (v + 1) rest) (body_line v g small_v here))
                ∙ goes_on (statement n) end number (head ∷ done) (gene_body v g) (lines (genes_text (v + 1) rest)) (gene_words v g) (gene_states v g small_v here) fine ∙ more.is;
            value = more.value ∙ append_assoc front (g ∷ []) rest;
          }
    ]

header_word : IsWritten (codes "genotype")
header_word = (
  letter 103 (omega arith) (omega arith) (omega arith),
  (
    letter 101 (omega arith) (omega arith) (omega arith),
    (
      letter 110 (omega arith) (omega arith) (omega arith),
      (
        letter 111 (omega arith) (omega arith) (omega arith),
        (
          letter 116 (omega arith) (omega arith) (omega arith),
          (
            letter 121 (omega arith) (omega arith) (omega arith),
            (letter 112 (omega arith) (omega arith) (omega arith), (letter 101 (omega arith) (omega arith) (omega arith), tt)),
          ),
        ),
      ),
    ),
  ),
)

text_read : (genes : List GeneValue) → length genes < 2 ^ 63 → All HasPriority genes → Gives (length genes) (run (genotype_rules (length genes)) 1 [] (lines (genotype_text genes))) genes
text_read genes few small =
    let n = length genes in
    let body = codes "genotype" ++ 32 ∷ codes "1" in
    let ws : Words = codes "genotype" ∷ codes "1" ∷ [] in
    let one : IsWritten (codes "1") = (letter 49 (omega arith) (omega arith) (omega arith), tt) in
    let line = line_parts (codes "genotype") (codes "1") header_word (word_line (codes "1") one) in
    let words_are : texts (words_from 0 body) ≡ ws = first_word (codes "genotype") (codes "1") 0 (omega arith) header_word
    ∙ ap (λ (w : Words). codes "genotype" ∷ w) (last_word (codes "1") _ (omega arith) one) in
    let states = line_states body (codes "genotype") (codes "1" ∷ []) line (omega arith) words_are in
    let head : Statement = record { number = 1; words = ws } in
    let start : with_all (natural n) [] ≡ [] ++ replicate (length genes) plain_gene = refl in
    let more = genes_read n genes [] 2 0 head [] refl (omega arith) few small (omega arith) start in
    record {
      all = more.all;
      is = ap (run (genotype_rules n) 1 []) (lines_line body (genes_text 0 genes) line) ∙ goes_on (statement n) end 1 [] body (lines (genes_text 0 genes)) ws states refl ∙ more.is;
      value = more.value;
    }

pub text_fine : (genes : List GeneValue) → length genes < 2 ^ 63 → All HasPriority genes → HasNoFault (genotype_rules (length genes)) (lines (genotype_text genes))
text_fine genes few small =
    let rules = genotype_rules (length genes) in
    let read = text_read genes few small in
    (subst (Outcome rules (lines (genotype_text genes))) read.is (run_is rules (lines (genotype_text genes)) (in_order (length genes)))).1

pub text_stated : (genes : List GeneValue) → length genes < 2 ^ 63 → All HasPriority genes → genes_of (length genes) (statements (genotype_rules (length genes)) (lines (genotype_text genes))) ≡ genes
text_stated genes few small =
    let rules = genotype_rules (length genes) in
    let read = text_read genes few small in
    let out = subst (Outcome rules (lines (genotype_text genes))) read.is (run_is rules (lines (genotype_text genes)) (in_order (length genes))) in
    ap (genes_of (length genes)) (sym out.0) ∙ read.value

-- what a reader of the text answers
abbrev pub Found : Type 0
Found = Result (List GeneValue) ReadFault

abbrev ok : List GeneValue → Found
ok genes = Ok genes

pub text_back : (genes : List GeneValue) (found : Found) → length genes < 2 ^ 63 → All HasPriority genes
    → Reads Genotype (genotype_rules (length genes)) as_seen (genes_of (length genes)) (lines (genotype_text genes)) found → (found ≡ Ok genes) ⊎ (found ≡ Err faults.NoMemory)
text_back genes (Ok x) few small r = inl (ap ok (r.1 ∙ text_stated genes few small))
text_back genes (Err (faults.Refused fault)) few small r = absurd (text_fine genes few small fault.line fault.why r.1.holds)
text_back genes (Err faults.NoMemory) few small r = inr refl
