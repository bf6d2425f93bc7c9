use Rattle.std.proofs.Common.{◌≡◌, subst, [], Result, List, ℕ}
use Rattle.line_words.specs.Text.{lines}
use Rattle.line_words.specs.Run.{run}
use Rattle.line_words.specs.Reads.{Agrees, Reads}
use Rattle.line_words.specs.Left.{Left}
use Rattle.line_words.specs.declared.refusals.FileTag.TheVariants.{Genotype}
use Rattle.line_words.proofs.Answering.{agrees_reads}
use Rattle.line_words.specs.declared.refusals.ReadFault.{ReadFault}
use Rattle.spec_model.specs.Genotypes.{GeneValue}
use Rattle.genotype.specs.Statements.{genotype_rules, genes_of, as_seen}
use Rattle.genotype.proofs.Going.{in_order, read_len}
use Rattle.genotype.proofs.reading.read_genotype.Goals as goal

-- reading from left to right gives what the file is
read : (n : ℕ) (ls : List (List ℕ)) (start : Left) (found : Result (List GeneValue) ReadFault) → start ≡ record { number = 1; lines = ls }
    → Agrees Genotype as_seen (genes_of n) (run (genotype_rules n) start.number [] start.lines) found → Reads Genotype (genotype_rules n) as_seen (genes_of n) ls found
read n ls start found is agrees =
    agrees_reads Genotype (genotype_rules n) as_seen (genes_of n) ls found (in_order n)
    (subst (λ (l : Left). Agrees Genotype as_seen (genes_of n) (run (genotype_rules n) l.number [] l.lines) found) is agrees)

pub returns-clause-reads : goal.returns-clause-reads
returns-clause-reads c = read c.args.n (lines c.args.bytes.now) c.new.result c.read_all.result c.new.ensures c.read_all.ensures

pub returns-clause-len : goal.returns-clause-len
returns-clause-len c = read_len c.args.n (lines c.args.bytes.now) c.read_all.result (read c.args.n (lines c.args.bytes.now) c.new.result c.read_all.result c.new.ensures c.read_all.ensures)
