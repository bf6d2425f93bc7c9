use Rattle.std.proofs.Common.{◌≡◌, true, false, List, ℕ, ap, sym, ◌∙◌, arith}
use Rattle.arch_reader.specs.Tests.{has_key, column_key}
use Rattle.spec_join.proofs.Keys.{IsOther, column_found, column_missing}
use Rattle.spec_join.proofs.Lowest.{all_more}
use Rattle.std.specs.Str.{bytes_eq}
use Rattle.spec_join.proofs.table_faults.column_of.Goals as goal

pub returns-then-eq : goal.returns-then-eq
returns-then-eq c =
    let said : bytes_eq c.list.result.now c.args.key.now ≡ true = sym c.eq.ensures ∙ c.if-eq.true in
    let has : has_key column_key c.args.key.now c.word-item.result ≡ true = ap (λ (k : List ℕ). bytes_eq k c.args.key.now) (sym c.list.ensures) ∙ said in
    column_found c.args.keys.now c.args.key.now c.loop-word.word-index c.word-item.result (omega arith) c.word-item.is has c.loop-word.invariant

pub loop-word-preserved : goal.loop-word-preserved
loop-word-preserved c =
    let said : bytes_eq c.list.result.now c.args.key.now ≡ false = sym c.eq.ensures ∙ c.if-eq.false in
    let has : has_key column_key c.args.key.now c.word-item.result ≡ false = ap (λ (k : List ℕ). bytes_eq k c.args.key.now) (sym c.list.ensures) ∙ said in
    all_more (IsOther c.args.key.now) c.args.keys.now c.loop-word.word-index c.word-item.result (omega arith) c.word-item.is has c.loop-word.invariant

pub returns : goal.returns
returns c = column_missing c.args.keys.now c.args.key.now c.loop-word.word-index (omega arith) c.loop-word.invariant
