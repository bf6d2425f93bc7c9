use Rattle.std.proofs.Common.{ℕ, List, [], Bor}
use Rattle.arch_reader.specs.Numbers.{key_column, column_misread}
use Rattle.arch_reader.proofs.Misreading.{items_more, misread_more}
use Rattle.arch_reader.proofs.numbers.read_columns.Goals as goal

pub loop-word-preserved : goal.loop-word-preserved
loop-word-preserved c =
    let d : Bor (List ℕ) = record { ref_ptr = (0, 0); now = [] } in
    record {
      items = items_more (key_column c.args.mark) c.args.words.now c.loop-word.word-index d c.loop-word-test.true c.loop-word.items.items c.push.new.self.items c.in_ok-one.one.0
          c.loop-word.invariant.items c.in_ok-push.ensures.items c.in_ok-one.ensures.item;
      misread = misread_more (column_misread c.args.mark) c.args.words.now c.loop-word.word-index d c.loop-word-test.true c.loop-word.misread c.or-misread.result c.in_ok-one.one.1
          c.loop-word.invariant.misread c.or-misread.ensures c.in_ok-one.ensures.misread;
    }
