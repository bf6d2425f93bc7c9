use Rattle.std.proofs.Common.{arith}
use Rattle.result_text.proofs.FrontPrinting.{entry_more}
use Rattle.result_text.proofs.front_printing.put_entries.Goals as goal

pub loop-i-preserved : goal.loop-i-preserved
loop-i-preserved c =
    entry_more c.args.spec.now c.args.text.now.items c.loop-i.text.items c.put_entry.new.text.items c.args.entries.now c.loop-i.i c.index-entries-i.result c.loop-i.invariant
    c.in_ok-put_entry.ensures c.index-entries-i.is (omega arith)
