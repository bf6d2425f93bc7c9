use Rattle.std.proofs.Common.{arith, sym, subst}
use Rattle.line_words.specs.declared.refusals.ReadFault.{ReadFault}
use Rattle.spec_join.specs.Stops.{IsRefused}
use Rattle.spec_join.proofs.Fitting.{fits_at}
use Rattle.spec_join.proofs.Breaking.{after_more, none_more, stopped}
use Rattle.spec_join.proofs.joining.carry_all.Goals as goal

pub carry_out-requires : goal.carry_out-requires
carry_out-requires c = fits_at c.args.tgff.now c.args.lines.now c.loop-line.line-index c.line-item.result c.loop-line.joiner c.requires (omega arith) c.line-item.is c.loop-line.invariant.made

pub returns-in-Err-clause-refused : goal.returns-in-Err-clause-refused
returns-in-Err-clause-refused c =
    subst (λ (f : ReadFault). IsRefused c.args.tgff.now c.args.lines.now f) (sym c.at_line.ensures)
    (stopped c.args.tgff.now c.args.lines.now c.loop-line.line-index c.line-item.result c.loop-line.joiner c.in-Err.stop (omega arith) c.line-item.is c.loop-line.invariant.made
    c.loop-line.invariant.none c.in-Err.ensures.refused)

pub loop-line-preserved : goal.loop-line-preserved
loop-line-preserved c = record {
  made =
      after_more c.args.tgff.now c.args.lines.now c.loop-line.line-index c.line-item.result c.loop-line.joiner c.carry_out.new.self (omega arith) c.line-item.is c.loop-line.invariant.made
      c.in-Ok.ensures.done;
  none =
      none_more c.args.tgff.now c.args.lines.now c.loop-line.line-index c.line-item.result c.loop-line.joiner (omega arith) c.line-item.is c.loop-line.invariant.made c.loop-line.invariant.none
      c.in-Ok.ensures.accepted;
}
