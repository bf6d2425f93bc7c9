use Rattle.std.proofs.Common.{arith, refl, sym, subst}
use Rattle.std.specs.Prelude.{All}
use Rattle.pb_constraints.specs.Sets.{IsBelow}
use Rattle.block_encode.specs.Laws.{variables_to}
use Rattle.block_encode.proofs.Adding.{place_more, place_all}
use Rattle.block_encode.proofs.Forms.{block_in_range}
use Rattle.block_encode.proofs.block.Goals as goal

pub loop-j-preserved : goal.loop-j-preserved
loop-j-preserved c =
    place_more c.args.spec.now c.args.cover_no c.loop-j.j _ c.args.v.now c.in_ok-below_number.field-0 c.loop-j.block.items c.push-in-loop-j.new.self.items c.loop-j.invariant
    c.in_ok-below_number.ensures refl c.in_ok-push-2.ensures.items

pub returns-clause-value : goal.returns-clause-value
returns-clause-value c = place_all c.args.spec.now c.args.cover_no c.loop-j.j c.args.v.now c.loop-j.block.items c.loop-j.invariant (omega (arith, c.loop-j-test.false, c.loop-j.auto.j-end))

pub returns-clause-in_range : goal.returns-clause-in_range
returns-clause-in_range c =
    let s = c.args.spec.now in
    let is = place_all s c.args.cover_no c.loop-j.j c.args.v.now c.loop-j.block.items c.loop-j.invariant (omega (arith, c.loop-j-test.false, c.loop-j.auto.j-end)) in
    subst (All (IsBelow (variables_to s c.args.cover_no))) (sym is) (block_in_range s c.args.cover_no c.args.v.now c.requires.from_one c.requires.one_each)
