use Rattle.std.proofs.Common.{◌≡◌, ℕ, true, false, ◌∙◌, map, arith, get_or}
use Rattle.std.proofs.lemmas.List.{length-map}
use Rattle.task_order.specs.Order.{is_in}
use Rattle.spec_graph.specs.Lists.{message_number}
use Rattle.spec_graph.specs.declared.numbers.MsgNo.{MsgNo}
use Rattle.spec_graph.proofs.Parts.{marks_done, seeing_message, number_listed, read_mark}
use Rattle.spec_graph.proofs.Walking.{seen_twice}
use Rattle.spec_graph.proofs.listed.marks_of.Goals as goal

pub returns-then-index : goal.returns-then-index
returns-then-index c =
    let d : MsgNo = record { 0 = 0 } in
    let x : ℕ = (get_or c.args.listed.now c.loop-m.m-index d).0 in
    let marked : is_in c.loop-m.marks.items x ≡ true = read_mark c.loop-m.marks.items x c.args.count c.index.result.now (c.requires c.loop-m.m-index d c.loop-m-test.true) c.loop-m.invariant.long
    c.index.ensures ∙ c.if-index.true in
    seen_twice (map message_number c.args.listed.now) c.loop-m.m-index x c.loop-m.marks.items (omega (arith, length-map c.args.listed.now message_number))
    (number_listed c.args.listed.now c.loop-m.m-index d c.loop-m-test.true) marked c.loop-m.invariant.seeing

pub loop-m-preserved : goal.loop-m-preserved
loop-m-preserved c =
    let d : MsgNo = record { 0 = 0 } in
    let x : ℕ = (get_or c.args.listed.now c.loop-m.m-index d).0 in
    let new : is_in c.loop-m.marks.items x ≡ false = read_mark c.loop-m.marks.items x c.args.count c.index.result.now (c.requires c.loop-m.m-index d c.loop-m-test.true) c.loop-m.invariant.long
    c.index.ensures ∙ c.if-index.false in
    record {
      long = c.mark.ensures.long ∙ c.loop-m.invariant.long;
      seeing = seeing_message c.args.listed.now c.loop-m.m-index d c.loop-m.marks.items c.mark.new.marks.items c.loop-m-test.true new c.mark.ensures.marked c.loop-m.invariant.seeing;
    }

pub returns : goal.returns
returns c = marks_done (map message_number c.args.listed.now) c.loop-m.m-index c.loop-m.marks.items (omega (arith, length-map c.args.listed.now message_number)) c.loop-m.invariant.seeing
