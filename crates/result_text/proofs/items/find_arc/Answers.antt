use Rattle.std.proofs.Common.{length, sym, ◌∙◌, arith}
use Rattle.std.proofs.lemmas.List.Sums.{position_or_len_is}
use Rattle.spec_model.specs.Spec.{Arc}
use Rattle.result_text.specs.Stating.{is_arc_of}
use Rattle.result_text.proofs.items.find_arc.Goals as goal

abbrev no_arc : Arc
no_arc = record { link = 0; tail = 0; head = 0 }

pub returns-then-is_arc_of : goal.returns-then-is_arc_of
returns-then-is_arc_of c =
    let test = is_arc_of c.args.link.0 c.args.tail.0 c.args.head.0 in (
      sym (position_or_len_is test c.args.spec.now.arcs c.loop-a.a no_arc (omega (arith, c.loop-a-test.true, c.arcs-a-end.ensures.count)) c.loop-a.invariant
          (λ lt. sym c.is_arc_of.ensures ∙ c.if-is_arc_of.true)),
      omega (arith, c.loop-a-test.true, c.arcs-a-end.ensures.count),
    )

pub returns : goal.returns
returns c =
    let test = is_arc_of c.args.link.0 c.args.tail.0 c.args.head.0 in
    let arcs = c.args.spec.now.arcs in
    position_or_len_is test arcs (length arcs) no_arc (omega arith) (λ k lt. c.loop-a.invariant k (omega (arith, lt, c.loop-a-test.false, c.arcs-a-end.ensures.count)))
    (λ lt. absurd (omega (arith, lt)))
