use Rattle.std.proofs.Common.{◌≡◌, ◌+◌, arith, ap, sym, length}
use Rattle.std.proofs.lemmas.List.FromFn.{length-range_with_len}
use Rattle.spec_model.specs.Spec.{below}
use Rattle.spec_model.proofs.Those.{below_more}
use Rattle.spec_make.specs.Mesh.{resources_of}
use Rattle.spec_make.specs.Made.{resource_lines}
use Rattle.spec_make.proofs.Drawing.{written_none, written_next, written_all, drawn_singly}
use Rattle.spec_make.proofs.parts.put_resources.Goals as goal

pub loop-i-init : goal.loop-i-init
loop-i-init g c = written_none g.W.Words.gives g.W.Words.after 1 resource_lines c.args.words.now c.args.text.now.items

pub loop-i-preserved : goal.loop-i-preserved
loop-i-preserved g c =
    let i = c.loop-i.i in
    written_all g.W.Words.gives g.W.Words.after 1 resource_lines c.args.words.now c.args.text.now.items _ (below (i + 1)) c.put_resource_of.new.text.items c.put_resource_of.new.words
    (sym (below_more i))
    (written_next g.W.Words.gives g.W.Words.after 1 resource_lines c.args.words.now c.args.text.now.items (below i) i c.loop-i.text.items c.put_resource_of.new.text.items c.loop-i.words
    c.put_resource_of.new.words c.loop-i.invariant c.in_ok-put_resource_of.ensures.text c.in_ok-put_resource_of.ensures.words)

pub returns : goal.returns
returns g c =
    let all : c.loop-i.i ≡ resources_of c.args.side = omega (arith, c.resources_of-i-end.ensures.value) in
    let so = written_all g.W.Words.gives g.W.Words.after 1 resource_lines c.args.words.now c.args.text.now.items (below c.loop-i.i) (below (resources_of c.args.side)) c.loop-i.text.items
    c.loop-i.words (ap below all) c.loop-i.invariant in record {
      text = so.put;
      words =
          drawn_singly g.W.Words.after (length (below (resources_of c.args.side))) (resources_of c.args.side) c.args.words.now c.loop-i.words (length-range_with_len 0 (resources_of c.args.side))
          so.drawn;
    }
