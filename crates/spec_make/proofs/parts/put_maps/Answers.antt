use Rattle.std.proofs.Common.{◌≡◌, ◌+◌, arith, ap, sym}
use Rattle.spec_model.specs.Spec.{below}
use Rattle.spec_model.proofs.Those.{below_more}
use Rattle.spec_make.specs.Mesh.{tasks_of}
use Rattle.spec_make.specs.Made.{map_lines}
use Rattle.spec_make.proofs.Drawing.{written_none, written_next, written_all}
use Rattle.spec_make.proofs.parts.put_maps.Goals as goal

pub loop-t-init : goal.loop-t-init
loop-t-init g c = written_none g.W.Words.gives g.W.Words.after 7 (map_lines c.args.side) c.args.words.now c.args.text.now.items

pub loop-t-preserved : goal.loop-t-preserved
loop-t-preserved g c =
    let t = c.loop-t.t in
    written_all g.W.Words.gives g.W.Words.after 7 (map_lines c.args.side) c.args.words.now c.args.text.now.items _ (below (t + 1)) c.put_maps_of.new.text.items c.put_maps_of.new.words
    (sym (below_more t))
    (written_next g.W.Words.gives g.W.Words.after 7 (map_lines c.args.side) c.args.words.now c.args.text.now.items (below t) t c.loop-t.text.items c.put_maps_of.new.text.items c.loop-t.words
    c.put_maps_of.new.words c.loop-t.invariant c.in_ok-put_maps_of.ensures.text c.in_ok-put_maps_of.ensures.words)

pub returns : goal.returns
returns g c =
    let all : c.loop-t.t ≡ tasks_of c.args.side = omega (arith, c.tasks_of-t-end.ensures.value) in
    (written_all g.W.Words.gives g.W.Words.after 7 (map_lines c.args.side) c.args.words.now c.args.text.now.items (below c.loop-t.t) (below (tasks_of c.args.side)) c.loop-t.text.items
    c.loop-t.words (ap below all) c.loop-t.invariant).put
