use Rattle.std.proofs.Common.{ℕ, ◌≡◌, ◌+◌, ◌<◌, ◌++◌, ◌∙◌, arith, ap, sym, take, get_or, length}
use Rattle.std.specs.List.{enumerate_from, flat_map}
use Rattle.std.proofs.lemmas.List.{take_more, take_all}
use Rattle.std.proofs.lemmas.List.FromFn.{length-enumerate_from, get_or-enumerate_from}
use Rattle.spelled_lines.specs.Lines.{spelled}
use Rattle.spec_make.specs.Streams.{stream_of}
use Rattle.spec_make.specs.Mesh.{ends}
use Rattle.spec_make.specs.Made.{link_lines}
use Rattle.spec_make.proofs.Drawing.{written_none, written_next, written_all, drawn_singly}
use Rattle.spec_make.proofs.parts.put_numbered.Goals as goal

pub loop-e-init : goal.loop-e-init
loop-e-init g c = written_none g.W.Words.gives g.W.Words.after 1 link_lines c.args.words.now c.args.text.now.items

pub loop-e-preserved : goal.loop-e-preserved
loop-e-preserved g c =
    let items = c.args.all.now in
    let e = c.loop-e.e in
    let numbered = enumerate_from 0 items in
    let inside : e < length numbered = omega (arith, length-enumerate_from 0 items) in
    let zero_more : e ≡ 0 + e = omega arith in
    let is = get_or-enumerate_from 0 items e (0, ends 0 0) c.loop-e-test.true in
    let put : c.put_link_of.new.text.items ≡ c.loop-e.text.items ++ flat_map spelled (link_lines (stream_of g.W.Words.gives g.W.Words.after c.loop-e.words) (e, get_or items e (ends 0 0))) =
    c.in_ok-put_link_of.ensures.text in
    let item : (e, get_or items e (ends 0 0)) ≡ get_or numbered e (0, ends 0 0) = ap (λ (n : ℕ). (n, get_or items e (ends 0 0))) zero_more ∙ sym is in
    written_all g.W.Words.gives g.W.Words.after 1 link_lines c.args.words.now c.args.text.now.items _ (take (e + 1) numbered) c.put_link_of.new.text.items c.put_link_of.new.words
    (sym (take_more numbered e (0, ends 0 0) inside))
    (written_next g.W.Words.gives g.W.Words.after 1 link_lines c.args.words.now c.args.text.now.items (take e numbered) (get_or numbered e (0, ends 0 0)) c.loop-e.text.items
    c.put_link_of.new.text.items c.loop-e.words c.put_link_of.new.words c.loop-e.invariant (put ∙ ap
    (λ x. c.loop-e.text.items ++ flat_map spelled (link_lines (stream_of g.W.Words.gives g.W.Words.after c.loop-e.words) x)) item) c.in_ok-put_link_of.ensures.words)

pub returns : goal.returns
returns g c =
    let numbered = enumerate_from 0 c.args.all.now in
    let all = take_all c.loop-e.e numbered (omega (arith, length-enumerate_from 0 c.args.all.now)) in
    let so = written_all g.W.Words.gives g.W.Words.after 1 link_lines c.args.words.now c.args.text.now.items (take c.loop-e.e numbered) numbered c.loop-e.text.items c.loop-e.words all
    c.loop-e.invariant in record {
      text = so.put;
      words = drawn_singly g.W.Words.after (length numbered) (length c.args.all.now) c.args.words.now c.loop-e.words (length-enumerate_from 0 c.args.all.now) so.drawn;
    }
