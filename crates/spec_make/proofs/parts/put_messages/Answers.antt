use Rattle.std.proofs.Common.{◌≡◌, ◌+◌, ◌-◌, ◌∷◌, [], ◌∙◌, arith, ap, sym, length, subst}
use Rattle.std.specs.List.{filter, range_with_len}
use Rattle.std.proofs.lemmas.List.Elements.{filter-append}
use Rattle.spec_make.specs.Mesh.{tasks_of, has_message, messages_of}
use Rattle.spec_make.specs.Made.{message_lines}
use Rattle.spec_make.proofs.Drawing.{Written, written_none, written_more, written_all, drawn_singly, singly_drawn, range_more}
use Rattle.spec_make.proofs.parts.put_messages.Goals as goal

pub loop-i-init : goal.loop-i-init
loop-i-init g c = record {
  from = omega arith;
  so_far = written_none g.W.Words.gives g.W.Words.after 1 (message_lines c.tasks_of-tasks.result) c.args.words.now c.args.text.now.items;
}

pub loop-i-preserved : goal.loop-i-preserved
loop-i-preserved g c =
    let i = c.loop-i.i in
    let lines = message_lines c.tasks_of-tasks.result in
    let so_far = filter has_message (range_with_len 1 (i - 1)) in
    let back : i - 1 + 1 ≡ i + 1 - 1 = omega (arith, c.loop-i.invariant.from) in
    let last : 1 + (i - 1) ≡ i = omega (arith, c.loop-i.invariant.from) in
    let more = ap (filter has_message) (sym (ap (range_with_len 1) (sym back) ∙ range_more 1 (i - 1) i last)) in record {
      from = omega arith;
      so_far = written_all g.W.Words.gives g.W.Words.after 1 lines c.args.words.now c.args.text.now.items _ (filter has_message (range_with_len 1 (i + 1 - 1))) c.put_message_of.new.text.items
          c.put_message_of.new.words (sym (filter-append has_message (range_with_len 1 (i - 1)) (i ∷ [])) ∙ more)
          (written_more g.W.Words.gives g.W.Words.after 1 lines c.args.words.now c.args.text.now.items so_far (filter has_message (i ∷ [])) c.loop-i.text.items c.put_message_of.new.text.items
          c.loop-i.words c.put_message_of.new.words c.loop-i.invariant.so_far c.in_ok-put_message_of.ensures.text
          (singly_drawn g.W.Words.after (length (filter has_message (i ∷ []))) c.loop-i.words c.put_message_of.new.words c.in_ok-put_message_of.ensures.words));
    }

pub returns : goal.returns
returns g c =
    let tasks = tasks_of c.args.side in
    let all : c.loop-i.i ≡ tasks = omega (arith, c.tasks_of-tasks.ensures.value, c.tasks_of-tasks.ensures.some, c.loop-i.auto.i-end) in
    let same = ap (λ n. filter has_message (range_with_len 1 (n - 1))) all in
    let so = written_all g.W.Words.gives g.W.Words.after 1 (message_lines tasks) c.args.words.now c.args.text.now.items (filter has_message (range_with_len 1 (c.loop-i.i - 1))) (messages_of tasks)
    c.loop-i.text.items c.loop-i.words same
    (subst (λ n. Written g.W.Words.gives g.W.Words.after 1 (message_lines n) c.args.words.now c.args.text.now.items (filter has_message (range_with_len 1 (c.loop-i.i - 1))) c.loop-i.text.items
    c.loop-i.words) c.tasks_of-tasks.ensures.value c.loop-i.invariant.so_far) in record {
      text = so.put;
      words = drawn_singly g.W.Words.after (length (messages_of tasks)) (length (messages_of tasks)) c.args.words.now c.loop-i.words (omega arith) so.drawn;
    }
