use Rattle.std.proofs.Common.{◌≡◌, ◌<◌, ◌∙◌, ◌+◌, ◌++◌, ◌∷◌, List, Option, Some, None, ap, arith, drop, get_or, length, subst, sym, take}
use Rattle.std.proofs.lemmas.List.{get_or_read, drop_more, length-set}
use Rattle.constraint_store.specs.declared.spans.Span.{Span}
use Rattle.constraint_store.specs.Live.{Live}
use Rattle.constraint_store.specs.Spans.{live_from, Follow}
use Rattle.constraint_store.proofs.LiveSpans.{empty_span}
use Rattle.constraint_store.proofs.Parts.{follow_le, read_within, closed_live, close_more, close_past, close_front, close_rest}
use Rattle.constraint_store.proofs.spans.close_up.Goals.{in-Some, in_default}
use Rattle.constraint_store.proofs.spans.close_up.Goals as goal

pub move_down-requires-clause-within : goal.move_down-requires-clause-within
move_down-requires-clause-within c =
    let l = c.loop-place in
    let r = read_within l.end (length l.terms.items) l.spans.items l.place c.index.result.now c.in-Some.span (omega (arith, l.invariant.as_many)) c.index.ensures c.in-Some.is l.invariant.rest in
    follow_le (c.in-Some.span.start + c.in-Some.span.count) (length l.terms.items) (drop (l.place + 1) l.spans.items) r.1

pub overflow_add-end : goal.overflow_add-end
overflow_add-end c =
    let l = c.loop-place in
    let r = read_within l.end (length l.terms.items) l.spans.items l.place c.index.result.now c.in-Some.span (omega (arith, l.invariant.as_many)) c.index.ensures c.in-Some.is l.invariant.rest in
    omega (arith, r.0, follow_le (c.in-Some.span.start + c.in-Some.span.count) (length l.terms.items) (drop (l.place + 1) l.spans.items) r.1)

pub loop-place-preserved : goal.loop-place-preserved
loop-place-preserved c =
    let l = c.loop-place in
    let ts = l.terms.items in
    let ss = l.spans.items in
    let h : l.place < length ss = omega (arith, l.invariant.as_many) in
    elim c.match-index.branch [
      | in-Some w ↦ (
          let s = w.in-Some.span in
          let m = w.move_down.ensures in
          let here : get_or ss l.place empty_span ≡ Some s = sym (get_or_read ss l.place c.index.result.now h c.index.ensures empty_span) ∙ w.in-Some.is in
          let r = read_within l.end (length ts) ss l.place c.index.result.now s h c.index.ensures w.in-Some.is l.invariant.rest in
          rw (w.terms-is, w.spans-is, w.used-is, w.end-is) (record {
            live = close_more c.args.terms.now.items ts w.move_down.new.terms.items c.args.spans.now.items ss l.used l.place l.end s w.move_down.result h l.invariant.within here m.start m.count
                m.degree m.proof_id m.moved m.below m.behind l.invariant.front l.invariant.rest l.invariant.live;
            front = close_front ss l.used l.end s.count w.move_down.result (omega (arith, l.invariant.within)) m.start m.count l.invariant.front;
            rest = close_rest ss l.used l.place l.end (length ts) (length w.move_down.new.terms.items) s w.move_down.result l.invariant.within r.0 (sym m.as_long) r.1;
            within = omega (arith, l.invariant.within);
            as_many = length-set ss l.used (Some w.move_down.result) ∙ l.invariant.as_many;
          })
          )
      | in_default w ↦ (
          let here : get_or ss l.place empty_span ≡ None = sym (get_or_read ss l.place c.index.result.now h c.index.ensures empty_span) ∙ w.in_default.is in
          let shape : drop l.place ss ≡ None ∷ drop (l.place + 1) ss = drop_more ss l.place empty_span h ∙ ap (λ (o : Option Span). o ∷ drop (l.place + 1) ss) here in
          rw (w.terms-is, w.spans-is, w.used-is, w.end-is) (record {
            live = ap (λ (xs : List Live). live_from ts 0 (take l.used ss) ++ xs) (close_past ts ss l.used l.place h here) ∙ l.invariant.live;
            front = l.invariant.front;
            rest = subst (Follow l.end (length ts)) shape l.invariant.rest;
            within = omega (arith, l.invariant.within);
            as_many = l.invariant.as_many;
          })
          )
    ]

pub returns-clause-live : goal.returns-clause-live
returns-clause-live c =
    let l = c.loop-place in
    closed_live c.args.terms.now.items l.terms.items c.truncate-2.new.self.items c.args.spans.now.items l.spans.items c.truncate.new.self.items l.used l.place l.end
    (omega (arith, l.invariant.as_many)) l.invariant.front l.invariant.live c.truncate-2.ensures.items c.truncate.ensures.items
