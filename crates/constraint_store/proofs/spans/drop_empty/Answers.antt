use Rattle.std.proofs.Common.{◌≡◌, ◌<◌, ◌∙◌, ◌+◌, ◌-◌, ℕ, None, take, length, get_or, sym, ap, arith}
use Rattle.std.proofs.lemmas.List.{get_or_read}
use Rattle.constraint_store.specs.Spans.{live_from}
use Rattle.constraint_store.proofs.LiveSpans.{empty_span, live_from_less}
use Rattle.constraint_store.proofs.Parts.{follow_taken}
use Rattle.constraint_store.proofs.spans.drop_empty.Goals as goal

pub overflow_add-result : goal.overflow_add-result
overflow_add-result c =
    let f = follow_taken c.args.end c.args.spans.now.items c.loop-filled.spans.items c.loop-filled.filled c.index.result.now c.in-Some.span (omega arith) c.loop-filled.invariant.within
    c.loop-filled.invariant.same c.index.ensures c.in-Some.is c.requires in
    omega (arith, f.1)

pub returns-in-Some-clause-follow : goal.returns-in-Some-clause-follow
returns-in-Some-clause-follow c =
    let f = follow_taken c.args.end c.args.spans.now.items c.loop-filled.spans.items c.loop-filled.filled c.index.result.now c.in-Some.span (omega arith) c.loop-filled.invariant.within
    c.loop-filled.invariant.same c.index.ensures c.in-Some.is c.requires in
    rw c.truncate.ensures.items f.0

pub returns-in-Some-clause-within : goal.returns-in-Some-clause-within
returns-in-Some-clause-within c =
    (follow_taken c.args.end c.args.spans.now.items c.loop-filled.spans.items c.loop-filled.filled c.index.result.now c.in-Some.span (omega arith) c.loop-filled.invariant.within
    c.loop-filled.invariant.same c.index.ensures c.in-Some.is c.requires).1

pub loop-filled-preserved : goal.loop-filled-preserved
loop-filled-preserved c =
    let ss = c.loop-filled.spans.items in
    let n = c.loop-filled.filled - 1 in
    let within = c.loop-filled.invariant.within in
    let h : n < length ss = omega arith in
    let none : get_or ss n empty_span ≡ None = sym (get_or_read ss n c.index.result.now h c.index.ensures empty_span) ∙ c.in_default.is in
    let back : n + 1 ≡ c.loop-filled.filled = omega arith in
    record {
      within = omega arith;
      same = c.loop-filled.invariant.same;
      live = λ ts. live_from_less ts ss n h none ∙ ap (λ (k : ℕ). live_from ts 0 (take k ss)) back ∙ c.loop-filled.invariant.live ts;
    }
