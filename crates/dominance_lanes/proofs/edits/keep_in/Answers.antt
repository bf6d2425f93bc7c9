use Rattle.std.proofs.Common.{◌+◌, ◌<◌, ◌≡◌, ◌∙◌, sym, ap, subst, arith, get_or, set, length, vec_len, ℕ, Vec, Global}
use Rattle.std.proofs.lemmas.List.{get_or_default}
use Rattle.dominance_lanes.proofs.ColumnEdits.{IsKept, all_kept, passes_marked, moves_unmarked}
use Rattle.dominance_lanes.proofs.edits.keep_in.Goals as goal
use Rattle.dominance_lanes.proofs.edits.keep_in.Goals.{then-not-mark, else-not-mark}

pub loop-k-preserved : goal.loop-k-preserved
loop-k-preserved c =
    let marks = c.args.marks.now in
    let old = c.args.column.now.items in
    let now = c.loop-k.column.items in
    let same : length marks ≡ length old = omega (arith, c.args.column.now.ok.0) in
    let long : length now ≡ length old = omega (arith, c.args.column.now.ok.0, c.loop-k.column.ok.0) in
    let inside : c.loop-k.k < length now = omega arith in
    elim c.if-not-mark.branch [
      | then-not-mark w ↦ (
          let read : w.index.result.now ≡ get_or now c.loop-k.k 0 = w.index.ensures ∙ get_or_default now c.loop-k.k w.index.result.now 0 inside in
          let moved = moves_unmarked marks old now c.loop-k.k c.loop-k.kept same long c.loop-k-test.true c.loop-k.invariant.within w.if-not-mark.true c.loop-k.invariant.parts in record {
            within = omega (arith, w.kept-is);
            same_len = ap vec_len w.column-is ∙ c.loop-k.invariant.same_len;
            parts = subst (λ n. IsKept marks old c.if-not-mark.column.items (c.loop-k.k + 1) n) (sym w.kept-is)
                (subst (λ (v : Vec ℕ Global). IsKept marks old v.items (c.loop-k.k + 1) (c.loop-k.kept + 1)) (sym w.column-is)
                (subst (λ x. IsKept marks old (set now c.loop-k.kept x) (c.loop-k.k + 1) (c.loop-k.kept + 1)) (sym read) moved));
          })
      | else-not-mark w ↦ record {
        within = omega (arith, w.kept-is);
        same_len = ap vec_len w.column-is ∙ c.loop-k.invariant.same_len;
        parts = subst (λ n. IsKept marks old c.if-not-mark.column.items (c.loop-k.k + 1) n) (sym w.kept-is)
            (subst (λ (v : Vec ℕ Global). IsKept marks old v.items (c.loop-k.k + 1) c.loop-k.kept) (sym w.column-is)
            (passes_marked marks old now c.loop-k.k c.loop-k.kept same c.loop-k-test.true w.if-not-mark.false c.loop-k.invariant.parts));
      }
    ]

pub returns : goal.returns
returns c =
    let same : length c.args.marks.now ≡ length c.args.column.now.items = omega (arith, c.args.column.now.ok.0) in
    c.truncate.ensures.items ∙ all_kept c.args.marks.now c.args.column.now.items c.loop-k.column.items c.loop-k.k c.loop-k.kept same (omega arith) c.loop-k.invariant.parts
