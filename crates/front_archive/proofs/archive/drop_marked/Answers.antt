use Rattle.std.proofs.Common.{◌+◌, ◌≡◌, ◌∙◌, sym, ap, subst, arith, length, vec_len, Vec, Global}
use Rattle.front_archive.specs.declared.member.Member.{Member}
use Rattle.front_archive.proofs.Moved.{IsMoved, all_moved, passes_marked, swaps_unmarked}
use Rattle.front_archive.proofs.archive.drop_marked.Goals as goal
use Rattle.front_archive.proofs.archive.drop_marked.Goals.{then-not-mark, else-not-mark}

pub loop-k-preserved : goal.loop-k-preserved
loop-k-preserved c =
    let marks = c.args.marks.now in
    let old = c.args.members.now.items in
    let now = c.loop-k.members.items in
    let same : length marks ≡ length old = omega (arith, c.args.members.now.ok.0) in
    let long : length now ≡ length old = omega (arith, c.args.members.now.ok.0, c.loop-k.members.ok.0) in
    elim c.if-not-mark.branch [
      | then-not-mark w ↦ record {
        within = omega (arith, w.kept-is);
        same_len = ap vec_len w.members-is ∙ w.swap.ensures.len ∙ c.loop-k.invariant.same_len;
        parts = subst (λ n. IsMoved marks old c.if-not-mark.members.items (c.loop-k.k + 1) n) (sym w.kept-is)
            (subst (λ (v : Vec Member Global). IsMoved marks old v.items (c.loop-k.k + 1) (c.loop-k.kept + 1)) (sym w.members-is)
            (subst (λ xs. IsMoved marks old xs (c.loop-k.k + 1) (c.loop-k.kept + 1)) (sym w.swap.ensures.items)
            (swaps_unmarked marks old now c.loop-k.k c.loop-k.kept same long c.loop-k-test.true c.loop-k.invariant.within w.if-not-mark.true c.loop-k.invariant.parts)));
      }
      | else-not-mark w ↦ record {
        within = omega (arith, w.kept-is);
        same_len = ap vec_len w.members-is ∙ c.loop-k.invariant.same_len;
        parts = subst (λ n. IsMoved marks old c.if-not-mark.members.items (c.loop-k.k + 1) n) (sym w.kept-is)
            (subst (λ (v : Vec Member Global). IsMoved marks old v.items (c.loop-k.k + 1) c.loop-k.kept) (sym w.members-is)
            (passes_marked marks old now c.loop-k.k c.loop-k.kept same c.loop-k-test.true w.if-not-mark.false c.loop-k.invariant.parts));
      }
    ]

pub returns : goal.returns
returns c =
    let same : length c.args.marks.now ≡ length c.args.members.now.items = omega (arith, c.args.members.now.ok.0) in
    c.truncate.ensures.items ∙ all_moved c.args.marks.now c.args.members.now.items c.loop-k.members.items c.loop-k.k c.loop-k.kept same (omega arith) c.loop-k.invariant.parts
