use Rattle.std.proofs.Common.{◌≤◌, ◌++◌, ◌∙◌, ◌⊎◌, inl, inr, sym, ap, arith, length, List}
use Rattle.pb_rules.specs.declared.Term.{Term}
use Rattle.pb_rules.proofs.Merges.{coef-le, merge-cancelled, merge_end, rest_of}
use Rattle.cutting_planes.proofs.sums.merge_terms.Goals as goal
use Rattle.cutting_planes.proofs.sums.merge_terms.Goals.{then-loop-i-test+else-j-ys, else-loop-i-test}

pub add_joined-requires-clause-room : goal.add_joined-requires-clause-room
add_joined-requires-clause-room c =
    let a = merge-cancelled c.args.xs.now c.args.ys.now in
    let b = coef-le c.args.xs.now c.loop-i.i c.index-xs-i.result c.loop-i-test.true c.index-xs-i.is in
    let s = c.requires.small_xs in
    let e = c.loop-i.invariant.cancelled in
    omega arith

pub returns-clause-terms : goal.returns-clause-terms
returns-clause-terms c =
    let done : (length c.args.xs.now ≤ c.loop-i.i) ⊎ (length c.args.ys.now ≤ c.loop-i.j) = elim c.loop-i-test.branch
    [ then-loop-i-test+else-j-ys w ↦ inr w.if-j-ys.false | else-loop-i-test w ↦ inl w.loop-i-test.false ] in
    let e = (merge_end c.args.xs.now c.args.ys.now c.loop-i.i c.loop-i.j done).0 in
    let xs = c.args.xs.now in
    let ys = c.args.ys.now in
    let i = c.loop-i.i in
    let j = c.loop-i.j in
    let out = c.loop-i.out.terms.items in
    rest_of xs ys i j out c.extend_from_slice.new.self.items c.extend_from_slice-2.new.self.items c.in_ok-extend_from_slice.ensures.items c.in_ok-extend_from_slice-2.ensures.items
    ∙ ap (λ (ts : List Term). out ++ ts) (sym e) ∙ sym c.loop-i.invariant.terms

pub returns-clause-cancelled : goal.returns-clause-cancelled
returns-clause-cancelled c =
    let done : (length c.args.xs.now ≤ c.loop-i.i) ⊎ (length c.args.ys.now ≤ c.loop-i.j) = elim c.loop-i-test.branch
    [ then-loop-i-test+else-j-ys w ↦ inr w.if-j-ys.false | else-loop-i-test w ↦ inl w.loop-i-test.false ] in
    let e = (merge_end c.args.xs.now c.args.ys.now c.loop-i.i c.loop-i.j done).1 in
    let i = c.loop-i.invariant.cancelled in
    omega arith
