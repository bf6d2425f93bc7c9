use Rattle.std.proofs.Common.{ℕ, ◌≡◌, length, map, ap, ◌∙◌, arith, refl}
use Rattle.spec_model.specs.Spec.{below}
use Rattle.encode_model.specs.Block.{is_below}
use Rattle.block_encode.proofs.Adding.{own_more}
use Rattle.block_encode.proofs.Forms.{somewhere_normal, somewhere_is, made}
use Rattle.block_encode.proofs.bounds.below_somewhere.Goals as goal

pub loop-j-preserved : goal.loop-j-preserved
loop-j-preserved c =
    own_more c.args.spec.now c.args.cover_no c.loop-j.j c.below_var.result c.yes.result c.loop-j.terms.items c.push.new.self.items c.loop-j.invariant c.below_var.ensures.variable c.yes.ensures
    c.in_ok-push.ensures.items

pub of_normal-requires : goal.of_normal-requires
of_normal-requires c =
    let s = c.args.spec.now in
    let end : c.loop-j.j ≡ length s.objectives = omega (arith, c.loop-j-test.false, c.loop-j.auto.j-end, c.objectives-j-end.ensures.count) in
    somewhere_normal s c.args.cover_no c.loop-j.terms.items c.facts.ensures (c.loop-j.invariant ∙ ap (λ (n : ℕ). map (is_below s c.args.cover_no) (below n)) end)

pub returns : goal.returns
returns c =
    let s = c.args.spec.now in
    let end : c.loop-j.j ≡ length s.objectives = omega (arith, c.loop-j-test.false, c.loop-j.auto.j-end, c.objectives-j-end.ensures.count) in
    made 1 1 (map (is_below s c.args.cover_no) (below (length s.objectives))) c.loop-j.terms.items c.of_normal.result c.of_normal.ensures.value refl
    (c.loop-j.invariant ∙ ap (λ (n : ℕ). map (is_below s c.args.cover_no) (below n)) end)
    (somewhere_is s c.args.cover_no)
