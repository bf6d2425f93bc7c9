use Rattle.std.proofs.Common.{◌≡◌, ℕ, length, set, sym, ap, ◌∙◌, replicate, arith}
use Rattle.std.specs.Prelude.{true, false}
use Rattle.spec_model.specs.Spec.{bits_of}
use Rattle.encode_views.proofs.Marks.{unmarked, row_of}
use Rattle.encode_views.proofs.Rows.{hop_more, hop_same}
use Rattle.encode_views.proofs.reached.onward.Goals.{then-leaves_from, else-leaves_from}
use Rattle.encode_views.proofs.reached.onward.Goals as goal

pub loop-a-init : goal.loop-a-init
loop-a-init c =
    unmarked _ _ _ (c.in_ok-bits.ensures.items_if_clones_equal (λ y e. e) ∙ ap (λ n. replicate n false) c.resources.ensures.count)

pub index_mut-requires : goal.index_mut-requires
index_mut-requires c = omega (arith, c.loop-a.invariant.places, c.arc.ensures.head_there, c.loop-a.bits.ok.0)

pub loop-a-preserved : goal.loop-a-preserved
loop-a-preserved c =
    let s = c.args.spec.now in
    let f = bits_of c.args.design.now in
    elim c.if-leaves_from.branch [
      | then-leaves_from w ↦ hop_more s f c.args.m.0 c.loop-a.a c.args.before.now c.loop-a.bits.items c.if-leaves_from.bits.items c.loop-a.invariant
          (omega (arith, w.arc.ensures.head, w.arc.ensures.head_there)) (sym c.leaves_from.ensures ∙ w.if-leaves_from.true)
          (ap (λ v. v.items) w.bits-is ∙ ap (λ (i : ℕ). set c.loop-a.bits.items i true) w.arc.ensures.head)
      | else-leaves_from w ↦ hop_same s f c.args.m.0 c.loop-a.a c.args.before.now c.loop-a.bits.items c.if-leaves_from.bits.items c.loop-a.invariant
          (sym c.leaves_from.ensures ∙ w.if-leaves_from.false) (ap (λ v. v.items) w.bits-is)
    ]

pub returns : goal.returns
returns c =
    let e : c.loop-a.a ≡ length c.args.spec.now.arcs = omega arith in
    row_of _ _ _ _ _ c.loop-a.invariant e
