use Rattle.std.proofs.Common.{◌≡◌, ℕ, length, set, sym, ap, ◌∙◌, replicate, arith}
use Rattle.std.specs.Prelude.{true, false}
use Rattle.spec_model.specs.Spec.{bits_of}
use Rattle.spec_model.specs.Rules.{sender_of}
use Rattle.encode_views.specs.Reached.{is_chosen_for}
use Rattle.encode_laws.specs.ModelBits.{step_bit}
use Rattle.encode_views.proofs.Marks.{unmarked, row_of}
use Rattle.encode_views.proofs.Rows.{start_more, start_same}
use Rattle.encode_views.proofs.reached.starts.Goals.{then-is_chosen_for, else-is_chosen_for}
use Rattle.encode_views.proofs.reached.starts.Goals as goal

pub loop-o-init : goal.loop-o-init
loop-o-init c =
    unmarked _ _ _ (c.in_ok-bits.ensures.items_if_clones_equal (λ y e. e) ∙ ap (λ n. replicate n false) c.resources.ensures.count)

pub index_mut-requires : goal.index_mut-requires
index_mut-requires c = omega (arith, c.loop-o.invariant.places, c.option.ensures.resource_there, c.loop-o.bits.ok.0)

pub loop-o-preserved : goal.loop-o-preserved
loop-o-preserved c =
    let s = c.args.spec.now in
    let f = bits_of c.args.design.now in
    let sender = ap (λ (t : ℕ). is_chosen_for s f t c.loop-o.o) (sym c.sender-sender.ensures.sender) ∙ sym c.is_chosen_for.ensures in
    elim c.if-is_chosen_for.branch [
      | then-is_chosen_for w ↦ start_more s f (sender_of s c.args.m.0) c.loop-o.o c.loop-o.bits.items c.if-is_chosen_for.bits.items c.loop-o.invariant
          (omega (arith, w.option.ensures.resource, w.option.ensures.resource_there)) (sender ∙ w.if-is_chosen_for.true)
          (ap (λ v. v.items) w.bits-is ∙ ap (λ (i : ℕ). set c.loop-o.bits.items i true) w.option.ensures.resource)
      | else-is_chosen_for w ↦ start_same s f (sender_of s c.args.m.0) c.loop-o.o c.loop-o.bits.items c.if-is_chosen_for.bits.items c.loop-o.invariant (sender ∙ w.if-is_chosen_for.false)
          (ap (λ v. v.items) w.bits-is)
    ]

pub returns : goal.returns
unfolding step_bit
returns c =
    let e : c.loop-o.o ≡ length c.args.spec.now.options = omega arith in
    row_of _ _ _ _ _ c.loop-o.invariant e
