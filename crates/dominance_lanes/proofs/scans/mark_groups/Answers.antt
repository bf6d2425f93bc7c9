use Rattle.std.proofs.Common.{◌*◌, ◌+◌, ◌-◌, ◌≡◌, ◌∙◌, false, inl, inr, arith, map, get_or, vec_items, subst}
use Rattle.std.proofs.lemmas.Bool.{cases_lt}
use Rattle.dominance_lanes.specs.Groups.{is_above_at}
use Rattle.dominance_lanes.proofs.scans.mark_groups.Goals as goal

pub loop-group-preserved : goal.loop-group-preserved
loop-group-preserved c k h =
    let start = c.loop-group.group * 8 in
    elim (cases_lt k start) [
      | inl lt ↦ c.mark_above_in.ensures.others k (inl lt) ∙ c.loop-group.invariant k lt
      | inr ge ↦ (let place : start + (k - start) ≡ k = omega arith in
          subst (λ j. get_or c.mark_above_in.new.marks j false ≡ is_above_at (map vec_items c.args.columns.now) c.args.v.now j) place (c.mark_above_in.ensures.here (k - start) (omega arith)))
    ]
