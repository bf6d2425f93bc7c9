use Rattle.std.proofs.Common.{◌≡◌, ◌∙◌, ◌-◌, ◌^◌, ℕ, inl, inr, refl, rules}
use denote.Param.Object.{read_made}
use Rattle.dse_program.proofs.Fresh.{none, one_more, at_zero}
use Rattle.dse_program.proofs.answer.OwnLists.{own-1}
use Rattle.dse_program.proofs.answer.Goals as goal

pub run-requires : goal.run-requires
run-requires g c =
    let zero-1 : c.in_ok-new.field-0.value.calls ≡ 0 = search rules in
    let zero-2 : c.in_ok-new-2.field-0.value.calls ≡ 0 = search rules in
    let zero-3 : c.in_ok-new-3.field-0.value.calls ≡ 0 = search rules in
    let zero-4 : c.in_ok-new-4.field-0.value.calls ≡ 0 = search rules in
    record {
      room =
          one_more _ (2 ^ 63 - 65536) _ _ _
          (one_more _ (2 ^ 63 - 65536) _ _ _
          (one_more _ (2 ^ 63 - 65536) _ _ _
          (one_more _ (2 ^ 63 - 65536) _ _ _
          (none _ (2 ^ 63 - 65536) _ c.new-tools.ensures.items)
          c.in_ok-push.ensures.items (at_zero _ _ (read_made own-1 (own-1.entry (inl tt)) (inl tt) refl ℕ (λ j y. j.1.calls y) _ _ _ c.into_dyn_box.ensures.1 ∙ zero-1)))
          c.in_ok-push-2.ensures.items (at_zero _ _ (read_made own-1 (own-1.entry (inr (inl tt))) (inr (inl tt)) refl ℕ (λ j y. j.1.calls y) _ _ _ c.into_dyn_box-in_ok-new-2.ensures.1 ∙ zero-2)))
          c.in_ok-push-3.ensures.items (at_zero _ _ (read_made own-1 (own-1.entry (inr (inr (inl tt)))) (inr (inr (inl tt))) refl ℕ (λ j y. j.1.calls y) _ _ _ c.into_dyn_box-in_ok-new-3.ensures.1
          ∙ zero-3)))
          c.in_ok-push-4.ensures.items (at_zero _ _ (read_made own-1 (own-1.entry (inr (inr (inr (inl tt))))) (inr (inr (inr (inl tt)))) refl ℕ (λ j y. j.1.calls y) _ _ _
          c.into_dyn_box-in_ok-new-4.ensures.1 ∙ zero-4));
    }
