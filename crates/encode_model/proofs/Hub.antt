-- The encoding of a specification with a message to two receivers, worked out by hand.
use Rattle.std.specs.Prelude.{◌≡◌, ℕ, Bool, true, ◌==◌, nat_le, List, [], ◌∷◌, length, sum_by, refl, not, if◌then◌else◌}
use Rattle.std.specs.List.{list_any, list_all, filter}
use Rattle.pb_rules.specs.Linear.{Linear, true_weight}
use Rattle.spec_model.specs.Spec.{base, Bits, below}
use Rattle.spec_model.specs.Rules.{of_task, of_task_on, goes_into, leaves, of_link}
use Rattle.spec_model.proofs.Rows.{hub}
use Rattle.encode_model.specs.Encoding.{at_least, encoding, step_after, step_at, carries, has_cause, for_receiver, on_resource, leads_to, option_covers, option_allocates, cover_allocates, cover_of, resource_has_use, arc_allocates, link_arcs, link_has_use}

-- the true variables of its one model that uses the links away from the sender
abbrev pub true_ones : List ℕ
true_ones = 0 ∷ (1 ∷ (2 ∷ (3 ∷ (5 ∷ (7 ∷ (9 ∷ (10 ∷ (11 ∷ (12 ∷ (13 ∷ (14 ∷ (15 ∷ (16 ∷ (21 ∷ (26 ∷ (30 ∷ (32 ∷ (33 ∷ (34 ∷ (35 ∷ []))))))))))))))))))))

abbrev pub hub_model : Bits
hub_model v = list_any (λ w. w == v) true_ones

abbrev holds_all : Bits → List Linear → Bool
holds_all f cs = list_all (λ c. nat_le c.degree (true_weight f c.terms)) cs

terms_hub : nat_le (sum_by (λ c. length c.terms) (encoding hub)) 266 ≡ true
unfolding encoding base at_least step_after step_at carries has_cause for_receiver on_resource leads_to option_covers option_allocates cover_allocates cover_of resource_has_use arc_allocates
    link_arcs link_has_use of_task of_task_on goes_into leaves of_link
terms_hub = refl

holds_hub : holds_all hub_model (encoding hub) ≡ true
unfolding encoding base at_least step_after step_at carries has_cause for_receiver on_resource leads_to option_covers option_allocates cover_allocates cover_of resource_has_use arc_allocates
    link_arcs link_has_use of_task of_task_on goes_into leaves of_link
holds_hub = refl

abbrev flipped : ℕ → Bits
flipped w v = if v == w then not (hub_model v) else hub_model v

-- with any one bit changed the list no longer holds
only_hub : filter (λ w. holds_all (flipped w) (encoding hub)) (below 36) ≡ []
unfolding encoding base at_least step_after step_at carries has_cause for_receiver on_resource leads_to option_covers option_allocates cover_allocates cover_of resource_has_use arc_allocates
    link_arcs link_has_use of_task of_task_on goes_into leaves of_link
only_hub = refl
