-- A valid design that was worked out by hand, and for each rule a design that breaks it.
use Rattle.std.proofs.Common.{◌≡◌, ℕ, zero, suc, ◌+◌, ◌<◌, ◌≤◌, Bool, true, false, List, [], ◌∷◌, length, refl, sym, arith, ◌⊎◌, inl, inr}
use Rattle.std.specs.Prelude.{◌↔◌, Contains}
use Rattle.std.proofs.lemmas.Bool.{false≢true}
use Rattle.spec_model.specs.Spec.{Bits, arc_at, option_at, message_at, arc_var, resource_var, link_var}
use Rattle.spec_model.specs.Rules.{IsOn, Uses, Walk, WalkBelow, BoundOnce, GoesOnFrom, IsResourceNeeded, IsLinkNeeded, IsRouted, IsValid, of_task, goes_into, arc_bit, uses_into, sender_of}
use Rattle.spec_model.proofs.Rows.{parallel, hub, of_list, both_links, stray, apart}

-- the sender's and the receiver's option, the first of the two links, and what they use
abbrev good : Bits
good = of_list (0 ∷ (1 ∷ (2 ∷ (6 ∷ (7 ∷ (10 ∷ []))))))

-- who is where in designs that choose both options
on_own : (f : Bits) (t r : ℕ) → IsOn parallel f t r → (t ≡ r) × (r < 2)
on_own f t r x = at x.choice x.in_range x.of_task x.on_resource
  where
    at : (o : ℕ) → o < 2 → (option_at parallel o).task ≡ t → (option_at parallel o).resource ≡ r → (t ≡ r) × (r < 2)
    at zero l et er = (omega (arith, et, er), omega (arith, er))
    at (suc zero) l et er = (omega (arith, et, er), omega (arith, er))
    at (suc (suc o)) l et er = absurd (omega (arith, l))

on_a : IsOn parallel good 0 0
on_a = record { choice = 0; in_range = omega arith; chosen = refl; of_task = refl; on_resource = refl }

on_b : IsOn parallel good 1 1
on_b = record { choice = 1; in_range = omega arith; chosen = refl; of_task = refl; on_resource = refl }

first_used : Uses parallel good 0 0
first_used = record { in_range = omega arith; bit = refl }

-- the message uses the first arc alone
only_first : (m a : ℕ) → m < 1 → Uses parallel good m a → (m ≡ 0) × (a ≡ 0)
only_first zero zero l u = (refl, refl)
only_first zero (suc zero) l u = absurd (false≢true u.bit)
only_first zero (suc (suc zero)) l u = absurd (false≢true u.bit)
only_first zero (suc (suc (suc zero))) l u = absurd (false≢true u.bit)
only_first zero (suc (suc (suc (suc a)))) l u = absurd (let x = u.in_range in omega (arith, x))
only_first (suc m) a l u = absurd (omega (arith, l))

bound : (t : ℕ) → t < 2 → BoundOnce parallel good t
unfolding of_task
bound zero l = refl
bound (suc zero) l = refl
bound (suc (suc t)) l = absurd (omega (arith, l))

not_into_sender : (m a : ℕ) → m < 1 → Uses parallel good m a → ¬ IsOn parallel good (sender_of parallel m) (arc_at parallel a).head
not_into_sender zero zero l u on = (let x = on_own good 0 1 on in absurd (omega (arith, x.0)))
not_into_sender zero (suc a) l u on = (let x = only_first 0 (suc a) l u in absurd (omega (arith, x.1)))
not_into_sender (suc m) a l u on = absurd (omega (arith, l))

one_into : (m r : ℕ) → m < 1 → r < 4 → uses_into parallel good m r ≤ 1
unfolding goes_into arc_bit uses_into
one_into zero zero l k = omega arith
one_into zero (suc zero) l k = omega arith
one_into zero (suc (suc zero)) l k = omega arith
one_into zero (suc (suc (suc zero))) l k = omega arith
one_into zero (suc (suc (suc (suc r)))) l k = absurd (omega (arith, k))
one_into (suc m) r l k = absurd (omega (arith, l))

walks : (m a : ℕ) → m < 1 → Uses parallel good m a → WalkBelow parallel good m (arc_at parallel a).tail (message_at parallel m).limit
walks zero zero l u = (0, omega arith, on_a)
walks zero (suc a) l u = (let x = only_first 0 (suc a) l u in absurd (omega (arith, x.1)))
walks (suc m) a l u = absurd (omega (arith, l))

goes_on : (m a : ℕ) → m < 1 → Uses parallel good m a → GoesOnFrom parallel good m (arc_at parallel a).head
goes_on zero zero l u = inr (1, (0, omega arith, refl), on_b)
goes_on zero (suc a) l u = (let x = only_first 0 (suc a) l u in absurd (omega (arith, x.1)))
goes_on (suc m) a l u = absurd (omega (arith, l))

-- what is needed: a and b, and the first link
needed_resource : (r : ℕ) → IsResourceNeeded parallel good r → r < 2
needed_resource r (inl x) = (on_own good x.task r x.on).1
needed_resource r (inr x) = at x.message x.touched.arc x.in_range x.touched.used x.touched.at_end
  where
    at : (m a : ℕ) → m < 1 → Uses parallel good m a → ((arc_at parallel a).tail ≡ r) ⊎ ((arc_at parallel a).head ≡ r) → r < 2
    at m zero l u (inl e) = omega (arith, e)
    at m zero l u (inr e) = omega (arith, e)
    at m (suc a) l u e = (let x = only_first m (suc a) l u in absurd (omega (arith, x.1)))

resources_used : (r : ℕ) → r < 4 → (good (resource_var parallel r) ≡ true) ↔ IsResourceNeeded parallel good r
resources_used zero l = (λ e. inl (record { task = 0; in_range = omega arith; on = on_a }), λ n. refl)
resources_used (suc zero) l = (λ e. inl (record { task = 1; in_range = omega arith; on = on_b }), λ n. refl)
resources_used (suc (suc zero)) l = (λ e. absurd (false≢true e), λ n. absurd (let k = needed_resource 2 n in omega (arith, k)))
resources_used (suc (suc (suc zero))) l = (λ e. absurd (false≢true e), λ n. absurd (let k = needed_resource 3 n in omega (arith, k)))
resources_used (suc (suc (suc (suc r)))) l = absurd (omega (arith, l))

needed_link : (n : ℕ) → IsLinkNeeded parallel good n → n ≡ 0
needed_link n x = at x.message x.arc x.in_range x.used x.of_link
  where
    at : (m a : ℕ) → m < 1 → Uses parallel good m a → (arc_at parallel a).link ≡ n → n ≡ 0
    at m zero l u e = sym e
    at m (suc a) l u e = (let x = only_first m (suc a) l u in absurd (omega (arith, x.1)))

links_used : (n : ℕ) → n < 3 → (good (link_var parallel n) ≡ true) ↔ IsLinkNeeded parallel good n
links_used zero l = (λ e. record { message = 0; in_range = omega arith; arc = 0; used = first_used; of_link = refl }, λ n. refl)
links_used (suc zero) l = (λ e. absurd (false≢true e), λ n. absurd (let k = needed_link 1 n in omega (arith, k)))
links_used (suc (suc zero)) l = (λ e. absurd (false≢true e), λ n. absurd (let k = needed_link 2 n in omega (arith, k)))
links_used (suc (suc (suc n))) l = absurd (omega (arith, l))

receivers_reached : (m w r : ℕ) → m < 1 → Contains (message_at parallel m).receivers w → IsOn parallel good w r → (n : ℕ) × Walk parallel good m r n
receivers_reached zero w r l (zero, k, e) on = at r (omega (arith, (on_own good w r on).0, e))
  where
    at : (r : ℕ) → r ≡ 1 → (n : ℕ) × Walk parallel good 0 r n
    at zero q = absurd (omega (arith, q))
    at (suc zero) q = (1, (0, first_used, refl, on_a))
    at (suc (suc r)) q = absurd (omega (arith, q))
receivers_reached zero w r l (suc i, k, e) on = absurd (omega (arith, k))
receivers_reached (suc m) w r l there on = absurd (omega (arith, l))

good_valid : IsValid parallel good
good_valid = record {
  routed = record {
    bound_once = bound;
    no_arc_into_sender = not_into_sender;
    one_arc_into = one_into;
    has_walk = walks;
    no_dangling = goes_on;
    resource_use = resources_used;
    link_use = links_used;
  };
  reached = receivers_reached;
}

-- no option of the receiver
unbound : ¬ IsValid parallel (of_list (0 ∷ []))
unfolding of_task
unbound v = (let e = v.routed.bound_once 1 (omega arith) in absurd (omega (arith, e)))

-- the arc from the hub back to the sender
into_sender : ¬ IsValid hub (of_list (0 ∷ (4 ∷ [])))
into_sender v =
    v.routed.no_arc_into_sender 0 1 (omega arith) (record { in_range = omega arith; bit = refl })
    (record { choice = 0; in_range = omega arith; chosen = refl; of_task = refl; on_resource = refl })

-- both links
crowded : ¬ IsValid parallel (of_list (0 ∷ (1 ∷ (2 ∷ (3 ∷ [])))))
crowded v = (let e = v.routed.one_arc_into 0 1 (omega arith) (omega arith) in let two = both_links.two in absurd (omega (arith, e, two)))

-- an arc that nothing reaches
strayed : ¬ IsValid parallel apart
strayed v = stray.no_walk (v.routed.has_walk 0 2 (omega arith) stray.used)

-- no arc at all, and a resource and a link that nothing needs
abbrev idle : Bits
idle = of_list (0 ∷ (1 ∷ (6 ∷ (7 ∷ (8 ∷ (11 ∷ []))))))

none_used : (m a : ℕ) → m < 1 → Uses parallel idle m a → ⊥
none_used zero zero l u = false≢true u.bit
none_used zero (suc zero) l u = false≢true u.bit
none_used zero (suc (suc zero)) l u = false≢true u.bit
none_used zero (suc (suc (suc zero))) l u = false≢true u.bit
none_used zero (suc (suc (suc (suc a)))) l u = absurd (let x = u.in_range in omega (arith, x))
none_used (suc m) a l u = absurd (omega (arith, l))

unreached : ¬ IsValid parallel idle
unreached v = at (v.reached 0 1 1 (omega arith) (0, omega arith, refl) (record { choice = 1; in_range = omega arith; chosen = refl; of_task = refl; on_resource = refl }))
  where
    at : (n : ℕ) × Walk parallel idle 0 1 n → ⊥
    at (zero, w) = (let x = on_own idle 0 1 w in absurd (omega (arith, x.0)))
    at (suc n, w) = none_used 0 w.0 (omega arith) w.1

idle_resource : ¬ IsValid parallel idle
idle_resource v = at ((v.routed.resource_use 2 (omega arith)).0 refl)
  where
    at : IsResourceNeeded parallel idle 2 → ⊥
    at (inl x) = (let k = (on_own idle x.task 2 x.on).1 in absurd (omega (arith, k)))
    at (inr x) = none_used x.message x.touched.arc x.in_range x.touched.used

idle_link : ¬ IsValid parallel idle
idle_link v = (let x = (v.routed.link_use 1 (omega arith)).0 refl in none_used x.message x.arc x.in_range x.used)

-- the sender's link alone: the message ends at the hub
abbrev stopped : Bits
stopped = of_list (0 ∷ (1 ∷ (2 ∷ (3 ∷ []))))

dangling : ¬ IsValid hub stopped
dangling v = at (v.routed.no_dangling 0 0 (omega arith) (record { in_range = omega arith; bit = refl }))
  where
    leaves : (a : ℕ) → Uses hub stopped 0 a → (arc_at hub a).tail ≡ 1 → ⊥
    leaves zero u e = absurd (omega (arith, e))
    leaves (suc zero) u e = false≢true u.bit
    leaves (suc (suc zero)) u e = false≢true u.bit
    leaves (suc (suc (suc zero))) u e = false≢true u.bit
    leaves (suc (suc (suc (suc zero)))) u e = false≢true u.bit
    leaves (suc (suc (suc (suc (suc zero))))) u e = false≢true u.bit
    leaves (suc (suc (suc (suc (suc (suc a)))))) u e = absurd (let x = u.in_range in omega (arith, x))

    on_hub : (o : ℕ) → o < 3 → (option_at hub o).resource ≡ 1 → ⊥
    on_hub zero l e = absurd (omega (arith, e))
    on_hub (suc zero) l e = absurd (omega (arith, e))
    on_hub (suc (suc zero)) l e = absurd (omega (arith, e))
    on_hub (suc (suc (suc o))) l e = absurd (omega (arith, l))

    at : GoesOnFrom hub stopped 0 1 → ⊥
    at (inl x) = leaves x.arc x.used x.from
    at (inr x) = on_hub x.2.choice x.2.in_range x.2.on_resource
