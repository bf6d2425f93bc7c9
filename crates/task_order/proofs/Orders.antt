-- What a table of followers tells as messages are added.
use Rattle.std.proofs.Common.{◌≡◌, ℕ, ◌+◌, ◌<◌, Bool, true, List, [], ◌∷◌, ◌++◌, length, get_or, take, sym, ap, ◌∙◌, subst, ◌⊎◌, inl, inr, Contains, eq-eqb}
use Rattle.std.specs.Prelude.{◌||◌, ◌&&◌, ◌==◌}
use Rattle.std.proofs.lemmas.Bool.{and_parts, or_cases, or_left, or_right, and_from}
use Rattle.std.proofs.lemmas.List.{take_more}
use Rattle.std.proofs.lemmas.List.Elements.{Contains-append_left, Contains-push, Contains-push_cases}
use Rattle.spec_model.specs.Spec.{Message}
use Rattle.spec_model.specs.WellFormed.{Sends, Reaches, Leads, Follows}
use Rattle.spec_model.proofs.Chains.{reaches_cases, reaches_itself, reaches_from_follows, follows_cases, follows_before, follows_by, follows_within}
use Rattle.task_order.specs.Order.{is_in, comes_after, is_gathered, is_joined, IsOrderOf, IsLed}
use Rattle.task_order.proofs.Sets.{same_from}

-- the same tests, the same order
pub order_same : (rows next : List (List Bool)) (ms : List Message) → ((a b : ℕ) → comes_after next a b ≡ comes_after rows a b) → IsOrderOf rows ms → IsOrderOf next ms
order_same rows next ms e o a b = (λ h. (o a b).0 (sym (e a b) ∙ h), λ f. e a b ∙ (o a b).1 f)

-- the same ways to go, the same order
pub order_within : (rows : List (List Bool)) (ms ks : List Message) → ((a b : ℕ) → Sends ms a b → Sends ks a b) → ((a b : ℕ) → Sends ks a b → Sends ms a b) → IsOrderOf rows ms → IsOrderOf rows ks
order_within rows ms ks to back o a b = (λ h. follows_within ms ks to a b ((o a b).0 h), λ f. (o a b).1 (follows_within ks ms back a b f))

-- one task more from which chains lead
led_push : (rows : List (List Bool)) (set next : List Bool) (ms : List Message) (ws : List ℕ) (w : ℕ) → IsOrderOf rows ms → IsLed set ms ws → ((b : ℕ) → is_in next b ≡ is_gathered rows set w b)
    → IsLed next ms (ws ++ w ∷ [])
led_push rows set next ms ws w o s e b = (to, from)
  where
    by_task : ((b == w) ≡ true) ⊎ (comes_after rows w b ≡ true) → Reaches ms w b
    by_task (inl y) = subst (Reaches ms w) (sym (same_from b w y)) (reaches_itself ms w)
    by_task (inr y) = reaches_from_follows ms w b ((o w b).0 y)

    to_cases : (is_in set b ≡ true) ⊎ (((b == w) || comes_after rows w b) ≡ true) → Leads ms (ws ++ w ∷ []) b
    to_cases (inl y) = let l = (s b).0 y in record { start = l.start; among = Contains-append_left ws (w ∷ []) l.start l.among; reaches = l.reaches }
    to_cases (inr y) = record { start = w; among = Contains-push ws w; reaches = by_task (or_cases (b == w) (comes_after rows w b) y) }

    to : is_in next b ≡ true → Leads ms (ws ++ w ∷ []) b
    to h = to_cases (or_cases (is_in set b) ((b == w) || comes_after rows w b) (sym (e b) ∙ h))

    task_of : (w ≡ b) ⊎ Follows ms w b → ((b == w) || comes_after rows w b) ≡ true
    task_of (inl y) = or_left (b == w) (comes_after rows w b) (eq-eqb b w (sym y))
    task_of (inr y) = or_right (b == w) (comes_after rows w b) ((o w b).1 y)

    from_cases : (x : ℕ) → Contains ws x ⊎ (w ≡ x) → Reaches ms x b → is_gathered rows set w b ≡ true
    from_cases x (inl y) r = or_left (is_in set b) ((b == w) || comes_after rows w b) ((s b).1 (record { start = x; among = y; reaches = r }))
    from_cases x (inr y) r = or_right (is_in set b) ((b == w) || comes_after rows w b) (task_of (reaches_cases ms w b (subst (λ (z : ℕ). Reaches ms z b) (sym y) r)))

    from : Leads ms (ws ++ w ∷ []) b → is_in next b ≡ true
    from l = e b ∙ from_cases l.start (Contains-push_cases ws w l.start l.among) l.reaches

-- the rows of one receiver more are gathered
pub led_more : (rows : List (List Bool)) (set next : List Bool) (ms : List Message) (ws : List ℕ) (i w : ℕ) → i < length ws → w ≡ get_or ws i w → IsOrderOf rows ms → IsLed set ms (take i ws)
    → ((b : ℕ) → is_in next b ≡ is_gathered rows set w b) → IsLed next ms (take (i + 1) ws)
led_more rows set next ms ws i w l ew o s e =
    let more : take (i + 1) ws ≡ take i ws ++ w ∷ [] = take_more ws i w l ∙ ap (λ (x : ℕ). take i ws ++ x ∷ []) (sym ew) in
    subst (IsLed next ms) (sym more) (led_push rows set next ms (take i ws) w o s e)

-- one message more
pub order_more : (rows next : List (List Bool)) (after : List Bool) (ms : List Message) (m : Message) → IsOrderOf rows ms → IsLed after ms m.receivers
    → ((a b : ℕ) → comes_after next a b ≡ is_joined rows m.sender after a b) → IsOrderOf next (ms ++ m ∷ [])
order_more rows next after ms m o s e a b = (to, from)
  where
    before : ((a == m.sender) ≡ true) ⊎ (comes_after rows a m.sender ≡ true) → Reaches ms a m.sender
    before (inl y) = subst (λ (z : ℕ). Reaches ms z m.sender) (sym (same_from a m.sender y)) (reaches_itself ms m.sender)
    before (inr y) = reaches_from_follows ms a m.sender ((o a m.sender).0 y)

    to_cases : (comes_after rows a b ≡ true) ⊎ ((((a == m.sender) || comes_after rows a m.sender) && is_in after b) ≡ true) → Follows (ms ++ m ∷ []) a b
    to_cases (inl y) = follows_before ms m a b ((o a b).0 y)
    to_cases (inr y) =
        let p = and_parts ((a == m.sender) || comes_after rows a m.sender) (is_in after b) y in
        follows_by ms m a b (before (or_cases (a == m.sender) (comes_after rows a m.sender) p.0)) ((s b).0 p.1)

    to : comes_after next a b ≡ true → Follows (ms ++ m ∷ []) a b
    to h = to_cases (or_cases (comes_after rows a b) (((a == m.sender) || comes_after rows a m.sender) && is_in after b) (sym (e a b) ∙ h))

    sender_of : (a ≡ m.sender) ⊎ Follows ms a m.sender → ((a == m.sender) || comes_after rows a m.sender) ≡ true
    sender_of (inl y) = or_left (a == m.sender) (comes_after rows a m.sender) (eq-eqb a m.sender y)
    sender_of (inr y) = or_right (a == m.sender) (comes_after rows a m.sender) ((o a m.sender).1 y)

    from_cases : (Follows ms a b) ⊎ (Reaches ms a m.sender × Leads ms m.receivers b) → is_joined rows m.sender after a b ≡ true
    from_cases (inl y) = or_left (comes_after rows a b) (((a == m.sender) || comes_after rows a m.sender) && is_in after b) ((o a b).1 y)
    from_cases (inr y) = or_right (comes_after rows a b) (((a == m.sender) || comes_after rows a m.sender) && is_in after b)
        (and_from ((a == m.sender) || comes_after rows a m.sender) (is_in after b) (sender_of (reaches_cases ms a m.sender y.0)) ((s b).1 y.1))

    from : Follows (ms ++ m ∷ []) a b → comes_after next a b ≡ true
    from f = e a b ∙ from_cases (follows_cases ms m a b f)
