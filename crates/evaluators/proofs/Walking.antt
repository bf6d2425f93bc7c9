-- The length of a walk that is followed from its end.
use Rattle.std.proofs.Common.{◌≡◌, ℕ, ◌+◌, ◌<◌, ◌≤◌, true, false, sym, ap, ◌∙◌, arith, Option}
use Rattle.std.specs.Prelude.{unwrap_or}
use Rattle.std.proofs.lemmas.Bool.{false_from_ne_true}
use Rattle.spec_model.specs.Spec.{SpecValue, Bits, message_at, arc_at}
use Rattle.spec_model.specs.Rules.{IsOn, Uses, Walk, WalkBelow, sender_of}
use Rattle.spec_model.specs.Walks.{walk_test}
use Rattle.spec_model.specs.Schedule.{has_walk_of, walk_length}
use Rattle.spec_model.proofs.Decide.{Walk-from_test, walk_test_from}
use Rattle.spec_model.proofs.Back.{IsBack, IsBack-none, IsBack-end}
use Rattle.evaluators.proofs.Finding.{find-below_here, find-below_none}

test_none : (s : SpecValue) (f : Bits) (m r n : ℕ) → ¬ Walk s f m r n → has_walk_of s f m r n ≡ false
unfolding has_walk_of
test_none s f m r n none = false_from_ne_true (walk_test s f m n r) (λ e. none (Walk-from_test s f m n r e))

test_some : (s : SpecValue) (f : Bits) (m r n : ℕ) → Walk s f m r n → has_walk_of s f m r n ≡ true
unfolding has_walk_of
test_some s f m r n w = walk_test_from s f m n r w

-- the walk stands at the sender's resource after i steps back
pub walk_length_found : (s : SpecValue) (f : Bits) (m to now i : ℕ) → IsBack s f m to now i → i < (message_at s m).limit + 1 → IsOn s f (sender_of s m) now → walk_length s f m to ≡ i
unfolding walk_length
walk_length_found s f m to now i back l on =
    let whole : Walk s f m to (0 + i) = back.whole_of 0 on in
    let zero_left : 0 + i ≡ i = omega arith in
    ap (λ (o : Option ℕ). unwrap_or o 0) (find-below_here (has_walk_of s f m to) ((message_at s m).limit + 1) i l (ap (has_walk_of s f m to) (sym zero_left) ∙ test_some s f m to (0 + i) whole)
    (λ k h. test_none s f m to k (back.none_shorter k h)))

none_below : (s : SpecValue) (f : Bits) (m to : ℕ) → ¬ WalkBelow s f m to ((message_at s m).limit + 1) → walk_length s f m to ≡ 0
unfolding walk_length
none_below s f m to none = ap (λ (o : Option ℕ). unwrap_or o 0) (find-below_none (has_walk_of s f m to) ((message_at s m).limit + 1) (λ k h. test_none s f m to k (λ w. none (k, h, w))))

-- it stands elsewhere, and no used arc comes in
pub walk_length-none : (s : SpecValue) (f : Bits) (m to now i : ℕ) → IsBack s f m to now i → ¬ IsOn s f (sender_of s m) now → ((a : ℕ) → Uses s f m a → ¬ ((arc_at s a).head ≡ now))
    → walk_length s f m to ≡ 0
walk_length-none s f m to now i back off none = none_below s f m to (IsBack-none s f m to now i _ back off none)

-- more steps back were made than the message may take
pub walk_length_far : (s : SpecValue) (f : Bits) (m to now i : ℕ) → IsBack s f m to now i → (message_at s m).limit + 1 ≤ i → walk_length s f m to ≡ 0
walk_length_far s f m to now i back far = none_below s f m to (IsBack-end s f m to now i _ back far)
