-- Chains of one message more, and the order in which tasks of rising depths are placed.
use Rattle.std.proofs.Common.{◌≡◌, ℕ, zero, suc, ◌+◌, ◌<◌, ◌≤◌, Bool, true, false, cond, nat_eq, nat_lt, List, [], ◌∷◌, ◌++◌, length, get_or, take, refl, sym, ap, ap₂, ◌∙◌, subst, arith, add-one, append_assoc}
use Rattle.std.specs.List.{flat_map}
use Rattle.std.proofs.lemmas.Bool.Decides.{nat_tests}
use Rattle.std.proofs.Math.Seq.{take-append_seam}
use Rattle.std.proofs.lemmas.List.{length-append, append-nil}
use Rattle.spec_model.specs.Spec.{SpecValue, below, those}
use Rattle.spec_model.specs.Rules.{sender_of}
use Rattle.spec_model.specs.WellFormed.{IsWellFormed}
use Rattle.spec_model.specs.Schedule.{goes_to, ends_chain, depth, has_depth, tasks_of_depth, placing}
use Rattle.spec_model.proofs.Those.{those_more, flat_map-below_more, few_those}
use Rattle.spec_model.proofs.InRange.{message_in}
use Rattle.evaluators.specs.Marks.{AreChainMarks, AreDepthsBelow, AreDepths, is_marked, sender_marked, is_sent_to, depth_below}
use Rattle.evaluators.proofs.Greatest.{greatest-those_more}
use Rattle.evaluators.proofs.Marking.{any-those_agree}

-- ---- chains

pub chains_more : (s : SpecValue) (marks next : List Bool) (n : ℕ) → IsWellFormed s → AreChainMarks s n marks → length next ≡ length s.tasks
    → ((t : ℕ) → is_marked next t ≡ is_sent_to s marks (length s.messages) t) → AreChainMarks s (n + 1) next
chains_more s marks next n wf before long sent = record {
  each = long;
  marked = λ t l. subst (λ (k : ℕ). is_marked next t ≡ ends_chain s t k) (sym (add-one n)) (sent t ∙ any-those_agree (sender_marked s marks) (λ m. ends_chain s (sender_of s m) n) (goes_to s t)
      (length s.messages) (λ m h. before.marked (sender_of s m) (message_in s m wf h).sender));
}

pub depths_more : (s : SpecValue) (marks : List Bool) (depths deeper : List ℕ) (n : ℕ) → AreChainMarks s n marks → AreDepthsBelow s n depths → length deeper ≡ length depths
    → ((t : ℕ) → t < length depths → get_or deeper t 0 ≡ cond (is_marked marks t) n (get_or depths t 0)) → AreDepthsBelow s (n + 1) deeper
depths_more s marks depths deeper n chains before long deepened = record {
  each = long ∙ before.each;
  depths_are = λ t l. deepened t (omega (arith, before.each, l)) ∙ (ap₂ (λ (b : Bool) (d : ℕ). cond b n d) (chains.marked t l) (before.depths_are t l) ∙ sym (greatest-those_more (ends_chain s t) n));
}

pub depths_end : (s : SpecValue) (depths : List ℕ) (n : ℕ) → n ≡ length s.tasks → AreDepthsBelow s n depths → AreDepths s depths
unfolding depth
depths_end s depths n e all = record { each = all.each; depths_are = λ t l. all.depths_are t l ∙ ap (λ (k : ℕ). depth_below s k t) e }

-- ---- the order

-- one more among those that pass, or not
pub placed_yes : (p : ℕ → Bool) (n : ℕ) (start now : List ℕ) → p n ≡ true → now ≡ start ++ those p n → now ++ n ∷ [] ≡ start ++ those p (n + 1)
placed_yes p n start now passes e =
    ap (λ (xs : List ℕ). xs ++ n ∷ []) e ∙ (append_assoc start (those p n) (n ∷ []) ∙ ap (λ (xs : List ℕ). start ++ xs)
    (sym (those_more p n ∙ ap (λ (b : Bool). those p n ++ cond b (n ∷ []) []) passes)))

pub placed_no : (p : ℕ → Bool) (n : ℕ) (start now : List ℕ) → p n ≡ false → now ≡ start ++ those p n → now ≡ start ++ those p (n + 1)
placed_no p n start now fails e = e ∙ ap (λ (xs : List ℕ). start ++ xs) (sym (those_more p n ∙ (ap (λ (b : Bool). those p n ++ cond b (n ∷ []) []) fails ∙ append-nil (those p n))))

-- a task's depth by the list of depths
pub depth_test : (s : SpecValue) (depths : List ℕ) (d t : ℕ) → AreDepths s depths → t < length s.tasks → has_depth s d t ≡ nat_eq (get_or depths t 0) d
unfolding has_depth
depth_test s depths d t are l = ap (λ (n : ℕ). nat_eq n d) (sym (are.depths_are t l))

-- ---- no task is placed twice: there are at most as many places as tasks

abbrev is_less_deep : SpecValue → ℕ → ℕ → Bool
is_less_deep s n t = nat_lt (depth s t) n

less_deep : (a n : ℕ) → cond (nat_lt a n) 1 0 + cond (nat_eq a n) 1 0 ≡ cond (nat_lt a (n + 1)) 1 0
less_deep a n = grind (arith, nat_tests)

length-those_more : (p : ℕ → Bool) (n : ℕ) → length (those p (n + 1)) ≡ length (those p n) + cond (p n) 1 0
length-those_more p n = ap length (those_more p n) ∙ (length-append (those p n) (cond (p n) (n ∷ []) []) ∙ ap (λ (k : ℕ). length (those p n) + k) (one (p n)))
  where
    one : (b : Bool) → length (cond b (n ∷ []) []) ≡ cond b 1 0
    one true = refl
    one false = refl

deeper_split : (s : SpecValue) (d n : ℕ) → length (those (is_less_deep s d) n) + length (those (has_depth s d) n) ≡ length (those (is_less_deep s (d + 1)) n)
unfolding has_depth
deeper_split s d zero = refl
deeper_split s d (suc n) =
    subst (λ (k : ℕ). length (those (is_less_deep s d) k) + length (those (has_depth s d) k) ≡ length (those (is_less_deep s (d + 1)) k)) (add-one n)
    (omega (arith, length-those_more (is_less_deep s d) n, length-those_more (has_depth s d) n, length-those_more (is_less_deep s (d + 1)) n, less_deep (depth s n) d, deeper_split s d n))

few_placed : (s : SpecValue) (n : ℕ) → length (flat_map (tasks_of_depth s) (below n)) ≤ length (those (is_less_deep s n) (length s.tasks))
few_placed s zero = omega arith
few_placed s (suc n) =
    subst (λ (k : ℕ). length (flat_map (tasks_of_depth s) (below k)) ≤ length (those (is_less_deep s k) (length s.tasks))) (add-one n)
    (omega (arith, ap length (flat_map-below_more (tasks_of_depth s) n), length-append (flat_map (tasks_of_depth s) (below n)) (tasks_of_depth s n), few_placed s n, deeper_split s n (length s.tasks)))

pub few_places : (s : SpecValue) → length (placing s) ≤ length s.tasks
few_places s = omega (arith, few_placed s (length s.tasks), few_those (is_less_deep s (length s.tasks)) (length s.tasks))

-- a list that was written back whole
pub written : {X : Type 0} (xs ys : List X) (n : ℕ) → n ≡ length xs → take n (xs ++ ys) ≡ xs
written xs ys n e = ap (λ (k : ℕ). take k (xs ++ ys)) e ∙ take-append_seam xs ys
