-- One task or one message more in a pass that marks tasks.
use Rattle.std.proofs.Common.{◌≡◌, ℕ, zero, suc, ◌+◌, ◌<◌, Bool, true, false, cond, nat_eq, List, [], ◌∷◌, length, map, take, get_or, set, All, refl, sym, ap, ap₂, ◌∙◌, subst, arith, add-one, inl, inr}
use Rattle.std.specs.Prelude.{◌||◌, ◌&&◌}
use Rattle.std.specs.List.{list_any}
use Rattle.std.proofs.lemmas.Bool.{cases_Bool, eqb-true, eqb-false}
use Rattle.std.proofs.lemmas.List.{get_or-set_same, get_or-set_other, get_or-map, length-map}
use Rattle.std.proofs.lemmas.List.Folds.{list_any-append, list_any_more}
use Rattle.std.proofs.Math.Bool.{or-false, or-true, or_assoc, and-true, and-false}
use Rattle.spec_model.specs.Spec.{SpecValue, those, message_at}
use Rattle.spec_model.specs.Schedule.{goes_to}
use Rattle.spec_model.proofs.Those.{those_more}
use Rattle.spec_graph.specs.declared.numbers.TaskNo.{TaskNo}
use Rattle.spec_graph.specs.Lists.{task_number}
use Rattle.evaluators.specs.Marks.{IsBelow, is_marked, sender_marked, is_sent_to}

-- a mark more
set_mark : (marks : List Bool) (i t : ℕ) → i < length marks → is_marked (set marks i true) t ≡ (is_marked marks t || nat_eq t i)
set_mark marks i t l = elim (cases_Bool (nat_eq t i)) [
  | inl e ↦ subst (λ (k : ℕ). is_marked (set marks i true) k ≡ true) (sym (eqb-true t i e)) (get_or-set_same marks i true false l)
      ∙ sym (ap (λ (b : Bool). is_marked marks t || b) e ∙ or-true (is_marked marks t))
  | inr e ↦ get_or-set_other marks i t true false (eqb-false t i e) ∙ sym (ap (λ (b : Bool). is_marked marks t || b) e ∙ or-false (is_marked marks t))
]

-- one more task of a list is marked
pub mark_more : (old now : List Bool) (ts : List ℕ) (i d : ℕ) → i < length ts → get_or ts i d < length now → ((t : ℕ) → is_marked now t ≡ (is_marked old t || list_any (nat_eq t) (take i ts)))
    → (t : ℕ) → is_marked (set now (get_or ts i d) true) t ≡ (is_marked old t || list_any (nat_eq t) (take (i + 1) ts))
mark_more old now ts i d l fits h t =
    set_mark now (get_or ts i d) t fits
    ∙ (ap (λ (b : Bool). b || nat_eq t (get_or ts i d)) (h t)
    ∙ (or_assoc (is_marked old t) (list_any (nat_eq t) (take i ts)) (nat_eq t (get_or ts i d))
    ∙ ap (λ (b : Bool). is_marked old t || b) (sym (list_any_more (nat_eq t) ts i d l))))

-- a task of a list is below what all of them are below
pub task_in : (n now : ℕ) (ts : List TaskNo) (i : ℕ) (x : TaskNo) → now ≡ n → i < length ts → All (IsBelow n) (map task_number ts) → (get_or ts i x).0 < now
task_in n now ts i x long l all =
    let below : get_or (map task_number ts) i 0 < n = all i 0 (omega (arith, l, length-map ts task_number)) in
    omega (arith, long, below, get_or-map task_number ts i x 0 l)

-- the same, of a list of tasks
pub mark_task : (old now : List Bool) (ts : List TaskNo) (i : ℕ) (x : TaskNo) → i < length ts → (get_or ts i x).0 < length now
    → ((t : ℕ) → is_marked now t ≡ (is_marked old t || list_any (nat_eq t) (take i (map task_number ts)))) → (t : ℕ)
    → is_marked (set now (get_or ts i x).0 true) t ≡ (is_marked old t || list_any (nat_eq t) (take (i + 1) (map task_number ts)))
mark_task old now ts i x l fits h t =
    let e : get_or (map task_number ts) i 0 ≡ (get_or ts i x).0 = get_or-map task_number ts i x 0 l in
    subst (λ (k : ℕ). is_marked (set now k true) t ≡ (is_marked old t || list_any (nat_eq t) (take (i + 1) (map task_number ts)))) e
    (mark_more old now (map task_number ts) i 0 (omega (arith, l, length-map ts task_number)) (omega (arith, fits, e)) h t)

-- one number more that may pass a test
pub any-those_more : (q p : ℕ → Bool) (n : ℕ) → list_any q (those p (n + 1)) ≡ (list_any q (those p n) || (p n && q n))
any-those_more q p n = ap (list_any q) (those_more p n) ∙ (list_any-append q (those p n) (cond (p n) (n ∷ []) []) ∙ ap (λ (b : Bool). list_any q (those p n) || b) (one (p n)))
  where
    one : (b : Bool) → list_any q (cond b (n ∷ []) []) ≡ (b && q n)
    one true = or-false (q n)
    one false = refl

pub any-those_agree : (q r p : ℕ → Bool) (n : ℕ) → ((k : ℕ) → k < n → q k ≡ r k) → list_any q (those p n) ≡ list_any r (those p n)
any-those_agree q r p zero same = refl
any-those_agree q r p (suc n) same =
    subst (λ (k : ℕ). list_any q (those p k) ≡ list_any r (those p k)) (add-one n)
    (any-those_more q p n ∙ (ap₂ (λ (a b : Bool). a || (p n && b)) (any-those_agree q r p n (λ k l. same k (omega (arith, l)))) (same n (omega arith)) ∙ sym (any-those_more r p n)))

-- one message more, whose sender is marked: its receivers are marked too
pub sent_more : (s : SpecValue) (marks now next : List Bool) (m : ℕ) → sender_marked s marks m ≡ true → ((t : ℕ) → is_marked now t ≡ is_sent_to s marks m t)
    → ((t : ℕ) → is_marked next t ≡ (is_marked now t || goes_to s t m)) → (t : ℕ) → is_marked next t ≡ is_sent_to s marks (m + 1) t
sent_more s marks now next m sender before marked t =
    marked t ∙ (ap (λ (b : Bool). b || goes_to s t m) (before t) ∙ sym (any-those_more (sender_marked s marks) (goes_to s t) m
    ∙ ap (λ (b : Bool). is_sent_to s marks m t || b) (ap (λ (b : Bool). goes_to s t m && b) sender ∙ and-true (goes_to s t m))))

-- one message more, whose sender isn't
pub sent_same : (s : SpecValue) (marks now : List Bool) (m : ℕ) → sender_marked s marks m ≡ false → ((t : ℕ) → is_marked now t ≡ is_sent_to s marks m t) → (t : ℕ)
    → is_marked now t ≡ is_sent_to s marks (m + 1) t
sent_same s marks now m sender before t =
    before t ∙ sym (any-those_more (sender_marked s marks) (goes_to s t) m ∙ (ap (λ (b : Bool). is_sent_to s marks m t || b)
    (ap (λ (b : Bool). goes_to s t m && b) sender ∙ and-false (goes_to s t m)) ∙ or-false (is_sent_to s marks m t)))

-- the mark of a message's sender
pub sender_is : (s : SpecValue) (marks : List Bool) (m sender : ℕ) (b : Bool) → sender ≡ (message_at s m).sender → is_marked marks sender ≡ b → sender_marked s marks m ≡ b
sender_is s marks m sender b e is = ap (is_marked marks) (sym e) ∙ is

-- the receivers of a message are marked
pub marked_by : (s : SpecValue) (m : ℕ) (now old next new : List Bool) (ts : List TaskNo) → now ≡ old → next ≡ new → map task_number ts ≡ (message_at s m).receivers
    → ((t : ℕ) → is_marked new t ≡ (is_marked now t || list_any (nat_eq t) (map task_number ts))) → (t : ℕ) → is_marked next t ≡ (is_marked old t || goes_to s t m)
unfolding goes_to
marked_by s m now old next new ts before after e marked t =
    ap (λ (ms : List Bool). is_marked ms t) after ∙ (marked t ∙ ap₂ (λ (ms : List Bool) (rs : List ℕ). is_marked ms t || list_any (nat_eq t) rs) before e)
