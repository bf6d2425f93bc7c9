-- One task more in a timetable.
use Rattle.std.proofs.Common.{◌≡◌, ℕ, ◌+◌, ◌-◌, ◌*◌, ◌<◌, ◌≤◌, max, Bool, true, false, cond, List, [], ◌∷◌, length, map, take, get_or, All, sym, ap, ap₂, ◌∙◌, arith}
use Rattle.std.proofs.lemmas.List.{take_more, take_all, map-append}
use Rattle.std.proofs.lemmas.List.Sums.{fold_push}
use Rattle.std.specs.List.{fold}
use Rattle.spec_model.specs.Spec.{SpecValue, Bits, Deadline, those, message_at, deadline_at}
use Rattle.spec_model.specs.Rules.{sender_of}
use Rattle.spec_model.specs.Schedule.{Slot, greatest, end_of, free_from, schedule, lateness_for, arrival, walk_length, goes_to, resource_of, start_of, place, placing}
use Rattle.evaluators.specs.Placed.{AreEnds, IsNoLater, EndsBy}
use Rattle.evaluators.specs.declared.timetable.Timetable.{Timetable}
use Rattle.evaluators.proofs.Greatest.{greatest-push, greatest-map_those_more}

-- a later bound
pub later : (xs : List ℕ) (a b : ℕ) → a ≤ b → All (IsNoLater a) xs → All (IsNoLater b) xs
later xs a b l all k d h = omega (arith, all k d h, l)

-- ---- deadlines

pub late_at : (s : SpecValue) (f : Bits) (ends : List ℕ) (i task time at : ℕ) → AreEnds s (schedule s f) ends → task < length s.tasks → task ≡ (deadline_at s i).task
    → time ≡ (deadline_at s i).time → at ≡ get_or ends task 0 - time → at ≡ lateness_for s f (deadline_at s i)
late_at s f ends i task time at are l same_task same_time e = e ∙ ap₂ (λ (a b : ℕ). a - b) (are task l ∙ ap (end_of (schedule s f)) same_task) same_time

pub late_more : (s : SpecValue) (f : Bits) (i late at now : ℕ) → i < length s.deadlines → late ≡ greatest (map (lateness_for s f) (take i s.deadlines)) → at ≡ lateness_for s f (deadline_at s i)
    → now ≡ max at late → now ≡ greatest (map (lateness_for s f) (take (i + 1) s.deadlines))
late_more s f i late at now l before here e =
    let g = lateness_for s f in
    e ∙ (omega arith ∙ sym (
    ap (λ (ds : List Deadline). greatest (map g ds)) (take_more s.deadlines i (record { task = 0; time = 0 }) l)
    ∙ (ap greatest (map-append g (take i s.deadlines) (deadline_at s i ∷ []))
    ∙ (greatest-push (map g (take i s.deadlines)) (g (deadline_at s i)) ∙ ap₂ max (sym before) (sym here)))))

-- ---- messages

pub arrival_is : (s : SpecValue) (f : Bits) (slots : List Slot) (r m sender a delay hops : ℕ) → a ≡ end_of slots sender → sender ≡ sender_of s m → delay ≡ (message_at s m).delay
    → hops ≡ walk_length s f m r → a + delay * hops ≡ arrival s f slots r m
unfolding arrival
arrival_is s f slots r m sender a delay hops ends from slow far =
    ap (λ (x : ℕ). x + delay * hops) (ends ∙ ap (end_of slots) from) ∙ ap₂ (λ (d h : ℕ). end_of slots (sender_of s m) + d * h) slow far

-- one message more that the task receives, or another one
pub start_later : (g : ℕ → ℕ) (p : ℕ → Bool) (n first start at now : ℕ) → p n ≡ true → start ≡ max first (greatest (map g (those p n))) → at ≡ g n → now ≡ max start at
    → now ≡ max first (greatest (map g (those p (n + 1))))
start_later g p n first start at now passes before here e =
    let more : greatest (map g (those p (n + 1))) ≡ max (greatest (map g (those p n))) (g n) = greatest-map_those_more g p n
    ∙ ap (λ (b : Bool). cond b (max (greatest (map g (those p n))) (g n)) (greatest (map g (those p n)))) passes in
    omega (arith, before, here, e, more)

pub start_same : (g : ℕ → ℕ) (p : ℕ → Bool) (n first start : ℕ) → p n ≡ false → start ≡ max first (greatest (map g (those p n))) → start ≡ max first (greatest (map g (those p (n + 1))))
start_same g p n first start fails before =
    before ∙ ap (max first) (sym (greatest-map_those_more g p n ∙ ap (λ (b : Bool). cond b (max (greatest (map g (those p n))) (g n)) (greatest (map g (those p n)))) fails))

-- all messages were looked at
pub start_is : (s : SpecValue) (f : Bits) (slots : List Slot) (t r m start : ℕ) → r ≡ resource_of s f t → m ≡ length s.messages
    → start ≡ max (free_from slots r) (greatest (map (arrival s f slots r) (those (goes_to s t) m))) → start ≡ start_of s f slots t
unfolding start_of
start_is s f slots t r m start own all e = e ∙ ap₂ (λ (q n : ℕ). max (free_from slots q) (greatest (map (arrival s f slots q) (those (goes_to s t) n)))) own all

-- ---- slots

pub ends_later : (a b : ℕ) (table : Timetable) → a ≤ b → EndsBy a table → EndsBy b table
ends_later a b table l by = record { tasks = later table.ends.items a b l by.tasks; resources = later table.free.items a b l by.resources }

pub slots_more : (s : SpecValue) (f : Bits) (ts : List ℕ) (i d : ℕ) → i < length ts → fold (place s f) [] (take (i + 1) ts) ≡ place s f (fold (place s f) [] (take i ts)) (get_or ts i d)
slots_more s f ts i d l = ap (fold (place s f) []) (take_more ts i d l) ∙ fold_push (place s f) [] (take i ts) (get_or ts i d)

pub slots_all : (s : SpecValue) (f : Bits) (ts : List ℕ) (i : ℕ) → ts ≡ placing s → length ts ≤ i → fold (place s f) [] (take i ts) ≡ schedule s f
unfolding schedule
slots_all s f ts i e l = ap (fold (place s f) []) (take_all i ts l ∙ e)
