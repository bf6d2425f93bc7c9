-- No kind of line of a made specification is refused, after what the lines before it made.
use Rattle.std.proofs.Common.{◌≡◌, ℕ, zero, suc, ◌+◌, ◌<◌, ◌≤◌, Bool, true, false, List, [], ◌∷◌, length, refl, sym, ap, ◌∙◌, subst, arith, All, Any, Contains, Option, None, ⊎_elim}
use Rattle.std.specs.Prelude.{ℤ}
use Rattle.std.proofs.lemmas.List.Elements.{All-nil, All-cons, All-push, All-contains, All-weaker}
use Rattle.names.specs.Names.{number_by_name}
use Rattle.spec_model.specs.Spec.{Name, Choice, name_at}
use Rattle.arch_reader.specs.declared.statement.KeyAmount.{KeyAmount}
use Rattle.arch_reader.specs.declared.statement.Statement.TheVariants.{Objective, Resource, Link, Traffic, Task, Map, Hops}
use Rattle.spec_join.specs.Joining.{Joining, message_between}
use Rattle.spec_join.specs.Effects.{effect, option_between}
use Rattle.spec_join.specs.Refusals.{IsListedTwice}
use Rattle.spec_join.specs.Stops.{IsAccepted}
use Rattle.spec_make.specs.Made.{resource_name, task_name, message_name}
use Rattle.made_laws.proofs.Named.{names_long, name_number, known_name, new_name}
use Rattle.made_laws.proofs.Forward.{IsForward, closes_none}
use Rattle.made_laws.proofs.Lines.{receiving, message_of}
use Rattle.made_laws.proofs.Made.{Made, IsNamedBelow, IsOfTaskBelow, task_number, resource_number}

-- ---- what is never refused once it was read

pub objective_fine : (s : Joining) (name : Name) (scale : Option ℕ) (floor : Bool) → IsAccepted s (Objective name scale floor)
objective_fine s name scale floor = record { good = λ x. x; known = λ x. x; once = λ x. x; free = λ x. x; room = λ what x. x }

pub resource_fine : (s : Joining) (name : Name) (ws : List KeyAmount) → IsAccepted s (Resource name ws)
resource_fine s name ws = record { good = λ x. x; known = λ x. x; once = λ x. x; free = λ x. x; room = λ what x. x }

pub link_fine : (s : Joining) (name a b : Name) (two_way : Bool) (ws : List KeyAmount) → IsAccepted s (Link name a b two_way ws)
link_fine s name a b two_way ws = record { good = λ x. x; known = λ x. x; once = λ x. x; free = λ x. x; room = λ what x. x }

pub traffic_fine : (s : Joining) (link : Name) (ws : List KeyAmount) → IsAccepted s (Traffic link ws)
traffic_fine s link ws = record { good = λ x. x; known = λ x. x; once = λ x. x; free = λ x. x; room = λ what x. x }

pub hops_fine : (s : Joining) (n : ℕ) → IsAccepted s (Hops None n)
hops_fine s n = record { good = λ x. x; known = λ x. x; once = λ x. x; free = λ x. x; room = λ what x. x }

-- ---- tasks

pub task_fine : (r l t m k c : ℕ) (s : Joining) → t < 100 → Made r l t m k c s → IsAccepted s (Task (task_name t))
task_fine r l t m k c s few h =
    let new = new_name 116 t (omega (arith, few)) in
    let long : length s.plan.tasks ≡ t = ap length h.tasks ∙ names_long 116 t in
    record {
      good = λ x. x;
      known = λ x. x;
      once = λ x. new (subst (λ (ns : List Name). Contains ns (task_name t)) h.tasks x);
      free = λ x. x;
      room = λ what x. omega (arith, x.1, long, few);
    }

-- ---- messages

any_none : {X : Type 0} (P : X → Type 0) (xs : List X) → All P xs → Any (λ x. ¬ P x) xs → ⊥
any_none P xs h a = a.4 (subst P a.3 (h a.0 a.1 a.2))

known_task : (r l t m k c i : ℕ) (s : Joining) → i < t → Made r l t m k c s → Contains s.plan.tasks (task_name i)
known_task r l t m k c i s lt h = subst (λ (ns : List Name). Contains ns (task_name i)) (sym h.tasks) (known_name 116 t i lt)

-- the tasks that a message goes to are there: the second one where there are two
receivers_known : (two : Bool) (r l t m k c i : ℕ) (s : Joining) → i < t → (two ≡ true → i + 1 < t) → Made r l t m k c s → All (Contains s.plan.tasks) (receiving two i)
receivers_known true r l t m k c i s lt next h =
    All-cons (Contains s.plan.tasks) (task_name i) (task_name (i + 1) ∷ []) (known_task r l t m k c i s lt h)
    (All-cons (Contains s.plan.tasks) (task_name (i + 1)) [] (known_task r l t m k c (i + 1) s (next refl) h) (All-nil (Contains s.plan.tasks)))
receivers_known false r l t m k c i s lt next h = All-cons (Contains s.plan.tasks) (task_name i) [] (known_task r l t m k c i s lt h) (All-nil (Contains s.plan.tasks))

-- and none of them is named twice
listed_once : (two : Bool) (i : ℕ) → i < 100 → IsListedTwice (receiving two i) → ⊥
listed_once two i few h = go two h.first h.second h.before h.within h.same
  where
    go : (b : Bool) (j k : ℕ) → j < k → k < length (receiving b i) → name_at (receiving b i) j ≡ name_at (receiving b i) k → ⊥
    go true zero (suc zero) before within same = let e = name_number 116 i (i + 1) (omega (arith, few)) (omega (arith, few)) same in omega (arith, e)
    go true zero zero before within same = omega (arith, before)
    go true zero (suc (suc k)) before within same = omega (arith, within)
    go true (suc j) zero before within same = omega (arith, before)
    go true (suc j) (suc k) before within same = omega (arith, before, within)
    go false j k before within same = omega (arith, before, within)

message_new : (r l t k c i : ℕ) (s : Joining) → i < 100 → Made r l t i k c s → Contains s.plan.message_names (message_name i) → ⊥
message_new r l t k c i s few h x =
    let named = All-contains (IsNamedBelow i) s.plan.message_names (message_name i) h.sent.named x in
    let same = name_number 109 i named.0 (omega (arith, few)) (omega (arith, named.1, few)) named.2 in
    omega (arith, same, named.1)

-- it goes to higher numbers than its sender's
pub message_forward : (two : Bool) (r l t m k c i sender : ℕ) (s : Joining) → t ≤ 100 → i < t → (two ≡ true → i + 1 < t) → sender < i → Made r l t m k c s
    → IsForward (message_between s (task_name sender) (receiving two i))
message_forward true r l t m k c i sender s few lt next low h =
    let from = task_number r l t m k c sender s (omega (arith, low, lt)) few h in
    let first = task_number r l t m k c i s lt few h in
    let second = task_number r l t m k c (i + 1) s (next refl) few h in
    let N : Name → ℕ = number_by_name s.plan.tasks in
    let Above : ℕ → Type 0 = λ w. N (task_name sender) < w in
    record {
      rises = All-cons Above (N (task_name i)) (N (task_name (i + 1)) ∷ []) (omega (arith, from, first, low))
          (All-cons Above (N (task_name (i + 1))) [] (omega (arith, from, second, low)) (All-nil Above));
      few = omega arith;
      one = refl;
    }
message_forward false r l t m k c i sender s few lt next low h =
    let from = task_number r l t m k c sender s (omega (arith, low, lt)) few h in
    let first = task_number r l t m k c i s lt few h in
    let N : Name → ℕ = number_by_name s.plan.tasks in
    let Above : ℕ → Type 0 = λ w. N (task_name sender) < w in
    record {
      rises = All-cons Above (N (task_name i)) [] (omega (arith, from, first, low)) (All-nil Above);
      few = omega arith;
      one = refl;
    }

pub message_fine : (two : Bool) (r l t k c i sender : ℕ) (s : Joining) → t ≤ 100 → i < t → (two ≡ true → i + 1 < t) → sender < i → Made r l t i k c s
    → IsAccepted s (message_of two i sender)
message_fine two r l t k c i sender s few lt next low h = record {
  good = λ x. x;
  known = λ x. ⊎_elim (λ y. y (known_task r l t i k c sender s (omega (arith, low, lt)) h))
      (λ y. any_none (Contains s.plan.tasks) (receiving two i) (receivers_known two r l t i k c i s lt next h) y) x;
  once = λ x. ⊎_elim (message_new r l t k c i s (omega (arith, lt, few)) h) (listed_once two i (omega (arith, lt, few))) x;
  free = closes_none s.plan.messages (message_between s (task_name sender) (receiving two i)) h.sent.forward (message_forward two r l t i k c i sender s few lt next low h);
  room = λ what x. omega (arith, x.1, h.sent.few, lt, few);
}

-- ---- options

-- an option that isn't of task q on resource x
abbrev pub IsOther : ℕ → ℕ → Choice → Type 0
IsOther q x o = o.task ≡ q → o.resource ≡ x → ⊥

-- a task before which alone there are options has none
pub free_before : (q x : ℕ) (os : List Choice) → All (IsOfTaskBelow q) os → All (IsOther q x) os
free_before q x os h = All-weaker (IsOfTaskBelow q) (IsOther q x) (λ o low same on. omega (arith, low, same)) os h

-- an option on another resource leaves a resource free
pub free_after : (r l t m k c q a x : ℕ) (s : Joining) (time : Option ℤ) (ws : List KeyAmount) → a < r → r ≤ 100 → (a ≡ x → ⊥) → Made r l t m k c s → All (IsOther q x) s.plan.options
    → All (IsOther q x) (effect s (Map (task_name q) (resource_name a) time ws)).plan.options
free_after r l t m k c q a x s time ws lt few apart h free =
    let on = resource_number r l t m k c a s lt few h in
    All-push (IsOther q x) s.plan.options (option_between s (task_name q) (resource_name a) time) free (λ same there. apart (sym on ∙ there))

pub option_fine : (r l t m k c q x : ℕ) (s : Joining) (time : Option ℤ) (ws : List KeyAmount) → q < t → t ≤ 100 → x < r → r ≤ 100 → c < 1000 → Made r l t m k c s → All (IsOther q x) s.plan.options
    → IsAccepted s (Map (task_name q) (resource_name x) time ws)
option_fine r l t m k c q x s time ws lt few within some room h free =
    let task = task_number r l t m k c q s lt few h in
    let on = resource_number r l t m k c x s within some h in
    record {
      good = λ y. y;
      known = λ y. y (known_task r l t m k c q s lt h);
      once = λ y. subst (IsOther q x) y.3 (free y.0 y.1 y.2) (y.4.0 ∙ task) (y.4.1 ∙ on);
      free = λ y. y;
      room = λ what y. omega (arith, y.1, h.mapped.few, room);
    }
