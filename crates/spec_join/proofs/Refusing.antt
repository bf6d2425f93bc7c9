-- What the builder refuses is what a statement is refused for.
use Rattle.std.proofs.Common.{◌≡◌, ◌≢◌, ℕ, ℤ, Bool, List, Option, sym, ap, subst, ◌∙◌, arith, All, Contains, get_or, ◌≤◌, ◌^◌, inl, inr, Result, Ok, Err, OnOk}
use Rattle.std.proofs.lemmas.List.{get_or_default}
use Rattle.names.specs.Names.{IsNumberOf, number_by_name}
use Rattle.spec_model.specs.Spec.{Name, name_at, choice}
use Rattle.spec_graph.specs.Refusals.{HasBig, HasBigLink, HasBigOption, IsMapped, IsTaskRefused, IsTaskAccepted, IsResourceRefused, IsLinkRefused, IsOptionRefused, IsOptionAccepted, IsDeadlineRefused}
use Rattle.spec_graph.specs.declared.faults.BuildFault.{BuildFault}
use Rattle.spec_graph.specs.declared.faults.BuildFault.TheVariants.{Repeated, SelfLink, Cyclic, TooBig, Limit, NoMemory}
use Rattle.arch_reader.specs.declared.statement.KeyAmount.{KeyAmount}
use Rattle.arch_reader.specs.declared.statement.Statement.TheVariants.{Resource, Link, Task, Map, Deadline}
use Rattle.spec_join.specs.Joining.{Joining}
use Rattle.spec_join.specs.Fits.{IsFitResource, IsFitLink}
use Rattle.spec_join.specs.Stops.{stop_for, Refuses, IsAccepted}

abbrev AreSmall : List ℕ → Type 0
AreSmall row = All (λ w. w ≤ 2 ^ 40) row

-- what holds anyway holds where a result is a success
pub on_ok : {X E : Type 0} (r : Result X E) (P : Type 0) → P → OnOk r P
on_ok (Ok x) P h = h
on_ok (Err e) P h = tt

-- a name with a number is there
pub there_of : (names : List Name) (name : Name) (n : ℕ) → IsNumberOf names name n → Contains names name
there_of names name n h = (n, h.within, get_or_default names n name _ h.within ∙ h.same)

-- small weights aren't too big
none_big : (row : List ℕ) → AreSmall row → HasBig row → ⊥
none_big row small h =
    let e : get_or row h.0 h.1 ≡ h.1 = h.3 in
    let l : get_or row h.0 h.1 ≤ 2 ^ 40 = small h.0 h.1 h.2 in
    omega (arith, e, l, h.4)

pub task_refused : (s : Joining) (name : Name) (fault : BuildFault) → IsTaskRefused s.plan name fault → Refuses s (Task name) (stop_for fault)
task_refused s name Repeated h = (λ x. x, λ x. x, h)
task_refused s name (Limit what) h = (λ x. x, λ x. x, h.1, λ x. x, (h.0, h.2))
task_refused s name NoMemory h = tt
task_refused s name SelfLink h = absurd h
task_refused s name Cyclic h = absurd h
task_refused s name TooBig h = absurd h

pub task_accepted : (s : Joining) (name : Name) → IsTaskAccepted s.plan name → IsAccepted s (Task name)
task_accepted s name h = record { good = λ x. x; known = λ x. x; once = h.once; free = λ x. x; room = λ what x. absurd (omega (arith, h.room, x.1)) }

pub resource_refused : (s : Joining) (name : Name) (ws : List KeyAmount) (row : List ℕ) (fault : BuildFault) → IsResourceRefused s.plan name row fault → IsFitResource s name ws → AreSmall row
    → Refuses s (Resource name ws) (stop_for fault)
resource_refused s name ws row Repeated h fit small = absurd (fit.new h)
resource_refused s name ws row TooBig h fit small = absurd (none_big row small h.1)
resource_refused s name ws row (Limit what) h fit small = absurd (omega (arith, fit.room, h.3))
resource_refused s name ws row NoMemory h fit small = tt
resource_refused s name ws row SelfLink h fit small = absurd h
resource_refused s name ws row Cyclic h fit small = absurd h

none_big_link : (row traffic : List ℕ) → AreSmall row → AreSmall traffic → HasBigLink row traffic → ⊥
none_big_link row traffic r t (inl h) = none_big row r h
none_big_link row traffic r t (inr h) = none_big traffic t h

-- numbers of two names differ
apart_of : (names : List Name) (a b : Name) (n m : ℕ) → IsNumberOf names a n → IsNumberOf names b m → a ≢ b → n ≢ m
apart_of names a b n m x y d e = d (sym x.same ∙ ap (λ (k : ℕ). name_at names k) e ∙ y.same)

pub link_refused : (s : Joining) (name a b : Name) (two_way : Bool) (ws : List KeyAmount) (n m : ℕ) (row traffic : List ℕ) (fault : BuildFault) → IsLinkRefused s.plan name n m row traffic fault
    → IsFitLink s name a b ws
    → IsNumberOf s.plan.resources a n → IsNumberOf s.plan.resources b m → AreSmall row → AreSmall traffic → Refuses s (Link name a b two_way ws) (stop_for fault)
link_refused s name a b two_way ws n m row traffic Repeated h fit x y r t = absurd (fit.new h)
link_refused s name a b two_way ws n m row traffic SelfLink h fit x y r t = absurd (apart_of s.plan.resources a b n m x y fit.apart h.1)
link_refused s name a b two_way ws n m row traffic TooBig h fit x y r t = absurd (none_big_link row traffic r t h.2)
link_refused s name a b two_way ws n m row traffic (Limit what) h fit x y r t = absurd (omega (arith, fit.room, h.4))
link_refused s name a b two_way ws n m row traffic NoMemory h fit x y r t = tt
link_refused s name a b two_way ws n m row traffic Cyclic h fit x y r t = absurd h

none_big_option : (time : ℕ) (row : List ℕ) → time ≤ 2 ^ 40 → AreSmall row → HasBigOption time row → ⊥
none_big_option time row x r (inl h) = omega (arith, x, h)
none_big_option time row x r (inr h) = none_big row r h

-- a pair by its numbers or by its names
mapped_of : (s : Joining) (task resource : Name) (n m : ℕ) → IsNumberOf s.plan.tasks task n → IsNumberOf s.plan.resources resource m → IsMapped s.plan n m
    → IsMapped s.plan (number_by_name s.plan.tasks task) (number_by_name s.plan.resources resource)
mapped_of s task resource n m x y h = subst (λ (k : ℕ). IsMapped s.plan (number_by_name s.plan.tasks task) k) y.first (subst (λ (k : ℕ). IsMapped s.plan k m) x.first h)

mapped_by : (s : Joining) (task resource : Name) (n m : ℕ) → IsNumberOf s.plan.tasks task n → IsNumberOf s.plan.resources resource m
    → IsMapped s.plan (number_by_name s.plan.tasks task) (number_by_name s.plan.resources resource) → IsMapped s.plan n m
mapped_by s task resource n m x y h = subst (λ (k : ℕ). IsMapped s.plan n k) (sym y.first) (subst (λ (k : ℕ). IsMapped s.plan k (number_by_name s.plan.resources resource)) (sym x.first) h)

pub map_refused : (s : Joining) (task resource : Name) (time : Option ℤ) (ws : List KeyAmount) (n m x : ℕ) (row : List ℕ) (fault : BuildFault) → IsOptionRefused s.plan (choice n m x) row fault
    → IsNumberOf s.plan.tasks task n → IsNumberOf s.plan.resources resource m → x ≤ 2 ^ 40 → AreSmall row → Refuses s (Map task resource time ws) (stop_for fault)
map_refused s task resource time ws n m x row Repeated h i j b r = (λ y. y, λ y. y (there_of s.plan.tasks task n i), mapped_of s task resource n m i j h)
map_refused s task resource time ws n m x row TooBig h i j b r = absurd (none_big_option x row b r h.1)
map_refused s task resource time ws n m x row (Limit what) h i j b r = (λ y. y, λ y. y (there_of s.plan.tasks task n i), λ y. h.1 (mapped_by s task resource n m i j y), λ y. y, (h.0, h.3))
map_refused s task resource time ws n m x row NoMemory h i j b r = tt
map_refused s task resource time ws n m x row SelfLink h i j b r = absurd h
map_refused s task resource time ws n m x row Cyclic h i j b r = absurd h

pub map_accepted : (s : Joining) (task resource : Name) (time : Option ℤ) (ws : List KeyAmount) (n m x : ℕ) (row : List ℕ) → IsOptionAccepted s.plan (choice n m x) row
    → IsNumberOf s.plan.tasks task n → IsNumberOf s.plan.resources resource m → IsAccepted s (Map task resource time ws)
map_accepted s task resource time ws n m x row h i j = record {
  good = λ y. y;
  known = λ y. y (there_of s.plan.tasks task n i);
  once = λ y. h.once (mapped_by s task resource n m i j y);
  free = λ y. y;
  room = λ what y. absurd (omega (arith, h.room, y.1));
}

pub deadline_refused : (s : Joining) (task : Name) (at : ℤ) (x : ℕ) (fault : BuildFault) → IsDeadlineRefused x fault → x ≤ 2 ^ 40 → Refuses s (Deadline task at) (stop_for fault)
deadline_refused s task at x TooBig h b = absurd (omega (arith, h, b))
deadline_refused s task at x NoMemory h b = tt
deadline_refused s task at x Repeated h b = absurd h
deadline_refused s task at x SelfLink h b = absurd h
deadline_refused s task at x Cyclic h b = absurd h
deadline_refused s task at x (Limit what) h b = absurd h

pub deadline_accepted : (s : Joining) (task : Name) (at : ℤ) (n : ℕ) → IsNumberOf s.plan.tasks task n → IsAccepted s (Deadline task at)
deadline_accepted s task at n i = record { good = λ y. y; known = λ y. y (there_of s.plan.tasks task n i); once = λ y. y; free = λ y. y; room = λ what y. y }
