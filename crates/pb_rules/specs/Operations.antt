-- The operations of a proof line, over a context and a stack: what each gives, or its fault.
use Rattle.std.specs.Prelude.{ℕ, Bool, true, false, Option, Some, None, Result, Ok, Err, ok_or, ◌≡◌, ◌^◌, ◌==◌, nat_lt, List, [], ◌∷◌, if◌then◌else◌}
use Rattle.pb_rules.specs.declared.Term.{Term}
use Rattle.pb_rules.specs.Linear.{Linear, total}
use Rattle.pb_rules.specs.CuttingPlanes.{axiom_of, add, times, divide, saturate, weaken}
use Rattle.pb_rules.specs.declared.Op.{Op}
use Rattle.pb_rules.specs.declared.Op.TheVariants.{Id, Axiom, Add, Times, Divide, Saturate, Weaken}

-- what an operation is judged by: the constraint that stands live under an id, and which variables are there
pub record Context : Type 0 where
  pub live : ℕ → Option Linear
  pub knows : ℕ → Bool

-- a term has the variable
abbrev pub mentions : ℕ → List Term → Bool
mentions x [] = false
mentions x (t ∷ ts) = if t.lit.var == x then true else mentions x ts

-- each variable of a constraint is there
abbrev pub IsKnown : Context → Linear → Type 0
IsKnown context c = (x : ℕ) → mentions x c.terms ≡ true → context.knows x ≡ true

-- each variable of each live constraint is there
abbrev pub KnowsLive : Context → Type 0
KnowsLive context = (id : ℕ) (c : Linear) → context.live id ≡ Some c → IsKnown context c

-- why an operation can't be carried out: the number of an id that isn't live or of a variable that isn't there; a divisor of 0; a number of the result that is too large; or anything else
pub data Fault : Type 0 where
  unknown : ℕ → Fault
  zero_divisor : Fault
  too_large : ℕ → Fault
  no_step : Fault

-- the number that is too large for a proof: a coefficient sum of 2^63 or more, or else such a degree
abbrev pub excess : Linear → Option ℕ
excess a = if nat_lt (total a.terms) (2 ^ 63) then (if nat_lt a.degree (2 ^ 63) then None else Some a.degree) else Some (total a.terms)

-- a result, where no number of it is too large
abbrev pub unless_too_large : Option ℕ → Linear → Result Linear Fault
unless_too_large None a = Ok a
unless_too_large (Some n) a = Err (too_large n)

-- a result that a proof may have: coefficient sum and degree below 2^63
abbrev pub fits : Linear → Result Linear Fault
fits a = unless_too_large (excess a) a

-- a number that a line may have in it: an id, a variable, a factor, a divisor or a number of a cover
abbrev pub small_number : ℕ → Bool
small_number n = nat_lt n (2 ^ 63)

-- the rest, where there is no fault
abbrev pub and_then : {X Y : Type 0} → (X → Result Y Fault) → Result X Fault → Result Y Fault
and_then f (Ok x) = f x
and_then f (Err why) = Err why

-- what comes of a number, if a line may have it
abbrev pub if_small : ℕ → Result (List Linear) Fault → Result (List Linear) Fault
if_small n r = if small_number n then r else Err no_step

-- what comes of a variable, if it is there
abbrev pub if_known : Context → ℕ → Result (List Linear) Fault → Result (List Linear) Fault
if_known context x r = if context.knows x then r else Err (unknown x)

-- a result onto a stack
abbrev pub push : List Linear → Result Linear Fault → Result (List Linear) Fault
push st (Ok a) = Ok (a ∷ st)
push st (Err why) = Err why

-- a result in the place of the top
abbrev pub for_top : (Linear → Result Linear Fault) → List Linear → Result (List Linear) Fault
for_top f [] = Err no_step
for_top f (a ∷ st) = push st (f a)

-- a sum in the place of the top two
abbrev pub for_two : List Linear → Result (List Linear) Fault
for_two [] = Err no_step
for_two (a ∷ []) = Err no_step
for_two (b ∷ a ∷ st) = push st (fits (add a b))

-- one operation over a context and a stack, its top first. A number that no line may have is no step; then an id or a variable that isn't there, or a divisor of 0,
-- counts; then a missing operand or a factor of 0, which is no step; and then a result that is too large
abbrev pub apply : Context → Op → List Linear → Result (List Linear) Fault
apply context (Id i) st = if_small i (push st (ok_or (context.live i) (unknown i)))
apply context (Axiom l) st = if_small l.var (if_known context l.var (Ok (axiom_of l ∷ st)))
apply context Add st = for_two st
apply context (Times n) st = if_small n (if n == 0 then Err no_step else for_top (λ a. fits (times n a)) st)
apply context (Divide n) st = if_small n (if n == 0 then Err zero_divisor else for_top (λ a. Ok (divide n a)) st)
apply context Saturate st = for_top (λ a. Ok (saturate a)) st
apply context (Weaken x) st = if_small x (if_known context x (for_top (λ a. Ok (weaken x a)) st))

-- operations one after another, up to the first fault
abbrev pub apply_all : Context → List Op → List Linear → Result (List Linear) Fault
apply_all context [] st = Ok st
apply_all context (o ∷ os) st = and_then (apply_all context os) (apply context o st)

-- what a stack of one constraint holds
abbrev pub only_one : List Linear → Result Linear Fault
only_one [] = Err no_step
only_one (a ∷ []) = Ok a
only_one (a ∷ b ∷ st) = Err no_step

-- the constraint that a derived line gives in a context, or the first fault of its words from the left
abbrev pub line_gives : Context → List Op → Result Linear Fault
line_gives context os = and_then only_one (apply_all context os [])
