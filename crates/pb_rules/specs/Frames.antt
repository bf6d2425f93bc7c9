-- The lines of a log over a frame: which constraint stands under which id.
use Rattle.std.specs.Prelude.{ℕ, zero, suc, Bool, true, false, Option, Some, None, ◌≡◌, ◌+◌, ◌<◌, ◌^◌, slice_get, List, [], ◌∷◌, ◌++◌, length, All, option_and_then, option_map, sum_by, count_by, if◌then◌else◌}
use Rattle.std.specs.List.{list_all}
use Rattle.std.specs.Result.{result_ok}
use Rattle.pb_rules.specs.Linear.{Linear, IsNormal}
use Rattle.pb_rules.specs.Operations.{Context, mentions, line_gives, small_number}
use Rattle.pb_rules.specs.declared.Op.{Op}

-- a line: the operations of a derived one, or the vector of a cover
pub data Line : Type 0 where
  derived : List Op → Line
  cover : List ℕ → Line

-- base constraints, and the block of each cover by its number, from 1, and its vector
pub record Frame : Type 0 where
  pub base : List Linear
  pub block : ℕ → List ℕ → List Linear

-- a block has one constraint more than its vector has numbers, and all constraints are in normal form
pub record IsFrame (f : Frame) : Type 0 where
  pub sized : (b : ℕ) (v : List ℕ) → length (f.block b v) ≡ length v + 1
  pub base_normal : All (λ c. IsNormal c.terms c.degree) f.base
  pub block_normal : (b : ℕ) (v : List ℕ) → All (λ c. IsNormal c.terms c.degree) (f.block b v)

-- a frame fits a log whose first id this is: the ids below it are those of the base
abbrev pub FitsFrom : Frame → ℕ → Type 0
FitsFrom f first = length f.base + 1 ≡ first

-- what lines have given so far: the constraints, the first of which has the id 1, and how many covers there were
pub record Given : Type 0 where
  pub constraints : List Linear
  pub covers : ℕ

-- the constraint under an id; ids count from 1
abbrev pub under : List Linear → ℕ → Option Linear
under cs zero = None
under cs (suc i) = slice_get cs i

-- a constraint of a list has the variable
abbrev pub any_mentions : List Linear → ℕ → Bool
any_mentions [] x = false
any_mentions (c ∷ cs) x = if mentions x c.terms then true else any_mentions cs x

-- what the next line is judged by: each constraint that was given is live, and a variable is there where one of them has it
abbrev pub context_of : Given → Context
context_of g = record { live = under g.constraints; knows = any_mentions g.constraints }

-- a constraint stands under an id, which a line can name
pub record StandsUnder (context : Context) (id : ℕ) (c : Linear) : Type 0 where
  pub small : id < 2 ^ 63
  pub there : context.live id ≡ Some c

-- before the first line
abbrev pub base_of : Frame → Given
base_of f = record { constraints = f.base; covers = 0 }

-- one derived constraint more
abbrev pub with_derived : Given → Linear → Given
with_derived g c = record { constraints = g.constraints ++ c ∷ []; covers = g.covers }

-- one block more
abbrev pub with_block : Frame → Given → List ℕ → Given
with_block f g v = record { constraints = g.constraints ++ f.block (g.covers + 1) v; covers = g.covers + 1 }

-- after one line more, where it is legal
abbrev pub given_with : Frame → Given → Line → Option Given
given_with f g (derived ops) = option_map (with_derived g) (result_ok (line_gives (context_of g) ops))
given_with f g (cover v) = if list_all small_number v then Some (with_block f g v) else None

-- after lines one by one, where each is legal at its place
abbrev pub given_from : Frame → Given → List Line → Option Given
given_from f g [] = Some g
given_from f g (l ∷ ls) = option_and_then (λ h. given_from f h ls) (given_with f g l)

-- what all lines of a log give, where each is legal
abbrev pub given_by : Frame → List Line → Option Given
given_by f ls = given_from f (base_of f) ls

-- the blocks of covers, after so many covers
abbrev pub blocks_from : Frame → ℕ → List Line → List Linear
blocks_from f b [] = []
blocks_from f b (derived ops ∷ ls) = blocks_from f b ls
blocks_from f b (cover v ∷ ls) = f.block (b + 1) v ++ blocks_from f (b + 1) ls

-- the blocks of all covers of a log, in order
abbrev pub blocks_by : Frame → List Line → List Linear
blocks_by f ls = blocks_from f 0 ls

-- how many ids a line takes
abbrev pub ids_of : Line → ℕ
ids_of (derived ops) = 1
ids_of (cover v) = length v + 1

-- how many ids lines take
abbrev pub ids_in : List Line → ℕ
ids_in ls = sum_by ids_of ls

-- a cover has so many numbers
abbrev pub HasNumbers : ℕ → Line → Type 0
HasNumbers n (derived ops) = Unit {0}
HasNumbers n (cover v) = length v ≡ n

-- each cover of lines has so many numbers
abbrev pub CoversHave : ℕ → List Line → Type 0
CoversHave n ls = All (HasNumbers n) ls

-- whether a line is a derived one
abbrev pub is_derived : Line → Bool
is_derived (derived ops) = true
is_derived (cover v) = false

-- how many derived lines there are
abbrev pub derived_count : List Line → ℕ
derived_count ls = count_by is_derived ls

-- the constraint of a derived line in front of others
abbrev pub onto_some : Option Linear → (Linear → List Linear) → List Linear
onto_some None f = []
onto_some (Some c) f = c ∷ f c

-- the constraints that the derived lines give, in order; the blocks of covers are left out
abbrev pub derived_from : Frame → Given → List Line → List Linear
derived_from f g [] = []
derived_from f g (derived ops ∷ ls) = onto_some (result_ok (line_gives (context_of g) ops)) (λ c. derived_from f (with_derived g c) ls)
derived_from f g (cover v ∷ ls) = derived_from f (with_block f g v) ls

-- the constraints that all derived lines of a log give, in order
abbrev pub derived_by : Frame → List Line → List Linear
derived_by f ls = derived_from f (base_of f) ls
