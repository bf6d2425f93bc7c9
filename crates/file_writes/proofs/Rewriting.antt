-- What writing leaves, step by step.
use Rattle.std.proofs.Common.{◌∙◌, ℕ, List, Option, Some, None}
use Rattle.desk_io.specs.Files.{Files, Edits}
use Rattle.file_writes.specs.Writes.{Leaves, Rewrites}

-- ---- files that may not be told

-- what follows of a change
pub leaves_then : (a b : Option Files) (C D : Files → Files → Type 0) → ((x y : Files) → C x y → D x y) → Leaves a b C → Leaves a b D
leaves_then None b C D f h = tt
leaves_then (Some x) None C D f h = h
leaves_then (Some x) (Some y) C D f h = f x y h

-- one change after another
pub leaves_and : (a b c : Option Files) (C D E : Files → Files → Type 0) → ((x y z : Files) → C x y → D y z → E x z) → Leaves a b C → Leaves b c D → Leaves a c E
leaves_and None b c C D E f h k = tt
leaves_and (Some x) None c C D E f h k = absurd h
leaves_and (Some x) (Some y) None C D E f h k = k
leaves_and (Some x) (Some y) (Some z) C D E f h k = f x y z h k

-- what a call does to one file
pub of_edits : (a b : Option Files) (name : List ℕ) (C : List ℕ → List ℕ → Type 0) → Edits a b name C → Leaves a b (Rewrites name C)
of_edits None b name C h = tt
of_edits (Some x) None name C h = h
of_edits (Some x) (Some y) name C h = record { here = h.here; others = h.others }

-- ---- one file

rewrites_then : (name : List ℕ) (C D : List ℕ → List ℕ → Type 0) (x y : Files) → ((u v : List ℕ) → C u v → D u v) → Rewrites name C x y → Rewrites name D x y
rewrites_then name C D x y f h = record { here = f _ _ h.here; others = h.others }

rewrites_and : (name : List ℕ) (C D E : List ℕ → List ℕ → Type 0) (x y z : Files) → ((u v w : List ℕ) → C u v → D v w → E u w) → Rewrites name C x y → Rewrites name D y z → Rewrites name E x z
rewrites_and name C D E x y z f h k = record { here = f _ _ _ h.here k.here; others = λ other apart. k.others other apart ∙ h.others other apart }

pub leaves_rewrites : (a b : Option Files) (name : List ℕ) (C D : List ℕ → List ℕ → Type 0) → ((u v : List ℕ) → C u v → D u v) → Leaves a b (Rewrites name C) → Leaves a b (Rewrites name D)
leaves_rewrites a b name C D f h = leaves_then a b (Rewrites name C) (Rewrites name D) (λ x y k. rewrites_then name C D x y f k) h

pub leaves_on : (a b c : Option Files) (name : List ℕ) (C D E : List ℕ → List ℕ → Type 0) → ((u v w : List ℕ) → C u v → D v w → E u w) → Leaves a b (Rewrites name C) → Leaves b c (Rewrites name D)
    → Leaves a c (Rewrites name E)
leaves_on a b c name C D E f h k = leaves_and a b c (Rewrites name C) (Rewrites name D) (Rewrites name E) (λ x y z p q. rewrites_and name C D E x y z f p q) h k

-- ---- a file that is made empty and then filled
