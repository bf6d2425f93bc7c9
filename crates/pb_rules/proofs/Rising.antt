-- Terms in rising order of their variables, from a variable on.
use Rattle.std.proofs.Common.{ℕ, ◌+◌, ◌<◌, ◌≤◌, List, [], ◌∷◌, length, get_or, arith, zero, suc}
use Rattle.pb_rules.specs.declared.Term.{Term}

-- in rising order from a variable on
abbrev pub From : ℕ → List Term → Type 0
From k [] = Unit {0}
From k (t ∷ ts) = (k ≤ t.lit.var) × From (t.lit.var + 1) ts

-- terms from a variable on stand from each lower one on
pub From-weaker : (j k : ℕ) (ts : List Term) → j ≤ k → From k ts → From j ts
From-weaker j k [] l h = tt
From-weaker j k (t ∷ ts) l h = let a = h.0 in (omega arith, h.1)

-- no variable comes before the first
pub from_least : (k : ℕ) (ts : List Term) → From k ts → (j : ℕ) (d : Term) → j < length ts → k ≤ (get_or ts j d).lit.var
from_least k [] f j d l = absurd (omega arith)
from_least k (t ∷ ts) f zero d l = f.0
from_least k (t ∷ ts) f (suc j) d l = let a = f.0 in let b = from_least (t.lit.var + 1) ts f.1 j d (omega arith) in omega arith

-- rising from a variable on, for each pair of places
pub from_pairs : (k : ℕ) (ts : List Term) → From k ts → (i j : ℕ) (d : Term) → i < j → j < length ts → (get_or ts i d).lit.var < (get_or ts j d).lit.var
from_pairs k [] f i j d l m = absurd (omega arith)
from_pairs k (t ∷ ts) f zero zero d l m = absurd (omega arith)
from_pairs k (t ∷ ts) f zero (suc j) d l m = let a = from_least (t.lit.var + 1) ts f.1 j d (omega arith) in omega arith
from_pairs k (t ∷ ts) f (suc i) zero d l m = absurd (omega arith)
from_pairs k (t ∷ ts) f (suc i) (suc j) d l m = from_pairs (t.lit.var + 1) ts f.1 i j d (omega arith) (omega arith)

-- terms whose variables rise pair by pair stand from the first one on
pub rising_from : (k : ℕ) (ts : List Term) → ((d : Term) → 0 < length ts → k ≤ (get_or ts 0 d).lit.var)
    → ((i j : ℕ) (d : Term) → i < j → j < length ts → (get_or ts i d).lit.var < (get_or ts j d).lit.var) → From k ts
rising_from k [] b h = tt
rising_from k (t ∷ ts) b h =
    (b t (omega arith), rising_from (t.lit.var + 1) ts (λ d l. (let r = h 0 1 d (omega arith) (omega arith) in omega arith)) (λ i j d l m. h (suc i) (suc j) d (omega arith) (omega arith)))
