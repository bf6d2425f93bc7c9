-- The first place, or pair of places, at which something is wrong.
use Rattle.std.specs.Prelude.{ℕ, ◌<◌, Option, Some, None}

-- P holds of each number below n
abbrev pub AllBelow : (ℕ → Type 0) → ℕ → Type 0
AllBelow P n = (k : ℕ) → k < n → P k

-- the first number below n at which Wrong holds, Right holding of those before; where there is none, Right holds of all
abbrev pub IsFirst : (Wrong Right : ℕ → Type 0) → ℕ → Option ℕ → Type 0
IsFirst Wrong Right n None = AllBelow Right n
IsFirst Wrong Right n (Some i) = (i < n) × Wrong i × AllBelow Right i

-- P holds of each pair with a first number below m and a second one below n
abbrev pub AllPairsBelow : (ℕ → ℕ → Type 0) → ℕ → ℕ → Type 0
AllPairsBelow P m n = (i : ℕ) → i < m → AllBelow (P i) n

-- the same of pairs, in the order of their first numbers
abbrev pub IsFirstPair : (Wrong Right : ℕ → ℕ → Type 0) → ℕ → ℕ → Option (ℕ × ℕ) → Type 0
IsFirstPair Wrong Right m n None = AllPairsBelow Right m n
IsFirstPair Wrong Right m n (Some p) = (p.0 < m) × (p.1 < n) × Wrong p.0 p.1 × AllPairsBelow Right p.0 n × AllBelow (Right p.0) p.1
