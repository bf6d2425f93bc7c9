-- How often tools were called, and the numbers at chosen places.
use Rattle.std.specs.Prelude.{◌≡◌, ℕ, ◌+◌, ◌*◌, ◌^◌, ◌<◌, ◌≤◌, ◌==◌, if◌then◌else◌, List, length, map, sum_by, slice_index}

-- how often a place is chosen
abbrev pub times : ℕ → List ℕ → ℕ
times k chosen = sum_by (λ p. if p == k then 1 else 0) chosen

-- each place was counted n times for each time that it is chosen, and no other was
pub record RoseBy (n : ℕ) (chosen old new : List ℕ) : Type 0 where
  pub each : (k : ℕ) → slice_index new k ≡ slice_index old k + n * times k chosen

-- each place was counted at most n times for each time that it is chosen, and no other was
pub record RoseAtMost (n : ℕ) (chosen old new : List ℕ) : Type 0 where
  pub low : (k : ℕ) → slice_index old k ≤ slice_index new k
  pub high : (k : ℕ) → slice_index new k ≤ slice_index old k + n * times k chosen

-- each chosen place may be counted n times for each time that it is chosen
abbrev pub HasRoom : ℕ → List ℕ → List ℕ → Type 0
HasRoom n chosen counts = (i : ℕ) → i < length chosen → slice_index counts (slice_index chosen i) + n * times (slice_index chosen i) chosen ≤ 2 ^ 63

-- the numbers at the chosen places, in their order
abbrev pub picked : List ℕ → List ℕ → List ℕ
picked numbers chosen = map (λ p. slice_index numbers p) chosen

-- each place is above those before it
abbrev pub AreRising : List ℕ → Type 0
AreRising chosen = (i j : ℕ) → i < j → j < length chosen → slice_index chosen i < slice_index chosen j
