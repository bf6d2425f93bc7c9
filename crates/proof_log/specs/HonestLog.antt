-- Honest lines: each is legal and gives a clause that says something new.
use Rattle.std.specs.Prelude.{ℕ, Some, true, ◌≡◌, ◌≢◌, ◌⊎◌, List, [], ◌∷◌, ◌++◌, All}
use Rattle.pb_rules.specs.Linear.{Linear}
use Rattle.pb_rules.specs.Clauses.{contradiction}
use Rattle.pb_rules.specs.Frames.{Line, cover, Frame, Given, given_from, given_by, derived_from, derived_by, blocks_by, is_derived}
use Rattle.pb_rules.specs.Honest.{AreHonest}

-- the lines of one solve, after what earlier lines gave: each is derived and legal at its place, and they give clauses that the base and the ones before do not absorb
pub record AreHonestLines (f : Frame) (before : Given) (base : List Linear) (ls : List Line) : Type 0 where
  pub derived_each : All (λ l. is_derived l ≡ true) ls
  pub after : Given
  pub legal : given_from f before ls ≡ Some after
  pub honest : AreHonest base (derived_from f before ls)

-- a solve begins after these lines: there are none, or the last one is a cover
abbrev pub EndsASolve : List Line → Type 0
EndsASolve ls = (ls ≡ []) ⊎ ((early : List Line) × (v : List ℕ) × (ls ≡ early ++ cover v ∷ []))

-- lines are legal, and the derived ones from each cover on, and from the start, are honest over the base and the blocks of the covers before
pub record AreHonestSolves (f : Frame) (ls : List Line) : Type 0 where
  pub after : Given
  pub legal : given_by f ls ≡ Some after
  pub solves : (early solve late : List Line) (g : Given) → ls ≡ early ++ solve ++ late → EndsASolve early → All (λ l. is_derived l ≡ true) solve → given_by f early ≡ Some g
      → AreHonestLines f g (f.base ++ blocks_by f early) solve

-- a whole log: each solve is honest, and the last derived constraint is not `0 >= 1`
pub record IsHonestLog (f : Frame) (ls : List Line) : Type 0 where
  pub honest : AreHonestSolves f ls
  pub last : (cs : List Linear) (c : Linear) → derived_by f ls ≡ cs ++ c ∷ [] → c ≢ contradiction
