-- What a solver is seen as, the frames that agree with it, and which clauses it keeps.
use Rattle.std.specs.Prelude.{ℕ, Bool, true, false, Some, ◌≡◌, ◌+◌, ◌<◌, ◌==◌, ◌&&◌, List, [], ◌∷◌, ◌++◌, map, length, min, All, if◌then◌else◌}
use Rattle.pb_rules.specs.Linear.{Linear, IsModel}
use Rattle.pb_rules.specs.Operations.{Context}
use Rattle.pb_rules.specs.Frames.{Line, Frame, IsFrame, FitsFrom, Given, context_of, given_by, derived_by, derived_count, StandsUnder, is_derived, ids_of}
use Rattle.constraint_store.specs.Live.{Content}
use Rattle.proof_log.specs.Log.{LogValue, next_id}

-- a solver: how many variables there are, the given constraints with the ids that the proof has for them,
-- the clauses kept from earlier calls with theirs, the oldest first, the log, and whether it ran out of memory
pub record SolverValue : Type 0 where
  pub variables : ℕ
  pub given : List Content
  pub kept : List Content
  pub log : LogValue
  pub spent : Bool

-- constraints without their ids
abbrev pub constraints_of : List Content → List Linear
constraints_of given = map (λ c. c.constraint) given

-- constraints under the ids from this one on
abbrev pub numbered : ℕ → List Linear → List Content
numbered id [] = []
numbered id (c ∷ cs) = record { constraint = c; proof_id = id } ∷ numbered (id + 1) cs

-- whether an id is that of a derived line, where the lines give ids from the first one on
abbrev pub is_derived_id : ℕ → List Line → ℕ → Bool
is_derived_id first [] id = false
is_derived_id first (l ∷ ls) id = if is_derived l && (id == first) then true else is_derived_id (first + ids_of l) ls id

-- an id under which the proof was given a constraint: below the log's next one, and no derived line's
pub record IsGivenId (log : LogValue) (id : ℕ) : Type 0 where
  pub from_one : 0 < id
  pub before_next : id < next_id log
  pub not_derived : is_derived_id log.first log.lines id ≡ false

-- the id of a given constraint is one under which the proof was given it
abbrev pub HasGivenId : LogValue → Content → Type 0
HasGivenId log c = IsGivenId log c.proof_id

-- a constraint stands under its id
abbrev pub StandsIn : Context → Content → Type 0
StandsIn context c = StandsUnder context c.proof_id c.constraint

-- a frame agrees with a solver: it fits the log, whose lines are legal in it, and each given constraint stands under its id
pub record Agrees (f : Frame) (s : SolverValue) : Type 0 where
  pub frame : IsFrame f
  pub fits : FitsFrom f s.log.first
  pub given : Given
  pub legal : given_by f s.log.lines ≡ Some given
  pub stand : All (StandsIn (context_of given)) s.given

-- how many clauses are kept at most
abbrev pub kept_limit : ℕ
kept_limit = 4096

-- the id of a kept clause is that of a derived line
abbrev pub HasDerivedId : LogValue → Content → Type 0
HasDerivedId log c = is_derived_id log.first log.lines c.proof_id ≡ true

-- in a frame, clauses are the last ones that the derived lines give, and each stands under its id
pub record AreLastDerived (f : Frame) (g : Given) (lines : List Line) (kept : List Content) : Type 0 where
  pub earlier : List Linear
  pub last : derived_by f lines ≡ earlier ++ constraints_of kept
  pub stand : All (StandsIn (context_of g)) kept

-- the kept clauses: one for each derived line of the log, but at most the limit, each under the id of a derived line;
-- all models of the given constraints satisfy them; and in each frame that fits, in which the log is legal and the given constraints stand under their ids,
-- they are the last ones that the derived lines give
pub record AreKept (given kept : List Content) (log : LogValue) : Type 0 where
  pub count : length kept ≡ min kept_limit (derived_count log.lines)
  pub derived_ids : All (HasDerivedId log) kept
  pub follow : (v : ℕ → Bool) → IsModel (constraints_of given) v → IsModel (constraints_of kept) v
  pub last : (f : Frame) (g : Given) → IsFrame f → FitsFrom f log.first → given_by f log.lines ≡ Some g → All (StandsIn (context_of g)) given → AreLastDerived f g log.lines kept
