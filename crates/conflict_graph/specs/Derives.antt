-- What a new line of the log derives.
use Rattle.std.specs.Prelude.{Ok, Some, true, ◌≡◌, List, [], ◌∷◌, ◌++◌}
use Rattle.pb_constraints.specs.declared.ConId.{ConId}
use Rattle.pb_rules.specs.Linear.{Linear}
use Rattle.pb_rules.specs.declared.Op.{Op}
use Rattle.pb_rules.specs.Operations.{Context, KnowsLive, line_gives}
use Rattle.pb_rules.specs.Frames.{Frame, Given, context_of, derived, given_by, with_derived, StandsUnder}
use Rattle.constraint_store.specs.Live.{Live, is_live, constraint_of, proof_id_of}
use Rattle.proof_log.specs.Log.{LogValue}

-- each live constraint stands under its proof id
abbrev pub HasUnder : Context → List Live → Type 0
HasUnder context live = (c : ConId) → is_live live c ≡ true → StandsUnder context (proof_id_of live c) (constraint_of live c)

-- operations give a clause in each context that has the live constraints under their proof ids, and knows the variables of what is live in it
abbrev pub GiveOver : List Live → List Op → Linear → Type 0
GiveOver live ops clause = (context : Context) → KnowsLive context → HasUnder context live → line_gives context ops ≡ Ok clause

-- one derived line more, which gives this clause wherever the live constraints stand under their proof ids
pub record Derives (live : List Live) (old new : LogValue) (clause : Linear) : Type 0 where
  pub ops : List Op
  pub one_more : new ≡ record old { lines = old.lines ++ derived ops ∷ [] }
  pub legal : GiveOver live ops clause

-- in each frame in which the earlier lines are legal and give the live constraints under their proof ids, the new line is legal and gives the clause
abbrev pub DerivesInFrames : List Live → LogValue → LogValue → Linear → Type 0
DerivesInFrames live old new clause = (f : Frame) (g : Given) → given_by f old.lines ≡ Some g → HasUnder (context_of g) live → given_by f new.lines ≡ Some (with_derived g clause)
