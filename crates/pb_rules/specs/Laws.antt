-- What legal lines keep, as laws.
use Rattle.std.specs.Prelude.{ℕ, Bool, Ok, Some, ◌≡◌, ◌+◌, ◌++◌, ◌∷◌, [], List, length, All}
use Rattle.pb_rules.specs.Linear.{Linear, IsModel, IsNormal}
use Rattle.pb_rules.specs.declared.Op.{Op}
use Rattle.pb_rules.specs.Operations.{Context, IsKnown, KnowsLive, line_gives}
use Rattle.pb_rules.specs.Frames.{Line, derived, Frame, IsFrame, Given, any_mentions, context_of, with_derived, given_by, blocks_by, derived_by, ids_in}

-- where the base and the blocks of the covers hold, all that legal lines give holds
abbrev pub LinesAreSound : Type 0
LinesAreSound = (v : ℕ → Bool) (f : Frame) (g : Given) (ls : List Line) → given_by f ls ≡ Some g → IsModel (f.base ++ blocks_by f ls) v → IsModel g.constraints v

-- legal lines that follow a frame in normal form give constraints in normal form
abbrev pub LinesAreNormal : Type 0
LinesAreNormal = (f : Frame) (g : Given) (ls : List Line) → IsFrame f → given_by f ls ≡ Some g → All (λ c. IsNormal c.terms c.degree) g.constraints

-- after lines there are the base's constraints and one for each id that the lines take
abbrev pub IdsAreCounted : Type 0
IdsAreCounted = (f : Frame) (g : Given) (ls : List Line) → IsFrame f → given_by f ls ≡ Some g → length g.constraints ≡ length f.base + ids_in ls

-- one legal derived line more gives its constraint more
abbrev pub LineGivesOne : Type 0
LineGivesOne =
    (f : Frame) (g : Given) (ls : List Line) (ops : List Op) (c : Linear) → given_by f ls ≡ Some g → line_gives (context_of g) ops ≡ Ok c
    → given_by f (ls ++ derived ops ∷ []) ≡ Some (with_derived g c)

-- which is one more of those that the derived lines give
abbrev pub LineDerivesOne : Type 0
LineDerivesOne =
    (f : Frame) (g : Given) (ls : List Line) (ops : List Op) (c : Linear) → given_by f ls ≡ Some g → line_gives (context_of g) ops ≡ Ok c
    → derived_by f (ls ++ derived ops ∷ []) ≡ derived_by f ls ++ c ∷ []

-- what lines gave knows the variables of all that is live
abbrev pub GivenKnowsLive : Type 0
GivenKnowsLive = (g : Given) → KnowsLive (context_of g)

-- the constraint of a legal line has no variable that wasn't there
abbrev pub LinesAreKnown : Type 0
LinesAreKnown = (context : Context) (ops : List Op) (c : Linear) → KnowsLive context → line_gives context ops ≡ Ok c → IsKnown context c

-- so after it the same variables are there
abbrev pub LineKeepsVariables : Type 0
LineKeepsVariables = (g : Given) (ops : List Op) (c : Linear) → line_gives (context_of g) ops ≡ Ok c → (x : ℕ) → (context_of (with_derived g c)).knows x ≡ (context_of g).knows x

-- after legal lines exactly the variables of the base and of the blocks of the covers are there
abbrev pub VariablesAreOfCovers : Type 0
VariablesAreOfCovers = (f : Frame) (g : Given) (ls : List Line) → given_by f ls ≡ Some g → (x : ℕ) → (context_of g).knows x ≡ any_mentions (f.base ++ blocks_by f ls) x
