-- What is kept of a statement of a file that was read, said of what the statements before it made.
use Rattle.std.specs.Prelude.{◌≡◌, ◌≢◌, ℕ, ℤ, false, ◌<◌, ◌≤◌, List, Option, length, All, Contains}
use Rattle.names.specs.Names.{IsName, number_by_name}
use Rattle.spec_model.specs.Spec.{Name}
use Rattle.spec_model.specs.Limits.{most_resources, most_links, most_objectives, most_number}
use Rattle.arch_reader.specs.Numbers.{at_scale}
use Rattle.arch_reader.specs.Words.{is_table_key}
use Rattle.arch_reader.specs.declared.statement.KeyAmount.{KeyAmount}
use Rattle.arch_reader.specs.declared.statement.KeyColumn.{KeyColumn}
use Rattle.arch_reader.specs.declared.statement.Statement.{Statement}
use Rattle.arch_reader.specs.declared.statement.Statement.TheVariants.{Objective, Resource, Link, Traffic, Task, Message, Merge, Map, Table, Quantity, QuantityTable, Hops, Delay, Deadline}
use Rattle.spec_join.specs.Joining.{Joining, SettingsValue, weight_of, time_at, time_or_0}

-- a word `OBJ=D` names an objective, and its weight isn't too big
pub record IsWeighable (objectives : List Name) (scales : List ℕ) (w : KeyAmount) : Type 0 where
  pub known : Contains objectives w.key
  pub small : weight_of scales (number_by_name objectives w.key) w.amount ≤ most_number

abbrev pub AreWeighable : Joining → List KeyAmount → Type 0
AreWeighable s ws = All (IsWeighable s.plan.objectives s.scales) ws

pub record IsFitResource (s : Joining) (name : Name) (weights : List KeyAmount) : Type 0 where
  pub named : IsName name
  pub new : ¬ Contains s.plan.resources name
  pub weighable : AreWeighable s weights
  pub room : length s.plan.resources < most_resources

pub record IsFitLink (s : Joining) (name a b : Name) (weights : List KeyAmount) : Type 0 where
  pub named : IsName name
  pub new : ¬ Contains s.plan.links name
  pub a_there : Contains s.plan.resources a
  pub b_there : Contains s.plan.resources b
  pub apart : a ≢ b
  pub weighable : AreWeighable s weights
  pub room : length s.plan.links < most_links

pub record IsFitTraffic (s : Joining) (link : Name) (weights : List KeyAmount) : Type 0 where
  pub there : Contains s.plan.links link
  pub weighable : AreWeighable s weights

pub record IsFitMap (s : Joining) (resource : Name) (time : Option ℤ) (weights : List KeyAmount) : Type 0 where
  pub there : Contains s.plan.resources resource
  pub weighable : AreWeighable s weights
  pub small : time_or_0 s time ≤ most_number

-- a key of a table line that isn't one of a table's own names an objective
abbrev pub IsKnownKey : List Name → KeyColumn → Type 0
IsKnownKey objectives k = is_table_key k.key ≡ false → Contains objectives k.key

abbrev pub IsKnownPlace : List Name → KeyColumn → Type 0
IsKnownPlace objectives k = Contains objectives k.key

pub record IsFitTable (s : Joining) (resource : Name) (keys places : List KeyColumn) : Type 0 where
  pub there : Contains s.plan.resources resource
  pub keys_known : All (IsKnownKey s.plan.objectives) keys
  pub places_known : All (IsKnownPlace s.plan.objectives) places

-- a name, and names that are listed, of which there is one at least
pub record IsFitList (name : Name) (listed : List Name) : Type 0 where
  pub named : IsName name
  pub some : 0 < length listed

-- what the reader of the file tested of a statement
abbrev pub IsFit : Joining → Statement → Type 0
IsFit s (Resource name weights) = IsFitResource s name weights
IsFit s (Link name a b two_way weights) = IsFitLink s name a b weights
IsFit s (Traffic link weights) = IsFitTraffic s link weights
IsFit s (Task name) = IsName name
IsFit s (Message name sender receivers) = IsFitList name receivers
IsFit s (Merge name messages) = IsFitList name messages
IsFit s (Map task resource time weights) = IsFitMap s resource time weights
IsFit s (Table name index resource keys weights_at) = IsFitTable s resource keys weights_at
IsFit s (Quantity message amount) = at_scale 0 amount ≤ most_number
IsFit s (Delay message amount) = time_at s amount ≤ most_number
IsFit s (Deadline task at) = time_at s at ≤ most_number
IsFit s _ = Unit {0}

-- a statement is about messages
abbrev pub IsOfMessages : Statement → Type 0
IsOfMessages (Message name sender receivers) = Unit {0}
IsOfMessages (Merge name messages) = Unit {0}
IsOfMessages (Quantity message amount) = Unit {0}
IsOfMessages (Hops message limit) = Unit {0}
IsOfMessages (Delay message amount) = Unit {0}
IsOfMessages st = ⊥

-- a statement uses a table
abbrev pub IsOfTables : Statement → Type 0
IsOfTables (Table name index resource keys weights_at) = Unit {0}
IsOfTables (QuantityTable name index column rows) = Unit {0}
IsOfTables st = ⊥

-- an objective may be declared: nothing with weights stands yet
pub record IsFitObjective (s : SettingsValue) (name : Name) : Type 0 where
  pub named : IsName name
  pub new : ¬ Contains s.plan.objectives name
  pub room : length s.plan.objectives < most_objectives
  pub no_resource : length s.plan.resources ≡ 0
  pub no_link : length s.plan.links ≡ 0
  pub no_option : length s.plan.options ≡ 0

-- a statement that declares an objective fits
abbrev pub IsDeclarable : SettingsValue → Statement → Type 0
IsDeclarable s (Objective name scale floor) = IsFitObjective s name
IsDeclarable s _ = Unit {0}
