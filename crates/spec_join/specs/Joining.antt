-- What a file of task graphs and tables and the statements of an architecture file have made so far.
use Rattle.std.specs.Prelude.{ℕ, ℤ, ◌++◌, ◌-◌, ◌^◌, List, Bool, Option, None, Some, length, map, fold, replicate, slice_index_or, slice_set}
use Rattle.std.specs.Option.{option_or}
use Rattle.names.specs.Names.{number_by_name}
use Rattle.spec_model.specs.Spec.{Name, SpecValue, Message, empty_spec, message_at}
use Rattle.spec_graph.specs.Changes.{with_weight}
use Rattle.arch_reader.specs.Numbers.{at_scale}
use Rattle.arch_reader.specs.Seen.{scale_or_0, clock_in, objectives_in}
use Rattle.arch_reader.specs.declared.seen.Objective.{Objective as Declared}
use Rattle.arch_reader.specs.declared.seen.Seen.{Seen}
use Rattle.arch_reader.specs.declared.statement.KeyAmount.{KeyAmount}
use Rattle.arch_reader.specs.declared.statement.Statement.{Statement}
use Rattle.tgff_reader.specs.Facts.{TgffValue}
use Rattle.tgff_reader.specs.declared.file.Table.{Table}
use Rattle.graph_plan.specs.Graphs.{with_graphs, task_kinds, message_kinds}

-- The plan so far, in which each message has its stated hop limit. Beside it what later statements are read by: the
-- tables, the types of the tasks that stand first, which are those of the graphs, and of each message its type where it
-- is one of the graphs'; the scale of each objective, and whether its fractions are cut off; the scale of all times where
-- one is stated; and the hop limit and the delay of later messages.
pub record Joining : Type 0 where
  pub plan : SpecValue
  pub tables : List Table
  pub task_kinds : List ℕ
  pub message_kinds : List (Option ℕ)
  pub scales : List ℕ
  pub floors : List Bool
  pub clock : Option ℕ
  pub hops : ℕ
  pub delay : ℕ

abbrev pub objective_name : Declared → Name
objective_name o = o.name

abbrev pub objective_scale : Declared → ℕ
objective_scale o = o.scale

abbrev pub objective_floor : Declared → Bool
objective_floor o = o.floor

-- a plan of these objectives alone
abbrev pub plan_with : List Name → SpecValue
plan_with objectives = record empty_spec { objectives = objectives }

-- what a file's statements say that counts from its start on: a plan of the objectives, their scales, whether fractions
-- are cut off, and the clock
pub record SettingsValue : Type 0 where
  pub plan : SpecValue
  pub scales : List ℕ
  pub floors : List Bool
  pub clock : Option ℕ

-- what was seen of it
abbrev pub settings_of : Seen → SettingsValue
settings_of seen = record {
  plan = plan_with (map objective_name seen.objectives);
  scales = map objective_scale seen.objectives;
  floors = map objective_floor seen.objectives;
  clock = seen.clock;
}

-- some objectives more
abbrev pub with_objectives : SettingsValue → List Declared → SettingsValue
with_objectives s new = record s {
  plan = record s.plan { objectives = s.plan.objectives ++ map objective_name new };
  scales = s.scales ++ map objective_scale new;
  floors = s.floors ++ map objective_floor new;
}

-- what one more statement says of it
abbrev pub with_declared : SettingsValue → Statement → SettingsValue
with_declared s st = record (with_objectives s (objectives_in st)) { clock = option_or s.clock (clock_in st) }

-- Before the first statement all objectives of the file stand in the plan already, and so do the graphs, with their
-- deadlines at the scale of the file's clock.
abbrev pub start : TgffValue → Seen → Joining
start tgff seen = record {
  plan = with_graphs (scale_or_0 seen.clock) (plan_with (map objective_name seen.objectives)) tgff.graphs;
  tables = tgff.tables;
  task_kinds = task_kinds tgff.graphs;
  message_kinds = message_kinds tgff.graphs;
  scales = map objective_scale seen.objectives;
  floors = map objective_floor seen.objectives;
  clock = None;
  hops = 2 ^ 63 - 1;
  delay = 0;
}

-- an amount at the scale of an objective
abbrev pub weight_of : List ℕ → ℕ → ℤ → ℕ
weight_of scales j amount = at_scale (slice_index_or scales j 0) amount

-- a row of weights in which a word `OBJ=D` sets the weight for its objective
abbrev pub weighed : List Name → List ℕ → List ℕ → KeyAmount → List ℕ
weighed objectives scales row w = slice_set row (number_by_name objectives w.key) (weight_of scales (number_by_name objectives w.key) w.amount)

-- rows of weights in which such a word sets the weight of row i
abbrev pub weighed_at : List Name → List ℕ → ℕ → List (List ℕ) → KeyAmount → List (List ℕ)
weighed_at objectives scales i rows w = with_weight rows i (number_by_name objectives w.key) (weight_of scales (number_by_name objectives w.key) w.amount)

-- a row in which words set weights
abbrev pub weighed_all : Joining → List ℕ → List KeyAmount → List ℕ
weighed_all s row ws = fold (weighed s.plan.objectives s.scales) row ws

-- a weight of 0 for each objective
abbrev pub no_weights : Joining → List ℕ
no_weights s = replicate (length s.plan.objectives) 0

-- the weights that words state: 0 for an objective that isn't named
abbrev pub weights_of : Joining → List KeyAmount → List ℕ
weights_of s ws = weighed_all s (no_weights s) ws

-- a time, at the clock's scale
abbrev pub time_at : Joining → ℤ → ℕ
time_at s amount = at_scale (scale_or_0 s.clock) amount

-- a time that isn't written is 0
abbrev pub time_or_0 : Joining → Option ℤ → ℕ
time_or_0 s None = 0
time_or_0 s (Some amount) = time_at s amount

-- a message between tasks of these names, with what later messages have
abbrev pub message_between : Joining → Name → List Name → Message
message_between s sender receivers = record {
  sender = number_by_name s.plan.tasks sender;
  receivers = map (number_by_name s.plan.tasks) receivers;
  limit = s.hops;
  delay = s.delay;
  quantity = 1;
}

-- the task that sends the message of a name
abbrev pub sender_of : SpecValue → Name → ℕ
sender_of s name = (message_at s (number_by_name s.message_names name)).sender
