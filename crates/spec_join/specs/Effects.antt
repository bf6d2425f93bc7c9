-- What each statement makes of what the statements before it made. It is said of each statement, also of one that
-- is refused.
use Rattle.std.specs.Prelude.{ℕ, ℤ, List, [], ◌∷◌, ◌++◌, length, Option, None, Some, map, fold}
use Rattle.std.specs.Option.{option_or}
use Rattle.names.specs.Names.{number_by_name}
use Rattle.spec_model.specs.Spec.{Name, SpecValue, Message as MessageValue, Choice, choice}
use Rattle.spec_graph.specs.Plan.{with_link, with_message}
use Rattle.spec_graph.specs.Changes.{changed, with_changed}
use Rattle.spec_graph.specs.Merged.{merged, unlisted}
use Rattle.spec_graph.specs.declared.messages.Change.{Change}
use Rattle.spec_graph.specs.declared.messages.Change.TheVariants as changes
use Rattle.arch_reader.specs.Numbers.{at_scale}
use Rattle.arch_reader.specs.Seen.{scale_or_0}
use Rattle.arch_reader.specs.declared.statement.KeyAmount.{KeyAmount}
use Rattle.arch_reader.specs.declared.statement.Statement.{Statement}
use Rattle.arch_reader.specs.declared.statement.Statement.TheVariants.{Objective, Clock, Resource, Link, Traffic, Task, Message, Merge, Map, Table, Quantity, QuantityTable, Hops, Delay, Deadline}
use Rattle.table_cells.specs.Rows.{table_called}
use Rattle.spec_join.specs.Joining.{Joining, weighed_at, no_weights, weights_of, time_at, time_or_0, message_between}
use Rattle.spec_join.specs.Tables.{with_table}
use Rattle.spec_join.specs.Quantities.{message_kind_at, with_quantity_table}

-- another plan, and all else as before
abbrev pub with_plan : Joining → SpecValue → Joining
with_plan s plan = record s { plan = plan }

-- a resource more
abbrev pub with_resource : SpecValue → Name → List ℕ → SpecValue
with_resource p name weights = record p { resources = p.resources ++ name ∷ []; resource_weights = p.resource_weights ++ weights ∷ [] }

-- a task more
abbrev pub with_task : SpecValue → Name → SpecValue
with_task p name = record p { tasks = p.tasks ++ name ∷ [] }

-- an option more
abbrev pub with_option : SpecValue → Choice → List ℕ → SpecValue
with_option p o weights = record p { options = p.options ++ o ∷ []; option_weights = p.option_weights ++ weights ∷ [] }

-- a deadline more
abbrev pub with_deadline : SpecValue → ℕ → ℕ → SpecValue
with_deadline p task time = record p { deadlines = p.deadlines ++ record { task = task; time = time } ∷ [] }

-- the message of a name is changed
abbrev pub with_change : SpecValue → Name → Change → SpecValue
with_change p name change = record p { messages = with_changed p.messages (number_by_name p.message_names name) change }

-- all messages are changed
abbrev pub with_changes : SpecValue → Change → SpecValue
with_changes p change = record p { messages = map (changed change) p.messages }

-- the traffic weights of a link that words name are set, and its others stay
abbrev pub with_traffic : Joining → Name → List KeyAmount → SpecValue
with_traffic s link ws = record s.plan { traffic_weights = fold (weighed_at s.plan.objectives s.scales (number_by_name s.plan.links link)) s.plan.traffic_weights ws }

-- the option of a task on a resource
abbrev pub option_between : Joining → Name → Name → Option ℤ → Choice
option_between s task resource time = choice (number_by_name s.plan.tasks task) (number_by_name s.plan.resources resource) (time_or_0 s time)

-- a hop limit of all messages, now and later, or of one
abbrev pub with_hops : Joining → Option Name → ℕ → Joining
with_hops s None limit = record s { plan = with_changes s.plan (changes.Hops limit); hops = limit }
with_hops s (Some message) limit = with_plan s (with_change s.plan message (changes.Hops limit))

-- a delay of all messages, now and later, or of one
abbrev pub with_delay : Joining → Option Name → ℕ → Joining
with_delay s None delay = record s { plan = with_changes s.plan (changes.Delay delay); delay = delay }
with_delay s (Some message) delay = with_plan s (with_change s.plan message (changes.Delay delay))

-- the types of messages, where a new message has none
abbrev pub with_new_kind : List (Option ℕ) → List (Option ℕ)
with_new_kind kinds = kinds ++ None ∷ []

-- the types of the messages that aren't listed, and behind them that of the merged one, which has none
abbrev pub merged_kinds : List (Option ℕ) → List ℕ → List (Option ℕ)
merged_kinds kinds listed = map (message_kind_at kinds) (unlisted listed (length kinds)) ++ None ∷ []

-- a message more
abbrev pub with_new_message : Joining → Name → MessageValue → Joining
with_new_message s name m = record s { plan = with_message s.plan name m; message_kinds = with_new_kind s.message_kinds }

-- messages that become one
abbrev pub with_merged : Joining → Name → List ℕ → Joining
with_merged s name listed = record s { plan = merged s.plan name listed; message_kinds = merged_kinds s.message_kinds listed }

-- what a statement makes of it
abbrev pub effect : Joining → Statement → Joining
effect s (Objective name scale floor) = s
effect s (Clock scale floor) = record s { clock = option_or s.clock (Some (scale_or_0 scale)) }
effect s (Resource name weights) = with_plan s (with_resource s.plan name (weights_of s weights))
effect s (Link name a b two_way weights) = with_plan s (with_link s.plan name (number_by_name s.plan.resources a) (number_by_name s.plan.resources b) two_way (weights_of s weights) (no_weights s))
effect s (Traffic link weights) = with_plan s (with_traffic s link weights)
effect s (Task name) = with_plan s (with_task s.plan name)
effect s (Message name sender receivers) = with_new_message s name (message_between s sender receivers)
effect s (Merge name messages) = with_merged s name (map (number_by_name s.plan.message_names) messages)
effect s (Map task resource time weights) = with_plan s (with_option s.plan (option_between s task resource time) (weights_of s weights))
effect s (Table name index resource keys weights_at) = with_plan s (with_table s (table_called s.tables name index) resource keys weights_at)
effect s (Quantity message amount) = with_plan s (with_change s.plan message (changes.Quantity (at_scale 0 amount)))
effect s (QuantityTable name index column rows) = with_plan s (with_quantity_table s (table_called s.tables name index) column rows)
effect s (Hops message limit) = with_hops s message limit
effect s (Delay message amount) = with_delay s message (time_at s amount)
effect s (Deadline task at) = with_plan s (with_deadline s.plan (number_by_name s.plan.tasks task) (time_at s at))
