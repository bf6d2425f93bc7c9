-- What holds of each specification that the readers accept.
use Rattle.std.specs.Prelude.{◌≡◌, ℕ, zero, suc, ◌+◌, ◌-◌, ◌*◌, ◌<◌, ◌≤◌, max, List, length, All, Contains, sum_by, slice_index_or}
use Rattle.spec_model.specs.Limits.{most_tasks, most_messages, most_resources, most_links, most_options, most_objectives, most_variables, most_terms, most_number}
use Rattle.spec_model.specs.Spec.{Name, Message, Arc, Choice, Deadline, SpecValue, option_at, name_at, arc_at, message_at, all_variables}
use Rattle.spec_model.specs.Rules.{options_of}
use Rattle.spec_model.specs.Vectors.{weight_in}

-- how many options a task has
abbrev pub option_count : SpecValue → ℕ → ℕ
option_count s t = length (options_of s t)

-- how many terms of the encoding a message accounts for, at most
unfoldable pub message_size : SpecValue → Message → ℕ
message_size s m =
    length s.resources * (5 * m.limit + 11)
    + length s.arcs * (4 * m.limit + 10)
    + 2 * option_count s m.sender
    + 3 * sum_by (option_count s) m.receivers

-- a bound on the number of terms of the encoding
unfoldable pub size : SpecValue → ℕ
size s = 5 * length s.options + length s.resources + length s.links + sum_by (message_size s) s.messages

-- one of the messages goes from one task to another
pub record Sends (ms : List Message) (a b : ℕ) : Type 0 where
  pub message : Message
  pub there : Contains ms message
  pub from : message.sender ≡ a
  pub to : Contains message.receivers b

-- a chain of so many messages from task a to task c
abbrev pub Chain : List Message → ℕ → ℕ → ℕ → Type 0
Chain ms zero a c = a ≡ c
Chain ms (suc n) a c = (b : ℕ) × Sends ms a b × Chain ms n b c

-- a chain leads from the one task to the other
pub record Reaches (ms : List Message) (a c : ℕ) : Type 0 where
  pub hops : ℕ
  pub chain : Chain ms hops a c

-- a chain leads from one of some tasks to the task
pub record Leads (ms : List Message) (ws : List ℕ) (c : ℕ) : Type 0 where
  pub start : ℕ
  pub among : Contains ws start
  pub reaches : Reaches ms start c

-- a chain of at least one message leads from the one task to the other
pub record Follows (ms : List Message) (a c : ℕ) : Type 0 where
  pub more : ℕ
  pub chain : Chain ms (suc more) a c

-- a chain of at least one message leads from a task to itself
pub record HasCycle (ms : List Message) : Type 0 where
  pub task : ℕ
  pub more : ℕ
  pub chain : Chain ms (suc more) task task

-- no two places of a list hold the same
abbrev pub AreDistinct : {A : Type 0} → List A → Type 0
AreDistinct {A = A} xs = (i j : ℕ) (d : A) → i < j → j < length xs → slice_index_or xs i d ≡ slice_index_or xs j d → ⊥

-- no two options map one task to one resource
abbrev pub ArePairsDistinct : List Choice → Type 0
ArePairsDistinct os =
    (i j : ℕ) (d : Choice) → i < j → j < length os → (slice_index_or os i d).task ≡ (slice_index_or os j d).task → (slice_index_or os i d).resource ≡ (slice_index_or os j d).resource → ⊥

-- no two arcs of one link leave one resource
abbrev pub AreArcsDistinct : List Arc → Type 0
AreArcsDistinct arcs =
    (i j : ℕ) (d : Arc) → i < j → j < length arcs → (slice_index_or arcs i d).link ≡ (slice_index_or arcs j d).link → (slice_index_or arcs i d).tail ≡ (slice_index_or arcs j d).tail → ⊥

-- the greatest hop limit that makes a difference: one less than the number of resources
abbrev pub most_hops : SpecValue → ℕ
most_hops s = max (length s.resources) 1 - 1

-- an arc's link and ends are there, and its ends differ
pub record IsArcIn (s : SpecValue) (a : Arc) : Type 0 where
  pub link : a.link < length s.links
  pub tail : a.tail < length s.resources
  pub head : a.head < length s.resources
  pub apart : a.tail ≡ a.head → ⊥

-- an option's task and resource are there
pub record IsOptionIn (s : SpecValue) (o : Choice) : Type 0 where
  pub task : o.task < length s.tasks
  pub resource : o.resource < length s.resources
  pub time : o.time ≤ most_number

-- a message's tasks are there, each receiver once, and its delay and its quantity are small; its hop limit is any number
pub record IsMessageIn (s : SpecValue) (m : Message) : Type 0 where
  pub sender : m.sender < length s.tasks
  pub receivers : All (λ w. w < length s.tasks) m.receivers
  pub some_receiver : 0 < length m.receivers
  pub each_once : AreDistinct m.receivers
  pub delay : m.delay ≤ most_number
  pub quantity : m.quantity ≤ most_number

pub record IsDeadlineIn (s : SpecValue) (d : Deadline) : Type 0 where
  pub task : d.task < length s.tasks
  pub time : d.time ≤ most_number

-- a row of weights: a number for each objective, of at most the greatest
pub record IsRow (objectives : ℕ) (row : List ℕ) : Type 0 where
  pub one_each : length row ≡ objectives
  pub small : All (λ w. w ≤ most_number) row

-- rows of weights, as many as there are items
pub record AreRows (objectives items : ℕ) (rows : List (List ℕ)) : Type 0 where
  pub one_each : length rows ≡ items
  pub each : All (IsRow objectives) rows

-- what holds of a specification before its hop limits and its size are looked at
pub record IsPlan (s : SpecValue) : Type 0 where
  pub few_tasks : length s.tasks ≤ most_tasks
  pub few_messages : length s.messages ≤ most_messages
  pub few_resources : length s.resources ≤ most_resources
  pub few_links : length s.links ≤ most_links
  pub few_arcs : length s.arcs ≤ 2 * length s.links
  pub few_options : length s.options ≤ most_options
  pub few_objectives : length s.objectives ≤ most_objectives
  pub named : length s.message_names ≡ length s.messages
  pub tasks_distinct : AreDistinct s.tasks
  pub messages_distinct : AreDistinct s.message_names
  pub resources_distinct : AreDistinct s.resources
  pub links_distinct : AreDistinct s.links
  pub objectives_distinct : AreDistinct s.objectives
  pub pairs_distinct : ArePairsDistinct s.options
  pub arcs_distinct : AreArcsDistinct s.arcs
  pub arcs_in : All (IsArcIn s) s.arcs
  pub options_in : All (IsOptionIn s) s.options
  pub messages_in : All (IsMessageIn s) s.messages
  pub deadlines_in : All (IsDeadlineIn s) s.deadlines
  pub option_rows : AreRows (length s.objectives) (length s.options) s.option_weights
  pub resource_rows : AreRows (length s.objectives) (length s.resources) s.resource_weights
  pub link_rows : AreRows (length s.objectives) (length s.links) s.link_weights
  pub traffic_rows : AreRows (length s.objectives) (length s.links) s.traffic_weights
  pub no_cycle : HasCycle s.messages → ⊥

pub record IsWellFormed (s : SpecValue) : Type 0 where
  pub plan : IsPlan s
  pub limits : All (λ m. m.limit ≤ most_hops s) s.messages
  pub few_variables : all_variables s ≤ most_variables
  pub few_terms : size s ≤ most_terms
  pub products : (m a j : ℕ) → m < length s.messages → a < length s.arcs → weight_in s.traffic_weights j (arc_at s a).link * (message_at s m).quantity ≤ most_number
