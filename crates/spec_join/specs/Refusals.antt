-- What a statement is refused for, after what the statements before it made: one condition for each cause. What an
-- architecture file was read for already isn't asked again.
use Rattle.std.specs.Prelude.{◌≡◌, ◌≢◌, ℕ, ◌<◌, ◌≤◌, ◌⊎◌, List, Option, None, Some, length, Any, Contains}
use Rattle.names.specs.Names.{number_by_name}
use Rattle.spec_model.specs.Spec.{Name, SpecValue, name_at, all_variables}
use Rattle.spec_model.specs.WellFormed.{size}
use Rattle.spec_model.specs.Limits.{most_tasks, most_messages, most_options, most_variables, most_terms}
use Rattle.spec_graph.specs.Plan.{finished}
use Rattle.spec_graph.specs.Refusals.{ClosesCycle, IsMapped, HasBigProduct}
use Rattle.line_words.specs.declared.refusals.Why.{Why}
use Rattle.line_words.specs.declared.refusals.Why.TheVariants.{BadStatement, UnknownName, RepeatedName, TooBig, Cyclic, Limit}
use Rattle.line_words.specs.declared.refusals.What.{What}
use Rattle.line_words.specs.declared.refusals.What.TheVariants.{Tasks, Messages, Options, Variables, Terms}
use Rattle.arch_reader.specs.declared.statement.Statement.{Statement}
use Rattle.arch_reader.specs.declared.statement.Statement.TheVariants.{Task, Message, Merge, Map, Table, Quantity, QuantityTable, Hops, Delay, Deadline}
use Rattle.table_cells.specs.Rows.{table_called}
use Rattle.spec_join.specs.Joining.{Joining, message_between, sender_of}
use Rattle.spec_join.specs.Tables.{TableBreaks}
use Rattle.spec_join.specs.Quantities.{QuantityTableBreaks}

-- a name isn't among some names
abbrev pub IsMissing : List Name → Name → Type 0
IsMissing names name = ¬ Contains names name

-- one of the names isn't among some names
abbrev pub HasMissing : List Name → List Name → Type 0
HasMissing names listed = Any (IsMissing names) listed

-- a name is listed twice
pub record IsListedTwice (listed : List Name) : Type 0 where
  pub first : ℕ
  pub second : ℕ
  pub before : first < second
  pub within : second < length listed
  pub same : name_at listed first ≡ name_at listed second

-- two of the names are those of messages that are there, and other tasks send them
pub record DifferInSender (p : SpecValue) (listed : List Name) : Type 0 where
  pub first : Name
  pub second : Name
  pub first_listed : Contains listed first
  pub second_listed : Contains listed second
  pub first_there : Contains p.message_names first
  pub second_there : Contains p.message_names second
  pub differ : sender_of p first ≢ sender_of p second

-- the name is that of a message that isn't listed
pub record IsOfOther (p : SpecValue) (name : Name) (listed : List Name) : Type 0 where
  pub there : Contains p.message_names name
  pub unlisted : ¬ Contains listed name

-- BadStatement: a merge of messages of different senders
abbrev pub IsBad : Joining → Statement → Type 0
IsBad s (Merge name messages) = DifferInSender s.plan messages
IsBad s _ = ⊥

-- the message that a statement is about, if it is about one
abbrev pub IsMissingMessage : SpecValue → Option Name → Type 0
IsMissingMessage p None = ⊥
IsMissingMessage p (Some message) = IsMissing p.message_names message

-- UnknownName: a task or a message that isn't there
abbrev pub IsUnknown : Joining → Statement → Type 0
IsUnknown s (Message name sender receivers) = IsMissing s.plan.tasks sender ⊎ HasMissing s.plan.tasks receivers
IsUnknown s (Merge name messages) = HasMissing s.plan.message_names messages
IsUnknown s (Map task resource time weights) = IsMissing s.plan.tasks task
IsUnknown s (Quantity message amount) = IsMissing s.plan.message_names message
IsUnknown s (Hops message limit) = IsMissingMessage s.plan message
IsUnknown s (Delay message amount) = IsMissingMessage s.plan message
IsUnknown s (Deadline task at) = IsMissing s.plan.tasks task
IsUnknown s _ = ⊥

-- RepeatedName: a task, a message, or a pair of task and resource that is there already, or a name listed twice
abbrev pub IsRepeated : Joining → Statement → Type 0
IsRepeated s (Task name) = Contains s.plan.tasks name
IsRepeated s (Message name sender receivers) = Contains s.plan.message_names name ⊎ IsListedTwice receivers
IsRepeated s (Merge name messages) = IsListedTwice messages ⊎ IsOfOther s.plan name messages
IsRepeated s (Map task resource time weights) = IsMapped s.plan (number_by_name s.plan.tasks task) (number_by_name s.plan.resources resource)
IsRepeated s _ = ⊥

-- Cyclic: the message closes a cycle of tasks
abbrev pub IsCyclic : Joining → Statement → Type 0
IsCyclic s (Message name sender receivers) = ClosesCycle s.plan (message_between s sender receivers)
IsCyclic s _ = ⊥

-- Limit: one more would be too many
abbrev pub IsPast : Joining → Statement → What → Type 0
IsPast s (Task name) what = (what ≡ Tasks) × (most_tasks ≤ length s.plan.tasks)
IsPast s (Message name sender receivers) what = (what ≡ Messages) × (most_messages ≤ length s.plan.messages)
IsPast s (Map task resource time weights) what = (what ≡ Options) × (most_options ≤ length s.plan.options)
IsPast s _ what = ⊥

-- a statement that uses no table breaks a rule and is to be refused for this
abbrev pub BreaksPlain : Joining → Statement → Why → Type 0
BreaksPlain s st BadStatement = IsBad s st
BreaksPlain s st UnknownName = IsUnknown s st
BreaksPlain s st RepeatedName = IsRepeated s st
BreaksPlain s st Cyclic = IsCyclic s st
BreaksPlain s st (Limit what) = IsPast s st what
BreaksPlain s st _ = ⊥

-- a statement is to be refused for this
abbrev pub StatementBreaks : Joining → Statement → Why → Type 0
StatementBreaks s (Table name index resource keys weights_at) why = TableBreaks s (table_called s.tables name index) resource keys weights_at why
StatementBreaks s (QuantityTable name index column rows) why = QuantityTableBreaks s (table_called s.tables name index) column rows why
StatementBreaks s st why = BreaksPlain s st why

-- the plan breaks a rule at the end
abbrev pub BreaksEnd : SpecValue → Why → Type 0
BreaksEnd p TooBig = HasBigProduct p
BreaksEnd p (Limit Variables) = most_variables < all_variables (finished p)
BreaksEnd p (Limit Terms) = most_terms < size (finished p)
BreaksEnd p _ = ⊥
