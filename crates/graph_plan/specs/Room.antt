-- What the parts of a graph need of the plan that they are put into.
use Rattle.std.specs.Prelude.{◌≡◌, ℕ, ◌+◌, ◌<◌, ◌≤◌, List, length, All, Contains}
use Rattle.spec_model.specs.Spec.{Name, SpecValue, Message}
use Rattle.spec_model.specs.Limits.{most_tasks, most_messages}
use Rattle.tgff_reader.specs.declared.file.Graph.{Graph}
use Rattle.graph_plan.specs.Graphs.{name_in}

-- no name with this index stands among the names
abbrev pub AreNew : ℕ → List Name → Type 0
AreNew index names = (name : Name) → Contains names (name_in index name) → ⊥

-- a graph's names are new, and there is room for its tasks and arcs
pub record HasRoom (p : SpecValue) (g : Graph) : Type 0 where
  pub new_tasks : AreNew g.index p.tasks
  pub new_messages : AreNew g.index p.message_names
  pub few_tasks : length p.tasks + length g.tasks ≤ most_tasks
  pub few_messages : length p.messages + length g.arcs ≤ most_messages

-- a message of a task before a number
abbrev pub SendsBefore : ℕ → Message → Type 0
SendsBefore first m = m.sender < first

-- a graph's tasks stand at the plan's end, and its arcs are to follow: no message so far is of these tasks
pub record IsReady (first : ℕ) (p : SpecValue) (g : Graph) : Type 0 where
  pub tasks : length p.tasks ≡ first + length g.tasks
  pub before : All (SendsBefore first) p.messages
  pub new : AreNew g.index p.message_names
  pub few : length p.messages + length g.arcs ≤ most_messages
