-- The value of a specification, as plain lists, and the numbering of its variables.
use Rattle.std.specs.Prelude.{ℕ, Bool, Option, ◌+◌, ◌*◌, List, [], length, sum_by, filter, take, slice_index_or}
use Rattle.std.specs.List.{range_with_len}
pub use Rattle.plain_lists.specs.Bits.{Bits, bits_of}

-- a name, as its bytes
abbrev pub Name : Type 0
Name = List ℕ

-- a message: its sender, its receivers, the greatest length of a route, the delay of a hop, and what it carries
pub record Message : Type 0 where
  pub sender : ℕ
  pub receivers : List ℕ
  pub limit : ℕ
  pub delay : ℕ
  pub quantity : ℕ

-- one direction of a link
pub record Arc : Type 0 where
  pub link : ℕ
  pub tail : ℕ
  pub head : ℕ

-- an option: a task may run on a resource, in a time, as a load on it
pub record Choice : Type 0 where
  pub task : ℕ
  pub resource : ℕ
  pub time : ℕ
  pub load : ℕ

-- the option of a task on a resource that states no load
abbrev pub choice : ℕ → ℕ → ℕ → Choice
choice task resource time = record { task = task; resource = resource; time = time; load = 0 }

pub record Deadline : Type 0 where
  pub task : ℕ
  pub time : ℕ

-- what a pair is of: an option, which may be chosen, or a resource, which may be allocated
pub data Item : Type 0 where
  chosen : ℕ → Item
  allocated : ℕ → Item

-- the first item of a pair needs the second, or the two bar each other
pub data PairKind : Type 0 where
  needs : PairKind
  bars : PairKind

pub record Pair : Type 0 where
  pub kind : PairKind
  pub first : Item
  pub second : Item

-- a specification; of the lists of weights each has, for one option, resource or link, a number per objective; of the
-- capacities each is that of one resource, and a resource past their end has none
pub record SpecValue : Type 0 where
  pub tasks : List Name
  pub message_names : List Name
  pub messages : List Message
  pub resources : List Name
  pub links : List Name
  pub arcs : List Arc
  pub options : List Choice
  pub deadlines : List Deadline
  pub objectives : List Name
  pub option_weights : List (List ℕ)
  pub resource_weights : List (List ℕ)
  pub link_weights : List (List ℕ)
  pub traffic_weights : List (List ℕ)
  pub capacities : List (Option ℕ)
  pub pairs : List Pair

-- nothing yet
abbrev pub empty_spec : SpecValue
empty_spec = record {
  tasks = [];
  message_names = [];
  messages = [];
  resources = [];
  links = [];
  arcs = [];
  options = [];
  deadlines = [];
  objectives = [];
  option_weights = [];
  resource_weights = [];
  link_weights = [];
  traffic_weights = [];
  capacities = [];
  pairs = [];
}

-- the numbers below n, in order
abbrev pub below : ℕ → List ℕ
below n = range_with_len 0 n

-- the numbers below n that pass, in order
abbrev pub those : (ℕ → Bool) → ℕ → List ℕ
those p n = filter p (below n)

abbrev pub message_at : SpecValue → ℕ → Message
message_at s m = slice_index_or s.messages m (record { sender = 0; receivers = []; limit = 0; delay = 0; quantity = 0 })

abbrev pub arc_at : SpecValue → ℕ → Arc
arc_at s a = slice_index_or s.arcs a (record { link = 0; tail = 0; head = 0 })

abbrev pub option_at : SpecValue → ℕ → Choice
option_at s o = slice_index_or s.options o (choice 0 0 0)

abbrev pub deadline_at : SpecValue → ℕ → Deadline
deadline_at s i = slice_index_or s.deadlines i (record { task = 0; time = 0 })

-- the name at a place of a list of names
abbrev pub name_at : List Name → ℕ → Name
name_at names i = slice_index_or names i []

-- The variables of a design: option o is variable o; then, message by message, a variable for each arc; then the
-- resources; then the links.
abbrev pub arc_var : SpecValue → ℕ → ℕ → ℕ
arc_var s m a = length s.options + m * length s.arcs + a

abbrev pub resource_var : SpecValue → ℕ → ℕ
resource_var s r = length s.options + length s.messages * length s.arcs + r

abbrev pub link_var : SpecValue → ℕ → ℕ
link_var s l = length s.options + length s.messages * length s.arcs + length s.resources + l

-- how many variables a design has
abbrev pub design_variables : SpecValue → ℕ
design_variables s = length s.options + length s.messages * length s.arcs + length s.resources + length s.links

-- how many further variables the encoding has for a message: a step variable for each resource and each number of
-- hops up to the limit, and a variable for each resource that the message covers
abbrev pub further : SpecValue → Message → ℕ
further s message = length s.resources * (message.limit + 2)

-- where the further variables of message m begin
unfoldable pub base : SpecValue → ℕ → ℕ
base s m = design_variables s + sum_by (further s) (take m s.messages)

-- resource r is reached at step t
abbrev pub step_var : SpecValue → ℕ → ℕ → ℕ → ℕ
step_var s m r t = base s m + r * ((message_at s m).limit + 1) + t

-- resource r is covered
abbrev pub covered_var : SpecValue → ℕ → ℕ → ℕ
covered_var s m r = base s m + length s.resources * ((message_at s m).limit + 1) + r

-- how many variables the encoding has
unfoldable pub all_variables : SpecValue → ℕ
all_variables s = design_variables s + sum_by (further s) s.messages
