-- When each call of a builder is refused, and with what: of the conditions in the order of the call, the first
-- that holds.
use Rattle.std.specs.Prelude.{◌≡◌, ◌≢◌, ℕ, ◌*◌, ◌<◌, ◌≤◌, ◌⊎◌, List, [], length, slice_index_or, Any, Contains}
use Rattle.spec_model.specs.Limits.{most_tasks, most_messages, most_resources, most_links, most_options, most_objectives, most_variables, most_terms, most_number}
use Rattle.spec_model.specs.Spec.{Name, SpecValue, Message, Arc, Choice, all_variables}
use Rattle.spec_model.specs.WellFormed.{Leads, size}
use Rattle.spec_graph.specs.Plan.{finished}
use Rattle.spec_graph.specs.declared.faults.BuildFault.{BuildFault}
use Rattle.spec_graph.specs.declared.faults.BuildFault.TheVariants.{Repeated, SelfLink, Cyclic, TooBig, Limit, NoMemory}
use Rattle.line_words.specs.declared.refusals.What.TheVariants.{Tasks, Messages, Resources, Links, Options, Objectives, Variables, Terms}

-- a weight, time, delay or quantity that is too big
abbrev pub IsBig : ℕ → Type 0
IsBig n = most_number < n

-- one of the weights is too big
abbrev pub HasBig : List ℕ → Type 0
HasBig weights = Any IsBig weights

-- a task is refused
abbrev pub IsTaskRefused : SpecValue → Name → BuildFault → Type 0
IsTaskRefused s name Repeated = Contains s.tasks name
IsTaskRefused s name (Limit what) = (what ≡ Tasks) × (¬ Contains s.tasks name) × (most_tasks ≤ length s.tasks)
IsTaskRefused s name NoMemory = Unit {0}
IsTaskRefused s name SelfLink = ⊥
IsTaskRefused s name Cyclic = ⊥
IsTaskRefused s name TooBig = ⊥

-- a task is accepted: none of the conditions holds
pub record IsTaskAccepted (s : SpecValue) (name : Name) : Type 0 where
  pub once : ¬ Contains s.tasks name
  pub room : length s.tasks < most_tasks

-- a resource is refused
abbrev pub IsResourceRefused : SpecValue → Name → List ℕ → BuildFault → Type 0
IsResourceRefused s name weights Repeated = Contains s.resources name
IsResourceRefused s name weights TooBig = (¬ Contains s.resources name) × HasBig weights
IsResourceRefused s name weights (Limit what) = (what ≡ Resources) × (¬ Contains s.resources name) × (¬ HasBig weights) × (most_resources ≤ length s.resources)
IsResourceRefused s name weights NoMemory = Unit {0}
IsResourceRefused s name weights SelfLink = ⊥
IsResourceRefused s name weights Cyclic = ⊥

-- a resource is accepted
pub record IsResourceAccepted (s : SpecValue) (name : Name) (weights : List ℕ) : Type 0 where
  pub once : ¬ Contains s.resources name
  pub small : ¬ HasBig weights
  pub room : length s.resources < most_resources

-- an objective is refused
abbrev pub IsObjectiveRefused : SpecValue → Name → BuildFault → Type 0
IsObjectiveRefused s name Repeated = Contains s.objectives name
IsObjectiveRefused s name (Limit what) = (what ≡ Objectives) × (¬ Contains s.objectives name) × (most_objectives ≤ length s.objectives)
IsObjectiveRefused s name NoMemory = Unit {0}
IsObjectiveRefused s name SelfLink = ⊥
IsObjectiveRefused s name Cyclic = ⊥
IsObjectiveRefused s name TooBig = ⊥

-- an objective is accepted
pub record IsObjectiveAccepted (s : SpecValue) (name : Name) : Type 0 where
  pub once : ¬ Contains s.objectives name
  pub room : length s.objectives < most_objectives

-- one of the weights or of the traffic weights of a link is too big
abbrev pub HasBigLink : List ℕ → List ℕ → Type 0
HasBigLink weights traffic = HasBig weights ⊎ HasBig traffic

-- a link between the resources a and b is refused
abbrev pub IsLinkRefused : SpecValue → Name → ℕ → ℕ → List ℕ → List ℕ → BuildFault → Type 0
IsLinkRefused s name a b weights traffic Repeated = Contains s.links name
IsLinkRefused s name a b weights traffic SelfLink = (¬ Contains s.links name) × (a ≡ b)
IsLinkRefused s name a b weights traffic TooBig = (¬ Contains s.links name) × (a ≢ b) × HasBigLink weights traffic
IsLinkRefused s name a b weights traffic (Limit what) = (what ≡ Links) × (¬ Contains s.links name) × (a ≢ b) × (¬ HasBigLink weights traffic) × (most_links ≤ length s.links)
IsLinkRefused s name a b weights traffic NoMemory = Unit {0}
IsLinkRefused s name a b weights traffic Cyclic = ⊥

-- a link is accepted
pub record IsLinkAccepted (s : SpecValue) (name : Name) (a b : ℕ) (weights traffic : List ℕ) : Type 0 where
  pub once : ¬ Contains s.links name
  pub apart : a ≢ b
  pub small : ¬ HasBigLink weights traffic
  pub room : length s.links < most_links

-- a number stands twice in a list
pub record HasTwice (xs : List ℕ) : Type 0 where
  pub first : ℕ
  pub second : ℕ
  pub before : first < second
  pub within : second < length xs
  pub same : slice_index_or xs first 0 ≡ slice_index_or xs second 0

-- the name of a message is declared, or a task is named twice among its receivers
abbrev pub IsMessageRepeated : SpecValue → Name → Message → Type 0
IsMessageRepeated s name m = Contains s.message_names name ⊎ HasTwice m.receivers

-- the delay or the quantity of a message is too big
abbrev pub HasBigMessage : Message → Type 0
HasBigMessage m = IsBig m.delay ⊎ IsBig m.quantity

-- the message closes a cycle: a chain of messages leads from one of its receivers to its sender
abbrev pub ClosesCycle : SpecValue → Message → Type 0
ClosesCycle s m = Leads s.messages m.receivers m.sender

-- a message is refused
abbrev pub IsMessageRefused : SpecValue → Name → Message → BuildFault → Type 0
IsMessageRefused s name m Repeated = IsMessageRepeated s name m
IsMessageRefused s name m TooBig = (¬ IsMessageRepeated s name m) × HasBigMessage m
IsMessageRefused s name m Cyclic = (¬ IsMessageRepeated s name m) × (¬ HasBigMessage m) × ClosesCycle s m
IsMessageRefused s name m (Limit what) = (what ≡ Messages) × (¬ IsMessageRepeated s name m) × (¬ HasBigMessage m) × (¬ ClosesCycle s m) × (most_messages ≤ length s.messages)
IsMessageRefused s name m NoMemory = Unit {0}
IsMessageRefused s name m SelfLink = ⊥

-- a message is accepted
pub record IsMessageAccepted (s : SpecValue) (name : Name) (m : Message) : Type 0 where
  pub once : ¬ IsMessageRepeated s name m
  pub small : ¬ HasBigMessage m
  pub free : ¬ ClosesCycle s m
  pub room : length s.messages < most_messages

-- a deadline is refused
abbrev pub IsDeadlineRefused : ℕ → BuildFault → Type 0
IsDeadlineRefused time TooBig = IsBig time
IsDeadlineRefused time NoMemory = Unit {0}
IsDeadlineRefused time Repeated = ⊥
IsDeadlineRefused time SelfLink = ⊥
IsDeadlineRefused time Cyclic = ⊥
IsDeadlineRefused time (Limit what) = ⊥

-- an option of this task on this resource
abbrev pub IsOfPair : ℕ → ℕ → Choice → Type 0
IsOfPair task resource o = (o.task ≡ task) × (o.resource ≡ resource)

-- the task is mapped to the resource already
abbrev pub IsMapped : SpecValue → ℕ → ℕ → Type 0
IsMapped s task resource = Any (IsOfPair task resource) s.options

-- the time or one of the weights of an option is too big
abbrev pub HasBigOption : ℕ → List ℕ → Type 0
HasBigOption time weights = IsBig time ⊎ HasBig weights

-- an option is refused
abbrev pub IsOptionRefused : SpecValue → Choice → List ℕ → BuildFault → Type 0
IsOptionRefused s o weights Repeated = IsMapped s o.task o.resource
IsOptionRefused s o weights TooBig = (¬ IsMapped s o.task o.resource) × HasBigOption o.time weights
IsOptionRefused s o weights (Limit what) = (what ≡ Options) × (¬ IsMapped s o.task o.resource) × (¬ HasBigOption o.time weights) × (most_options ≤ length s.options)
IsOptionRefused s o weights NoMemory = Unit {0}
IsOptionRefused s o weights SelfLink = ⊥
IsOptionRefused s o weights Cyclic = ⊥

-- an option is accepted
pub record IsOptionAccepted (s : SpecValue) (o : Choice) (weights : List ℕ) : Type 0 where
  pub once : ¬ IsMapped s o.task o.resource
  pub small : ¬ HasBigOption o.time weights
  pub room : length s.options < most_options

-- one of the weights times the quantity is too big
pub record HasBigTimes (weights : List ℕ) (quantity : ℕ) : Type 0 where
  pub objective : ℕ
  pub big : IsBig (slice_index_or weights objective 0 * quantity)

-- the traffic weight of the arc's link times the quantity is too big, for some objective
abbrev pub IsBigOn : List (List ℕ) → ℕ → Arc → Type 0
IsBigOn traffic quantity a = HasBigTimes (slice_index_or traffic a.link []) quantity

-- the message carries too much for one of the arcs
abbrev pub CarriesTooMuch : List (List ℕ) → List Arc → Message → Type 0
CarriesTooMuch traffic arcs m = Any (IsBigOn traffic m.quantity) arcs

-- the traffic weight of an arc's link times what a message carries is too big
abbrev pub HasBigProduct : SpecValue → Type 0
HasBigProduct s = Any (CarriesTooMuch s.traffic_weights s.arcs) s.messages

-- a plan is refused at its end
abbrev pub IsFinishRefused : SpecValue → BuildFault → Type 0
IsFinishRefused s TooBig = HasBigProduct s
IsFinishRefused s (Limit Variables) = (¬ HasBigProduct s) × (most_variables < all_variables (finished s))
IsFinishRefused s (Limit Terms) = (¬ HasBigProduct s) × (all_variables (finished s) ≤ most_variables) × (most_terms < size (finished s))
IsFinishRefused s (Limit _) = ⊥
IsFinishRefused s NoMemory = Unit {0}
IsFinishRefused s Repeated = ⊥
IsFinishRefused s SelfLink = ⊥
IsFinishRefused s Cyclic = ⊥

-- a plan is accepted at its end
pub record IsFinishAccepted (s : SpecValue) : Type 0 where
  pub small : ¬ HasBigProduct s
  pub few_variables : all_variables (finished s) ≤ most_variables
  pub few_terms : size (finished s) ≤ most_terms
