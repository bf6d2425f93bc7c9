-- Which designs are valid, and which rule a design breaks.
use Rattle.std.specs.Prelude.{◌≡◌, ◌≢◌, ℕ, zero, suc, ◌+◌, ◌<◌, ◌≤◌, Bool, true, false, ◌&&◌, ◌==◌, ◌⊎◌, List, length, count_by, sum_by, Contains, ◌↔◌, cond}
use Rattle.spec_model.specs.Spec.{Message, Arc, Choice, SpecValue, Bits, below, those, message_at, arc_at, option_at, arc_var, resource_var, link_var, design_variables}

-- tests on an option or an arc
unfoldable pub of_task : SpecValue → ℕ → ℕ → Bool
of_task s t o = (option_at s o).task == t

unfoldable pub of_task_on : SpecValue → ℕ → ℕ → ℕ → Bool
of_task_on s t r o = ((option_at s o).task == t) && ((option_at s o).resource == r)

unfoldable pub goes_into : SpecValue → ℕ → ℕ → Bool
goes_into s r a = (arc_at s a).head == r

unfoldable pub leaves : SpecValue → ℕ → ℕ → Bool
leaves s r a = (arc_at s a).tail == r

unfoldable pub of_link : SpecValue → ℕ → ℕ → Bool
of_link s l a = (arc_at s a).link == l

-- the options of a task
abbrev pub options_of : SpecValue → ℕ → List ℕ
options_of s t = those (of_task s t) (length s.options)

-- rule 1: exactly one option of the task is chosen
abbrev pub BoundOnce : SpecValue → Bits → ℕ → Type 0
BoundOnce s f t = count_by f (options_of s t) ≡ 1

-- a chosen option puts the task on the resource
pub record IsOn (s : SpecValue) (f : Bits) (t r : ℕ) : Type 0 where
  pub choice : ℕ
  pub in_range : choice < length s.options
  pub chosen : f choice ≡ true
  pub of_task : (option_at s choice).task ≡ t
  pub on_resource : (option_at s choice).resource ≡ r

-- message m uses arc a
pub record Uses (s : SpecValue) (f : Bits) (m a : ℕ) : Type 0 where
  pub in_range : a < length s.arcs
  pub bit : f (arc_var s m a) ≡ true

abbrev pub sender_of : SpecValue → ℕ → ℕ
sender_of s m = (message_at s m).sender

-- a walk of a number of used arcs, from a resource on which the sender is
abbrev pub Walk : SpecValue → Bits → ℕ → ℕ → ℕ → Type 0
Walk s f m r zero = IsOn s f (sender_of s m) r
Walk s f m r (suc n) = (a : ℕ) × Uses s f m a × ((arc_at s a).head ≡ r) × Walk s f m (arc_at s a).tail n

-- a walk of a length below n
abbrev pub WalkBelow : SpecValue → Bits → ℕ → ℕ → ℕ → Type 0
WalkBelow s f m r n = (i : ℕ) × (i < n) × Walk s f m r i

-- the arcs into a resource, those that leave it, those of a link
abbrev pub arcs_into : SpecValue → ℕ → List ℕ
arcs_into s r = those (goes_into s r) (length s.arcs)

abbrev pub arcs_from : SpecValue → ℕ → List ℕ
arcs_from s r = those (leaves s r) (length s.arcs)

abbrev pub arcs_of : SpecValue → ℕ → List ℕ
arcs_of s l = those (of_link s l) (length s.arcs)

-- how many used arcs of a message go into a resource
unfoldable pub arc_bit : SpecValue → Bits → ℕ → ℕ → Bool
arc_bit s f m a = f (arc_var s m a)

unfoldable pub uses_into : SpecValue → Bits → ℕ → ℕ → ℕ
uses_into s f m r = count_by (arc_bit s f m) (arcs_into s r)

-- a receiver of the message is on the resource
abbrev pub HasReceiver : SpecValue → Bits → ℕ → ℕ → Type 0
HasReceiver s f m r = (w : ℕ) × Contains (message_at s m).receivers w × IsOn s f w r

-- the message uses arc a, which goes into the resource
pub record EntersAt (s : SpecValue) (f : Bits) (m r a : ℕ) : Type 0 where
  pub used : Uses s f m a
  pub into : (arc_at s a).head ≡ r

-- a used arc of the message touches the resource
pub record Touches (s : SpecValue) (f : Bits) (m r : ℕ) : Type 0 where
  pub arc : ℕ
  pub used : Uses s f m arc
  pub at_end : ((arc_at s arc).tail ≡ r) ⊎ ((arc_at s arc).head ≡ r)

-- a task is on the resource
pub record HoldsTask (s : SpecValue) (f : Bits) (r : ℕ) : Type 0 where
  pub task : ℕ
  pub in_range : task < length s.tasks
  pub on : IsOn s f task r

-- a message passes the resource
pub record CarriesMessage (s : SpecValue) (f : Bits) (r : ℕ) : Type 0 where
  pub message : ℕ
  pub in_range : message < length s.messages
  pub touched : Touches s f message r

-- a task is on the resource, or a message passes it
abbrev pub IsResourceNeeded : SpecValue → Bits → ℕ → Type 0
IsResourceNeeded s f r = HoldsTask s f r ⊎ CarriesMessage s f r

-- a message uses an arc of the link
pub record IsLinkNeeded (s : SpecValue) (f : Bits) (l : ℕ) : Type 0 where
  pub message : ℕ
  pub in_range : message < length s.messages
  pub arc : ℕ
  pub used : Uses s f message arc
  pub of_link : (arc_at s arc).link ≡ l

-- a used arc of the message leaves the resource
pub record LeavesFrom (s : SpecValue) (f : Bits) (m r : ℕ) : Type 0 where
  pub arc : ℕ
  pub used : Uses s f m arc
  pub from : (arc_at s arc).tail ≡ r

-- the message goes on from the resource, or has a receiver on it
abbrev pub GoesOnFrom : SpecValue → Bits → ℕ → ℕ → Type 0
GoesOnFrom s f m r = LeavesFrom s f m r ⊎ HasReceiver s f m r

-- the rules of a valid design but for the one on receivers, which may be out of reach
pub record IsRouted (s : SpecValue) (f : Bits) : Type 0 where
  pub bound_once : (t : ℕ) → t < length s.tasks → BoundOnce s f t
  pub no_arc_into_sender : (m a : ℕ) → m < length s.messages → Uses s f m a → ¬ IsOn s f (sender_of s m) (arc_at s a).head
  pub one_arc_into : (m r : ℕ) → m < length s.messages → r < length s.resources → uses_into s f m r ≤ 1
  pub has_walk : (m a : ℕ) → m < length s.messages → Uses s f m a → WalkBelow s f m (arc_at s a).tail (message_at s m).limit
  pub no_dangling : (m a : ℕ) → m < length s.messages → Uses s f m a → GoesOnFrom s f m (arc_at s a).head
  pub resource_use : (r : ℕ) → r < length s.resources → (f (resource_var s r) ≡ true) ↔ IsResourceNeeded s f r
  pub link_use : (l : ℕ) → l < length s.links → (f (link_var s l) ≡ true) ↔ IsLinkNeeded s f l

-- the rules of a valid design: it is routed, and each receiver is reached
pub record IsValid (s : SpecValue) (f : Bits) : Type 0 where
  pub routed : IsRouted s f
  pub reached : (m w r : ℕ) → m < length s.messages → Contains (message_at s m).receivers w → IsOn s f w r → (n : ℕ) × Walk s f m r n

-- The same rules broken at a place. Each but the first is looked at where each task is bound once.

-- the task's chosen options aren't exactly one
pub record IsUnbound (s : SpecValue) (f : Bits) (t : ℕ) : Type 0 where
  pub in_range : t < length s.tasks
  pub not_once : ¬ BoundOnce s f t

-- a used arc of the message goes into its sender's resource
pub record EntersSender (s : SpecValue) (f : Bits) (m a : ℕ) : Type 0 where
  pub used : Uses s f m a
  pub into_sender : IsOn s f (sender_of s m) (arc_at s a).head

-- two used arcs of the message go into the resource
pub record IsCrowded (s : SpecValue) (f : Bits) (m r : ℕ) : Type 0 where
  pub in_range : r < length s.resources
  pub two : 2 ≤ uses_into s f m r

-- no short enough walk leads to the tail of the used arc
pub record IsStray (s : SpecValue) (f : Bits) (m a : ℕ) : Type 0 where
  pub used : Uses s f m a
  pub no_walk : ¬ WalkBelow s f m (arc_at s a).tail (message_at s m).limit

-- no walk leads to the receiver's resource
pub record IsUnreached (s : SpecValue) (f : Bits) (m w : ℕ) : Type 0 where
  pub receiver : Contains (message_at s m).receivers w
  pub resource : ℕ
  pub on : IsOn s f w resource
  pub no_walk : (n : ℕ) → ¬ Walk s f m resource n

-- the used arc's head is neither the tail of a used arc nor the resource of a receiver
pub record IsDangling (s : SpecValue) (f : Bits) (m a : ℕ) : Type 0 where
  pub used : Uses s f m a
  pub no_end : ¬ GoesOnFrom s f m (arc_at s a).head

-- the resource is allocated and not needed, or the contrary
pub record IsMisused (s : SpecValue) (f : Bits) (r : ℕ) : Type 0 where
  pub in_range : r < length s.resources
  pub differ : ¬ ((f (resource_var s r) ≡ true) ↔ IsResourceNeeded s f r)

-- the link is allocated and not needed, or the contrary
pub record IsMiswired (s : SpecValue) (f : Bits) (l : ℕ) : Type 0 where
  pub in_range : l < length s.links
  pub differ : ¬ ((f (link_var s l) ≡ true) ↔ IsLinkNeeded s f l)
