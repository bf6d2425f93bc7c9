-- What becomes of messages that are merged into one.
use Rattle.std.specs.Prelude.{◌≡◌, ℕ, ◌<◌, ◌⊎◌, Bool, true, not, ◌==◌, if◌then◌else◌, min, max, List, [], ◌∷◌, ◌++◌, length, map, fold, All}
use Rattle.std.specs.List.{list_any}
use Rattle.spec_model.specs.Spec.{Name, SpecValue, Message, name_at, those}
use Rattle.spec_graph.specs.Lists.{message_in}
use Rattle.spec_graph.specs.Refusals.{HasTwice}
use Rattle.spec_graph.specs.declared.faults.BuildFault.{BuildFault}
use Rattle.spec_graph.specs.declared.faults.BuildFault.TheVariants.{Repeated, SelfLink, Cyclic, TooBig, Limit, NoMemory}

-- whether a number is n
abbrev pub is_number : ℕ → ℕ → Bool
is_number n k = k == n

-- whether a number isn't listed
abbrev pub is_unlisted : List ℕ → ℕ → Bool
is_unlisted listed m = not (list_any (is_number m) listed)

-- the numbers below n that aren't listed, in order
abbrev pub unlisted : List ℕ → ℕ → List ℕ
unlisted listed n = those (is_unlisted listed) n

-- a list with a number behind the others, where it isn't there yet
abbrev pub with_once : List ℕ → ℕ → List ℕ
with_once xs x = if list_any (is_number x) xs then xs else xs ++ x ∷ []

-- a list with those numbers of another that aren't there yet
abbrev pub with_all_once : List ℕ → List ℕ → List ℕ
with_all_once xs ys = fold with_once xs ys

-- a list with the receivers of a message that aren't there yet
abbrev pub with_receivers : List ℕ → Message → List ℕ
with_receivers xs m = with_all_once xs m.receivers

-- the messages at these places
abbrev pub messages_at : List Message → List ℕ → List Message
messages_at ms listed = map (message_in ms) listed

-- the receivers of messages in their order, each once
abbrev pub all_receivers : List Message → List ℕ
all_receivers parts = fold with_receivers [] parts

abbrev pub greater_delay : ℕ → Message → ℕ
greater_delay n m = max n m.delay

abbrev pub greater_quantity : ℕ → Message → ℕ
greater_quantity n m = max n m.quantity

abbrev pub lesser_limit : ℕ → Message → ℕ
lesser_limit n m = min n m.limit

-- the greatest delay, and the greatest quantity
abbrev pub greatest_delay : List Message → ℕ
greatest_delay parts = fold greater_delay 0 parts

abbrev pub greatest_quantity : List Message → ℕ
greatest_quantity parts = fold greater_quantity 0 parts

-- the least hop limit
abbrev pub least_limit : List Message → ℕ
least_limit [] = 0
least_limit (first ∷ parts) = fold lesser_limit first.limit parts

-- the sender of the first
abbrev pub first_sender : List Message → ℕ
first_sender [] = 0
first_sender (first ∷ _) = first.sender

-- the message that messages become
abbrev pub merged_message : List Message → Message
merged_message parts = record {
  sender = first_sender parts;
  receivers = all_receivers parts;
  limit = least_limit parts;
  delay = greatest_delay parts;
  quantity = greatest_quantity parts;
}

-- the messages that aren't listed, and behind them the one that the listed ones become
abbrev pub merged_messages : List Message → List ℕ → List Message
merged_messages ms listed = messages_at ms (unlisted listed (length ms)) ++ merged_message (messages_at ms listed) ∷ []

-- the names of the messages that aren't listed, and behind them the new one
abbrev pub merged_names : List Name → Name → List ℕ → List Name
merged_names names name listed = map (name_at names) (unlisted listed (length names)) ++ name ∷ []

-- a plan whose listed messages are one, of this name, that stands last
abbrev pub merged : SpecValue → Name → List ℕ → SpecValue
merged s name listed = record s {
  message_names = merged_names s.message_names name listed;
  messages = merged_messages s.messages listed;
}

-- a message with this sender
abbrev pub IsFrom : List Message → ℕ → ℕ → Type 0
IsFrom ms sender m = (message_in ms m).sender ≡ sender

-- the messages listed have one sender
abbrev pub AreOfOneSender : List Message → List ℕ → Type 0
AreOfOneSender ms listed = All (IsFrom ms (first_sender (messages_at ms listed))) listed

-- the name is that of a message that isn't listed
pub record IsNameOfOther (names : List Name) (name : Name) (listed : List ℕ) : Type 0 where
  pub message : ℕ
  pub within : message < length names
  pub other : is_unlisted listed message ≡ true
  pub same : name_at names message ≡ name

-- a message is listed twice, or the name is that of a message that isn't listed
abbrev pub IsMergeRepeated : SpecValue → Name → List ℕ → Type 0
IsMergeRepeated s name listed = HasTwice listed ⊎ IsNameOfOther s.message_names name listed

-- a merge is refused
abbrev pub IsMergeRefused : SpecValue → Name → List ℕ → BuildFault → Type 0
IsMergeRefused s name listed Repeated = IsMergeRepeated s name listed
IsMergeRefused s name listed NoMemory = Unit {0}
IsMergeRefused s name listed SelfLink = ⊥
IsMergeRefused s name listed Cyclic = ⊥
IsMergeRefused s name listed TooBig = ⊥
IsMergeRefused s name listed (Limit _) = ⊥
