-- A plan with other messages is a plan, where they keep who sends to whom.
use Rattle.std.proofs.Common.{◌≡◌, ℕ, ◌<◌, ◌≤◌, List, length, get_or, set, map, refl, sym, ap, ◌∙◌, subst, arith, All, Contains, ◌⊎◌, inl, inr}
use Rattle.std.proofs.lemmas.List.{get_or_default, get_or-set_same, get_or-set_other, length-map, length-set}
use Rattle.std.proofs.lemmas.List.Elements.{All-map, All-set, Contains-get_or}
use Rattle.std.proofs.lemmas.Bool.{cases_lt}
use Rattle.std.specs.Prelude.{Bool}
use Rattle.spec_model.specs.Spec.{SpecValue, Message}
use Rattle.spec_model.specs.WellFormed.{Sends, HasCycle, IsPlan, IsMessageIn}
use Rattle.spec_model.proofs.Chains.{none_within, none_mapped, sends_mapped, sends_to_mapped, KeepsWay}
use Rattle.task_order.specs.Order.{IsOrderOf}
use Rattle.task_order.proofs.Orders.{order_within}
use Rattle.spec_graph.specs.Lists.{message_in}
use Rattle.spec_graph.specs.Changes.{changed, IsSmallChange, with_changed}
use Rattle.spec_graph.specs.declared.messages.Change.{Change}
use Rattle.spec_graph.specs.declared.messages.Change.TheVariants.{Hops, AtMost, Delay, Quantity}
use Rattle.spec_graph.proofs.Growing.{Grows, arcs_grow, options_grow, messages_grow, deadlines_grow}

-- a plan with other messages, and as many names
pub plan_messages : (s : SpecValue) (names : List (List ℕ)) (ms : List Message) → IsPlan s → length ms ≤ 2048 → length names ≡ length ms
    → ((i j : ℕ) (d : List ℕ) → i < j → j < length names → get_or names i d ≡ get_or names j d → ⊥) → All (IsMessageIn s) ms → ¬ HasCycle ms
    → IsPlan (record s { message_names = names; messages = ms })
plan_messages s names ms p few named distinct inside none =
    let t : SpecValue = record s { message_names = names; messages = ms } in
    let g : Grows s t = record { tasks = omega arith; resources = omega arith; links = omega arith } in
    record {
      few_tasks = p.few_tasks;
      few_messages = few;
      few_resources = p.few_resources;
      few_links = p.few_links;
      few_arcs = p.few_arcs;
      few_options = p.few_options;
      few_objectives = p.few_objectives;
      named = named;
      tasks_distinct = p.tasks_distinct;
      messages_distinct = distinct;
      resources_distinct = p.resources_distinct;
      links_distinct = p.links_distinct;
      objectives_distinct = p.objectives_distinct;
      pairs_distinct = p.pairs_distinct;
      arcs_distinct = p.arcs_distinct;
      arcs_in = arcs_grow s t s.arcs g p.arcs_in;
      options_in = options_grow s t s.options g p.options_in;
      messages_in = messages_grow s t ms g inside;
      deadlines_in = deadlines_grow s t s.deadlines g p.deadlines_in;
      option_rows = p.option_rows;
      resource_rows = p.resource_rows;
      link_rows = p.link_rows;
      traffic_rows = p.traffic_rows;
      no_cycle = none;
    }

-- a change keeps the sender and the receivers
pub keeps_way : (change : Change) → KeepsWay (changed change)
keeps_way (Hops n) = record { sender = λ m. refl; receivers = λ m. refl }
keeps_way (AtMost n) = record { sender = λ m. refl; receivers = λ m. refl }
keeps_way (Delay n) = record { sender = λ m. refl; receivers = λ m. refl }
keeps_way (Quantity n) = record { sender = λ m. refl; receivers = λ m. refl }

-- a small change of a message of a plan
pub still_planned : (s : SpecValue) (change : Change) → IsSmallChange change → (m : Message) → IsMessageIn s m → IsMessageIn s (changed change m)
still_planned s (Hops n) h m p = record { sender = p.sender; receivers = p.receivers; some_receiver = p.some_receiver; each_once = p.each_once; delay = p.delay; quantity = p.quantity }
still_planned s (AtMost n) h m p = record { sender = p.sender; receivers = p.receivers; some_receiver = p.some_receiver; each_once = p.each_once; delay = p.delay; quantity = p.quantity }
still_planned s (Delay n) h m p = record { sender = p.sender; receivers = p.receivers; some_receiver = p.some_receiver; each_once = p.each_once; delay = h; quantity = p.quantity }
still_planned s (Quantity n) h m p = record { sender = p.sender; receivers = p.receivers; some_receiver = p.some_receiver; each_once = p.each_once; delay = p.delay; quantity = h }

-- ---- all messages

pub plan_all_changed : (s : SpecValue) (change : Change) (ms : List Message) → ms ≡ map (changed change) s.messages → IsSmallChange change → IsPlan s → IsPlan (record s { messages = ms })
plan_all_changed s change ms e small p =
    subst (λ (ks : List Message). IsPlan (record s { messages = ks })) (sym e)
    (plan_messages s s.message_names (map (changed change) s.messages) p (omega (arith, p.few_messages, long)) (p.named ∙ sym long) p.messages_distinct
    (All-map (IsMessageIn s) (changed change) s.messages (λ k d l. still_planned s change small (get_or s.messages k d) (p.messages_in k d l)))
    (none_mapped (changed change) (keeps_way change) s.messages p.no_cycle))
  where
    long : length (map (changed change) s.messages) ≡ length s.messages
    long = length-map s.messages (changed change)

pub order_all_changed : (rows : List (List Bool)) (change : Change) (old ms : List Message) → ms ≡ map (changed change) old → IsOrderOf rows old → IsOrderOf rows ms
order_all_changed rows change old ms e o =
    subst (IsOrderOf rows) (sym e) (order_within rows old (map (changed change) old) (sends_to_mapped (changed change) (keeps_way change) old) (sends_mapped (changed change) (keeps_way change) old) o)

-- ---- one message

-- the same senders and receivers, place by place
pub record SameWays (ms ks : List Message) : Type 0 where
  pub long : length ms ≡ length ks
  pub sender : (i : ℕ) (d : Message) → i < length ms → (get_or ms i d).sender ≡ (get_or ks i d).sender
  pub receivers : (i : ℕ) (d : Message) → i < length ms → (get_or ms i d).receivers ≡ (get_or ks i d).receivers

same_back : (ms ks : List Message) → SameWays ms ks → SameWays ks ms
same_back ms ks w = record { long = sym w.long; sender = λ i d l. sym (w.sender i d (omega (arith, l, w.long))); receivers = λ i d l. sym (w.receivers i d (omega (arith, l, w.long))) }

sends_same : (ms ks : List Message) → SameWays ms ks → (a b : ℕ) → Sends ms a b → Sends ks a b
sends_same ms ks w a b x =
    let i = x.there.0 in
    let d : Message = x.message in
    let l : i < length ks = omega (arith, x.there.1, w.long) in
    record {
      message = get_or ks i d;
      there = Contains-get_or ks i d l;
      from = sym (w.sender i d x.there.1) ∙ (ap (λ (u : Message). u.sender) x.there.2 ∙ x.from);
      to = subst (λ (xs : List ℕ). Contains xs b) (sym (ap (λ (u : Message). u.receivers) x.there.2) ∙ w.receivers i d x.there.1) x.to;
    }

-- one message changed
changed_ways : (ms : List Message) (m : ℕ) (change : Change) → m < length ms → SameWays (with_changed ms m change) ms
changed_ways ms m change lm = record {
  long = length-set ms m (changed change (message_in ms m));
  sender = λ i d l. field (λ (u : Message). u.sender) (keeps_way change).sender i d (omega (arith, l, length-set ms m (changed change (message_in ms m))));
  receivers = λ i d l. field (λ (u : Message). u.receivers) (keeps_way change).receivers i d (omega (arith, l, length-set ms m (changed change (message_in ms m))));
}
  where
    field : {A : Type 0} (f : Message → A) → ((u : Message) → f (changed change u) ≡ f u) → (i : ℕ) (d : Message) → i < length ms → f (get_or (with_changed ms m change) i d) ≡ f (get_or ms i d)
    field {A = A} f keeps i d l = go (cases_lt i m)
      where
        away : ¬ (i ≡ m) → f (get_or (with_changed ms m change) i d) ≡ f (get_or ms i d)
        away ne = ap f (get_or-set_other ms m i (changed change (message_in ms m)) d ne)

        here : i ≡ m → f (get_or (with_changed ms m change) i d) ≡ f (get_or ms i d)
        here e =
            ap (λ (k : ℕ). f (get_or (with_changed ms m change) k d)) e
            ∙ (ap f (get_or-set_same ms m (changed change (message_in ms m)) d lm)
            ∙ (keeps (message_in ms m)
            ∙ (ap f (get_or_default ms m _ d lm) ∙ ap (λ (k : ℕ). f (get_or ms k d)) (sym e))))

        not_less : (m < i) ⊎ (i ≤ m) → m ≤ i → f (get_or (with_changed ms m change) i d) ≡ f (get_or ms i d)
        not_less (inl y) h = away (λ e. absurd (omega (arith, y, e)))
        not_less (inr y) h = here (omega (arith, y, h))

        go : (i < m) ⊎ (m ≤ i) → f (get_or (with_changed ms m change) i d) ≡ f (get_or ms i d)
        go (inl y) = away (λ e. absurd (omega (arith, y, e)))
        go (inr y) = not_less (cases_lt m i) y

pub plan_one_changed : (s : SpecValue) (change : Change) (m : ℕ) (ms : List Message) → ms ≡ with_changed s.messages m change → m < length s.messages → IsSmallChange change → IsPlan s
    → IsPlan (record s { messages = ms })
plan_one_changed s change m ms e lm small p =
    subst (λ (ks : List Message). IsPlan (record s { messages = ks })) (sym e)
    (plan_messages s s.message_names (with_changed s.messages m change) p (omega (arith, p.few_messages, ways.long)) (p.named ∙ sym ways.long) p.messages_distinct
    (All-set (IsMessageIn s) s.messages m (changed change (message_in s.messages m)) (still_planned s change small (message_in s.messages m) (p.messages_in m _ lm)) p.messages_in)
    (none_within (with_changed s.messages m change) s.messages (sends_same (with_changed s.messages m change) s.messages ways) p.no_cycle))
  where
    ways : SameWays (with_changed s.messages m change) s.messages
    ways = changed_ways s.messages m change lm

pub order_one_changed : (rows : List (List Bool)) (change : Change) (m : ℕ) (old ms : List Message) → ms ≡ with_changed old m change → m < length old → IsOrderOf rows old → IsOrderOf rows ms
order_one_changed rows change m old ms e lm o =
    let ways = changed_ways old m change lm in
    subst (IsOrderOf rows) (sym e) (order_within rows old (with_changed old m change) (sends_same old (with_changed old m change) (same_back (with_changed old m change) old ways))
    (sends_same (with_changed old m change) old ways) o)

-- the change of the message that is read at its place
pub changed_at : (ms : List Message) (m : ℕ) (change : Change) (before after : Message) → m < length ms → before ≡ get_or ms m before → after ≡ changed change before
    → set ms m after ≡ with_changed ms m change
changed_at ms m change before after l eb ea = ap (set ms m) (ea ∙ ap (changed change) (eb ∙ get_or_default ms m before _ l))
