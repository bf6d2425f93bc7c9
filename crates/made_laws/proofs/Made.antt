-- What the lines of a made specification have made so far, and what each of its kinds of lines adds to it.
use Rattle.std.proofs.Common.{◌≡◌, ℕ, zero, suc, ◌+◌, ◌*◌, ◌<◌, ◌≤◌, ◌^◌, true, List, [], ◌∷◌, ◌++◌, length, refl, sym, ap, ◌∙◌, subst, arith, All, Option, None, inl, inr}
use Rattle.std.specs.Prelude.{ℤ, codes, slice_index_or}
use Rattle.std.proofs.lemmas.Bool.{cases_lt, ltb-false}
use Rattle.std.proofs.lemmas.List.{length-append, length-map, length_push, get_or_past}
use Rattle.std.proofs.lemmas.List.Elements.{All-nil, All-push, All-map, All-set, All-replicate, All-weaker}
use Rattle.names.specs.Names.{number_by_name}
use Rattle.spec_model.specs.Spec.{Name, Message as MessageValue, Arc, Choice}
use Rattle.spec_model.specs.Limits.{most_number}
use Rattle.spec_graph.specs.Plan.{arcs_of_link}
use Rattle.spec_graph.specs.Changes.{changed, with_weight}
use Rattle.spec_graph.specs.declared.messages.Change.TheVariants as changes
use Rattle.arch_reader.specs.Numbers.{at_scale}
use Rattle.arch_reader.specs.declared.statement.KeyAmount.{KeyAmount}
use Rattle.arch_reader.specs.declared.statement.Statement.TheVariants.{Resource, Link, Task, Message, Map, Hops}
use Rattle.spec_join.specs.Joining.{Joining, weight_of, no_weights, message_between}
use Rattle.spec_join.specs.Effects.{effect, option_between}
use Rattle.spec_make.specs.Made.{resource_name, task_name, message_name}
use Rattle.made_laws.proofs.Small.{number}
use Rattle.made_laws.proofs.Named.{names, names_more, number_of_name}
use Rattle.made_laws.proofs.Forward.{IsForward}
use Rattle.made_laws.proofs.Lines.{amount, traffic_of}

-- ---- what is there

abbrev pub IsLow : List ℕ → Type 0
IsLow row = All (λ w. w ≤ 2 ^ 40) row

-- the first r resources, links and arcs that are few, and traffic weights that are low
pub record HasMesh (r l : ℕ) (resources links : List Name) (arcs : List Arc) (traffic : List (List ℕ)) : Type 0 where
  pub named : resources ≡ names 114 r
  pub few_links : length links ≤ l
  pub few_arcs : length arcs ≤ 2 * l
  pub low : All IsLow traffic

-- the name of a message for a task before i
abbrev pub IsNamedBelow : ℕ → Name → Type 0
IsNamedBelow i w = (k : ℕ) × (k < i) × (w ≡ message_name k)

-- messages for tasks before m
pub record HasSent (m : ℕ) (sent : List Name) (messages : List MessageValue) : Type 0 where
  pub named : All (IsNamedBelow m) sent
  pub few : length messages ≤ m
  pub forward : All IsForward messages

abbrev pub IsOfTaskBelow : ℕ → Choice → Type 0
IsOfTaskBelow k o = o.task < k

-- at most c options, of tasks before k
pub record HasMapped (k c : ℕ) (options : List Choice) : Type 0 where
  pub before : All (IsOfTaskBelow k) options
  pub few : length options ≤ c

-- Whole numbers for both objectives, r resources, at most l links, t tasks, messages for tasks before m, and at most c
-- options, of tasks before k.
pub record Made (r l t m k c : ℕ) (s : Joining) : Type 0 where
  pub scales : s.scales ≡ 0 ∷ 0 ∷ []
  pub mesh : HasMesh r l s.plan.resources s.plan.links s.plan.arcs s.plan.traffic_weights
  pub tasks : s.plan.tasks ≡ names 116 t
  pub sent : HasSent m s.plan.message_names s.plan.messages
  pub mapped : HasMapped k c s.plan.options

-- ---- resources and links

pub resource_made : (r l t m k c : ℕ) (s : Joining) (ws : List KeyAmount) → Made r l t m k c s → Made (r + 1) l t m k c (effect s (Resource (resource_name r) ws))
resource_made r l t m k c s ws h = record {
  scales = h.scales;
  mesh = record {
    named = ap (λ (xs : List Name). xs ++ resource_name r ∷ []) h.mesh.named ∙ names_more 114 r;
    few_links = h.mesh.few_links;
    few_arcs = h.mesh.few_arcs;
    low = h.mesh.low;
  };
  tasks = h.tasks;
  sent = h.sent;
  mapped = h.mapped;
}

pub link_made : (r l t m k c : ℕ) (s : Joining) (name a b : Name) (ws : List KeyAmount) → Made r l t m k c s → Made r (l + 1) t m k c (effect s (Link name a b true ws))
link_made r l t m k c s name a b ws h =
    let both = arcs_of_link (length s.plan.links) (number_by_name s.plan.resources a) (number_by_name s.plan.resources b) true in
    let two : length both ≡ 2 = refl in
    record {
      scales = h.scales;
      mesh = record {
        named = h.mesh.named;
        few_links = omega (arith, h.mesh.few_links, length_push s.plan.links name);
        few_arcs = omega (arith, h.mesh.few_arcs, length-append s.plan.arcs both, two);
        low = All-push IsLow s.plan.traffic_weights (no_weights s) h.mesh.low (All-replicate (λ w. w ≤ 2 ^ 40) (length s.plan.objectives) 0 (omega arith));
      };
      tasks = h.tasks;
      sent = h.sent;
      mapped = h.mapped;
    }

pub low_row : (rows : List (List ℕ)) (i : ℕ) → All IsLow rows → IsLow (slice_index_or rows i [])
low_row rows i h =
    elim (cases_lt i (length rows)) [
      | inl lt ↦ h i [] lt
      | inr past ↦ subst IsLow (sym (get_or_past rows i [] past)) (All-nil (λ w. w ≤ 2 ^ 40))
    ]

low_set : (rows : List (List ℕ)) (i j w : ℕ) → All IsLow rows → w ≤ 2 ^ 40 → All IsLow (with_weight rows i j w)
low_set rows i j w h low = All-set IsLow rows i _ (All-set (λ x. x ≤ 2 ^ 40) (slice_index_or rows i []) j w low (low_row rows i h)) h

low_one : at_scale 0 (amount 1) ≤ 2 ^ 40
low_one = ltb-false most_number (at_scale 0 (amount 1)) (number 1 (omega arith)).low

scaled_one : (j : ℕ) → weight_of (0 ∷ 0 ∷ []) j (amount 1) ≤ 2 ^ 40
scaled_one zero = low_one
scaled_one (suc zero) = low_one
scaled_one (suc (suc j)) = low_one

pub traffic_made : (r l t m k c : ℕ) (s : Joining) (e : ℕ) → Made r l t m k c s → Made r l t m k c (effect s (traffic_of e))
traffic_made r l t m k c s e h =
    let j = number_by_name s.plan.objectives (codes "energy") in
    let low : weight_of s.scales j (amount 1) ≤ 2 ^ 40 = subst (λ (zs : List ℕ). weight_of zs j (amount 1) ≤ 2 ^ 40) (sym h.scales) (scaled_one j) in
    record {
      scales = h.scales;
      mesh = record {
        named = h.mesh.named;
        few_links = h.mesh.few_links;
        few_arcs = h.mesh.few_arcs;
        low = low_set s.plan.traffic_weights _ j (weight_of s.scales j (amount 1)) h.mesh.low low;
      };
      tasks = h.tasks;
      sent = h.sent;
      mapped = h.mapped;
    }

-- ---- tasks and messages

pub hops_made : (r l t m k c : ℕ) (s : Joining) (n : ℕ) → Made r l t m k c s → Made r l t m k c (effect s (Hops None n))
hops_made r l t m k c s n h = record {
  scales = h.scales;
  mesh = h.mesh;
  tasks = h.tasks;
  sent = record {
    named = h.sent.named;
    few = omega (arith, h.sent.few, length-map s.plan.messages (changed (changes.Hops n)));
    forward = All-map IsForward (changed (changes.Hops n)) s.plan.messages
        (All-weaker IsForward (λ (x : MessageValue). IsForward (changed (changes.Hops n) x)) (λ x f. record { rises = f.rises; few = f.few; one = f.one }) s.plan.messages h.sent.forward);
  };
  mapped = h.mapped;
}

pub task_made : (r l t m k c : ℕ) (s : Joining) → Made r l t m k c s → Made r l (t + 1) m k c (effect s (Task (task_name t)))
task_made r l t m k c s h = record {
  scales = h.scales;
  mesh = h.mesh;
  tasks = ap (λ (xs : List Name). xs ++ task_name t ∷ []) h.tasks ∙ names_more 116 t;
  sent = h.sent;
  mapped = h.mapped;
}

named_more : (m : ℕ) (sent : List Name) → All (IsNamedBelow m) sent → All (IsNamedBelow (m + 1)) sent
named_more m sent h = All-weaker (IsNamedBelow m) (IsNamedBelow (m + 1)) (λ w x. (x.0, omega (arith, x.1), x.2)) sent h

-- no message is for this task
pub none_sent : (r l t m k c : ℕ) (s : Joining) → Made r l t m k c s → Made r l t (m + 1) k c s
none_sent r l t m k c s h = record {
  scales = h.scales;
  mesh = h.mesh;
  tasks = h.tasks;
  sent = record { named = named_more m s.plan.message_names h.sent.named; few = omega (arith, h.sent.few); forward = h.sent.forward };
  mapped = h.mapped;
}

pub message_made : (r l t m k c : ℕ) (s : Joining) (sender : Name) (to : List Name) → IsForward (message_between s sender to) → Made r l t m k c s
    → Made r l t (m + 1) k c (effect s (Message (message_name m) sender to))
message_made r l t m k c s sender to f h = record {
  scales = h.scales;
  mesh = h.mesh;
  tasks = h.tasks;
  sent = record {
    named = All-push (IsNamedBelow (m + 1)) s.plan.message_names (message_name m) (named_more m s.plan.message_names h.sent.named) (m, omega arith, refl);
    few = omega (arith, h.sent.few, length_push s.plan.messages (message_between s sender to));
    forward = All-push IsForward s.plan.messages (message_between s sender to) h.sent.forward f;
  };
  mapped = h.mapped;
}

-- ---- options

pub task_number : (r l t m k c i : ℕ) (s : Joining) → i < t → t ≤ 100 → Made r l t m k c s → number_by_name s.plan.tasks (task_name i) ≡ i
task_number r l t m k c i s lt few h = ap (λ (xs : List Name). number_by_name xs (task_name i)) h.tasks ∙ number_of_name 116 t i lt few

pub resource_number : (r l t m k c i : ℕ) (s : Joining) → i < r → r ≤ 100 → Made r l t m k c s → number_by_name s.plan.resources (resource_name i) ≡ i
resource_number r l t m k c i s lt few h = ap (λ (xs : List Name). number_by_name xs (resource_name i)) h.mesh.named ∙ number_of_name 114 r i lt few

pub option_made : (r l t m k c i : ℕ) (s : Joining) (resource : Name) (time : Option ℤ) (ws : List KeyAmount) → i < t → t ≤ 100 → k ≤ i + 1 → Made r l t m k c s
    → Made r l t m (i + 1) (c + 1) (effect s (Map (task_name i) resource time ws))
option_made r l t m k c i s resource time ws lt few low h =
    let at = task_number r l t m k c i s lt few h in
    let o = option_between s (task_name i) resource time in
    let before = All-weaker (IsOfTaskBelow k) (IsOfTaskBelow (i + 1)) (λ x b. omega (arith, b, low)) s.plan.options h.mapped.before in
    record {
      scales = h.scales;
      mesh = h.mesh;
      tasks = h.tasks;
      sent = h.sent;
      mapped = record {
        before = All-push (IsOfTaskBelow (i + 1)) s.plan.options o before (omega (arith, at));
        few = omega (arith, h.mapped.few, length_push s.plan.options o);
      };
    }
