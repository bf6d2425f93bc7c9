-- What a plan has once the graphs so far are in it, and that the next one has room.
use Rattle.std.proofs.Common.{◌≡◌, ℕ, zero, suc, ◌+◌, ◌<◌, ◌^◌, List, [], ◌∷◌, ◌++◌, length, take, get_or, map, refl, sym, ap, subst, ◌∙◌, arith, inl, inr, Contains, All, length-append}
use Rattle.std.specs.Prelude.{sum_by}
use Rattle.std.proofs.lemmas.List.{get_or-map, get_or-take, length-map, length-take-le, map_push, take_more}
use Rattle.std.proofs.lemmas.List.Elements.{Contains-append_cases, Contains-append_left, Contains-push}
use Rattle.std.proofs.lemmas.List.Sums.{fold_push, sum_by_push, sum_by_more_le}
use Rattle.spec_model.specs.Spec.{Name, SpecValue}
use Rattle.spec_model.specs.WellFormed.{AreDistinct, IsPlan}
use Rattle.tgff_reader.specs.Facts.{TgffValue, IsTgff, IsGraph, graph_index, task_count, arc_count}
use Rattle.tgff_reader.specs.declared.file.Graph.{Graph}
use Rattle.graph_plan.specs.Graphs.{name_in, task_in, arc_in, planned_message, with_graph, with_graphs}
use Rattle.graph_plan.specs.Room.{AreNew, HasRoom, IsReady}
use Rattle.graph_plan.proofs.Naming.{same_name}

-- a name with one of these indices
pub record IsOf (indices : List ℕ) (name : Name) : Type 0 where
  pub index : ℕ
  pub among : Contains indices index
  pub own : Name
  pub is : name ≡ name_in index own

-- each name is of one of the graphs
abbrev pub AreOf : List Graph → List Name → Type 0
AreOf gs names = (name : Name) → Contains names name → IsOf (map graph_index gs) name

-- a plan that was empty of tasks and messages, with these graphs in it
pub record IsFilled (clock : ℕ) (old : SpecValue) (gs : List Graph) (p : SpecValue) : Type 0 where
  pub made : p ≡ with_graphs clock old gs
  pub tasks_of : AreOf gs p.tasks
  pub messages_of : AreOf gs p.message_names
  pub tasks : length p.tasks ≡ sum_by task_count gs
  pub messages : length p.messages ≡ sum_by arc_count gs

-- ---- one graph more

of_more : {X : Type 0} (in_plan : X → Name) (own_name : X → Name) (gs : List Graph) (g : Graph) (names : List Name) (xs : List X)
    → ((x : X) → in_plan x ≡ name_in g.index (own_name x)) → ((xs : List X) (name : Name) → Contains (map in_plan xs) name → (x : X) × (in_plan x ≡ name)) → AreOf gs names
    → AreOf (gs ++ g ∷ []) (names ++ map in_plan xs)
of_more in_plan own_name gs g names xs is from all name c =
    let more : map graph_index (gs ++ g ∷ []) ≡ map graph_index gs ++ g.index ∷ [] = map_push graph_index gs g in
    elim (Contains-append_cases names (map in_plan xs) name c) [
      | inl t ↦ let o =
          all name t in record {
            index = o.index;
            among = subst (λ (ns : List ℕ). Contains ns o.index) (sym more) (Contains-append_left (map graph_index gs) (g.index ∷ []) o.index o.among);
            own =
                o.own;
            is = o.is;
          }
      | inr t ↦ let x =
          from xs name t in record {
            index = g.index;
            among = subst (λ (ns : List ℕ). Contains ns g.index) (sym more) (Contains-push (map graph_index gs) g.index);
            own = own_name x.0;
            is = sym x.1
                ∙ is x.0;
          }
    ]

mapped : {X : Type 0} (f : X → Name) (xs : List X) (name : Name) → Contains (map f xs) name → (x : X) × (f x ≡ name)
mapped f [] name c = absurd (omega (arith, c.1))
mapped f (x ∷ xs) name (zero, l, e) = (x, e)
mapped f (x ∷ xs) name (suc k, l, e) = mapped f xs name (k, omega (arith, l), e)

pushed : (clock : ℕ) (old : SpecValue) (gs : List Graph) (g : Graph) (p : SpecValue) → IsFilled clock old gs p → IsFilled clock old (gs ++ g ∷ []) (with_graph clock p g)
pushed clock old gs g p h = record {
  made = ap (λ (q : SpecValue). with_graph clock q g) h.made ∙ sym (fold_push (with_graph clock) old gs g);
  tasks_of = of_more (task_in g.index) (λ t. t.name) gs g p.tasks g.tasks (λ t. refl) (mapped (task_in g.index)) h.tasks_of;
  messages_of = of_more (arc_in g.index) (λ a. a.name) gs g p.message_names g.arcs (λ a. refl) (mapped (arc_in g.index)) h.messages_of;
  tasks = omega (arith, h.tasks, length-append p.tasks (map (task_in g.index) g.tasks), length-map g.tasks (task_in g.index), sum_by_push task_count gs g);
  messages = omega (arith, h.messages, length-append p.messages (map (planned_message (length p.tasks)) g.arcs), length-map g.arcs (planned_message (length p.tasks)), sum_by_push arc_count gs g);
}

pub filled_more : (clock : ℕ) (old : SpecValue) (gs : List Graph) (i : ℕ) (g : Graph) (p new : SpecValue) → IsFilled clock old (take i gs) p → i < length gs → g ≡ get_or gs i g
    → new ≡ with_graph clock p g → IsFilled clock old (take (i + 1) gs) new
filled_more clock old gs i g p new h l at e =
    let front : take (i + 1) gs ≡ take i gs ++ g ∷ [] = take_more gs i g l ∙ ap (λ (x : Graph). take i gs ++ x ∷ []) (sym at) in
    subst (λ (q : SpecValue). IsFilled clock old (take (i + 1) gs) q) (sym e)
    (subst (λ (xs : List Graph). IsFilled clock old xs (with_graph clock p g)) (sym front) (pushed clock old (take i gs) g p h))

-- ---- room for the next graph

-- no graph so far has the index of the next one
new_index : (gs : List Graph) (i : ℕ) (g : Graph) (names : List Name) → All IsGraph gs → AreDistinct (map graph_index gs) → i < length gs → g ≡ get_or gs i g → AreOf (take i gs) names
    → AreNew g.index names
new_index gs i g names graphs distinct l at all name c =
    let o = all (name_in g.index name) c in
    let j = o.among.0 in
    let short : length (take i gs) ≡ i = length-take-le i gs (omega (arith, l)) in
    let before : j < length (take i gs) = omega (arith, o.among.1, length-map (take i gs) graph_index) in
    let lower : j < i = omega (arith, before, short) in
    let there : j < length gs = omega (arith, lower, l) in
    let its : (get_or gs j g).index ≡ o.index = ap graph_index (sym (get_or-take i gs j g lower)) ∙ sym (get_or-map graph_index (take i gs) j g o.index before) ∙ o.among.2 in
    let other : IsGraph (get_or gs j g) = graphs j g there in
    let this : IsGraph (get_or gs i g) = graphs i g l in
    let other_small : o.index < 2 ^ 64 = omega (arith, other.index, its) in
    let small : g.index < 2 ^ 64 = omega (arith, this.index, ap graph_index at) in
    let s = same_name g.index o.index name o.own small other_small o.is in
    let within : i < length (map graph_index gs) = omega (arith, l, length-map gs graph_index) in
    distinct j i 0 lower within (get_or-map graph_index gs j g 0 there ∙ its ∙ sym s.0 ∙ ap graph_index at ∙ sym (get_or-map graph_index gs i g 0 l))

pub room_for : (f : TgffValue) (gs : List Graph) (clock : ℕ) (old : SpecValue) (i : ℕ) (g : Graph) (p : SpecValue) → IsTgff f → gs ≡ f.graphs → IsFilled clock old (take i gs) p → i < length gs
    → g ≡ get_or gs i g → HasRoom p g
room_for f gs clock old i g p is e h l at =
    let graphs : All IsGraph gs = subst (All IsGraph) (sym e) is.graphs_in in
    let distinct : AreDistinct (map graph_index gs) = subst (λ (xs : List Graph). AreDistinct (map graph_index xs)) (sym e) is.graphs_distinct in
    record {
      new_tasks = new_index gs i g p.tasks graphs distinct l at h.tasks_of;
      new_messages = new_index gs i g p.message_names graphs distinct l at h.messages_of;
      few_tasks = omega (arith, h.tasks, is.few_tasks, ap (sum_by task_count) e, sum_by_more_le task_count gs i g l, ap task_count at);
      few_messages = omega (arith, h.messages, is.few_arcs, ap (sum_by arc_count) e, sum_by_more_le arc_count gs i g l, ap arc_count at);
    }

-- ---- once a graph's tasks are in the plan, its arcs may follow

pub ready : (old new : SpecValue) (first : ℕ) (g : Graph) → IsPlan old → HasRoom old g → first ≡ length old.tasks → new ≡ record old { tasks = old.tasks ++ map (task_in g.index) g.tasks }
    → IsReady first new g
ready old new first g plan room e n =
    subst (λ (p : SpecValue). IsReady first p g) (sym n) (subst (λ (k : ℕ). IsReady k (record old { tasks = old.tasks ++ map (task_in g.index) g.tasks }) g) (sym e) (record {
      tasks = omega (arith, length-append old.tasks (map (task_in g.index) g.tasks), length-map g.tasks (task_in g.index));
      before = λ k d l. (plan.messages_in k d l).sender;
      new = room.new_messages;
      few = room.few_messages;
    }))
