-- A plan with one item more is a plan.
use Rattle.std.proofs.Common.{◌≡◌, ℕ, ◌+◌, ◌-◌, ◌<◌, ◌≤◌, ◌^◌, List, [], ◌∷◌, ◌++◌, length, get_or, refl, sym, ap, ◌∙◌, subst, arith, All, Contains, ◌⊎◌, inl, inr, length-append}
use Rattle.std.proofs.lemmas.List.{get_or_append_left, get_or-append_right, get_or_default}
use Rattle.std.proofs.lemmas.List.Elements.{All-push, All-weaker}
use Rattle.std.proofs.lemmas.Bool.{cases_lt}
use Rattle.spec_model.specs.Spec.{Name, SpecValue, Message, Arc, Choice, Deadline}
use Rattle.spec_model.specs.WellFormed.{IsArcIn, IsOptionIn, IsDeadlineIn, IsRow, AreRows, IsPlan, IsMessageIn}
use Rattle.spec_model.proofs.Distinct.{distinct_push}
use Rattle.spec_graph.specs.Refusals.{HasBig, IsMapped}

-- what stands at the end of a list with one element more
at_end : {A : Type 0} (xs : List A) (x : A) (j : ℕ) (d : A) → length xs ≤ j → j < length (xs ++ x ∷ []) → get_or (xs ++ x ∷ []) j d ≡ x
at_end {A = A} xs x j d l h =
    let same : j - length xs ≡ 0 = omega (arith, l, h, length-append xs (x ∷ [])) in
    get_or-append_right xs (x ∷ []) (length xs) j d refl l ∙ ap (λ (k : ℕ). get_or (x ∷ []) k d) same

-- no two places of a list are related, with one element more that no earlier one is related to
pub apart_push : {A : Type 0} (R : A → A → Type 0) (xs : List A) (x : A)
    → ((i j : ℕ) (d : A) → i < j → j < length xs → R (get_or xs i d) (get_or xs j d) → ⊥)
    → ((i : ℕ) (d : A) → i < length xs → R (get_or xs i d) x → ⊥)
    → (i j : ℕ) (d : A) → i < j → j < length (xs ++ x ∷ []) → R (get_or (xs ++ x ∷ []) i d) (get_or (xs ++ x ∷ []) j d) → ⊥
apart_push {A = A} R xs x old new i j d l h r = go (cases_lt j (length xs))
  where
    go : (j < length xs) ⊎ (length xs ≤ j) → ⊥
    go (inl lj) =
        let ei = get_or_append_left xs (x ∷ []) d i (omega (arith, l, lj)) in
        let ej = get_or_append_left xs (x ∷ []) d j lj in
        old i j d l lj (subst (λ (y : A). R (get_or xs i d) y) ej (subst (λ (y : A). R y (get_or (xs ++ x ∷ []) j d)) ei r))
    go (inr lj) =
        let li : i < length xs = omega (arith, l, lj, h, length-append xs (x ∷ [])) in
        let ei = get_or_append_left xs (x ∷ []) d i li in
        new i d li (subst (λ (y : A). R (get_or xs i d) y) (at_end xs x j d lj h) (subst (λ (y : A). R y (get_or (xs ++ x ∷ []) j d)) ei r))

-- the same counts or more
pub record Grows (s t : SpecValue) : Type 0 where
  pub tasks : length s.tasks ≤ length t.tasks
  pub resources : length s.resources ≤ length t.resources
  pub links : length s.links ≤ length t.links

pub arcs_grow : (s t : SpecValue) (xs : List Arc) → Grows s t → All (IsArcIn s) xs → All (IsArcIn t) xs
arcs_grow s t xs g =
    All-weaker (IsArcIn s) (IsArcIn t) (λ a h. record {
      link = omega (arith, h.link, g.links);
      tail = omega (arith, h.tail, g.resources);
      head = omega (arith, h.head, g.resources);
      apart =
          h.apart;
    }) xs

pub options_grow : (s t : SpecValue) (xs : List Choice) → Grows s t → All (IsOptionIn s) xs → All (IsOptionIn t) xs
options_grow s t xs g = All-weaker (IsOptionIn s) (IsOptionIn t) (λ o h. record { task = omega (arith, h.task, g.tasks); resource = omega (arith, h.resource, g.resources); time = h.time }) xs

pub messages_grow : (s t : SpecValue) (xs : List Message) → Grows s t → All (IsMessageIn s) xs → All (IsMessageIn t) xs
messages_grow s t xs g = All-weaker (IsMessageIn s) (IsMessageIn t) (λ m h. record {
  sender = omega (arith, h.sender, g.tasks);
  receivers = All-weaker (λ w. w < length s.tasks) (λ w. w < length t.tasks) (λ w l. omega (arith, l, g.tasks)) m.receivers h.receivers;
  some_receiver = h.some_receiver;
  each_once = h.each_once;
  delay = h.delay;
  quantity = h.quantity;
}) xs

pub deadlines_grow : (s t : SpecValue) (xs : List Deadline) → Grows s t → All (IsDeadlineIn s) xs → All (IsDeadlineIn t) xs
deadlines_grow s t xs g = All-weaker (IsDeadlineIn s) (IsDeadlineIn t) (λ d h. record { task = omega (arith, h.task, g.tasks); time = h.time }) xs

-- one row more
pub rows_push : (k n m : ℕ) (rows : List (List ℕ)) (row : List ℕ) → AreRows k n rows → length row ≡ k → ¬ HasBig row → m ≡ n + 1 → AreRows k m (rows ++ row ∷ [])
rows_push k n m rows row h one small e = record {
  one_each = omega (arith, length-append rows (row ∷ []), h.one_each, e);
  each = All-push (IsRow k) rows row h.each (record { one_each = one; small = λ i d l. no_more i d l (cases_lt (2 ^ 40) (get_or row i d)) });
}
  where
    no_more : (i : ℕ) (d : ℕ) → i < length row → (2 ^ 40 < get_or row i d) ⊎ (get_or row i d ≤ 2 ^ 40) → get_or row i d ≤ 2 ^ 40
    no_more i d l (inl b) = absurd (small (i, get_or row i d, l, get_or_default row i (get_or row i d) d l, b))
    no_more i d l (inr b) = b

-- rows with room for one more, which then is there
pub row_added : (old kept new : List (List ℕ)) (copy row : List ℕ) → kept ≡ old → new ≡ kept ++ copy ∷ [] → copy ≡ row → new ≡ old ++ row ∷ []
row_added old kept new copy row e f g = rw (f, e, g)

pub plan_task : (s : SpecValue) (name : Name) → IsPlan s → ¬ Contains s.tasks name → length s.tasks < 1024 → IsPlan (record s { tasks = s.tasks ++ name ∷ [] })
plan_task s name p new room =
    let t : SpecValue = record s { tasks = s.tasks ++ name ∷ [] } in
    let long = length-append s.tasks (name ∷ []) in
    let g : Grows s t = record { tasks = omega (arith, long); resources = omega arith; links = omega arith } in
    record {
      few_tasks = omega (arith, long, room);
      few_messages = p.few_messages;
      few_resources = p.few_resources;
      few_links = p.few_links;
      few_arcs = p.few_arcs;
      few_options = p.few_options;
      few_objectives = p.few_objectives;
      named = p.named;
      tasks_distinct = distinct_push s.tasks name p.tasks_distinct new;
      messages_distinct = p.messages_distinct;
      resources_distinct = p.resources_distinct;
      links_distinct = p.links_distinct;
      objectives_distinct = p.objectives_distinct;
      pairs_distinct = p.pairs_distinct;
      arcs_distinct = p.arcs_distinct;
      arcs_in = arcs_grow s t s.arcs g p.arcs_in;
      options_in = options_grow s t s.options g p.options_in;
      messages_in = messages_grow s t s.messages g p.messages_in;
      deadlines_in = deadlines_grow s t s.deadlines g p.deadlines_in;
      option_rows = p.option_rows;
      resource_rows = p.resource_rows;
      link_rows = p.link_rows;
      traffic_rows = p.traffic_rows;
      no_cycle = p.no_cycle;
    }

pub plan_resource : (s : SpecValue) (name : Name) (weights : List ℕ) → IsPlan s → ¬ Contains s.resources name → length weights ≡ length s.objectives → ¬ HasBig weights → length s.resources < 256
    → IsPlan (record s { resources = s.resources ++ name ∷ []; resource_weights = s.resource_weights ++ weights ∷ [] })
plan_resource s name weights p new one small room =
    let t : SpecValue = record s { resources = s.resources ++ name ∷ []; resource_weights = s.resource_weights ++ weights ∷ [] } in
    let long = length-append s.resources (name ∷ []) in
    let g : Grows s t = record { tasks = omega arith; resources = omega (arith, long); links = omega arith } in
    record {
      few_tasks = p.few_tasks;
      few_messages = p.few_messages;
      few_resources = omega (arith, long, room);
      few_links = p.few_links;
      few_arcs = p.few_arcs;
      few_options = p.few_options;
      few_objectives = p.few_objectives;
      named = p.named;
      tasks_distinct = p.tasks_distinct;
      messages_distinct = p.messages_distinct;
      resources_distinct = distinct_push s.resources name p.resources_distinct new;
      links_distinct = p.links_distinct;
      objectives_distinct = p.objectives_distinct;
      pairs_distinct = p.pairs_distinct;
      arcs_distinct = p.arcs_distinct;
      arcs_in = arcs_grow s t s.arcs g p.arcs_in;
      options_in = options_grow s t s.options g p.options_in;
      messages_in = messages_grow s t s.messages g p.messages_in;
      deadlines_in = deadlines_grow s t s.deadlines g p.deadlines_in;
      option_rows = p.option_rows;
      resource_rows = rows_push (length s.objectives) (length s.resources) (length (s.resources ++ name ∷ [])) s.resource_weights weights p.resource_rows one small long;
      link_rows = p.link_rows;
      traffic_rows = p.traffic_rows;
      no_cycle = p.no_cycle;
    }

pub plan_option : (s : SpecValue) (o : Choice) (weights : List ℕ) → IsPlan s → IsOptionIn s o → ¬ IsMapped s o.task o.resource → length weights ≡ length s.objectives → ¬ HasBig weights
    → length s.options < 16384 → IsPlan (record s { options = s.options ++ o ∷ []; option_weights = s.option_weights ++ weights ∷ [] })
plan_option s o weights p inside new one small room =
    let t : SpecValue = record s { options = s.options ++ o ∷ []; option_weights = s.option_weights ++ weights ∷ [] } in
    let long = length-append s.options (o ∷ []) in
    let g : Grows s t = record { tasks = omega arith; resources = omega arith; links = omega arith } in
    record {
      few_tasks = p.few_tasks;
      few_messages = p.few_messages;
      few_resources = p.few_resources;
      few_links = p.few_links;
      few_arcs = p.few_arcs;
      few_options = omega (arith, long, room);
      few_objectives = p.few_objectives;
      named = p.named;
      tasks_distinct = p.tasks_distinct;
      messages_distinct = p.messages_distinct;
      resources_distinct = p.resources_distinct;
      links_distinct = p.links_distinct;
      objectives_distinct = p.objectives_distinct;
      pairs_distinct = λ i j d l h e f. apart_push (λ (a b : Choice). (a.task ≡ b.task) × (a.resource ≡ b.resource)) s.options o (λ i j d l h x. p.pairs_distinct i j d l h x.0 x.1)
          (λ i d l x. new (i, get_or s.options i d, l, get_or_default s.options i (get_or s.options i d) d l, x)) i j d l h (e, f);
      arcs_distinct = p.arcs_distinct;
      arcs_in = arcs_grow s t s.arcs g p.arcs_in;
      options_in = options_grow s t (s.options ++ o ∷ []) g (All-push (IsOptionIn s) s.options o p.options_in inside);
      messages_in = messages_grow s t s.messages g p.messages_in;
      deadlines_in = deadlines_grow s t s.deadlines g p.deadlines_in;
      option_rows = rows_push (length s.objectives) (length s.options) (length (s.options ++ o ∷ [])) s.option_weights weights p.option_rows one small long;
      resource_rows = p.resource_rows;
      link_rows = p.link_rows;
      traffic_rows = p.traffic_rows;
      no_cycle = p.no_cycle;
    }

-- the same, where the lists are known by equations
pub plan_resource_at : (s : SpecValue) (name : Name) (weights : List ℕ) (names : List Name) (rows : List (List ℕ)) → names ≡ s.resources ++ name ∷ [] → rows ≡ s.resource_weights ++ weights ∷ []
    → IsPlan s → ¬ Contains s.resources name → length weights ≡ length s.objectives → ¬ HasBig weights → length s.resources < 256 → IsPlan (record s { resources = names; resource_weights = rows })
plan_resource_at s name weights names rows en er p new one small room =
    subst (λ (ns : List Name). IsPlan (record s { resources = ns; resource_weights = rows })) (sym en)
    (subst (λ (rs : List (List ℕ)). IsPlan (record s { resources = s.resources ++ name ∷ []; resource_weights = rs })) (sym er) (plan_resource s name weights p new one small room))

pub plan_option_at : (s : SpecValue) (o : Choice) (weights : List ℕ) (os : List Choice) (rows : List (List ℕ)) → os ≡ s.options ++ o ∷ [] → rows ≡ s.option_weights ++ weights ∷ [] → IsPlan s
    → IsOptionIn s o → ¬ IsMapped s o.task o.resource → length weights ≡ length s.objectives → ¬ HasBig weights → length s.options < 16384 → IsPlan (record s { options = os; option_weights = rows })
plan_option_at s o weights os rows eo er p inside new one small room =
    subst (λ (xs : List Choice). IsPlan (record s { options = xs; option_weights = rows })) (sym eo)
    (subst (λ (rs : List (List ℕ)). IsPlan (record s { options = s.options ++ o ∷ []; option_weights = rs })) (sym er) (plan_option s o weights p inside new one small room))
