-- A plan with an objective, a link or a message more is a plan.
use Rattle.std.proofs.Common.{◌≡◌, ℕ, ◌-◌, ◌<◌, ◌≤◌, ◌^◌, Bool, true, false, List, [], ◌∷◌, ◌++◌, length, get_or, refl, sym, ap, ◌∙◌, subst, arith, All, Contains, ◌⊎◌, inl, inr, length-append}
use Rattle.std.proofs.lemmas.List.{get_or_append_left, get_or-append_right, get_or_default}
use Rattle.std.proofs.lemmas.List.Elements.{All-push, All-append, All-cons, All-nil}
use Rattle.std.proofs.lemmas.Bool.{cases_lt}
use Rattle.spec_model.specs.Spec.{Name, SpecValue, Message, Arc}
use Rattle.spec_model.specs.WellFormed.{AreDistinct, IsArcIn, AreRows, Leads, IsPlan, IsMessageIn}
use Rattle.spec_model.proofs.Chains.{still_none}
use Rattle.spec_model.proofs.Distinct.{distinct_push}
use Rattle.spec_graph.specs.Plan.{arcs_of_link, with_link, with_message}
use Rattle.task_order.specs.Order.{IsOrderOf, IsLed, comes_after, is_joined}
use Rattle.task_order.proofs.Orders.{order_more}
use Rattle.spec_graph.specs.Refusals.{IsBig, HasBig, HasTwice, HasBigMessage}
use Rattle.spec_graph.proofs.Growing.{apart_push, Grows, arcs_grow, options_grow, messages_grow, deadlines_grow, rows_push}

-- ---- objectives

-- no rows are rows of any width
rows_none : (k n m : ℕ) (rows : List (List ℕ)) → AreRows k n rows → n ≡ 0 → AreRows m n rows
rows_none k n m rows h e = record { one_each = h.one_each; each = λ i d l. absurd (omega (arith, l, h.one_each, e)) }

pub plan_objective : (s : SpecValue) (name : Name) → IsPlan s → ¬ Contains s.objectives name → length s.resources ≡ 0 → length s.links ≡ 0 → length s.options ≡ 0 → length s.objectives < 8
    → IsPlan (record s { objectives = s.objectives ++ name ∷ [] })
plan_objective s name p new er el eo room =
    let t : SpecValue = record s { objectives = s.objectives ++ name ∷ [] } in
    let k = length s.objectives in
    let m = length (s.objectives ++ name ∷ []) in
    let g : Grows s t = record { tasks = omega arith; resources = omega arith; links = omega arith } in
    record {
      few_tasks = p.few_tasks;
      few_messages = p.few_messages;
      few_resources = p.few_resources;
      few_links = p.few_links;
      few_arcs = p.few_arcs;
      few_options = p.few_options;
      few_objectives = omega (arith, length-append s.objectives (name ∷ []), room);
      named = p.named;
      tasks_distinct = p.tasks_distinct;
      messages_distinct = p.messages_distinct;
      resources_distinct = p.resources_distinct;
      links_distinct = p.links_distinct;
      objectives_distinct = distinct_push s.objectives name p.objectives_distinct new;
      pairs_distinct = p.pairs_distinct;
      arcs_distinct = p.arcs_distinct;
      arcs_in = arcs_grow s t s.arcs g p.arcs_in;
      options_in = options_grow s t s.options g p.options_in;
      messages_in = messages_grow s t s.messages g p.messages_in;
      deadlines_in = deadlines_grow s t s.deadlines g p.deadlines_in;
      option_rows = rows_none k (length s.options) m s.option_weights p.option_rows eo;
      resource_rows = rows_none k (length s.resources) m s.resource_weights p.resource_rows er;
      link_rows = rows_none k (length s.links) m s.link_weights p.link_rows el;
      traffic_rows = rows_none k (length s.links) m s.traffic_weights p.traffic_rows el;
      no_cycle = p.no_cycle;
    }

-- ---- links

abbrev forth : ℕ → ℕ → ℕ → Arc
forth l a b = record { link = l; tail = a; head = b }

-- two arcs of one link that leave one resource
abbrev Clash : Arc → Arc → Type 0
Clash x y = (x.link ≡ y.link) × (x.tail ≡ y.tail)

abbrev NoClash : List Arc → Type 0
NoClash arcs = (i j : ℕ) (d : Arc) → i < j → j < length arcs → Clash (get_or arcs i d) (get_or arcs j d) → ⊥

-- one arc of a new link
one_way : (s : SpecValue) (l a b : ℕ) → IsPlan s → l ≡ length s.links → NoClash (s.arcs ++ forth l a b ∷ [])
one_way s l a b p e = apart_push Clash s.arcs (forth l a b) (λ i j d lt h x. p.arcs_distinct i j d lt h x.0 x.1) (λ i d lt x. absurd (omega (arith, x.0, (p.arcs_in i d lt).link, e)))

-- the arc back leaves the other resource
both_ways : (s : SpecValue) (l a b : ℕ) → IsPlan s → l ≡ length s.links → ¬ (a ≡ b) → NoClash ((s.arcs ++ forth l a b ∷ []) ++ forth l b a ∷ [])
both_ways s l a b p e ne = apart_push Clash (s.arcs ++ forth l a b ∷ []) (forth l b a) (one_way s l a b p e) new
  where
    new : (i : ℕ) (d : Arc) → i < length (s.arcs ++ forth l a b ∷ []) → Clash (get_or (s.arcs ++ forth l a b ∷ []) i d) (forth l b a) → ⊥
    new i d lt x = go (cases_lt i (length s.arcs))
      where
        go : (i < length s.arcs) ⊎ (length s.arcs ≤ i) → ⊥
        go (inl y) =
            let same = get_or_append_left s.arcs (forth l a b ∷ []) d i y in
            let link : (get_or s.arcs i d).link ≡ l = ap (λ (z : Arc). z.link) (sym same) ∙ x.0 in
            absurd (omega (arith, link, (p.arcs_in i d y).link, e))
        go (inr y) =
            let place : i - length s.arcs ≡ 0 = omega (arith, y, lt, length-append s.arcs (forth l a b ∷ [])) in
            let same : get_or (s.arcs ++ forth l a b ∷ []) i d ≡ forth l a b = get_or-append_right s.arcs (forth l a b ∷ []) (length s.arcs) i d refl y
            ∙ ap (λ (k : ℕ). get_or (forth l a b ∷ []) k d) place in
            ne (ap (λ (z : Arc). z.tail) (sym same) ∙ x.1)

-- the arcs of a link, one way or two
arcs_apart : (s : SpecValue) (a b : ℕ) (two_way : Bool) → IsPlan s → ¬ (a ≡ b) → NoClash (s.arcs ++ arcs_of_link (length s.links) a b two_way)
arcs_apart s a b false p ne = one_way s (length s.links) a b p refl
arcs_apart s a b true p ne = subst NoClash (append_two s.arcs (forth (length s.links) a b) (forth (length s.links) b a)) (both_ways s (length s.links) a b p refl ne)
  where
    append_two : (xs : List Arc) (x y : Arc) → (xs ++ x ∷ []) ++ y ∷ [] ≡ xs ++ (x ∷ (y ∷ []))
    append_two [] x y = refl
    append_two (z ∷ zs) x y = ap (λ (ys : List Arc). z ∷ ys) (append_two zs x y)

few_new : (l a b : ℕ) (two_way : Bool) → length (arcs_of_link l a b two_way) ≤ 2
few_new l a b true = omega arith
few_new l a b false = omega arith

new_in : (t : SpecValue) (l a b : ℕ) (two_way : Bool) → l < length t.links → a < length t.resources → b < length t.resources → ¬ (a ≡ b) → All (IsArcIn t) (arcs_of_link l a b two_way)
new_in t l a b true hl ha hb ne = All-cons (IsArcIn t) (forth l a b) (forth l b a ∷ []) (record { link = hl; tail = ha; head = hb; apart = ne })
    (All-cons (IsArcIn t) (forth l b a) [] (record { link = hl; tail = hb; head = ha; apart = λ e. ne (sym e) }) (All-nil (IsArcIn t)))
new_in t l a b false hl ha hb ne = All-cons (IsArcIn t) (forth l a b) [] (record { link = hl; tail = ha; head = hb; apart = ne }) (All-nil (IsArcIn t))

pub plan_link : (s : SpecValue) (name : Name) (a b : ℕ) (two_way : Bool) (weights traffic : List ℕ) → IsPlan s → ¬ Contains s.links name → a < length s.resources → b < length s.resources
    → ¬ (a ≡ b) → length weights ≡ length s.objectives → ¬ HasBig weights → length traffic ≡ length s.objectives → ¬ HasBig traffic → length s.links < 1024
    → IsPlan (with_link s name a b two_way weights traffic)
plan_link s name a b two_way weights traffic p new ha hb ne one small one' small' room =
    let t : SpecValue = with_link s name a b two_way weights traffic in
    let long = length-append s.links (name ∷ []) in
    let arcs = arcs_of_link (length s.links) a b two_way in
    let g : Grows s t = record { tasks = omega arith; resources = omega arith; links = omega (arith, long) } in
    record {
      few_tasks = p.few_tasks;
      few_messages = p.few_messages;
      few_resources = p.few_resources;
      few_links = omega (arith, long, room);
      few_arcs = omega (arith, long, length-append s.arcs arcs, few_new (length s.links) a b two_way, p.few_arcs);
      few_options = p.few_options;
      few_objectives = p.few_objectives;
      named = p.named;
      tasks_distinct = p.tasks_distinct;
      messages_distinct = p.messages_distinct;
      resources_distinct = p.resources_distinct;
      links_distinct = distinct_push s.links name p.links_distinct new;
      objectives_distinct = p.objectives_distinct;
      pairs_distinct = p.pairs_distinct;
      arcs_distinct = λ i j d l h e f. arcs_apart s a b two_way p ne i j d l h (e, f);
      arcs_in = All-append (IsArcIn t) s.arcs arcs (arcs_grow s t s.arcs g p.arcs_in) (new_in t (length s.links) a b two_way (omega (arith, long)) ha hb ne);
      options_in = options_grow s t s.options g p.options_in;
      messages_in = messages_grow s t s.messages g p.messages_in;
      deadlines_in = deadlines_grow s t s.deadlines g p.deadlines_in;
      option_rows = p.option_rows;
      resource_rows = p.resource_rows;
      link_rows = rows_push (length s.objectives) (length s.links) (length (s.links ++ name ∷ [])) s.link_weights weights p.link_rows one small long;
      traffic_rows = rows_push (length s.objectives) (length s.links) (length (s.links ++ name ∷ [])) s.traffic_weights traffic p.traffic_rows one' small' long;
      no_cycle = p.no_cycle;
    }

-- ---- messages

-- no number stands twice
distinct_from : (xs : List ℕ) → ¬ HasTwice xs → AreDistinct xs
distinct_from xs none i j d l h e = none (record {
  first = i;
  second = j;
  before = l;
  within = h;
  same = get_or_default xs i 0 d (omega (arith, l, h)) ∙ (e ∙ get_or_default xs j d 0 h);
})

pub plan_message : (s : SpecValue) (name : Name) (m : Message) → IsPlan s → ¬ Contains s.message_names name → m.sender < length s.tasks → All (λ w. w < length s.tasks) m.receivers
    → 0 < length m.receivers → ¬ HasTwice m.receivers → ¬ HasBigMessage m → ¬ Leads s.messages m.receivers m.sender → length s.messages < 2048 → IsPlan (with_message s name m)
plan_message s name m p new sender receivers some once small free room =
    let t : SpecValue = with_message s name m in
    let long = length-append s.messages (m ∷ []) in
    let g : Grows s t = record { tasks = omega arith; resources = omega arith; links = omega arith } in
    record {
      few_tasks = p.few_tasks;
      few_messages = omega (arith, long, room);
      few_resources = p.few_resources;
      few_links = p.few_links;
      few_arcs = p.few_arcs;
      few_options = p.few_options;
      few_objectives = p.few_objectives;
      named = omega (arith, long, length-append s.message_names (name ∷ []), p.named);
      tasks_distinct = p.tasks_distinct;
      messages_distinct = distinct_push s.message_names name p.messages_distinct new;
      resources_distinct = p.resources_distinct;
      links_distinct = p.links_distinct;
      objectives_distinct = p.objectives_distinct;
      pairs_distinct = p.pairs_distinct;
      arcs_distinct = p.arcs_distinct;
      arcs_in = arcs_grow s t s.arcs g p.arcs_in;
      options_in = options_grow s t s.options g p.options_in;
      messages_in = messages_grow s t (s.messages ++ m ∷ []) g (All-push (IsMessageIn s) s.messages m p.messages_in (record {
        sender = sender;
        receivers = receivers;
        some_receiver = some;
        each_once = distinct_from m.receivers once;
        delay = no_more m.delay (λ b. small (inl b)) (cases_lt (2 ^ 40) m.delay);
        quantity = no_more m.quantity (λ b. small (inr b)) (cases_lt (2 ^ 40) m.quantity);
      }));
      deadlines_in = deadlines_grow s t s.deadlines g p.deadlines_in;
      option_rows = p.option_rows;
      resource_rows = p.resource_rows;
      link_rows = p.link_rows;
      traffic_rows = p.traffic_rows;
      no_cycle = still_none s.messages m p.no_cycle free;
    }
  where
    no_more : (n : ℕ) → ¬ IsBig n → (2 ^ 40 < n) ⊎ (n ≤ 2 ^ 40) → n ≤ 2 ^ 40
    no_more n small' (inl b) = absurd (small' b)
    no_more n small' (inr b) = b

pub order_of_added : (rows next : List (List Bool)) (after : List Bool) (ms new : List Message) (m : Message) → IsOrderOf rows ms → IsLed after ms m.receivers
    → ((a b : ℕ) → comes_after next a b ≡ is_joined rows m.sender after a b) → new ≡ ms ++ m ∷ [] → IsOrderOf next new
order_of_added rows next after ms new m o led joined e = subst (IsOrderOf next) (sym e) (order_more rows next after ms m o led joined)
