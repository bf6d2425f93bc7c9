-- What holds of the blocks so far, and stays so with each line that breaks no rule.
use Rattle.std.proofs.Common.{◌≡◌, ℕ, ◌+◌, ◌<◌, ◌≤◌, ◌^◌, Bool, true, false, inl, inr, List, [], ◌∷◌, ◌++◌, length, map, get_or, drop, Option, Some, None, Result, Ok, Err, refl, sym, ap, subst, ◌∙◌, arith, All, Contains, length-append}
use Rattle.std.specs.Prelude.{sum_by, nat_le, not, ◌||◌, ◌==◌, if◌then◌else◌}
use Rattle.std.specs.List.{list_any, list_all}
use Rattle.std.specs.Str.{bytes_eq}
use Rattle.std.proofs.lemmas.Bool.{cases_Bool, false≢true, leb-false, leb-true, ltb-false, eqb-false, eq-eqb, or_parts, not-false, and_parts, and_from}
use Rattle.std.proofs.lemmas.List.{append-nil, map_push, get_or-map, length-map}
use Rattle.std.proofs.lemmas.List.Elements.{All-nil, All-push, All-pop, All-weaker}
use Rattle.std.proofs.lemmas.List.Folds.{list_any_at}
use Rattle.std.proofs.lemmas.List.Sums.{sum_by_push}
use Rattle.std.proofs.lemmas.Slice.Eq.{bytes_eq-Decides}
use Rattle.std.proofs.lemmas.Bool.{cases_lt}
use Rattle.line_words.specs.Rules.{Words, Test, first_broken}
use Rattle.line_words.specs.Text.{is_word_byte}
use Rattle.spec_model.specs.WellFormed.{HasCycle, AreDistinct}
use Rattle.line_words.specs.declared.numbers.NumberFault.{NumberFault}
use Rattle.line_words.specs.declared.numbers.NumberFault.TheVariants.{BadNumber, TooBig}
use Rattle.line_words.specs.declared.refusals.Why.TheVariants.{BadStatement, BadNumber, UnknownName, RepeatedName, Unclosed, StrayClose, TooBig, Cyclic, Limit}
use Rattle.line_words.specs.declared.refusals.What.TheVariants.{NameBytes, Tasks, Messages}
use Rattle.line_words.specs.Limits.{most_name_bytes}
use Rattle.spec_model.specs.Limits.{most_tasks, most_messages}
use Rattle.spec_model.proofs.Distinct.{distinct_push}
use Rattle.file_bricks.specs.Numbers.{is_bad, is_big, read_or}
use Rattle.file_bricks.specs.Words.{word_at}
use Rattle.tgff_reader.specs.Words.{first, is_at}
use Rattle.tgff_reader.specs.Lines.{is_opening, block_name, block_index, is_graph_name, is_closing, keyword_of, is_task_shape, is_arc_shape}
use Rattle.tgff_reader.specs.Reaching.{messages_of}
use Rattle.tgff_reader.specs.Looking.{is_graph, is_table}
use Rattle.tgff_reader.specs.Faults as faults
use Rattle.tgff_reader.specs.After as states
use Rattle.file_bricks.specs.Words.{IsWord}
use Rattle.tgff_reader.specs.Facts.{TgffValue, IsName, IsTask, IsArc, IsDeadline, IsGraph, IsRow, IsTable, IsTgff, task_name, arc_name, graph_index, table_key, task_count, arc_count}
use Rattle.tgff_reader.specs.declared.keyword.Keyword.{Keyword}
use Rattle.tgff_reader.specs.declared.keyword.Keyword.TheVariants.{Period, Task, Arc, HardDeadline, SoftDeadline}
use Rattle.tgff_reader.specs.declared.file.Graph.{Graph}
use Rattle.tgff_reader.specs.declared.file.Table.{Table}
use Rattle.tgff_reader.specs.declared.file.Row.{Row}
use Rattle.tgff_reader.specs.declared.file.TgffTask.{TgffTask}
use Rattle.tgff_reader.specs.declared.state.Blocks.{Blocks}
use Rattle.tgff_reader.specs.declared.state.Open.{Open}
use Rattle.tgff_reader.specs.declared.state.Open.TheVariants.{Outside, InGraph, InTable}
use Rattle.tgff_reader.specs.declared.state.State.{State}
use Rattle.file_bricks.proofs.Deciding.{fine_for, chosen, other}
use Rattle.file_bricks.proofs.Bounded.{decimal_small}
use Rattle.tgff_reader.proofs.Reached.{no_cycle_more}
use Rattle.file_bricks.proofs.Numbered.{whole_small}
use Rattle.tgff_reader.proofs.Numbered.{index_small}

-- ---- keys that are apart

-- a key that no element passes for is new
not_among : {X K : Type 0} (key : X → K) (p : X → Bool) (xs : List X) (x : X) → ((y : X) → key y ≡ key x → p y ≡ true) → list_any p xs ≡ false → ¬ Contains (map key xs) (key x)
not_among key p xs x sound none c =
    let li : c.0 < length xs = omega (arith, c.1, length-map xs key) in
    let same : key (get_or xs c.0 x) ≡ key x = sym (get_or-map key xs c.0 x (key x) li) ∙ c.2 in
    false≢true (sym none ∙ list_any_at p xs c.0 x li (sound (get_or xs c.0 x) same))

distinct_more : {X K : Type 0} (key : X → K) (p : X → Bool) (xs : List X) (x : X) → AreDistinct (map key xs) → ((y : X) → key y ≡ key x → p y ≡ true) → list_any p xs ≡ false
    → AreDistinct (map key (xs ++ x ∷ []))
distinct_more {K = K} key p xs x old sound none =
    subst (λ (ks : List K). AreDistinct ks) (sym (map_push key xs x)) (distinct_push (map key xs) (key x) old (not_among key p xs x sound none))

same_bytes : (a b : List ℕ) → a ≡ b → bytes_eq a b ≡ true
same_bytes a b e = (bytes_eq-Decides a b).1 e

-- ---- the graphs and tables, those of an open block too

abbrev graphs_in : Open → List Graph
graphs_in Outside = []
graphs_in (InGraph graph) = graph ∷ []
graphs_in (InTable table) = []

abbrev tables_in : Open → List Table
tables_in Outside = []
tables_in (InGraph graph) = []
tables_in (InTable table) = table ∷ []

abbrev file_of : State → TgffValue
file_of s = record { graphs = s.blocks.graphs ++ graphs_in s.current; tables = s.blocks.tables ++ tables_in s.current }

pub record IsState (s : State) : Type 0 where
  pub file : IsTgff (file_of s)
  pub tasks_are : s.blocks.tasks ≡ sum_by task_count (s.blocks.graphs ++ graphs_in s.current)
  pub arcs_are : s.blocks.arcs ≡ sum_by arc_count (s.blocks.graphs ++ graphs_in s.current)

abbrev made : List Graph → List Table → TgffValue
made gs ts = record { graphs = gs; tables = ts }

abbrev standing : Open → Blocks → State
standing current blocks = record { current = current; blocks = blocks }

-- where no block is open, what holds of all blocks holds of those that are closed
pub closed_file : (s : State) → IsState s → faults.is_open s.current ≡ false → IsTgff (made s.blocks.graphs s.blocks.tables)
closed_file s h e = go s.current s.blocks h.file e
  where
    go : (c : Open) (b : Blocks) → IsTgff (file_of (standing c b)) → faults.is_open c ≡ false → IsTgff (made b.graphs b.tables)
    go Outside b h e = subst (λ (gs : List Graph). IsTgff (made gs b.tables)) (append-nil b.graphs) (subst (λ (ts : List Table). IsTgff (made (b.graphs ++ []) ts)) (append-nil b.tables) h)
    go (InGraph g) b h e = absurd (false≢true (sym e))
    go (InTable t) b h e = absurd (false≢true (sym e))

-- ---- the start

no_graph_cycle : ¬ HasCycle (messages_of [])
no_graph_cycle x = absurd (omega (arith, x.chain.1.there.1))

no_file : IsTgff (made [] [])
no_file = record {
  graphs_in = All-nil IsGraph;
  graphs_distinct = λ i j d l h e. absurd (omega (arith, h));
  tables_in = All-nil IsTable;
  tables_distinct = λ i j d l h e. absurd (omega (arith, h));
  few_tasks = omega arith;
  few_arcs = omega arith;
}

pub start_stands : IsState states.start
start_stands = record { file = no_file; tasks_are = refl; arcs_are = refl }

-- ---- a block is opened

graph_is_new : (i : ℕ) → i < 2 ^ 63 → IsGraph (states.new_graph i)
graph_is_new i l = record {
  index = l;
  period = tt;
  tasks_in = All-nil IsTask;
  tasks_distinct = λ i j d l h e. absurd (omega (arith, h));
  arcs_in = All-nil (IsArc 0);
  arcs_distinct = λ i j d l h e. absurd (omega (arith, h));
  no_cycle = no_graph_cycle;
  deadlines_in = All-nil (IsDeadline 0);
}

opens_graph : (gs : List Graph) (ts : List Table) (i : ℕ) → IsTgff (made gs ts) → i < 2 ^ 63 → list_any (is_graph i) gs ≡ false → IsTgff (made (gs ++ states.new_graph i ∷ []) ts)
opens_graph gs ts i f l none = record {
  graphs_in = All-push IsGraph gs (states.new_graph i) f.graphs_in (graph_is_new i l);
  graphs_distinct = distinct_more graph_index (is_graph i) gs (states.new_graph i) f.graphs_distinct (λ y e. eq-eqb y.index i e) none;
  tables_in = f.tables_in;
  tables_distinct = f.tables_distinct;
  few_tasks = omega (arith, sum_by_push task_count gs (states.new_graph i), f.few_tasks);
  few_arcs = omega (arith, sum_by_push arc_count gs (states.new_graph i), f.few_arcs);
}

both_same : (name : List ℕ) (i : ℕ) (t : Table) → table_key t ≡ (name, i) → is_table name i t ≡ true
both_same name i t e =
    let n : bytes_eq t.name name ≡ true = same_bytes t.name name (ap (λ (k : List ℕ × ℕ). k.0) e) in
    let x : (t.index == i) ≡ true = eq-eqb t.index i (ap (λ (k : List ℕ × ℕ). k.1) e) in
    and_from (bytes_eq t.name name) (t.index == i) n x

opens_table : (gs : List Graph) (ts : List Table) (name : List ℕ) (i : ℕ) → IsTgff (made gs ts) → IsWord name → i < 2 ^ 63 → list_any (is_table name i) ts ≡ false
    → IsTgff (made gs (ts ++ states.new_table name i ∷ []))
opens_table gs ts name i f w l none = record {
  graphs_in = f.graphs_in;
  graphs_distinct = f.graphs_distinct;
  tables_in = All-push IsTable ts (states.new_table name i) f.tables_in (record { named = w; index = l; rows = All-nil IsRow });
  tables_distinct = distinct_more table_key (is_table name i) ts (states.new_table name i) f.tables_distinct (λ y e. both_same name i y e) none;
  few_tasks = f.few_tasks;
  few_arcs = f.few_arcs;
}

-- the name of a block is a word
plain_rest : (w : List ℕ) → list_all is_word_byte w ≡ true → list_all is_word_byte (drop 1 w) ≡ true
plain_rest [] h = h
plain_rest (b ∷ bs) h = (and_parts (is_word_byte b) (list_all is_word_byte bs) h).1

word_rest : (w : List ℕ) → IsWord w → (length (drop 1 w) == 0) ≡ false → IsWord (drop 1 w)
word_rest w h e = record { some = more (length (drop 1 w)) (eqb-false (length (drop 1 w)) 0 e); plain = plain_rest w h.plain }
  where
    more : (n : ℕ) → ¬ (n ≡ 0) → 0 < n
    more n ne = elim (cases_lt 0 n) [ inl l ↦ l | inr z ↦ absurd (ne (omega (arith, z))) ]

-- an index that is a number
number_new : (b : Blocks) (name : List ℕ) (r : Result ℕ NumberFault) → is_bad r ≡ false → is_big r ≡ false → faults.is_repeated b name r ≡ false → faults.has_block b name (read_or 0 r) ≡ false
number_new b name (Ok n) bad big h = h
number_new b name (Err BadNumber) bad big h = absurd (false≢true (sym bad))
number_new b name (Err TooBig) bad big h = absurd (false≢true (sym big))

opens : (b : Blocks) (name : List ℕ) (i : ℕ) → IsState (standing Outside b) → IsWord name → i < 2 ^ 63 → faults.has_block b name i ≡ false → IsState (standing (states.opened name i) b)
opens b name i s w l new = elim (cases_Bool (is_graph_name name)) [
  | inl t ↦
      let none : list_any (is_graph i) b.graphs ≡ false = sym (chosen (is_graph_name name) (list_any (is_graph i) b.graphs) (list_any (is_table name i) b.tables) t) ∙ new in
      let file : IsTgff (made b.graphs (b.tables ++ [])) = subst (λ (gs : List Graph). IsTgff (made gs (b.tables ++ []))) (append-nil b.graphs) s.file in
      let next : IsState (standing (InGraph (states.new_graph i)) b) = record {
        file = opens_graph b.graphs (b.tables ++ []) i file l none;
        tasks_are = omega (arith, s.tasks_are, ap (sum_by task_count) (append-nil b.graphs), sum_by_push task_count b.graphs (states.new_graph i));
        arcs_are = omega (arith, s.arcs_are, ap (sum_by arc_count) (append-nil b.graphs), sum_by_push arc_count b.graphs (states.new_graph i));
      } in
      subst (λ (c : Open). IsState (standing c b)) (sym (chosen (is_graph_name name) (InGraph (states.new_graph i)) (InTable (states.new_table name i)) t)) next
  | inr t ↦
      let none : list_any (is_table name i) b.tables ≡ false = sym (other (is_graph_name name) (list_any (is_graph i) b.graphs) (list_any (is_table name i) b.tables) t) ∙ new in
      let file : IsTgff (made (b.graphs ++ []) b.tables) = subst (λ (ts : List Table). IsTgff (made (b.graphs ++ []) ts)) (append-nil b.tables) s.file in
      let next : IsState (standing (InTable (states.new_table name i)) b) = record {
        file = opens_table (b.graphs ++ []) b.tables name i file w l none;
        tasks_are = s.tasks_are;
        arcs_are = s.arcs_are;
      } in
      subst (λ (c : Open). IsState (standing c b)) (sym (other (is_graph_name name) (InGraph (states.new_graph i)) (InTable (states.new_table name i)) t)) next
]

outside_more : (b : Blocks) (ws : Words) → IsState (standing Outside b) → All IsWord ws → 0 < length ws → first_broken (faults.outside_tests b ws) ≡ None → IsState (standing (states.open_after ws) b)
outside_more b ws s h some e =
    let name = block_name ws in
    let index = block_index ws in
    let now : Open = states.opened name (read_or 0 index) in
    elim (cases_Bool (is_opening ws)) [
      | inr f ↦ subst (λ (c : Open). IsState (standing c b)) (sym (other (is_opening ws) now Outside f)) s
      | inl t ↦
          let tried : first_broken (faults.opening_tests b name index) ≡ None
          = ap first_broken (sym (chosen (is_opening ws) (faults.opening_tests b name index) ((StrayClose, is_closing ws) ∷ []) t)) ∙ e in
          let tests = faults.opening_tests b name index in
          let word : IsWord name = word_rest (first ws) (h 0 [] some) (fine_for BadStatement tests tried) in
          let next : IsState (standing now b) = opens b name (read_or 0 index) s word (index_small ws)
          (number_new b name index (fine_for BadNumber tests tried) (fine_for TooBig tests tried) (fine_for RepeatedName tests tried)) in
          subst (λ (c : Open). IsState (standing c b)) (sym (chosen (is_opening ws) now Outside t)) next
    ]

-- ---- a block is closed

closes_graph : (b : Blocks) (g : Graph) → IsState (standing (InGraph g) b) → IsState (standing Outside (states.with_graph b g))
closes_graph b g s = record {
  file = subst (λ (gs : List Graph). IsTgff (made gs (b.tables ++ []))) (sym (append-nil (b.graphs ++ g ∷ []))) s.file;
  tasks_are = s.tasks_are ∙ ap (sum_by task_count) (sym (append-nil (b.graphs ++ g ∷ [])));
  arcs_are = s.arcs_are ∙ ap (sum_by arc_count) (sym (append-nil (b.graphs ++ g ∷ [])));
}

closes_table : (b : Blocks) (t : Table) → IsState (standing (InTable t) b) → IsState (standing Outside (states.with_table b t))
closes_table b t s = record {
  file = subst (λ (ts : List Table). IsTgff (made (b.graphs ++ []) ts)) (sym (append-nil (b.tables ++ t ∷ []))) s.file;
  tasks_are = s.tasks_are;
  arcs_are = s.arcs_are;
}

-- ---- a line of a task graph

-- the open graph changes, and there are as many tasks and arcs more as in it
graph_line : (b n : Blocks) (g h : Graph) → IsState (standing (InGraph g) b) → n.graphs ≡ b.graphs → n.tables ≡ b.tables → IsGraph h → h.index ≡ g.index
    → n.tasks + length g.tasks ≡ b.tasks + length h.tasks → n.arcs + length g.arcs ≡ b.arcs + length h.arcs → n.tasks ≤ most_tasks → n.arcs ≤ most_messages → IsState (standing (InGraph h) n)
graph_line b n g h s eg et k same et2 ea2 few_t few_a =
    let tasks : n.tasks ≡ sum_by task_count (b.graphs ++ h ∷ []) = omega (arith, s.tasks_are, sum_by_push task_count b.graphs g, sum_by_push task_count b.graphs h, et2) in
    let arcs : n.arcs ≡ sum_by arc_count (b.graphs ++ h ∷ []) = omega (arith, s.arcs_are, sum_by_push arc_count b.graphs g, sum_by_push arc_count b.graphs h, ea2) in
    let indices : map graph_index (b.graphs ++ g ∷ []) ≡ map graph_index (b.graphs ++ h ∷ [])
    = map_push graph_index b.graphs g ∙ ap (λ (i : ℕ). map graph_index b.graphs ++ i ∷ []) (sym same) ∙ sym (map_push graph_index b.graphs h) in
    let file : IsTgff (made (b.graphs ++ h ∷ []) (b.tables ++ [])) = record {
      graphs_in = All-push IsGraph b.graphs h (All-pop IsGraph (b.graphs ++ g ∷ []) b.graphs (Some g) refl s.file.graphs_in).0 k;
      graphs_distinct = subst (λ (is : List ℕ). AreDistinct is) indices s.file.graphs_distinct;
      tables_in = s.file.tables_in;
      tables_distinct = s.file.tables_distinct;
      few_tasks = omega (arith, tasks, few_t);
      few_arcs = omega (arith, arcs, few_a);
    } in
    record {
      file = subst (λ (gs : List Graph). IsTgff (made (gs ++ h ∷ []) (n.tables ++ []))) (sym eg) (subst (λ (ts : List Table). IsTgff (made (b.graphs ++ h ∷ []) (ts ++ []))) (sym et) file);
      tasks_are = tasks ∙ ap (λ (gs : List Graph). sum_by task_count (gs ++ h ∷ [])) (sym eg);
      arcs_are = arcs ∙ ap (λ (gs : List Graph). sum_by arc_count (gs ++ h ∷ [])) (sym eg);
    }

-- what is known of the open graph
open_graph : (b : Blocks) (g : Graph) → IsState (standing (InGraph g) b) → IsGraph g
open_graph b g s = (All-pop IsGraph (b.graphs ++ g ∷ []) b.graphs (Some g) refl s.file.graphs_in).1

few_tasks : (c : Open) (b : Blocks) → IsState (standing c b) → b.tasks ≤ most_tasks
few_tasks c b s = omega (arith, s.tasks_are, s.file.few_tasks)

few_arcs : (c : Open) (b : Blocks) → IsState (standing c b) → b.arcs ≤ most_messages
few_arcs c b s = omega (arith, s.arcs_are, s.file.few_arcs)

-- a change that keeps the tasks and the arcs
same_counts : (b : Blocks) (g h : Graph) → IsState (standing (InGraph g) b) → IsGraph h → h.index ≡ g.index → length h.tasks ≡ length g.tasks → length h.arcs ≡ length g.arcs
    → IsState (standing (InGraph h) b)
same_counts b g h s k same et ea = graph_line b b g h s refl refl k same (omega (arith, et)) (omega (arith, ea)) (few_tasks (InGraph g) b s) (few_arcs (InGraph g) b s)

name_at : (ws : Words) (i : ℕ) → All IsWord ws → i < length ws → faults.is_long (word_at ws i) ≡ false → IsName (word_at ws i)
name_at ws i h l short = record { word = h i [] l; short = ltb-false most_name_bytes (length (word_at ws i)) short }

known_place : (tasks : List TgffTask) (name : List ℕ) → faults.is_unknown tasks name ≡ false → faults.place_of tasks name < length tasks
known_place tasks name e = leb-false (length tasks) (faults.place_of tasks name) e

period_more : (g : Graph) (ws : Words) → IsGraph g → IsGraph (states.with_period g ws)
period_more g ws f =
    record {
      index = f.index;
      period = decimal_small (word_at ws 1);
      tasks_in = f.tasks_in;
      tasks_distinct = f.tasks_distinct;
      arcs_in = f.arcs_in;
      arcs_distinct = f.arcs_distinct;
      no_cycle =
          f.no_cycle;
      deadlines_in = f.deadlines_in;
    }

task_more : (b : Blocks) (g : Graph) (ws : Words) → IsGraph g → All IsWord ws → first_broken (faults.task_tests b g ws) ≡ None → IsGraph (states.with_task g ws)
task_more b g ws f h e =
    let t = states.task_of ws in
    let tests = faults.task_tests b g ws in
    let formed : not (is_task_shape ws) ≡ false = fine_for BadStatement tests e in
    let new : list_any (faults.is_task (word_at ws 1)) g.tasks ≡ false = fine_for RepeatedName tests e in
    let short : faults.is_long (word_at ws 1) ≡ false = fine_for (Limit NameBytes) tests e in
    let shape = and_parts (nat_le 4 (length ws)) _ (not-false (is_task_shape ws) formed) in
    let long : 4 ≤ length ws = leb-true 4 (length ws) shape.0 in
    let more = length-append g.tasks (t ∷ []) in
    record {
      index = f.index;
      period = f.period;
      tasks_in = All-push IsTask g.tasks t f.tasks_in (record { named = name_at ws 1 h (omega (arith, long)) short; kind = whole_small (word_at ws 3) });
      tasks_distinct = distinct_more task_name (faults.is_task (word_at ws 1)) g.tasks t f.tasks_distinct (λ y e. same_bytes y.name (word_at ws 1) e) new;
      arcs_in =
          All-weaker (IsArc (length g.tasks)) (IsArc (length (g.tasks ++ t ∷ []))) (λ arc k. record {
            named = k.named;
            from = omega (arith, k.from, more);
            to = omega (arith, k.to, more);
            kind =
                k.kind;
          }) g.arcs f.arcs_in;
      arcs_distinct = f.arcs_distinct;
      no_cycle = f.no_cycle;
      deadlines_in = All-weaker (IsDeadline (length g.tasks)) (IsDeadline (length (g.tasks ++ t ∷ []))) (λ d k. record { task = omega (arith, k.task, more); at = k.at }) g.deadlines f.deadlines_in;
    }

arc_more : (b : Blocks) (g : Graph) (ws : Words) → IsGraph g → All IsWord ws → first_broken (faults.arc_tests b g ws) ≡ None → IsGraph (states.with_arc g ws)
arc_more b g ws f h e =
    let arc = states.arc_of g.tasks ws in
    let tests = faults.arc_tests b g ws in
    let formed : not (is_arc_shape ws) ≡ false = fine_for BadStatement tests e in
    let known : (faults.is_unknown g.tasks (word_at ws 3) || faults.is_unknown g.tasks (word_at ws 5)) ≡ false = fine_for UnknownName tests e in
    let ends = or_parts (faults.is_unknown g.tasks (word_at ws 3)) (faults.is_unknown g.tasks (word_at ws 5)) known in
    let new : list_any (faults.is_arc (word_at ws 1)) g.arcs ≡ false = fine_for RepeatedName tests e in
    let open_end : faults.closes_cycle g ws ≡ false = fine_for Cyclic tests e in
    let short : faults.is_long (word_at ws 1) ≡ false = fine_for (Limit NameBytes) tests e in
    let shape = and_parts (nat_le 8 (length ws)) _ (not-false (is_arc_shape ws) formed) in
    let long : 8 ≤ length ws = leb-true 8 (length ws) shape.0 in
    record {
      index = f.index;
      period = f.period;
      tasks_in = f.tasks_in;
      tasks_distinct = f.tasks_distinct;
      arcs_in = All-push (IsArc (length g.tasks)) g.arcs arc f.arcs_in (record {
        named = name_at ws 1 h (omega (arith, long)) short;
        from = known_place g.tasks (word_at ws 3) ends.0;
        to = known_place g.tasks (word_at ws 5) ends.1;
        kind = whole_small (word_at ws 7);
      });
      arcs_distinct = distinct_more arc_name (faults.is_arc (word_at ws 1)) g.arcs arc f.arcs_distinct (λ y e. same_bytes y.name (word_at ws 1) e) new;
      no_cycle = no_cycle_more g.arcs arc f.no_cycle open_end;
      deadlines_in = f.deadlines_in;
    }

deadline_more : (g : Graph) (hard : Bool) (ws : Words) → IsGraph g → first_broken (faults.deadline_tests g ws) ≡ None → IsGraph (states.with_deadline g hard ws)
deadline_more g hard ws f e = record {
  index = f.index;
  period = f.period;
  tasks_in = f.tasks_in;
  tasks_distinct = f.tasks_distinct;
  arcs_in = f.arcs_in;
  arcs_distinct = f.arcs_distinct;
  no_cycle = f.no_cycle;
  deadlines_in = All-push (IsDeadline (length g.tasks)) g.deadlines (states.deadline_of g.tasks hard ws) f.deadlines_in
      (record { task = known_place g.tasks (word_at ws 3) (fine_for UnknownName (faults.deadline_tests g ws) e); at = decimal_small (word_at ws 5) });
}

known_more : (b : Blocks) (g : Graph) (ws : Words) (keyword : Option Keyword) → IsState (standing (InGraph g) b) → All IsWord ws → first_broken (faults.known_tests b g ws keyword) ≡ None
    → IsState (standing (InGraph (states.graph_after g ws keyword)) (states.blocks_after b keyword))
known_more b g ws None s h e = s
known_more b g ws (Some Period) s h e = same_counts b g (states.with_period g ws) s (period_more g ws (open_graph b g s)) refl refl refl
known_more b g ws (Some Task) s h e =
    let few : nat_le most_tasks b.tasks ≡ false = fine_for (Limit Tasks) (faults.task_tests b g ws) e in
    graph_line b (states.blocks_after b (Some Task)) g (states.with_task g ws) s refl refl (task_more b g ws (open_graph b g s) h e) refl
    (omega (arith, length-append g.tasks (states.task_of ws ∷ []))) refl (omega (arith, leb-false most_tasks b.tasks few)) (few_arcs (InGraph g) b s)
known_more b g ws (Some Arc) s h e =
    let few : nat_le most_messages b.arcs ≡ false = fine_for (Limit Messages) (faults.arc_tests b g ws) e in
    graph_line b (states.blocks_after b (Some Arc)) g (states.with_arc g ws) s refl refl (arc_more b g ws (open_graph b g s) h e) refl
    refl (omega (arith, length-append g.arcs (states.arc_of g.tasks ws ∷ []))) (few_tasks (InGraph g) b s) (omega (arith, leb-false most_messages b.arcs few))
known_more b g ws (Some HardDeadline) s h e = same_counts b g (states.with_deadline g true ws) s (deadline_more g true ws (open_graph b g s) e) refl refl refl
known_more b g ws (Some SoftDeadline) s h e = same_counts b g (states.with_deadline g false ws) s (deadline_more g false ws (open_graph b g s) e) refl refl refl

-- a line that doesn't close a block and isn't one that opens another
inner_fine : (ws : Words) (own : List Test) → is_closing ws ≡ false → first_broken (faults.inner_tests ws own) ≡ None → first_broken own ≡ None
inner_fine ws own f e =
    let inner : List Test = if is_at (first ws) then (Unclosed, true) ∷ [] else own in
    let past : first_broken inner ≡ None = ap first_broken (sym (other (is_closing ws) [] inner f)) ∙ e in
    elim (cases_Bool (is_at (first ws))) [
      | inl t ↦ absurd (false≢true (sym (fine_for Unclosed ((Unclosed, true) ∷ []) (ap first_broken (sym (chosen (is_at (first ws)) ((Unclosed, true) ∷ []) own t)) ∙ past))))
      | inr g ↦ ap first_broken (sym (other (is_at (first ws)) ((Unclosed, true) ∷ []) own g)) ∙ past
    ]

in_graph_more : (b : Blocks) (g : Graph) (ws : Words) → IsState (standing (InGraph g) b) → All IsWord ws
    → first_broken (faults.inner_tests ws (faults.known_tests b g ws (keyword_of (first ws)))) ≡ None → IsState (states.in_graph b g ws)
in_graph_more b g ws s h e =
    let closed = standing Outside (states.with_graph b g) in
    let longer = standing (InGraph (states.graph_after g ws (keyword_of (first ws)))) (states.blocks_after b (keyword_of (first ws))) in
    elim (cases_Bool (is_closing ws)) [
      | inl t ↦ subst IsState (sym (chosen (is_closing ws) closed longer t)) (closes_graph b g s)
      | inr f ↦ subst IsState (sym (other (is_closing ws) closed longer f))
          (known_more b g ws (keyword_of (first ws)) s h (inner_fine ws (faults.known_tests b g ws (keyword_of (first ws))) f e))
    ]

-- ---- a line of a table

row_more : (b : Blocks) (t : Table) (ws : Words) → IsState (standing (InTable t) b) → All IsWord ws → 0 < length ws → IsState (standing (InTable (states.with_row t ws)) b)
row_more b t ws s h some =
    let u = states.with_row t ws in
    let split = All-pop IsTable (b.tables ++ t ∷ []) b.tables (Some t) refl s.file.tables_in in
    let row : Row = record { words = ws } in
    let keys : map table_key (b.tables ++ t ∷ []) ≡ map table_key (b.tables ++ u ∷ []) = map_push table_key b.tables t ∙ sym (map_push table_key b.tables u) in
    record {
      file = record {
        graphs_in = s.file.graphs_in;
        graphs_distinct = s.file.graphs_distinct;
        tables_in = All-push IsTable b.tables u split.0 (record { named = split.1.named; index = split.1.index; rows = All-push IsRow t.rows row split.1.rows (record { some = some; words = h }) });
        tables_distinct = subst (λ (ks : List (List ℕ × ℕ)). AreDistinct ks) keys s.file.tables_distinct;
        few_tasks = s.file.few_tasks;
        few_arcs = s.file.few_arcs;
      };
      tasks_are = s.tasks_are;
      arcs_are = s.arcs_are;
    }

in_table_more : (b : Blocks) (t : Table) (ws : Words) → IsState (standing (InTable t) b) → All IsWord ws → 0 < length ws → IsState (states.in_table b t ws)
in_table_more b t ws s h some =
    let closed = standing Outside (states.with_table b t) in
    let longer = standing (InTable (states.with_row t ws)) b in
    elim (cases_Bool (is_closing ws)) [
      | inl y ↦ subst IsState (sym (chosen (is_closing ws) closed longer y)) (closes_table b t s)
      | inr f ↦ subst IsState (sym (other (is_closing ws) closed longer f)) (row_more b t ws s h some)
    ]

-- ---- all lines

stands_in : (c : Open) (b : Blocks) (ws : Words) → IsState (standing c b) → All IsWord ws → 0 < length ws → first_broken (faults.tests_in c b ws) ≡ None → IsState (states.after_in c b ws)
stands_in Outside b ws s h some e = outside_more b ws s h some e
stands_in (InGraph g) b ws s h some e = in_graph_more b g ws s h e
stands_in (InTable t) b ws s h some e = in_table_more b t ws s h some

-- one line more that breaks no rule
pub stands_more : (s : State) (ws : Words) → IsState s → All IsWord ws → 0 < length ws → first_broken (faults.tests s ws) ≡ None → IsState (states.after s ws)
stands_more s ws h words some e = stands_in s.current s.blocks ws h words some e
