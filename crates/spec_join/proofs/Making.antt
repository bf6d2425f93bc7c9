-- What a table makes: the weights of its rows, and the options of the first tasks of the graphs.
use Rattle.std.proofs.Common.{◌≡◌, ℕ, ℤ, pos, zero, suc, ◌+◌, ◌≤◌, ◌<◌, ◌^◌, Bool, true, false, cond, List, [], ◌∷◌, ◌++◌, length, get_or, set, take, fold, Option, None, Some, Result, Ok, Err, refl, sym, ap, subst, ◌∙◌, arith, add-one, append_assoc, length-append, All, Any, ◌⊎◌, inl, inr, codes}
use Rattle.std.specs.Prelude.{is_some}
use Rattle.std.specs.Option.{option_and_then}
use Rattle.std.proofs.lemmas.Bool.{cases_lt, false≢true}
use Rattle.std.proofs.lemmas.List.{get_or_default}
use Rattle.std.proofs.lemmas.List.Elements.{All-nil, All-cons, All-append, All-weaker}
use Rattle.std.proofs.lemmas.List.Sums.{fold_more}
use Rattle.names.specs.Names.{number_by_name}
use Rattle.spec_model.specs.Spec.{Name, SpecValue, Choice, choice}
use Rattle.spec_graph.specs.Refusals.{IsOfPair, IsMapped, HasBig, HasBigOption, IsOptionRefused}
use Rattle.spec_graph.specs.declared.faults.BuildFault.{BuildFault}
use Rattle.spec_graph.specs.declared.faults.BuildFault.TheVariants as builds
use Rattle.line_words.specs.Decimal.{decimal_of}
use Rattle.line_words.specs.declared.numbers.NumberFault.{NumberFault}
use Rattle.line_words.specs.declared.refusals.Why.{Why}
use Rattle.line_words.specs.declared.refusals.Why.TheVariants.{RepeatedName, TooBig, NoRow, Limit}
use Rattle.line_words.specs.declared.refusals.What.TheVariants.{Options}
use Rattle.file_bricks.specs.Numbers.{read_or}
use Rattle.arch_reader.specs.Numbers.{at_scale}
use Rattle.arch_reader.specs.Words.{is_table_key}
use Rattle.arch_reader.specs.declared.statement.KeyColumn.{KeyColumn}
use Rattle.tgff_reader.specs.Looking.{table_at}
use Rattle.tgff_reader.specs.declared.file.Table.{Table}
use Rattle.tgff_reader.specs.declared.file.Row.{Row}
use Rattle.table_cells.specs.Least.{IsLeast}
use Rattle.table_cells.specs.Cells.{cell_of, amount_in, ReadingBreaks, CellBreaks, refusal_for}
use Rattle.table_cells.specs.Rows.{table_called, first_cell_of, IsFoundTable}
use Rattle.table_cells.specs.declared.cells.Taking.{Taking}
use Rattle.spec_join.specs.Joining.{Joining, weight_of, no_weights}
use Rattle.spec_join.specs.Effects.{with_plan}
use Rattle.spec_join.specs.Fits.{IsWeighable, IsKnownKey, IsKnownPlace}
use Rattle.spec_join.specs.Tables.{column_of, time_taking, weight_taking, weighed_from, if_counts, does_count, task_row, chosen_row, weights_from, time_in_column, time_from, choice_from, one_of, made_choices, made_weights, with_made, with_places, with_table, OfRow, TimeColumnBreaks, KeyBreaks, ValuesBreak, RowBreaks, HasBelow, TaskBreaks, IsTakenTwice, PlaceBreaks, OptionsBreak, LineBreaks, TableBreaks}

-- ---- cells that aren't refused

not_less : (a b : ℕ) → (a < b → ⊥) → b ≤ a
not_less a b h = go (cases_lt a b)
  where
    go : (a < b) ⊎ (b ≤ a) → b ≤ a
    go (inl x) = absurd (h x)
    go (inr x) = x

reading_small : (taking : Taking) (r : Result ℤ NumberFault) → ((why : Why) → ReadingBreaks taking r why → ⊥) → at_scale taking.scale (read_or (pos 0) r) ≤ 2 ^ 40
reading_small taking (Ok amount) h = not_less (2 ^ 40) (at_scale taking.scale amount) (h TooBig)
reading_small taking (Err fault) h = absurd (h (refusal_for fault) refl)

-- a cell that isn't refused has a number of at most 2^40 at its scale
pub cell_small : (taking : Taking) (cell : Option (List ℕ)) → ((why : Why) → CellBreaks taking cell why → ⊥) → at_scale taking.scale (amount_in cell) ≤ 2 ^ 40
cell_small taking None h = absurd (h NoRow refl)
cell_small taking (Some word) h = reading_small taking (decimal_of word) h

column_small : (s : Joining) (column : Option ℕ) (row : Row) → ((why : Why) → TimeColumnBreaks s column row why → ⊥) → time_in_column s column row ≤ 2 ^ 40
column_small s None row h = omega arith
column_small s (Some column) row h = cell_small (time_taking s) (cell_of row column) h

pub time_small : (s : Joining) (keys : List KeyColumn) (row : Row) → ((why : Why) → ValuesBreak s keys row why → ⊥) → time_from s keys row ≤ 2 ^ 40
time_small s keys row h = column_small s (column_of keys (codes "time")) row (λ why x. h why (inl x))

-- what holds of no element fails at each
none_at : {X : Type 0} (P : X → Type 0) (xs : List X) (i : ℕ) (x : X) → i < length xs → x ≡ get_or xs i x → (Any P xs → ⊥) → P x → ⊥
none_at P xs i x l e h p = h (i, x, l, sym e, p)

-- the amount in the cell of a key that names an objective fits
pub key_fits : (s : Joining) (row : Row) (keys : List KeyColumn) (i : ℕ) (k : KeyColumn) (name : Name) (amount : ℤ) → i < length keys → k ≡ get_or keys i k → name ≡ k.key
    → is_table_key name ≡ false → amount ≡ amount_in (cell_of row k.column)
    → All (IsKnownKey s.plan.objectives) keys → ((why : Why) → Any (KeyBreaks s row why) keys → ⊥) → IsWeighable s.plan.objectives s.scales (record { key = name; amount = amount })
key_fits s row keys i k name amount l e en t ea known h =
    let own : is_table_key k.key ≡ false = subst (λ (n : Name). is_table_key n ≡ false) en t in
    let there : IsKnownKey s.plan.objectives k = subst (IsKnownKey s.plan.objectives) (sym e) (known i k l) in
    let small : at_scale (weight_taking s k.key).scale (amount_in (cell_of row k.column)) ≤ 2 ^ 40 =
    cell_small (weight_taking s k.key) (cell_of row k.column) (λ why x. none_at (KeyBreaks s row why) keys i k l e (h why) (own, x)) in
    subst (λ (n : Name). IsWeighable s.plan.objectives s.scales (record { key = n; amount = amount })) (sym en)
    (subst (λ (a : ℤ). IsWeighable s.plan.objectives s.scales (record { key = k.key; amount = a })) (sym ea) (record { known = there own; small = small }))

-- a key that names an objective sets its weight from the cell
objective_key : (s : Joining) (row : Row) (weights : List ℕ) (k : KeyColumn) → is_table_key k.key ≡ false
    → weighed_from s row weights k ≡ set weights (number_by_name s.plan.objectives k.key) (weight_of s.scales (number_by_name s.plan.objectives k.key) (amount_in (cell_of row k.column)))
objective_key s row weights k t =
    ap (λ (b : Bool). cond b weights (set weights (number_by_name s.plan.objectives k.key) (weight_of s.scales (number_by_name s.plan.objectives k.key) (amount_in (cell_of row k.column))))) t

-- one more key's weight is set, in what the code has of it
pub weighed_more : (s : Joining) (row : Row) (keys : List KeyColumn) (i : ℕ) (k : KeyColumn) (name : Name) (amount : ℤ) (weights new : List ℕ) (objective value : ℕ) → i < length keys
    → k ≡ get_or keys i k → name ≡ k.key → is_table_key name ≡ false → amount ≡ amount_in (cell_of row k.column)
    → objective ≡ number_by_name s.plan.objectives name → value ≡ weight_of s.scales (number_by_name s.plan.objectives name) amount → new ≡ set weights objective value
    → weights ≡ fold (weighed_from s row) (no_weights s) (take i keys) → new ≡ fold (weighed_from s row) (no_weights s) (take (i + 1) keys)
weighed_more s row keys i k name amount weights new objective value l e en t ea eo ev es v =
    let before : List ℕ = fold (weighed_from s row) (no_weights s) (take i keys) in
    es
    ∙ ap (λ (ws : List ℕ). set ws objective value) v
    ∙ ap (λ (j : ℕ). set before j value) eo
    ∙ ap (λ (w : ℕ). set before (number_by_name s.plan.objectives name) w) ev
    ∙ ap (λ (a : ℤ). set before (number_by_name s.plan.objectives name) (weight_of s.scales (number_by_name s.plan.objectives name) a)) ea
    ∙ ap (λ (n : Name). set before (number_by_name s.plan.objectives n) (weight_of s.scales (number_by_name s.plan.objectives n) (amount_in (cell_of row k.column)))) en
    ∙ sym (objective_key s row before k (subst (λ (n : Name). is_table_key n ≡ false) en t))
    ∙ ap (weighed_from s row before) e
    ∙ sym (fold_more (weighed_from s row) (no_weights s) keys i k l)

-- the amount in the cell of the first row that a word `OBJ@N` names fits, where some of the words were carried out
pub place_fits : (old mid : Joining) (tables : List Table) (n : ℕ) (resource : Name) (places : List KeyColumn) (i : ℕ) (k : KeyColumn) (name : Name) (amount : ℤ) → i < length places
    → k ≡ get_or places i k → name ≡ k.key → tables ≡ mid.tables → amount ≡ amount_in (first_cell_of (table_at tables n) k.column)
    → All (IsKnownPlace old.plan.objectives) places → ((why : Why) → Any (PlaceBreaks old (table_at old.tables n) why) places → ⊥)
    → mid ≡ with_plan old (with_places old (table_at old.tables n) resource (take i places) old.plan) → IsWeighable mid.plan.objectives mid.scales (record { key = name; amount = amount })
place_fits old mid tables n resource places i k name amount l e en et ea known h em =
    let table : Table = table_at old.tables n in
    let same : tables ≡ old.tables = et ∙ ap (λ (s : Joining). s.tables) em in
    let cell : amount ≡ amount_in (first_cell_of table k.column) = ea ∙ ap (λ (ts : List Table). amount_in (first_cell_of (table_at ts n) k.column)) same in
    let there : IsKnownPlace old.plan.objectives k = subst (IsKnownPlace old.plan.objectives) (sym e) (known i k l) in
    let small : at_scale (weight_taking old k.key).scale (amount_in (first_cell_of table k.column)) ≤ 2 ^ 40 =
    cell_small (weight_taking old k.key) (first_cell_of table k.column) (λ why x. none_at (PlaceBreaks old table why) places i k l e (h why) x) in
    subst (λ (s : Joining). IsWeighable s.plan.objectives s.scales (record { key = name; amount = amount })) (sym em)
    (subst (λ (m : Name). IsWeighable old.plan.objectives old.scales (record { key = m; amount = amount })) (sym en)
    (subst (λ (a : ℤ). IsWeighable old.plan.objectives old.scales (record { key = k.key; amount = a })) (sym cell) (record { known = there; small = small })))

-- ---- one option

none_big : (row : List ℕ) → All (λ w. w ≤ 2 ^ 40) row → HasBig row → ⊥
none_big row small h =
    let e : get_or row h.0 h.1 ≡ h.1 = h.3 in
    let l : get_or row h.0 h.1 ≤ 2 ^ 40 = small h.0 h.1 h.2 in
    omega (arith, e, l, h.4)

none_big_option : (time : ℕ) (row : List ℕ) → time ≤ 2 ^ 40 → All (λ w. w ≤ 2 ^ 40) row → HasBigOption time row → ⊥
none_big_option time row x r (inl h) = omega (arith, x, h)
none_big_option time row x r (inr h) = none_big row r h

only_memory_in : (p : SpecValue) (o : Choice) (row : List ℕ) (fault : BuildFault) → IsOptionRefused p o row fault → (IsMapped p o.task o.resource → ⊥) → o.time ≤ 2 ^ 40 → All (λ w. w ≤ 2 ^ 40) row
    → length p.options < 16384 → fault ≡ builds.NoMemory
only_memory_in p o row builds.Repeated h new t w room = absurd (new h)
only_memory_in p o row builds.TooBig h new t w room = absurd (none_big_option o.time row t w h.1)
only_memory_in p o row (builds.Limit what) h new t w room = absurd (omega (arith, h.3, room))
only_memory_in p o row builds.NoMemory h new t w room = refl
only_memory_in p o row builds.SelfLink h new t w room = absurd h
only_memory_in p o row builds.Cyclic h new t w room = absurd h

-- only want of memory refuses an option that is new, for which there is room, and whose numbers are small
pub only_memory : (p q : SpecValue) (task resource time n : ℕ) (row : List ℕ) (fault : BuildFault) → p ≡ q → resource ≡ n → IsOptionRefused p (choice task resource time) row fault
    → (IsMapped q task n → ⊥) → time ≤ 2 ^ 40 → All (λ w. w ≤ 2 ^ 40) row → length q.options < 16384 → fault ≡ builds.NoMemory
only_memory p q task resource time n row fault e en h new t w room =
    let o : Choice = choice task resource time in
    only_memory_in q o row fault (subst (λ (x : SpecValue). IsOptionRefused x o row fault) e h) (subst (λ (m : ℕ). IsMapped q task m → ⊥) (sym en) new) t w room

-- ---- the row of a task

counted : (s : Joining) (keys : List KeyColumn) (row r : Row) (b : Bool) → does_count keys row ≡ b → cond b (Some row) None ≡ Some r → ((why : Why) → RowBreaks s keys row why → ⊥) → (why : Why)
    → ValuesBreak s keys r why → ⊥
counted s keys row r true t e h why x =
    let same : row ≡ r = cc in
    h why (inr (t, subst (λ (q : Row). ValuesBreak s keys q why) (sym same) x))
counted s keys row r false t e h why x = absurd (cc)

counted_of : (s : Joining) (keys : List KeyColumn) (r : Row) (found : Option Row) → option_and_then (if_counts keys) found ≡ Some r → ((why : Why) → OfRow (RowBreaks s keys) found why → ⊥)
    → (why : Why) → ValuesBreak s keys r why → ⊥
counted_of s keys r None e h = absurd (cc)
counted_of s keys r (Some row) e h = counted s keys row r (does_count keys row) refl e h

-- a row from which a task gets an option counts, so that its cells aren't refused
pub chosen_unbroken : (s : Joining) (table : Table) (keys : List KeyColumn) (t : ℕ) (r : Row) → chosen_row s table keys t ≡ Some r → ((why : Why) → TaskBreaks s table keys why t → ⊥) → (why : Why)
    → ValuesBreak s keys r why → ⊥
chosen_unbroken s table keys t r e h = counted_of s keys r (task_row s table keys t) e h

-- ---- the options of the first tasks

-- other options, and all else as before
abbrev with_options : Joining → List Choice → List (List ℕ) → Joining
with_options s os ws = with_plan s (record s.plan { options = os; option_weights = ws })

same_time : (s : Joining) (os : List Choice) (ws : List (List ℕ)) (column : Option ℕ) (row : Row) → time_in_column (with_options s os ws) column row ≡ time_in_column s column row
same_time s os ws None row = refl
same_time s os ws (Some column) row = refl

same_choice : (s : Joining) (os : List Choice) (ws : List (List ℕ)) (resource : Name) (keys : List KeyColumn) (t : ℕ) (found : Option Row)
    → one_of (choice_from (with_options s os ws) resource keys t) found ≡ one_of (choice_from s resource keys t) found
same_choice s os ws resource keys t None = refl
same_choice s os ws resource keys t (Some row) = ap (λ (x : ℕ). choice t (number_by_name s.plan.resources resource) x ∷ []) (same_time s os ws (column_of keys (codes "time")) row)

-- the option of task t is added
abbrev with_next : Joining → ℕ → Name → List KeyColumn → ℕ → Joining
with_next s n resource keys t = with_options s
    (s.plan.options ++ one_of (choice_from s resource keys t) (chosen_row s (table_at s.tables n) keys t))
    (s.plan.option_weights ++ one_of (weights_from s keys) (chosen_row s (table_at s.tables n) keys t))

abbrev with_first : Joining → ℕ → Name → List KeyColumn → ℕ → Joining
with_first s n resource keys t = with_plan s (with_made s (table_at s.tables n) resource keys t)

next_first : (s : Joining) (n : ℕ) (resource : Name) (keys : List KeyColumn) (t : ℕ) → with_next (with_first s n resource keys t) n resource keys t ≡ with_first s n resource keys (suc t)
next_first s n resource keys t =
    let table : Table = table_at s.tables n in
    let os : List Choice = made_choices s table resource keys t in
    let ws : List (List ℕ) = made_weights s table keys t in
    let found : Option Row = chosen_row s table keys t in
    let o : List Choice = one_of (choice_from s resource keys t) found in
    let w : List (List ℕ) = one_of (weights_from s keys) found in
    ap (λ (x : List Choice). with_options s ((s.plan.options ++ os) ++ x) ((s.plan.option_weights ++ ws) ++ w))
    (same_choice s (s.plan.options ++ os) (s.plan.option_weights ++ ws) resource keys t found)
    ∙ ap (λ (x : List Choice). with_options s x ((s.plan.option_weights ++ ws) ++ w)) (append_assoc s.plan.options os o)
    ∙ ap (λ (x : List (List ℕ)). with_options s (s.plan.options ++ (os ++ o)) x) (append_assoc s.plan.option_weights ws w)

pub made_more : (old mid new : Joining) (n : ℕ) (resource : Name) (keys : List KeyColumn) (t : ℕ) → mid ≡ with_first old n resource keys t → new ≡ with_next mid n resource keys t
    → new ≡ with_first old n resource keys (t + 1)
made_more old mid new n resource keys t e h =
    h
    ∙ ap (λ (s : Joining). with_next s n resource keys t) e
    ∙ next_first old n resource keys t
    ∙ ap (with_first old n resource keys) (sym (add-one t))

-- ---- a task may get its option

none_of : {X : Type 0} (P : X → Type 0) (xs : List X) → All (λ x. P x → ⊥) xs → Any P xs → ⊥
none_of P xs h a = h a.0 a.1 a.2 (subst P (sym a.3) a.4)

all_fail : {X : Type 0} (P : X → Type 0) (xs : List X) → (Any P xs → ⊥) → All (λ x. P x → ⊥) xs
all_fail P xs h = λ k d l p. h (k, get_or xs k d, l, sym (get_or_default xs k d (get_or xs k d) l), p)

abbrev IsBefore : ℕ → Choice → Type 0
IsBefore t o = o.task < t

one_before : (s : Joining) (resource : Name) (keys : List KeyColumn) (t : ℕ) (found : Option Row) → All (IsBefore (suc t)) (one_of (choice_from s resource keys t) found)
one_before s resource keys t None = All-nil (IsBefore (suc t))
one_before s resource keys t (Some row) = All-cons (IsBefore (suc t)) (choice_from s resource keys t row) [] (omega arith) (All-nil (IsBefore (suc t)))

later : (t : ℕ) (o : Choice) → IsBefore t o → IsBefore (suc t) o
later t o h = omega arith

-- an option that is made of the first t tasks is of a task before t
made_before : (s : Joining) (table : Table) (resource : Name) (keys : List KeyColumn) (t : ℕ) → All (IsBefore t) (made_choices s table resource keys t)
made_before s table resource keys zero = All-nil (IsBefore zero)
made_before s table resource keys (suc t) =
    All-append (IsBefore (suc t)) (made_choices s table resource keys t) (one_of (choice_from s resource keys t) (chosen_row s table keys t))
    (All-weaker (IsBefore t) (IsBefore (suc t)) (later t) (made_choices s table resource keys t) (made_before s table resource keys t))
    (one_before s resource keys t (chosen_row s table keys t))

of_other : (t r : ℕ) (o : Choice) → IsBefore t o → IsOfPair t r o → ⊥
of_other t r o h p = omega (arith, h, p.0)

not_mapped : (s : Joining) (table : Table) (resource : Name) (keys : List KeyColumn) (t r : ℕ) → (IsMapped s.plan t r → ⊥) → IsMapped (with_made s table resource keys t) t r → ⊥
not_mapped s table resource keys t r h =
    none_of (IsOfPair t r) (s.plan.options ++ made_choices s table resource keys t)
    (All-append (λ o. IsOfPair t r o → ⊥) s.plan.options (made_choices s table resource keys t)
    (all_fail (IsOfPair t r) s.plan.options h)
    (All-weaker (IsBefore t) (λ o. IsOfPair t r o → ⊥) (of_other t r) (made_choices s table resource keys t) (made_before s table resource keys t)))

abbrev made_count : Joining → Table → Name → List KeyColumn → ℕ → ℕ
made_count s table resource keys t = length (made_choices s table resource keys t)

-- the more tasks, the more options
grows_by : (s : Joining) (table : Table) (resource : Name) (keys : List KeyColumn) (t n : ℕ) → (t ≤ n → made_count s table resource keys t ≤ made_count s table resource keys n) → t ≤ suc n
    → (n < t) ⊎ (t ≤ n) → made_count s table resource keys t ≤ made_count s table resource keys (suc n)
grows_by s table resource keys t n ih l (inl x) =
    let e : t ≡ suc n = omega (arith, l, x) in
    subst (λ (k : ℕ). made_count s table resource keys k ≤ made_count s table resource keys (suc n)) (sym e) (omega arith)
grows_by s table resource keys t n ih l (inr x) =
    let one : List Choice = one_of (choice_from s resource keys n) (chosen_row s table keys n) in
    let more : made_count s table resource keys n ≤ length (made_choices s table resource keys n ++ one) = omega (arith, length-append (made_choices s table resource keys n) one) in
    omega (arith, ih x, more)

made_grows : (s : Joining) (table : Table) (resource : Name) (keys : List KeyColumn) (t n : ℕ) → t ≤ n → made_count s table resource keys t ≤ made_count s table resource keys n
made_grows s table resource keys t zero l =
    let e : t ≡ 0 = omega (arith, l) in
    subst (λ (k : ℕ). made_count s table resource keys k ≤ made_count s table resource keys 0) (sym e) (omega arith)
made_grows s table resource keys t (suc n) l = grows_by s table resource keys t n (made_grows s table resource keys t n) l (cases_lt n t)

one_made : (f : Row → Choice) (found : Option Row) → is_some found ≡ true → length (one_of f found) ≡ 1
one_made f None h = absurd (false≢true h)
one_made f (Some row) h = refl

has_room : (s : Joining) (table : Table) (resource : Name) (keys : List KeyColumn) (t n : ℕ) → t < n → (16384 < length s.plan.options + made_count s table resource keys n → ⊥)
    → is_some (chosen_row s table keys t) ≡ true → length (with_made s table resource keys t).options < 16384
has_room s table resource keys t n l h x =
    let os : List Choice = made_choices s table resource keys t in
    let one : List Choice = one_of (choice_from s resource keys t) (chosen_row s table keys t) in
    let few : length s.plan.options + made_count s table resource keys n ≤ 16384 = not_less 16384 (length s.plan.options + made_count s table resource keys n) h in
    let up : suc t ≤ n = omega (arith, l) in
    let grown : length (os ++ one) ≤ made_count s table resource keys n = made_grows s table resource keys (suc t) n up in
    omega (arith, few, grown, length-append os one, length-append s.plan.options os, one_made (choice_from s resource keys t) (chosen_row s table keys t) x)

time_breaks : (s : Joining) (os : List Choice) (ws : List (List ℕ)) (column : Option ℕ) (row : Row) (why : Why) → TimeColumnBreaks (with_options s os ws) column row why
    → TimeColumnBreaks s column row why
time_breaks s os ws None row why h = h
time_breaks s os ws (Some column) row why h = h

row_breaks : (s : Joining) (os : List Choice) (ws : List (List ℕ)) (keys : List KeyColumn) (row : Row) (why : Why) → RowBreaks (with_options s os ws) keys row why → RowBreaks s keys row why
row_breaks s os ws keys row why (inl h) = inl h
row_breaks s os ws keys row why (inr (t, inl h)) = inr (t, inl (time_breaks s os ws (column_of keys (codes "time")) row why h))
row_breaks s os ws keys row why (inr (t, inr h)) = inr (t, inr h)

task_breaks : (s : Joining) (os : List Choice) (ws : List (List ℕ)) (keys : List KeyColumn) (found : Option Row) (why : Why) → OfRow (RowBreaks (with_options s os ws) keys) found why
    → OfRow (RowBreaks s keys) found why
task_breaks s os ws keys None why h = h
task_breaks s os ws keys (Some row) why h = row_breaks s os ws keys row why h

-- task t may get its option
pub record IsAddable (s : Joining) (n : ℕ) (resource : Name) (keys : List KeyColumn) (t : ℕ) : Type 0 where
  pub unbroken : (why : Why) → TaskBreaks s (table_at s.tables n) keys why t → ⊥
  pub new : IsTakenTwice s (table_at s.tables n) resource keys t → ⊥
  pub room : is_some (chosen_row s (table_at s.tables n) keys t) ≡ true → length s.plan.options < 16384

pub addable : (old mid : Joining) (n : ℕ) (resource : Name) (keys : List KeyColumn) (t : ℕ) → t < length old.task_kinds
    → ((why : Why) → HasBelow (length old.task_kinds) (TaskBreaks old (table_at old.tables n) keys why) → ⊥)
    → ((why : Why) → OptionsBreak old (table_at old.tables n) resource keys why → ⊥) → mid ≡ with_first old n resource keys t → IsAddable mid n resource keys t
addable old mid n resource keys t l broken free e =
    let table : Table = table_at old.tables n in
    let os : List Choice = old.plan.options ++ made_choices old table resource keys t in
    let ws : List (List ℕ) = old.plan.option_weights ++ made_weights old table keys t in
    let a : IsAddable (with_first old n resource keys t) n resource keys t = record {
      unbroken = λ why x. broken why (t, l, task_breaks old os ws keys (task_row old table keys t) why x);
      new = λ x. not_mapped old table resource keys t (number_by_name old.plan.resources resource) (λ y. free RepeatedName (t, l, (x.0, y))) x.1;
      room = has_room old table resource keys t (length old.task_kinds) l (free (Limit Options));
    } in
    subst (λ (s : Joining). IsAddable s n resource keys t) (sym e) a

-- ---- a line as a whole

-- a table that was found, in what the code has of the tables
pub table_found : (s : Joining) (tables : List Table) (name : List ℕ) (index place : ℕ) → tables ≡ s.tables → IsFoundTable tables name index place
    → table_called s.tables name index ≡ Some (table_at s.tables place)
table_found s tables name index place e h = subst (λ (ts : List Table). table_called ts name index ≡ Some (table_at ts place)) e h.found

-- what the line of a table that was found is refused for
pub line_refused : (s : Joining) (found : Option Table) (table : Table) (resource : Name) (keys places : List KeyColumn) (why : Why) → found ≡ Some table
    → IsLeast (LineBreaks s table resource keys places) why → IsLeast (TableBreaks s found resource keys places) why
line_refused s found table resource keys places why e h = subst (λ (f : Option Table). IsLeast (TableBreaks s f resource keys places) why) (sym e) h

-- the options that were made change nothing of the words `OBJ@N`
pub places_known : (old mid : Joining) (n : ℕ) (resource : Name) (keys places : List KeyColumn) (t : ℕ) → mid ≡ with_first old n resource keys t → All (IsKnownPlace old.plan.objectives) places
    → All (IsKnownPlace mid.plan.objectives) places
places_known old mid n resource keys places t e h = subst (λ (s : Joining). All (IsKnownPlace s.plan.objectives) places) (sym e) h

pub places_unbroken : (old mid : Joining) (n : ℕ) (resource : Name) (keys places : List KeyColumn) (t : ℕ) → mid ≡ with_first old n resource keys t
    → ((why : Why) → LineBreaks old (table_at old.tables n) resource keys places why → ⊥) → (why : Why) → Any (PlaceBreaks mid (table_at mid.tables n) why) places → ⊥
places_unbroken old mid n resource keys places t e h = subst (λ (s : Joining). (why : Why) → Any (PlaceBreaks s (table_at s.tables n) why) places → ⊥) (sym e) (λ why x. h why (inl (inl x)))

pub line_done : (old mid new : Joining) (found : Option Table) (n : ℕ) (resource : Name) (keys places : List KeyColumn) → found ≡ Some (table_at old.tables n)
    → mid ≡ with_first old n resource keys (length old.task_kinds) → new ≡ with_plan mid (with_places mid (table_at mid.tables n) resource places mid.plan)
    → new ≡ with_plan old (with_table old found resource keys places)
line_done old mid new found n resource keys places ef em en =
    en
    ∙ ap (λ (s : Joining). with_plan s (with_places s (table_at s.tables n) resource places s.plan)) em
    ∙ ap (λ (f : Option Table). with_plan old (with_table old f resource keys places)) (sym ef)
