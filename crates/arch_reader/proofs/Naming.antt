-- What the form of a statement makes sure of: its names are words of its line, and it is one that its form allows.
use Rattle.std.proofs.Common.{◌≡◌, ℕ, ◌<◌, Bool, true, false, cond, inl, inr, codes, List, [], ◌∷◌, length, map, Option, Some, None, subst, arith}
use Rattle.std.specs.Str.{bytes_eq}
use Rattle.std.specs.List.{All, AllByRecursion}
use Rattle.std.specs.Option.{IfSome, option_map}
use Rattle.std.proofs.lemmas.Bool.{cases_Bool}
use Rattle.std.proofs.lemmas.List.Elements.{All-from_recursion, recursion_from_All}
use Rattle.line_words.specs.Rules.{Words}
use Rattle.file_bricks.specs.Words.{IsWord}
use Rattle.file_bricks.specs.Numbers.{whole_in, decimal_in}
use Rattle.file_bricks.specs.Bounds.{IsAmount}
use Rattle.file_bricks.proofs.Numbered.{whole_small}
use Rattle.file_bricks.proofs.Bounded.{decimal_small}
use Rattle.arch_reader.specs.Words.{equals, at_sign, after_mark, is_time, are_keyed, are_placed}
use Rattle.arch_reader.specs.Numbers.{key_amount, amounts, key_column, columns}
use Rattle.arch_reader.specs.Formed.{IsFormed, HasAmount, HasColumn}
use Rattle.arch_reader.specs.Shapes.{plain, settings_of, objective_with, clock_with, link_with, is_two_way, objective_form, clock_form, resource_form, link_form, traffic_form, task_form, message_form, merge_form, map_form, time_in, after_time, table_form, keys_in, after_keys, quantity_form, quantity_table, quantity_table_rows, rows_key, hops_form, delay_form, deadline_form, form_with, keyword_of, form_of}
use Rattle.arch_reader.specs.Tests.{declared_name, names_in}
use Rattle.arch_reader.specs.declared.statement.Statement.{Statement}
use Rattle.arch_reader.specs.declared.statement.Statement.TheVariants as statements
use Rattle.arch_reader.specs.declared.keyword.Keyword.{Keyword}
use Rattle.arch_reader.specs.declared.keyword.Keyword.TheVariants as keywords
use Rattle.arch_reader.specs.declared.form.Form.{Form}
use Rattle.arch_reader.specs.declared.shapes.Settings.{Settings}

-- ---- the words of a line

-- words, one by one
abbrev pub AreWords : Words → Type 0
AreWords ws = AllByRecursion IsWord ws

-- ---- its numbers

whole_keyed : (mark : ℕ) (ws : Words) → AllByRecursion HasColumn (map (key_column mark) ws)
whole_keyed mark [] = tt
whole_keyed mark (w ∷ ws) = (whole_small (after_mark mark w), whole_keyed mark ws)

columns_whole : (mark : ℕ) (ws : Words) → All HasColumn (columns mark ws).items
unfolding columns
columns_whole mark ws = All-from_recursion HasColumn (map (key_column mark) ws) (whole_keyed mark ws)

small_keyed : (ws : Words) → AllByRecursion HasAmount (map key_amount ws)
small_keyed [] = tt
small_keyed (w ∷ ws) = (decimal_small (after_mark equals w), small_keyed ws)

amounts_small : (ws : Words) → All HasAmount (amounts ws).items
unfolding amounts
amounts_small ws = All-from_recursion HasAmount (map key_amount ws) (small_keyed ws)

amounts_some : (w : List ℕ) (ws : Words) → 0 < length (amounts (w ∷ ws)).items
unfolding amounts
amounts_some w ws = omega arith

time_small : (ws : Words) → IfSome (time_in ws) IsAmount
time_small [] = tt
time_small (w ∷ ws) = elim (cases_Bool (is_time w)) [ inl t ↦ rw t (decimal_small (after_mark equals w)) | inr f ↦ rw f tt ]

-- ---- the names and the numbers of a form

-- what is kept of a statement's words
pub record IsSaid (s : Statement) : Type 0 where
  pub named : AreWords (names_in s)
  pub formed : IsFormed s

said : (s : Statement) → AreWords (names_in s) → IsFormed s → IsSaid s
said s n f = record { named = n; formed = f }

-- the same of a form, if there is one
abbrev Named : Option Form → Type 0
Named None = Unit {0}
Named (Some f) = IsSaid f.statement

-- a form that is there under a condition
when : (b : Bool) (f : Option Form) → Named f → Named (cond b f None)
when true f n = n
when false f n = tt

-- a form that is made of something that may be there
made : {X : Type 0} (f : X → Form) (o : Option X) → ((x : X) → IsSaid (f x).statement) → Named (option_map f o)
made f None n = tt
made f (Some x) n = n x

objective_named : (ws : Words) → AreWords ws → Named (objective_form ws)
unfolding objective_form
objective_named [] h = tt
objective_named (name ∷ ws) h = made (objective_with name) (settings_of ws) (λ (s : Settings). said (objective_with name s).statement (h.0, tt) tt)

clock_named : (ws : Words) → Named (clock_form ws)
unfolding clock_form
clock_named ws = made clock_with (settings_of ws) (λ (s : Settings). said (clock_with s).statement tt tt)

resource_named : (ws : Words) → AreWords ws → Named (resource_form ws)
unfolding resource_form
resource_named [] h = tt
resource_named (name ∷ ws) h =
    when (are_keyed ws) (Some (record { statement = statements.Resource name (amounts ws).items; misread = (amounts ws).misread }))
    (said (statements.Resource name (amounts ws).items) (h.0, tt) (amounts_small ws))

link_named : (ws : Words) → AreWords ws → Named (link_form ws)
unfolding link_form
link_named [] h = tt
link_named (name ∷ []) h = tt
link_named (name ∷ a ∷ []) h = tt
link_named (name ∷ a ∷ way ∷ []) h = tt
link_named (name ∷ a ∷ way ∷ b ∷ ws) h =
    when (are_keyed ws) (option_map (link_with name a b ws) (is_two_way way))
    (made (link_with name a b ws) (is_two_way way) (λ (t : Bool). said (link_with name a b ws t).statement (h.0, (h.1.0, (h.1.1.1.0, tt))) (amounts_small ws)))

traffic_named : (ws : Words) → AreWords ws → Named (traffic_form ws)
unfolding traffic_form
traffic_named [] h = tt
traffic_named (link ∷ []) h = tt
traffic_named (link ∷ w ∷ ws) h = when (are_keyed (w ∷ ws)) (Some (record { statement = statements.Traffic link (amounts (w ∷ ws)).items; misread = (amounts (w ∷ ws)).misread }))
    (said (statements.Traffic link (amounts (w ∷ ws)).items) (h.0, tt) (amounts_some w ws, amounts_small (w ∷ ws)))

task_named : (ws : Words) → AreWords ws → Named (task_form ws)
unfolding task_form
task_named [] h = tt
task_named (name ∷ []) h = said (statements.Task name) (h.0, tt) tt
task_named (name ∷ w ∷ more) h = tt

message_named : (ws : Words) → AreWords ws → Named (message_form ws)
unfolding message_form
message_named [] h = tt
message_named (name ∷ []) h = tt
message_named (name ∷ sender ∷ []) h = tt
message_named (name ∷ sender ∷ way ∷ []) h = tt
message_named (name ∷ sender ∷ way ∷ r ∷ rs) h =
    when (bytes_eq way (codes "->")) (Some (plain (statements.Message name sender (r ∷ rs)))) (said (statements.Message name sender (r ∷ rs)) (h.0, (h.1.0, h.1.1.1)) (omega arith))

merge_named : (ws : Words) → AreWords ws → Named (merge_form ws)
unfolding merge_form
merge_named [] h = tt
merge_named (name ∷ []) h = tt
merge_named (name ∷ m ∷ ms) h = said (statements.Merge name (m ∷ ms)) h (omega arith)

map_named : (ws : Words) → AreWords ws → Named (map_form ws)
unfolding map_form
map_named [] h = tt
map_named (task ∷ []) h = tt
map_named (task ∷ resource ∷ ws) h =
    elim (cases_Bool (are_keyed ws)) [
      | inl t ↦ rw t (said (statements.Map task resource (time_in ws) (amounts (after_time ws)).items) (h.0, (h.1.0, tt))
          (time_small ws, amounts_small (after_time ws)))
      | inr f ↦ rw f tt
    ]

said_table : (name index resource : List ℕ) (ws : Words) → AreWords (name ∷ resource ∷ []) → IsSaid (statements.Table name (whole_in index) resource (columns equals (keys_in ws)).items
    (columns at_sign (after_keys ws)).items)
said_table name index resource ws n = record {
  named = n;
  formed = record { index_is_whole = whole_small index; keys_are_whole = columns_whole equals (keys_in ws); places_are_whole = columns_whole at_sign (after_keys ws) };
}

table_named : (ws : Words) → AreWords ws → Named (table_form ws)
unfolding table_form
table_named [] h = tt
table_named (name ∷ []) h = tt
table_named (name ∷ index ∷ []) h = tt
table_named (name ∷ index ∷ resource ∷ ws) h = elim (cases_Bool (are_placed (after_keys ws))) [ inl t ↦ rw t (said_table name index resource ws (h.0, (h.1.1.0, tt))) | inr f ↦ rw f tt ]

said_rows : (name index column rows : List ℕ) → AreWords (name ∷ []) → IsSaid (statements.QuantityTable name (whole_in index) (whole_in column) (Some (whole_in (after_mark equals rows))))
said_rows name index column rows n = record {
  named = n;
  formed = record { index_is_whole = whole_small index; column_is_whole = whole_small column; rows_are_whole = whole_small (after_mark equals rows) };
}

quantity_named : (ws : Words) → AreWords ws → Named (quantity_form ws)
unfolding quantity_form quantity_table quantity_table_rows
quantity_named [] h = tt
quantity_named (message ∷ []) h = tt
quantity_named (message ∷ amount ∷ []) h = said (statements.Quantity message (decimal_in amount)) (h.0, tt) (decimal_small amount)
quantity_named (t ∷ name ∷ index ∷ []) h = tt
quantity_named (t ∷ name ∷ index ∷ column ∷ []) h = when (bytes_eq t (codes "table")) (quantity_table name index column)
    (said (statements.QuantityTable name (whole_in index) (whole_in column) None) (h.1.0, tt) (record
    { index_is_whole = whole_small index; column_is_whole = whole_small column; rows_are_whole = tt }))
quantity_named (t ∷ name ∷ index ∷ column ∷ rows ∷ []) h =
    when (bytes_eq t (codes "table")) (quantity_table_rows name index column rows) (elim (cases_Bool (rows_key rows)) [ inl k ↦ rw k (said_rows name index column rows (h.1.0, tt)) | inr k ↦ rw k tt ])
quantity_named (t ∷ name ∷ index ∷ column ∷ rows ∷ w ∷ more) h = tt

hops_named : (ws : Words) → AreWords ws → Named (hops_form ws)
unfolding hops_form
hops_named [] h = tt
hops_named (n ∷ []) h = said (statements.Hops None (whole_in n)) tt (whole_small n)
hops_named (message ∷ n ∷ []) h = said (statements.Hops (Some message) (whole_in n)) (h.0, tt) (whole_small n)
hops_named (message ∷ n ∷ w ∷ more) h = tt

delay_named : (ws : Words) → AreWords ws → Named (delay_form ws)
unfolding delay_form
delay_named [] h = tt
delay_named (d ∷ []) h = said (statements.Delay None (decimal_in d)) tt (decimal_small d)
delay_named (message ∷ d ∷ []) h = said (statements.Delay (Some message) (decimal_in d)) (h.0, tt) (decimal_small d)
delay_named (message ∷ d ∷ w ∷ more) h = tt

deadline_named : (ws : Words) → AreWords ws → Named (deadline_form ws)
unfolding deadline_form
deadline_named [] h = tt
deadline_named (task ∷ []) h = tt
deadline_named (task ∷ d ∷ []) h = said (statements.Deadline task (decimal_in d)) (h.0, tt) (decimal_small d)
deadline_named (task ∷ d ∷ w ∷ more) h = tt

form_named : (k : Option Keyword) (ws : Words) → AreWords ws → Named (form_with k ws)
form_named None ws h = tt
form_named (Some keywords.Objective) ws h = objective_named ws h
form_named (Some keywords.Clock) ws h = clock_named ws
form_named (Some keywords.Resource) ws h = resource_named ws h
form_named (Some keywords.Link) ws h = link_named ws h
form_named (Some keywords.Traffic) ws h = traffic_named ws h
form_named (Some keywords.Task) ws h = task_named ws h
form_named (Some keywords.Message) ws h = message_named ws h
form_named (Some keywords.Merge) ws h = merge_named ws h
form_named (Some keywords.Map) ws h = map_named ws h
form_named (Some keywords.Table) ws h = table_named ws h
form_named (Some keywords.Quantity) ws h = quantity_named ws h
form_named (Some keywords.Hops) ws h = hops_named ws h
form_named (Some keywords.Delay) ws h = delay_named ws h
form_named (Some keywords.Deadline) ws h = deadline_named ws h

-- what the words of a line say
said_by : (ws : Words) → AreWords ws → Named (form_of ws)
unfolding form_of
said_by [] h = tt
said_by (w ∷ ws) h = form_named (keyword_of w) ws h.1

pub said_of : (ws : Words) (s : Statement) → All IsWord ws → form_of ws ≡ Some (plain s) → IsSaid s
said_of ws s h e = subst Named e (said_by ws (recursion_from_All IsWord ws h))

pub names_said : (s : Statement) → IsSaid s → All IsWord (names_in s)
names_said s h = All-from_recursion IsWord (names_in s) h.named

-- the declared name is the first one
pub declared_is_word : (s : Statement) → All IsWord (names_in s) → IfSome (declared_name s) IsWord
declared_is_word (statements.Objective name scale floor) h = (recursion_from_All IsWord (name ∷ []) h).0
declared_is_word (statements.Clock scale floor) h = tt
declared_is_word (statements.Resource name weights) h = (recursion_from_All IsWord (name ∷ []) h).0
declared_is_word (statements.Link name a b two_way weights) h = (recursion_from_All IsWord (name ∷ a ∷ b ∷ []) h).0
declared_is_word (statements.Traffic link weights) h = tt
declared_is_word (statements.Task name) h = (recursion_from_All IsWord (name ∷ []) h).0
declared_is_word (statements.Message name sender receivers) h = (recursion_from_All IsWord (name ∷ sender ∷ receivers) h).0
declared_is_word (statements.Merge name messages) h = (recursion_from_All IsWord (name ∷ messages) h).0
declared_is_word (statements.Map task resource time weights) h = tt
declared_is_word (statements.Table name index resource keys weights_at) h = tt
declared_is_word (statements.Quantity message amount) h = tt
declared_is_word (statements.QuantityTable name index column rows) h = tt
declared_is_word (statements.Hops message limit) h = tt
declared_is_word (statements.Delay message amount) h = tt
declared_is_word (statements.Deadline task at) h = tt
