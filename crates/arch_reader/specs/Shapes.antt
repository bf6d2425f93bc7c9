-- The shape of a statement: what its words say, where they have one of the forms.
use Rattle.std.specs.Prelude.{ℕ, ℤ, List, [], ◌∷◌, take, drop, Bool, true, false, ◌&&◌, if◌then◌else◌, Option, Some, None, codes}
use Rattle.std.specs.List.{prefix_len}
use Rattle.std.specs.Option.{option_map}
use Rattle.std.specs.Str.{bytes_eq}
use Rattle.line_words.specs.Rules.{Words}
use Rattle.arch_reader.specs.Words.{equals, at_sign, key_of, after_mark, is_keyed, are_keyed, are_placed, is_time}
use Rattle.file_bricks.specs.Words.{keyword_in}
use Rattle.file_bricks.specs.Numbers.{whole_in, decimal_in}
use Rattle.arch_reader.specs.Numbers.{fine, both, whole_misread, decimal_misread, amounts, columns}
use Rattle.arch_reader.specs.declared.numbers.Misread.{Misread}
use Rattle.arch_reader.specs.declared.statement.Statement.{Statement}
use Rattle.arch_reader.specs.declared.statement.Statement.TheVariants.{Objective, Clock, Resource, Link, Traffic, Task, Message, Merge, Map, Table, Quantity, QuantityTable, Hops, Delay, Deadline}
use Rattle.arch_reader.specs.declared.keyword.Keyword.{Keyword}
use Rattle.arch_reader.specs.declared.keyword.Keyword.TheVariants as keywords
use Rattle.arch_reader.specs.declared.form.Form.{Form}
use Rattle.arch_reader.specs.declared.shapes.Settings.{Settings}

-- the keywords
abbrev pub keyword_table : List (List ℕ × Keyword)
keyword_table = (codes "objective", keywords.Objective)
    ∷ (codes "clock", keywords.Clock)
    ∷ (codes "resource", keywords.Resource)
    ∷ (codes "link", keywords.Link)
    ∷ (codes "traffic", keywords.Traffic)
    ∷ (codes "task", keywords.Task)
    ∷ (codes "message", keywords.Message)
    ∷ (codes "merge", keywords.Merge)
    ∷ (codes "map", keywords.Map)
    ∷ (codes "table", keywords.Table)
    ∷ (codes "quantity", keywords.Quantity)
    ∷ (codes "hops", keywords.Hops)
    ∷ (codes "delay", keywords.Delay)
    ∷ (codes "deadline", keywords.Deadline)
    ∷ []

-- what the first word of a statement says it is
unfoldable pub keyword_of : List ℕ → Option Keyword
keyword_of word = keyword_in keyword_table word

-- a statement whose words are all numbers where they have to be
abbrev pub plain : Statement → Form
plain s = record { statement = s; misread = fine }

-- `[scale N] [floor]`
unfoldable pub settings_of : Words → Option Settings
settings_of [] = Some (record { scale = None; floor = false; misread = fine })
settings_of (w ∷ []) = if bytes_eq w (codes "floor") then Some (record { scale = None; floor = true; misread = fine }) else None
settings_of (w ∷ n ∷ []) = if bytes_eq w (codes "scale") then Some (record { scale = Some (whole_in n); floor = false; misread = whole_misread n }) else None
settings_of (w ∷ n ∷ f ∷ []) =
    if bytes_eq w (codes "scale") then (if bytes_eq f (codes "floor") then Some (record { scale = Some (whole_in n); floor = true; misread = whole_misread n }) else None) else None
settings_of (w ∷ n ∷ f ∷ g ∷ more) = None

-- `objective NAME [scale N] [floor]`
abbrev pub objective_with : List ℕ → Settings → Form
objective_with name s = record { statement = Objective name s.scale s.floor; misread = s.misread }

unfoldable pub objective_form : Words → Option Form
objective_form [] = None
objective_form (name ∷ ws) = option_map (objective_with name) (settings_of ws)

-- `clock [scale N] [floor]`
abbrev pub clock_with : Settings → Form
clock_with s = record { statement = Clock s.scale s.floor; misread = s.misread }

unfoldable pub clock_form : Words → Option Form
clock_form ws = option_map clock_with (settings_of ws)

-- `resource NAME [OBJ=D]..`
unfoldable pub resource_form : Words → Option Form
resource_form [] = None
resource_form (name ∷ ws) = if are_keyed ws then Some (record { statement = Resource name (amounts ws).items; misread = (amounts ws).misread }) else None

-- `--` for a two-way link, `->` for a one-way link
abbrev pub is_two_way : List ℕ → Option Bool
is_two_way word = if bytes_eq word (codes "--") then Some true else if bytes_eq word (codes "->") then Some false else None

-- `link NAME A -- B [OBJ=D]..`, `link NAME A -> B [OBJ=D]..`
abbrev pub link_with : List ℕ → List ℕ → List ℕ → Words → Bool → Form
link_with name a b ws two_way = record { statement = Link name a b two_way (amounts ws).items; misread = (amounts ws).misread }

unfoldable pub link_form : Words → Option Form
link_form [] = None
link_form (name ∷ []) = None
link_form (name ∷ a ∷ []) = None
link_form (name ∷ a ∷ way ∷ []) = None
link_form (name ∷ a ∷ way ∷ b ∷ ws) = if are_keyed ws then option_map (link_with name a b ws) (is_two_way way) else None

-- `traffic LINK OBJ=D..`
unfoldable pub traffic_form : Words → Option Form
traffic_form [] = None
traffic_form (link ∷ []) = None
traffic_form (link ∷ w ∷ ws) = if are_keyed (w ∷ ws) then Some (record { statement = Traffic link (amounts (w ∷ ws)).items; misread = (amounts (w ∷ ws)).misread }) else None

-- `task NAME`
unfoldable pub task_form : Words → Option Form
task_form [] = None
task_form (name ∷ []) = Some (plain (Task name))
task_form (name ∷ w ∷ more) = None

-- `message NAME SENDER -> RECEIVER..`
unfoldable pub message_form : Words → Option Form
message_form [] = None
message_form (name ∷ []) = None
message_form (name ∷ sender ∷ []) = None
message_form (name ∷ sender ∷ way ∷ []) = None
message_form (name ∷ sender ∷ way ∷ r ∷ rs) = if bytes_eq way (codes "->") then Some (plain (Message name sender (r ∷ rs))) else None

-- `merge NAME MESSAGE..`
unfoldable pub merge_form : Words → Option Form
merge_form [] = None
merge_form (name ∷ []) = None
merge_form (name ∷ m ∷ ms) = Some (plain (Merge name (m ∷ ms)))

-- the time of a `map` line, where the first of these words is `time=D`
abbrev pub time_in : Words → Option ℤ
time_in [] = None
time_in (w ∷ ws) = if is_time w then Some (decimal_in (after_mark equals w)) else None

abbrev pub time_misread : Words → Misread
time_misread [] = fine
time_misread (w ∷ ws) = if is_time w then decimal_misread (after_mark equals w) else fine

abbrev pub after_time : Words → Words
after_time [] = []
after_time (w ∷ ws) = if is_time w then ws else w ∷ ws

-- `map TASK RESOURCE [time=D] [OBJ=D]..`
unfoldable pub map_form : Words → Option Form
map_form [] = None
map_form (task ∷ []) = None
map_form (task ∷ resource ∷ ws) =
    if are_keyed ws then Some (record { statement = Map task resource (time_in ws) (amounts (after_time ws)).items; misread = both (time_misread ws) (amounts (after_time ws)).misread }) else None

-- the words of a `table` line up to the first one that isn't `KEY=N`, and those from there on
abbrev pub keys_in : Words → Words
keys_in ws = take (prefix_len is_keyed ws) ws

abbrev pub after_keys : Words → Words
after_keys ws = drop (prefix_len is_keyed ws) ws

-- `table NAME INDEX RESOURCE [KEY=N].. [OBJ@N]..`
unfoldable pub table_form : Words → Option Form
table_form [] = None
table_form (name ∷ []) = None
table_form (name ∷ index ∷ []) = None
table_form (name ∷ index ∷ resource ∷ ws) = if are_placed (after_keys ws)
    then Some (record {
      statement = Table name (whole_in index) resource (columns equals (keys_in ws)).items (columns at_sign (after_keys ws)).items;
      misread = both (whole_misread index) (both (columns equals (keys_in ws)).misread (columns at_sign (after_keys ws)).misread);
    })
    else None

-- `quantity table NAME INDEX COLUMN [rows=N]`
abbrev pub rows_key : List ℕ → Bool
rows_key word = is_keyed word && bytes_eq (key_of equals word) (codes "rows")

unfoldable pub quantity_table : List ℕ → List ℕ → List ℕ → Option Form
quantity_table name index column = Some (record { statement = QuantityTable name (whole_in index) (whole_in column) None; misread = both (whole_misread index) (whole_misread column) })

unfoldable pub quantity_table_rows : List ℕ → List ℕ → List ℕ → List ℕ → Option Form
quantity_table_rows name index column rows = if rows_key rows
    then Some (record {
      statement = QuantityTable name (whole_in index) (whole_in column) (Some (whole_in (after_mark equals rows)));
      misread = both (whole_misread index) (both (whole_misread column) (whole_misread (after_mark equals rows)));
    })
    else None

-- `quantity MESSAGE D`, or the statement with a table
unfoldable pub quantity_form : Words → Option Form
quantity_form [] = None
quantity_form (message ∷ []) = None
quantity_form (message ∷ amount ∷ []) = Some (record { statement = Quantity message (decimal_in amount); misread = decimal_misread amount })
quantity_form (t ∷ name ∷ index ∷ []) = None
quantity_form (t ∷ name ∷ index ∷ column ∷ []) = if bytes_eq t (codes "table") then quantity_table name index column else None
quantity_form (t ∷ name ∷ index ∷ column ∷ rows ∷ []) = if bytes_eq t (codes "table") then quantity_table_rows name index column rows else None
quantity_form (t ∷ name ∷ index ∷ column ∷ rows ∷ w ∷ more) = None

-- `hops N`, `hops MESSAGE N`
unfoldable pub hops_form : Words → Option Form
hops_form [] = None
hops_form (n ∷ []) = Some (record { statement = Hops None (whole_in n); misread = whole_misread n })
hops_form (message ∷ n ∷ []) = Some (record { statement = Hops (Some message) (whole_in n); misread = whole_misread n })
hops_form (message ∷ n ∷ w ∷ more) = None

-- `delay D`, `delay MESSAGE D`
unfoldable pub delay_form : Words → Option Form
delay_form [] = None
delay_form (d ∷ []) = Some (record { statement = Delay None (decimal_in d); misread = decimal_misread d })
delay_form (message ∷ d ∷ []) = Some (record { statement = Delay (Some message) (decimal_in d); misread = decimal_misread d })
delay_form (message ∷ d ∷ w ∷ more) = None

-- `deadline TASK D`
unfoldable pub deadline_form : Words → Option Form
deadline_form [] = None
deadline_form (task ∷ []) = None
deadline_form (task ∷ d ∷ []) = Some (record { statement = Deadline task (decimal_in d); misread = decimal_misread d })
deadline_form (task ∷ d ∷ w ∷ more) = None

-- what the words after a keyword say
abbrev pub form_with : Option Keyword → Words → Option Form
form_with None ws = None
form_with (Some keywords.Objective) ws = objective_form ws
form_with (Some keywords.Clock) ws = clock_form ws
form_with (Some keywords.Resource) ws = resource_form ws
form_with (Some keywords.Link) ws = link_form ws
form_with (Some keywords.Traffic) ws = traffic_form ws
form_with (Some keywords.Task) ws = task_form ws
form_with (Some keywords.Message) ws = message_form ws
form_with (Some keywords.Merge) ws = merge_form ws
form_with (Some keywords.Map) ws = map_form ws
form_with (Some keywords.Table) ws = table_form ws
form_with (Some keywords.Quantity) ws = quantity_form ws
form_with (Some keywords.Hops) ws = hops_form ws
form_with (Some keywords.Delay) ws = delay_form ws
form_with (Some keywords.Deadline) ws = deadline_form ws

-- what a statement's words say
unfoldable pub form_of : Words → Option Form
form_of [] = None
form_of (word ∷ ws) = form_with (keyword_of word) ws
