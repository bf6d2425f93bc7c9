-- What a statement is refused for, after what the statements before it declare: one test for each cause.
use Rattle.std.specs.Prelude.{ℕ, ℤ, List, [], ◌∷◌, length, Bool, true, false, ◌||◌, ◌&&◌, not, nat_lt, nat_le, Option, Some, None, is_some, find, is_none}
use Rattle.std.specs.List.{list_any}
use Rattle.std.specs.Option.{option_map_or}
use Rattle.std.specs.Str.{bytes_eq}
use Rattle.spec_model.specs.Limits.{most_resources, most_links, most_objectives, most_number}
use Rattle.line_words.specs.Rules.{Words, Test}
use Rattle.line_words.specs.Limits.{most_name_bytes}
use Rattle.line_words.specs.declared.refusals.Why.TheVariants.{BadStatement, BadNumber, UnknownName, RepeatedName, SelfLink, NotWhole, TooBig, Limit}
use Rattle.line_words.specs.declared.refusals.What.TheVariants.{NameBytes, Objectives, Resources, Links}
use Rattle.arch_reader.specs.Words.{is_arrow, is_reserved, is_table_key}
use Rattle.arch_reader.specs.Numbers.{is_negative, at_scale, fraction_at}
use Rattle.arch_reader.specs.Seen.{scale_or_0}
use Rattle.arch_reader.specs.declared.statement.KeyAmount.{KeyAmount}
use Rattle.arch_reader.specs.declared.statement.KeyColumn.{KeyColumn}
use Rattle.arch_reader.specs.declared.statement.Statement.{Statement}
use Rattle.arch_reader.specs.declared.statement.Statement.TheVariants.{Objective, Clock, Resource, Link, Traffic, Task, Message, Merge, Map, Table, Quantity, QuantityTable, Hops, Delay, Deadline}
use Rattle.arch_reader.specs.declared.seen.Objective.{Objective as Declared}
use Rattle.arch_reader.specs.declared.seen.Seen.{Seen}
use Rattle.arch_reader.specs.declared.form.Form.{Form}

-- ---- the parts of a statement

-- the name that a statement declares
abbrev pub declared_name : Statement → Option (List ℕ)
declared_name (Objective name scale floor) = Some name
declared_name (Resource name weights) = Some name
declared_name (Link name a b two_way weights) = Some name
declared_name (Task name) = Some name
declared_name (Message name sender receivers) = Some name
declared_name (Merge name messages) = Some name
declared_name s = None

-- the name that a statement is about, where it isn't about all
abbrev pub named : Option (List ℕ) → Words
named None = []
named (Some name) = name ∷ []

-- all names that stand in it as whole words, the declared one first
abbrev pub names_in : Statement → Words
names_in (Objective name scale floor) = name ∷ []
names_in (Clock scale floor) = []
names_in (Resource name weights) = name ∷ []
names_in (Link name a b two_way weights) = name ∷ a ∷ b ∷ []
names_in (Traffic link weights) = link ∷ []
names_in (Task name) = name ∷ []
names_in (Message name sender receivers) = name ∷ sender ∷ receivers
names_in (Merge name messages) = name ∷ messages
names_in (Map task resource time weights) = task ∷ resource ∷ []
names_in (Table name index resource keys weights_at) = name ∷ resource ∷ []
names_in (Quantity message amount) = message ∷ []
names_in (QuantityTable name index column rows) = name ∷ []
names_in (Hops message limit) = named message
names_in (Delay message amount) = named message
names_in (Deadline task at) = task ∷ []

-- its words `OBJ=D`
abbrev pub weights_of : Statement → List KeyAmount
weights_of (Resource name weights) = weights
weights_of (Link name a b two_way weights) = weights
weights_of (Traffic link weights) = weights
weights_of (Map task resource time weights) = weights
weights_of s = []

-- a `table` line's words `KEY=N`
abbrev pub keys_of : Statement → List KeyColumn
keys_of (Table name index resource keys weights_at) = keys
keys_of s = []

-- a `table` line's words `OBJ@N`
abbrev pub weights_at_of : Statement → List KeyColumn
weights_at_of (Table name index resource keys weights_at) = weights_at
weights_at_of s = []

-- its time, delay or deadline, all at the clock's scale
abbrev pub time_of : Statement → Option ℤ
time_of (Map task resource time weights) = time
time_of (Delay message amount) = Some amount
time_of (Deadline task at) = Some at
time_of s = None

-- its quantity
abbrev pub quantity_of : Statement → Option ℤ
quantity_of (Quantity message amount) = Some amount
quantity_of s = None

-- its scale
abbrev pub scale_of : Statement → Option ℕ
scale_of (Objective name scale floor) = scale
scale_of (Clock scale floor) = scale
scale_of s = None

-- ---- shapes

-- a declared name is a mark of the grammar
abbrev pub has_arrow_name : Statement → Bool
has_arrow_name s = option_map_or is_arrow (declared_name s) false

-- an objective's name is reserved
abbrev pub has_reserved_name : Statement → Bool
has_reserved_name (Objective name scale floor) = is_reserved name
has_reserved_name s = false

-- a clock after a statement with times
abbrev pub is_late_clock : Seen → Statement → Bool
is_late_clock seen (Clock scale floor) = seen.is_timed
is_late_clock seen s = false

-- ---- numbers below zero

abbrev pub is_negative_weight : KeyAmount → Bool
is_negative_weight w = is_negative w.amount

abbrev pub has_negative_weight : Statement → Bool
has_negative_weight s = list_any is_negative_weight (weights_of s)

abbrev pub has_negative_time : Statement → Bool
has_negative_time s = option_map_or is_negative (time_of s) false

abbrev pub has_negative_quantity : Statement → Bool
has_negative_quantity s = option_map_or is_negative (quantity_of s) false

-- ---- names

-- a name is among those that are declared
abbrev pub is_declared : List (List ℕ) → List ℕ → Bool
is_declared names name = list_any (λ n. bytes_eq n name) names

-- an objective has the name
abbrev pub is_called : List ℕ → Declared → Bool
is_called name o = bytes_eq o.name name

-- the objective with a name
abbrev pub objective_called : List Declared → List ℕ → Option Declared
objective_called objectives name = find (is_called name) objectives

-- a name that is no objective's
abbrev pub is_unknown : List Declared → List ℕ → Bool
is_unknown objectives name = is_none (objective_called objectives name)

abbrev pub is_unknown_weight : List Declared → KeyAmount → Bool
is_unknown_weight objectives w = is_unknown objectives w.key

abbrev pub is_unknown_key : List Declared → KeyColumn → Bool
is_unknown_key objectives k = not (is_table_key k.key) && is_unknown objectives k.key

abbrev pub is_unknown_place : List Declared → KeyColumn → Bool
is_unknown_place objectives k = is_unknown objectives k.key

abbrev pub has_unknown_weight : Seen → Statement → Bool
has_unknown_weight seen s = list_any (is_unknown_weight seen.objectives) (weights_of s)

abbrev pub has_unknown_key : Seen → Statement → Bool
has_unknown_key seen s = list_any (is_unknown_key seen.objectives) (keys_of s)

abbrev pub has_unknown_place : Seen → Statement → Bool
has_unknown_place seen s = list_any (is_unknown_place seen.objectives) (weights_at_of s)

-- a resource or a link that it names isn't declared
abbrev pub has_unknown_resource : Seen → Statement → Bool
has_unknown_resource seen (Link name a b two_way weights) = not (is_declared seen.resources a) || not (is_declared seen.resources b)
has_unknown_resource seen (Map task resource time weights) = not (is_declared seen.resources resource)
has_unknown_resource seen (Table name index resource keys weights_at) = not (is_declared seen.resources resource)
has_unknown_resource seen s = false

abbrev pub has_unknown_link : Seen → Statement → Bool
has_unknown_link seen (Traffic link weights) = not (is_declared seen.links link)
has_unknown_link seen s = false

-- an objective, a resource or a link is declared a second time
abbrev pub is_declared_again : Seen → Statement → Bool
is_declared_again seen (Objective name scale floor) = not (is_unknown seen.objectives name)
is_declared_again seen (Resource name weights) = is_declared seen.resources name
is_declared_again seen (Link name a b two_way weights) = is_declared seen.links name
is_declared_again seen s = false

abbrev pub is_second_clock : Seen → Statement → Bool
is_second_clock seen (Clock scale floor) = is_some seen.clock
is_second_clock seen s = false

-- a word has a key
abbrev pub has_key : {X : Type 0} → (X → List ℕ) → List ℕ → X → Bool
has_key key name word = bytes_eq (key word) name

-- two words have one key
abbrev pub has_repeat : {X : Type 0} → (X → List ℕ) → List X → Bool
has_repeat key [] = false
has_repeat key (word ∷ words) = list_any (has_key key (key word)) words || has_repeat key words

abbrev pub amount_key : KeyAmount → List ℕ
amount_key w = w.key

abbrev pub column_key : KeyColumn → List ℕ
column_key k = k.key

-- A key stands twice among the words with `=`, or among those with `@`. A second `time=` of a `map` line names no
-- objective, so it is refused for that already.
abbrev pub has_repeated_weight : Statement → Bool
has_repeated_weight s = has_repeat amount_key (weights_of s)

abbrev pub has_repeated_key : Statement → Bool
has_repeated_key s = has_repeat column_key (keys_of s)

abbrev pub has_repeated_place : Statement → Bool
has_repeated_place s = has_repeat column_key (weights_at_of s)

-- a link from a resource to itself
abbrev pub is_self_link : Statement → Bool
is_self_link (Link name a b two_way weights) = bytes_eq a b
is_self_link s = false

-- ---- values at their scale

-- a weight has a fraction where its objective allows none
abbrev pub has_fraction_for : ℤ → Declared → Bool
has_fraction_for amount o = not o.floor && nat_lt 0 (fraction_at o.scale amount)

abbrev pub is_fraction : List Declared → KeyAmount → Bool
is_fraction objectives w = option_map_or (has_fraction_for w.amount) (objective_called objectives w.key) false

abbrev pub has_fraction : Seen → Statement → Bool
has_fraction seen s = list_any (is_fraction seen.objectives) (weights_of s)

-- an amount at a scale is above what may stand there
abbrev pub is_above : ℕ → ℤ → Bool
is_above scale amount = nat_lt most_number (at_scale scale amount)

abbrev pub is_above_for : ℤ → Declared → Bool
is_above_for amount o = is_above o.scale amount

abbrev pub is_big_weight : List Declared → KeyAmount → Bool
is_big_weight objectives w = option_map_or (is_above_for w.amount) (objective_called objectives w.key) false

abbrev pub has_big_weight : Seen → Statement → Bool
has_big_weight seen s = list_any (is_big_weight seen.objectives) (weights_of s)

abbrev pub has_big_time : Seen → Statement → Bool
has_big_time seen s = option_map_or (is_above (scale_or_0 seen.clock)) (time_of s) false

abbrev pub has_big_quantity : Statement → Bool
has_big_quantity s = option_map_or (is_above 0) (quantity_of s) false

abbrev pub has_big_scale : Statement → Bool
has_big_scale s = nat_lt 12 (scale_or_0 (scale_of s))

-- ---- limits

abbrev pub is_long_name : List ℕ → Bool
is_long_name name = nat_lt most_name_bytes (length name)

abbrev pub has_long_name : Statement → Bool
has_long_name s = option_map_or is_long_name (declared_name s) false

-- one more objective, resource or link is too many
abbrev pub is_past_resources : Seen → Statement → Bool
is_past_resources seen (Resource name weights) = nat_le most_resources (length seen.resources)
is_past_resources seen s = false

abbrev pub is_past_links : Seen → Statement → Bool
is_past_links seen (Link name a b two_way weights) = nat_le most_links (length seen.links)
is_past_links seen s = false

abbrev pub is_past_objectives : Seen → Statement → Bool
is_past_objectives seen (Objective name scale floor) = nat_le most_objectives (length seen.objectives)
is_past_objectives seen s = false

-- ---- all tests, one for each refusal, in the order of their numbers

-- the shape of a statement isn't allowed
unfoldable pub has_bad_shape : Seen → Statement → Bool
has_bad_shape seen s = has_arrow_name s || has_reserved_name s || is_late_clock seen s

-- a word is no number, or a number is below zero
unfoldable pub has_bad_number : Form → Bool
has_bad_number f = f.misread.bad || has_negative_weight f.statement || has_negative_time f.statement || has_negative_quantity f.statement

-- an objective, a resource or a link isn't declared
unfoldable pub has_unknown_name : Seen → Statement → Bool
has_unknown_name seen s = has_unknown_weight seen s || has_unknown_key seen s || has_unknown_place seen s || has_unknown_resource seen s || has_unknown_link seen s

-- something is declared or written a second time
unfoldable pub has_repeated_name : Seen → Statement → Bool
has_repeated_name seen s = is_declared_again seen s || is_second_clock seen s || has_repeated_weight s || has_repeated_key s || has_repeated_place s

-- a number is too big
unfoldable pub has_big_number : Seen → Form → Bool
has_big_number seen f = f.misread.big || has_big_scale f.statement || has_big_weight seen f.statement || has_big_time seen f.statement || has_big_quantity f.statement

-- a line of no form is refused; one that has a form is tried
unfoldable pub tests : Seen → Option Form → List Test
tests seen None = (BadStatement, true) ∷ []
tests seen (Some f) =
    (BadStatement, has_bad_shape seen f.statement)
    ∷ (BadNumber, has_bad_number f)
    ∷ (UnknownName, has_unknown_name seen f.statement)
    ∷ (RepeatedName, has_repeated_name seen f.statement)
    ∷ (SelfLink, is_self_link f.statement)
    ∷ (NotWhole, has_fraction seen f.statement)
    ∷ (TooBig, has_big_number seen f)
    ∷ (Limit NameBytes, has_long_name f.statement)
    ∷ (Limit Resources, is_past_resources seen f.statement)
    ∷ (Limit Links, is_past_links seen f.statement)
    ∷ (Limit Objectives, is_past_objectives seen f.statement)
    ∷ []
