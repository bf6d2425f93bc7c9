-- Words that are cut in two, and names that may not be declared.
use Rattle.std.specs.Prelude.{ℕ, List, Bool, ◌||◌, ◌&&◌, not, ◌==◌, codes}
use Rattle.std.specs.List.{list_any, list_all, before_first, after_first}
use Rattle.std.specs.Str.{bytes_eq}
use Rattle.line_words.specs.Rules.{Words}

-- `=`
abbrev pub equals : ℕ
equals = 61

-- `@`
abbrev pub at_sign : ℕ
at_sign = 64

-- a byte is the one at which a word is cut
abbrev pub is_mark : ℕ → ℕ → Bool
is_mark mark b = b == mark

-- a word has a mark, and is cut at the first one
abbrev pub is_cut : ℕ → List ℕ → Bool
is_cut mark word = list_any (is_mark mark) word

-- what stands before the first mark
abbrev pub key_of : ℕ → List ℕ → List ℕ
key_of mark word = before_first (is_mark mark) word

-- what stands after the first mark
abbrev pub after_mark : ℕ → List ℕ → List ℕ
after_mark mark word = after_first (is_mark mark) word

-- a word that is cut at `=`
abbrev pub is_keyed : List ℕ → Bool
is_keyed word = is_cut equals word

-- a word that is cut at `@`, since it has no `=`
abbrev pub is_placed : List ℕ → Bool
is_placed word = not (is_cut equals word) && is_cut at_sign word

-- all words are cut at `=`
abbrev pub are_keyed : Words → Bool
are_keyed ws = list_all is_keyed ws

-- all words are cut at `@`
abbrev pub are_placed : Words → Bool
are_placed ws = list_all is_placed ws

-- a word `time=D`
abbrev pub is_time : List ℕ → Bool
is_time word = bytes_eq (key_of equals word) (codes "time")

-- the marks of the grammar, which name nothing
abbrev pub is_arrow : List ℕ → Bool
is_arrow name = bytes_eq name (codes "--") || bytes_eq name (codes "->") || bytes_eq name (codes "-")

-- the keys of a table that name no objective
abbrev pub is_table_key : List ℕ → Bool
is_table_key name = bytes_eq name (codes "time") || bytes_eq name (codes "valid") || bytes_eq name (codes "rows")

-- what an objective may not be called: a table's key, or a name that is cut
abbrev pub is_reserved : List ℕ → Bool
is_reserved name = is_table_key name || is_cut equals name || is_cut at_sign name
