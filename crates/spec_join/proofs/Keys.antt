-- The column of a key, found by a search from the front.
use Rattle.std.proofs.Common.{◌≡◌, ℕ, ◌<◌, ◌≤◌, true, false, List, length, get_or, take, Some, None, ap, sym, subst, ◌∙◌, arith, All}
use Rattle.std.specs.Prelude.{option_map}
use Rattle.std.proofs.lemmas.List.{get_or-take, length-take-le, take_all}
use Rattle.spec_model.specs.Spec.{Name}
use Rattle.arch_reader.specs.Tests.{has_key, column_key}
use Rattle.arch_reader.specs.declared.statement.KeyColumn.{KeyColumn}
use Rattle.table_cells.proofs.Searching.{find_first, find_none}
use Rattle.spec_join.specs.Tables.{column_in, column_of}

-- a word has another key
abbrev pub IsOther : Name → KeyColumn → Type 0
IsOther key word = has_key column_key key word ≡ false

other_at : (keys : List KeyColumn) (key : Name) (i k : ℕ) (d : KeyColumn) → i ≤ length keys → k < i → All (IsOther key) (take i keys) → IsOther key (get_or keys k d)
other_at keys key i k d le lt h = ap (has_key column_key key) (sym (get_or-take i keys k d lt)) ∙ h k d (omega (arith, length-take-le i keys le, lt))

-- the first word that has the key
pub column_found : (keys : List KeyColumn) (key : Name) (i : ℕ) (word : KeyColumn) → i < length keys → word ≡ get_or keys i word → has_key column_key key word ≡ true
    → All (IsOther key) (take i keys) → Some word.column ≡ column_of keys key
column_found keys key i word lt e has others =
    let found = find_first (has_key column_key key) keys word i lt (ap (has_key column_key key) (sym e) ∙ has) (λ k low. other_at keys key i k word (omega (arith, lt)) low others) in
    sym (ap (option_map column_in) found ∙ ap (λ (w : KeyColumn). Some w.column) (sym e))

-- no word has it
pub column_missing : (keys : List KeyColumn) (key : Name) (i : ℕ) → length keys ≤ i → All (IsOther key) (take i keys) → None ≡ column_of keys key
column_missing keys key i le others =
    let all : All (IsOther key) keys = subst (All (IsOther key)) (take_all i keys le) others in
    sym (ap (option_map column_in) (find_none (has_key column_key key) keys (record { key = key; column = 0 }) (λ k lt. all k (record { key = key; column = 0 }) lt)))
