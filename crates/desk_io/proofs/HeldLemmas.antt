-- The lists that the code of `held` makes, and what they hold.
use Rattle.std.proofs.Common.{◌≡◌, ℕ, ◌+◌, ◌<◌, suc, zero, Bool, true, false, cond, List, [], ◌∷◌, ◌++◌, length, get_or, take, take_all, drop, ◌-◌, ◌≤◌, ◌↔◌, Option, Some, None, is_some, IsSome, unwrap_or, refl, sym, ◌∙◌, ap, subst, arith}
use Rattle.std.proofs.Math.ListN.{set}
use Rattle.std.proofs.Math.Seq.{map-set_same}
use Rattle.std.specs.List.{position, position_from}
use Rattle.std.specs.Map.{set_value}
use Rattle.std.specs.String.{string_bytes}
use Rattle.std.specs.Str.{bytes_eq}
use Rattle.std.proofs.lemmas.Iterator.Adapters.{position_from-zero}
use Rattle.std.proofs.lemmas.List.{map-append}
use Rattle.std.proofs.lemmas.List.Quantifiers.{position-Some}
use Rattle.desk_io.specs.Files.{HasDistinctNames, file_at, content, Written}
use Rattle.desk_io.specs.MemoryState.{HeldFile, entry_of, entries, has_name}
use Rattle.desk_io.proofs.FilesLemmas.{written_over, written_anew}

none_from : (found : Option ℕ) → is_some found ≡ false → found ≡ None
none_from None e = refl
none_from (Some i) e = cc

-- no place has the name: there is no such file
absent_from : (name : List ℕ) (k : ℕ) (held : List HeldFile) → position_from (has_name name) k held ≡ None → file_at (entries held) name ≡ None
absent_from name k [] = λ e. refl
absent_from name k (f ∷ fs) =
    let go : (b : Bool) → cond b (Some k) (position_from (has_name name) (k + 1) fs) ≡ None → cond b (Some f.1.items) (file_at (entries fs) name) ≡ None =
    elim [ true ↦ λ e. cc | false ↦ λ e. absent_from name (k + 1) fs e ] in
    go (has_name name f)

pub absent : (held : List HeldFile) (name : List ℕ) → None ≡ position (has_name name) held → file_at (entries held) name ≡ None
absent held name at = absent_from name 0 held (sym (position_from-zero (has_name name) held) ∙ sym at)

-- there is no such file: no place has the name
placeless_from : (name : List ℕ) (k : ℕ) (held : List HeldFile) → file_at (entries held) name ≡ None → position_from (has_name name) k held ≡ None
placeless_from name k [] = λ e. refl
placeless_from name k (f ∷ fs) =
    let go : (b : Bool) → cond b (Some f.1.items) (file_at (entries fs) name) ≡ None → cond b (Some k) (position_from (has_name name) (k + 1) fs) ≡ None =
    elim [ true ↦ λ e. cc | false ↦ λ e. placeless_from name (k + 1) fs e ] in
    go (has_name name f)

placeless : (held : List HeldFile) (name : List ℕ) → file_at (entries held) name ≡ None → position (has_name name) held ≡ None
placeless held name gone = position_from-zero (has_name name) held ∙ placeless_from name 0 held gone

pub distinct_none : (held : List HeldFile) → length held < 1 → HasDistinctNames (entries held)
distinct_none [] few = tt
distinct_none (f ∷ fs) few = absurd (omega arith)

-- the files after the first one, as the code has them
abbrev pub others_of : List HeldFile → List HeldFile
others_of held = take (length held - 1) (drop 1 held)

first_others : (held : List HeldFile) (f : HeldFile) → 1 ≤ length held → f ≡ get_or held 0 f → held ≡ f ∷ others_of held
first_others [] f more is = absurd (omega (arith, more))
first_others (g ∷ gs) f more is =
    let whole : take (length (g ∷ gs) - 1) gs ≡ gs = take_all _ gs (omega arith) in
    cc (whole, is)

-- the first file's name is no other's
pub distinct_first : (held : List HeldFile) (f : HeldFile) (name : List ℕ) (found : Option ℕ) → 1 ≤ length held → f ≡ get_or held 0 f → name ≡ string_bytes f.0
    → found ≡ position (has_name name) (others_of held) → is_some found ≡ false → HasDistinctNames (entries (others_of held)) ↔ HasDistinctNames (entries held)
distinct_first held f name found more is named at none =
    let whole = first_others held f more is in
    let alone : file_at (entries (others_of held)) (string_bytes f.0) ≡ None = rw (← named) (absent (others_of held) name (sym (none_from found none) ∙ at)) in (
      (λ distinct. subst (λ h. HasDistinctNames (entries h)) (sym whole) (alone, distinct)),
      (λ distinct. (subst (λ h. HasDistinctNames (entries h)) whole distinct).1),
    )

-- the first file's name is another's too
pub distinct_clash : (held : List HeldFile) (f : HeldFile) (name : List ℕ) (found : Option ℕ) → 1 ≤ length held → f ≡ get_or held 0 f → name ≡ string_bytes f.0
    → found ≡ position (has_name name) (others_of held) → is_some found ≡ true → HasDistinctNames (entries held) → ⊥
distinct_clash held f name found more is named at there distinct =
    let alone = (subst (λ h. HasDistinctNames (entries h)) (first_others held f more is) distinct).0 in
    let none : found ≡ None = at ∙ placeless (others_of held) name (rw named alone) in
    cc

-- the file of a name is at its first place
file_first : (held : List HeldFile) (name : List ℕ) (i : ℕ) (d : HeldFile) → i < length held → has_name name (get_or held i d) ≡ true → ((k : ℕ) → k < i → has_name name (get_or held k d) ≡ false)
    → file_at (entries held) name ≡ Some (get_or held i d).1.items
file_first [] name i d lt is before = absurd (omega (arith, lt))
file_first (f ∷ fs) name zero d lt is before = rw is refl
file_first (f ∷ fs) name (suc i) d lt is before =
    let other : has_name name f ≡ false = before 0 (omega arith) in
    rw other (file_first fs name i d (omega arith) is (λ k h. before (suc k) (omega arith)))

pub file_there : (held : List HeldFile) (name : List ℕ) (i : ℕ) (f : HeldFile) → Some i ≡ position (has_name name) held → f ≡ get_or held i f → file_at (entries held) name ≡ Some f.1.items
file_there held name i f at is =
    let first = position-Some (has_name name) held i f (sym at) in
    file_first held name i f first.0 first.1 first.2 ∙ ap (λ (h : HeldFile). Some h.1.items) (sym is)

-- new bytes at the first place of a name
set_first : (held : List HeldFile) (name : List ℕ) (i : ℕ) (g d : HeldFile) → i < length held → has_name name (get_or held i d) ≡ true → ((k : ℕ) → k < i → has_name name (get_or held k d) ≡ false)
    → string_bytes g.0 ≡ string_bytes (get_or held i d).0 → entries (set held i g) ≡ set_value (bytes_eq name) (entries held) g.1.items
set_first [] name i g d lt is before keeps = absurd (omega (arith, lt))
set_first (f ∷ fs) name zero g d lt is before keeps = rw is (ap (λ n. (n, g.1.items) ∷ entries fs) keeps)
set_first (f ∷ fs) name (suc i) g d lt is before keeps =
    let other : has_name name f ≡ false = before 0 (omega arith) in
    rw other (ap (λ es. entry_of f ∷ es) (set_first fs name i g d (omega arith) is (λ k h. before (suc k) (omega arith)) keeps))

-- the same of the lists that the code makes

pub content_there : (held : List HeldFile) (name : List ℕ) (i : ℕ) (f : HeldFile) → Some i ≡ position (has_name name) held → f ≡ get_or held i f → content (entries held) name ≡ f.1.items
content_there held name i f at is = ap (λ (o : Option (List ℕ)). unwrap_or o []) (file_there held name i f at is)

pub content_absent : (held : List HeldFile) (name : List ℕ) → None ≡ position (has_name name) held → content (entries held) name ≡ []
content_absent held name at = ap (λ (o : Option (List ℕ)). unwrap_or o []) (absent held name at)

pub written_in_place : (held : List HeldFile) (name : List ℕ) (i : ℕ) (g f : HeldFile) (bytes : List ℕ) → HasDistinctNames (entries held) → Some i ≡ position (has_name name) held
    → f ≡ get_or held i f → g.0 ≡ f.0 → g.1.items ≡ bytes → Written (entries held) (entries (set held i g)) name bytes
written_in_place held name i g f bytes distinct at is keeps holds =
    let first = position-Some (has_name name) held i f (sym at) in
    let there : IsSome (file_at (entries held) name) = rw (file_there held name i f at is) refl in
    let made = set_first held name i g f first.0 first.1 first.2 (ap string_bytes (keeps ∙ ap (λ (h : HeldFile). h.0) is)) in
    rw (made, holds) (written_over (entries held) name bytes distinct there)

pub written_at_end : (held : List HeldFile) (name : List ℕ) (g : HeldFile) (bytes : List ℕ) → HasDistinctNames (entries held) → None ≡ position (has_name name) held → string_bytes g.0 ≡ name
    → g.1.items ≡ bytes → Written (entries held) (entries (held ++ g ∷ [])) name bytes
written_at_end held name g bytes distinct at is holds =
    let made : entries (held ++ g ∷ []) ≡ entries held ++ (name, bytes) ∷ [] = map-append entry_of held (g ∷ []) ∙ rw (is, holds) refl in
    rw made (written_anew (entries held) name bytes distinct (absent held name at))

-- a place whose name and bytes are as before
pub entries-set_same : (held : List HeldFile) (i : ℕ) (g f : HeldFile) → f ≡ get_or held i f → g.0 ≡ f.0 → g.1.items ≡ f.1.items → entries (set held i g) ≡ entries held
entries-set_same held i g f is name bytes =
    let same_entry : entry_of g ≡ entry_of (get_or held i f) = cc in
    map-set_same entry_of held i g f same_entry
