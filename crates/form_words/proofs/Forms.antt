-- A form's command fails by the words exactly where the form gives no line, and else its rows are the line's.
use Rattle.std.proofs.Common.{◌≡◌, ◌&&◌, ◌||◌, ◌∙◌, ℕ, Bool, true, false, not, List, [], ◌∷◌, Option, Some, None, refl, inl, inr, sym, ap, ap₂, subst, map, cond}
use Rattle.std.specs.Prelude.{slice_get, fold, find, option_map, option_and_then}
use Rattle.std.specs.List.{All, list_any, list_all}
use Rattle.std.specs.Str.{IsUtf8, bytes_eq}
use Rattle.clap.specs.Kinds.{Kinds, or_else, check_kinds, IsAmong, HasKind}
use Rattle.clap.specs.Values.{kind_of}
use Rattle.clap.specs.Walk.{Rule, Row, Walk, settled, walked, walk, walk_from, finished, with_default, has_row, nothing_held, first_of}
use Rattle.clap.specs.Faults.{settle_fault, turn_fault, walk_fault, default_fault, given_default_fault, defaults_fault, check_fault, level_fault, fault_of}
use Rattle.clap.specs.Takes.{is_given}
use Rattle.clap.specs.Facts.{explicit_source}
use Rattle.std.specs.Option.{option_map_or}
use Rattle.clap.specs.Simple.{App, Shape, matches_of}
use Rattle.clap.specs.Simple.{HasMatchesOf, is_simple}
use Rattle.clap.specs.Matches.{found_of}
use Rattle.clap.proofs.WalkLemmas.{first_value-rows}
use Rattle.clap.specs.declared.parser.matches.ArgMatches.{ArgMatches}
use Rattle.clap.specs.declared.error.kind.ErrorKind.{ErrorKind}
use Rattle.form_words.specs.Reads.{Reads}
use Rattle.std.proofs.lemmas.List.Elements.{All-head, All-tail, All-nil, All-cons}
use Rattle.std.proofs.Math.Bool.{and_assoc}
use Rattle.clap.specs.declared.error.Error.{Error}
use Rattle.clap.specs.declared.error.kind.ErrorKind.TheVariants as kind
use Rattle.form_words.specs.Commands.{ParsesTo, is_nothing as none}
use Rattle.form_words.specs.Line.{Text, Form, Use, free, uses, line, only_if, has_name, are_new, are_there, value_under}
use Rattle.form_words.specs.Served.{HasPlaces, shape}
use Rattle.form_words.proofs.Walks.{none-or_else, passes, rows_at_end, row, Serves, Agrees, walks}

abbrev pub NoDefaults : List Rule → Type 0
NoDefaults [] = Unit {0}
NoDefaults (r ∷ rs) = (r.defaults ≡ []) × NoDefaults rs

-- the rules are those of the form
pub record Builds (R : List Rule) (f : Form) : Type 0 where
  pub serves : Serves R f.options
  pub places : HasPlaces R 1 f.places
  pub defaults : NoDefaults R
  pub needs : (g : Text → Bool) → not (list_any (λ a. a.required && not (g a.id)) R) ≡ (list_all g f.places && list_all g f.required)

passes_is : (s : Shape) (w : Walk) (words : List Text) → s.args_override_self ≡ false
    → (none (walk_fault s [] w words) && none (settle_fault s.rules false (fold (walked s.rules []) w words).held)) ≡ passes s w words
unfolding walk_fault
passes_is s w [] o = refl
passes_is s w (x ∷ xs) o =
    ap (λ b. b && none (settle_fault s.rules false (fold (walked s.rules []) (walked s.rules [] w x) xs).held)) (none-or_else (turn_fault s [] w x) (walk_fault s [] (walked s.rules [] w x) xs))
    ∙ and_assoc (none (turn_fault s [] w x)) _ _
    ∙ ap (λ b. none (turn_fault s [] w x) && b) (passes_is s (walked s.rules [] w x) xs o)

rows_are : (s : Shape) (w : Walk) (words : List Text) → (settled s.rules (fold (walked s.rules []) w words).held).rows ≡ rows_at_end s w words
rows_are s w [] = refl
rows_are s w (x ∷ xs) = rows_are s (walked s.rules [] w x) xs

no_default : (rows : List Row) (r : Rule) → r.defaults ≡ [] → with_default rows r ≡ rows
no_default rows r e = rw e (elim (has_row r.id rows) as (λ b. cond b rows rows ≡ rows) [ true ↦ refl | false ↦ refl ])

no_defaults : (rows : List Row) (R : List Rule) → NoDefaults R → fold with_default rows R ≡ rows
no_defaults rows [] d = refl
no_defaults rows (r ∷ rs) d = ap (λ x. fold with_default x rs) (no_default rows r d.0) ∙ no_defaults rows rs d.1

no_fault : (rows : List Row) (r : Rule) → r.defaults ≡ [] → default_fault rows r ≡ []
no_fault rows r e = rw e (elim (has_row r.id rows) as (λ b. cond (b || true) [] (given_default_fault r []) ≡ []) [ true ↦ refl | false ↦ refl ])

no_faults : (rows : List Row) (R : List Rule) → NoDefaults R → defaults_fault rows R ≡ []
unfolding defaults_fault
no_faults rows [] d = refl
no_faults rows (r ∷ rs) d = rw (no_fault rows r d.0, no_default rows r d.0) (no_faults rows rs d.1)

given_is : (id : Text) (us : List Use) → is_given id (map row us) ≡ has_name id us
given_is id [] = refl
given_is id (u ∷ us) =
    elim (bytes_eq u.0 id) as (λ b. option_map_or (λ r. explicit_source r.source) (cond b (Some (row u)) (find (λ r. bytes_eq r.id id) (map row us))) false ≡ (b || has_name id us)) [
      | true ↦ refl
      | false ↦ given_is id us
    ]

pub first_is : (id : Text) (us : List Use) → first_of id (map row us) ≡ value_under id us
first_is id [] = refl
first_is id (u ∷ us) =
    elim (bytes_eq u.0 id) as (λ b. option_and_then (λ r. slice_get r.values 0) (cond b (Some (row u)) (find (λ r. bytes_eq r.id id) (map row us)))
    ≡ option_map (λ (x : Use). x.1) (cond b (Some u) (find (λ x. bytes_eq x.0 id) us))) [
      | true ↦ refl
      | false ↦ first_is id us
    ]

check_is : (title : Text) (R : List Rule) (rows : List Row) → none (check_fault (shape title R) rows false) ≡ not (list_any (λ a. a.required && not (is_given a.id rows)) R)
check_is title R rows = elim (list_any (λ a. a.required && not (is_given a.id rows)) R) as (λ b. none (check_kinds false false b) ≡ not b) [ true ↦ refl | false ↦ refl ]

-- what a form's command makes of the words
abbrev pub level : Text → List Rule → List Text → Kinds
level title R words = level_fault (shape title R) [] nothing_held words false []

abbrev pub rows_of_words : List Rule → List Text → List Row
rows_of_words R words = finished R (walk R [] nothing_held words).held

abbrev pub Fits : Option (List Use) → Bool → List Row → Type 0
Fits None ok rows = ok ≡ false
Fits (Some us) ok rows = (ok ≡ true) × (rows ≡ map row us)

level_is : (title : Text) (R : List Rule) (words : List Text) → NoDefaults R
    → none (level title R words) ≡ (passes (shape title R) (walk_from nothing_held) words
    && not (list_any (λ a. a.required && not (is_given a.id (rows_at_end (shape title R) (walk_from nothing_held) words))) R))
level_is title R words d =
    let s = shape title R in
    let end = (walk R [] nothing_held words).held in
    let rows : finished R end ≡ rows_at_end s (walk_from nothing_held) words = no_defaults (settled R end).rows R d ∙ rows_are s (walk_from nothing_held) words in
    let checks : none (check_fault s (finished R end) false) ≡ not (list_any (λ a. a.required && not (is_given a.id (rows_at_end s (walk_from nothing_held) words))) R) =
    check_is title R (finished R end) ∙ ap (λ (r : List Row). not (list_any (λ a. a.required && not (is_given a.id r)) R)) rows in
    let last : none (or_else (defaults_fault (settled R end).rows R) (check_fault s (finished R end) false)) ≡ none (check_fault s (finished R end) false) =
    rw (no_faults (settled R end).rows R d) refl in
    none-or_else (walk_fault s [] (walk_from nothing_held) words) (or_else (settle_fault R false end) (or_else (defaults_fault (settled R end).rows R) (check_fault s (finished R end) false)))
    ∙ ap (λ b. none (walk_fault s [] (walk_from nothing_held) words) && b) (none-or_else (settle_fault R false end)
    (or_else (defaults_fault (settled R end).rows R) (check_fault s (finished R end) false)))
    ∙ sym (and_assoc (none (walk_fault s [] (walk_from nothing_held) words)) (none (settle_fault R false end)) _)
    ∙ ap₂ (λ a b. a && b) (passes_is s (walk_from nothing_held) words refl) (last ∙ checks)

pub form_fits : (title : Text) (R : List Rule) (f : Form) → Builds R f → (words : List Text) → All IsUtf8 words
    → Fits (line f words) (none (level title R words)) (rows_of_words R words)
unfolding line
form_fits title R f b words utf8 = go (uses f.options words f.places free) (walks title R f.options b.serves words utf8 free tt [] 1 f.places b.places)
  where
    end : List Row
    end = rows_at_end (shape title R) (walk_from nothing_held) words

    rows : finished R (walk R [] nothing_held words).held ≡ rows_at_end (shape title R) (walk_from nothing_held) words
    rows = no_defaults (settled R (walk R [] nothing_held words).held).rows R b.defaults ∙ rows_are (shape title R) (walk_from nothing_held) words

    there : (us : List Use) → rows_at_end (shape title R) (walk_from nothing_held) words ≡ map row us
        → not (list_any (λ a. a.required && not (is_given a.id (rows_at_end (shape title R) (walk_from nothing_held) words))) R) ≡ are_there f us
    there us e = rw e (b.needs (λ id. is_given id (map row us)) ∙ ap₂ (λ x y. x && y) (every f.places) (every f.required))
      where
        every : (names : List Text) → list_all (λ id. is_given id (map row us)) names ≡ list_all (λ id. has_name id us) names
        every [] = refl
        every (n ∷ ns) = ap₂ (λ x y. x && y) (given_is n us) (every ns)

    chosen : (us : List Use) (fresh fits : Bool) → none (level title R words) ≡ (fresh && fits) → (fresh ≡ true → rows_at_end (shape title R) (walk_from nothing_held) words ≡ map row us)
        → Fits (only_if (fresh && fits) us) (none (level title R words)) (rows_of_words R words)
    chosen us true true ok same = (ok, rows ∙ same refl)
    chosen us true false ok same = ok
    chosen us false fits ok same = ok

    go : (t : Option (List Use)) → Agrees title R f.options [] (passes (shape title R) (walk_from nothing_held) words) (rows_at_end (shape title R) (walk_from nothing_held) words) t
        → Fits (option_and_then (λ us. only_if (are_new [] us && are_there f us) us) t) (none (level title R words)) (rows_of_words R words)
    go None h = level_is title R words b.defaults ∙ ap (λ x. x && not (list_any (λ a. a.required && not (is_given a.id (rows_at_end (shape title R) (walk_from nothing_held) words))) R)) h
    go (Some us) h = chosen us (are_new [] us) (are_there f us) (level_is title R words b.defaults ∙ both (are_new [] us) refl) (λ e. h.1 (h.0 ∙ e))
      where
        both : (n : Bool) → are_new [] us ≡ n → (passes (shape title R) (walk_from nothing_held) words
            && not (list_any (λ a. a.required && not (is_given a.id (rows_at_end (shape title R) (walk_from nothing_held) words))) R)) ≡ (are_new [] us && are_there f us)
        both true e = ap₂ (λ x y. x && y) h.0 (there us (h.1 (h.0 ∙ e)))
        both false e = rw (h.0, e) refl

-- ---- what a parse gives

none_of : (ks : Kinds) → ks ≡ [] → none ks ≡ true
none_of [] e = refl
none_of (k ∷ ks) e = cc

some_among : (k : ErrorKind) (ks : Kinds) → IsAmong k ks → none ks ≡ false
some_among k [] h = absurd h
some_among k (x ∷ xs) h = refl

pub passed : (app : App) (words : List Text) (m : ArgMatches) → is_simple app ≡ true → fault_of app words ≡ [] → HasMatchesOf app words m → ParsesTo app words (Some m)
passed app words m simple clear has = (none_of (fault_of app words) clear, (has simple).0)

pub refused : (app : App) (words : List Text) (e : Error) → HasKind (fault_of app words) e → (kind_of e ≡ kind.OutOfMemory → ⊥) → ParsesTo app words None
refused app words e (inl memory) other = absurd (other memory)
refused app words e (inr among) other = some_among (kind_of e) (fault_of app words) among

pub parse_reads : (app : App) (title : Text) (R : List Rule) (f : Form) → Builds R f → (words : List Text) → All IsUtf8 words
    → fault_of app words ≡ level title R words → matches_of app words ≡ rows_of_words R words
    → (o : Option ArgMatches) → ParsesTo app words o → Reads f words o
parse_reads app title R f b words utf8 faults rows o parses = go (line f words) refl (form_fits title R f b words utf8) o parses
  where
    go : (t : Option (List Use)) → line f words ≡ t → Fits t (none (level title R words)) (rows_of_words R words) → (o : Option ArgMatches) → ParsesTo app words o → Reads f words o
    go None e h None p = e
    go (Some us) e h None p = let bad : true ≡ false = sym h.0 ∙ ap none (sym faults) ∙ p in cc
    go None e h (Some m) p = let bad : false ≡ true = sym h ∙ ap none (sym faults) ∙ p.0 in cc
    go (Some us) e h (Some m) p = (us, e, λ id. first_value-rows (found_of m) id ∙ ap (first_of id) (p.1 ∙ rows ∙ h.1) ∙ first_is id us)

pub all_mapped : {X : Type 0} (P : List ℕ → Type 0) (f : X → List ℕ) (xs : List X) → All (λ x. P (f x)) xs → All P (map f xs)
all_mapped P f [] h = All-nil P
all_mapped P f (x ∷ xs) h = All-cons P (f x) (map f xs) (All-head (λ x. P (f x)) x xs h) (all_mapped P f xs (All-tail (λ x. P (f x)) x xs h))

pub refused_none : (app : App) (words : List Text) (e : Error) (o : Option ArgMatches) → HasKind (fault_of app words) e → (kind_of e ≡ kind.OutOfMemory → ⊥) → o ≡ None → ParsesTo app words o
refused_none app words e o has other is = subst (ParsesTo app words) (sym is) (refused app words e has other)
