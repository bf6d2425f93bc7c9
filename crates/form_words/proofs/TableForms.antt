-- What the command of a table has, for any table.
use Rattle.std.proofs.Common.{◌≡◌, ◌&&◌, ◌||◌, ◌++◌, ◌+◌, ◌<◌, ◌∙◌, ℕ, suc, zero, Bool, true, false, not, List, [], ◌∷◌, Option, Some, None, refl, sym, ap, ap₂, subst, cond, map, take, drop, length, slice_index_or, arith, add-one}
use Rattle.std.specs.Prelude.{fold}
use Rattle.std.specs.List.{All, list_any, list_all}
use Rattle.std.specs.Str.{IsUtf8, bytes_eq}
use Rattle.std.proofs.lemmas.Slice.Eq.{bytes_eq-Decides}
use Rattle.clap.specs.Walk.{Rule, arg_by_id, arg_by_long, arg_by_short, nothing_held, rows_after}
use Rattle.clap.specs.Faults.{built_fault, fault_of}
use Rattle.clap.specs.Simple.{App, argument_words, matches_of, names_of, with_rule}
use Rattle.clap.proofs.FaultLemmas.{leaf_fault}
use Rattle.clap.specs.declared.parser.matches.ArgMatches.{ArgMatches}
use Rattle.form_words.specs.Line.{Text, has_text}
use Rattle.form_words.specs.Commands.{ParsesTo, bare_app, option_of, place_rule, table_app, with_rules}
use Rattle.form_words.specs.Table.{Table, form_of, needed}
use Rattle.form_words.specs.Reads.{Reads}
use Rattle.form_words.specs.Served.{HaveIds, IsServed, numbered, rules_of, shape, taken, taker}
use Rattle.form_words.proofs.Walks.{ByName}
use Rattle.form_words.proofs.Forms.{Builds, NoDefaults, level, parse_reads, rows_of_words}

-- one more rule of a list
pub more : {X : Type 0} (f : X → Rule) (a : App) (xs : List X) (i : ℕ) (d : X) → i < length xs
    → with_rule (fold with_rule a (map f (take i xs))) (f (slice_index_or xs i d)) ≡ fold with_rule a (map f (take (i + 1) xs))
more {X} f a xs i d lt = rw add-one (go a xs i lt)
  where
    go : (a : App) (xs : List X) (i : ℕ) → i < length xs
        → with_rule (fold with_rule a (map f (take i xs))) (f (slice_index_or xs i d)) ≡ fold with_rule a (map f (take (suc i) xs))
    go a [] i lt = absurd (omega arith)
    go a (y ∷ ys) zero lt = refl
    go a (y ∷ ys) (suc i) lt = go (with_rule a (f y)) ys i (omega arith)

-- the option of a name
abbrev pub option_named : List (Text × Bool) → Text → Option Rule
option_named [] name = None
option_named (o ∷ os) name = cond (bytes_eq o.0 name || false) (Some (taken o)) (option_named os name)

pub names_found : (R : List Rule) (os : List (Text × Bool)) → HaveIds R os → (name : Text) → arg_by_long R name ≡ option_named os name
    → ByName R name (has_text (map (λ o. o.0) os) name)
names_found R [] ids name e = e
names_found R (o ∷ os) ids name e = go (bytes_eq o.0 name) refl (λ f. names_found R os ids.1 name f)
  where
    go : (b : Bool) → bytes_eq o.0 name ≡ b → (arg_by_long R name ≡ option_named os name → ByName R name (has_text (map (λ x. x.0) os) name))
        → ByName R name (bytes_eq o.0 name || has_text (map (λ x. x.0) os) name)
    go true k rest =
        let is = (bytes_eq-Decides o.0 name).0 k in
        let found : arg_by_long R name ≡ Some (taken o) = e ∙ ap (λ b. cond (b || false) (Some (taken o)) (option_named os name)) k in
        let by : ByName R name true = (o.1, subst (λ n. arg_by_long R name ≡ Some (taker n (Some n) None o.1)) is found, subst (λ n. arg_by_id R n ≡ Some (taker n (Some n) None o.1)) is ids.0) in
        subst (λ b. ByName R name (b || has_text (map (λ x. x.0) os) name)) (sym k) by
    go false k rest =
        let found : arg_by_long R name ≡ option_named os name = e ∙ ap (λ b. cond (b || false) (Some (taken o)) (option_named os name)) k in
        subst (λ b. ByName R name (b || has_text (map (λ x. x.0) os) name)) (sym k) (rest found)

-- what has to be there
pub needs_all : (g : Text → Bool) (os : List (Text × Bool)) → not (list_any (λ a. a.required && not (g a.id)) (map taken os)) ≡ list_all g (needed os)
needs_all g [] = refl
needs_all g (o ∷ os) = go o.1 (g o.0) (needs_all g os) ∙ split o.1
  where
    go : (r b : Bool) → not (list_any (λ a. a.required && not (g a.id)) (map taken os)) ≡ list_all g (needed os)
        → not ((r && not b) || list_any (λ a. a.required && not (g a.id)) (map taken os)) ≡ cond r (b && list_all g (needed os)) (list_all g (needed os))
    go false b h = h
    go true true h = h
    go true false h = refl

    split : (r : Bool) → cond r (g o.0 && list_all g (needed os)) (list_all g (needed os)) ≡ list_all g (cond r (o.0 ∷ needed os) (needed os))
    split true = refl
    split false = refl

pub needs_places : (g : Text → Bool) (i : ℕ) (ps : List Text) (R : List Rule)
    → not (list_any (λ a. a.required && not (g a.id)) (numbered i ps ++ R)) ≡ (list_all g ps && not (list_any (λ a. a.required && not (g a.id)) R))
needs_places g i [] R = refl
needs_places g i (p ∷ ps) R = go (g p) (needs_places g (i + 1) ps R)
  where
    go : (b : Bool) → not (list_any (λ a. a.required && not (g a.id)) (numbered (i + 1) ps ++ R)) ≡ (list_all g ps && not (list_any (λ a. a.required && not (g a.id)) R))
        → not (not b || list_any (λ a. a.required && not (g a.id)) (numbered (i + 1) ps ++ R)) ≡ ((b && list_all g ps) && not (list_any (λ a. a.required && not (g a.id)) R))
    go true h = h
    go false h = refl

pub table_needs : (t : Table) (g : Text → Bool) → not (list_any (λ a. a.required && not (g a.id)) (rules_of t)) ≡ (list_all g t.places && list_all g (needed t.options))
table_needs t g = needs_places g 1 t.places (map taken t.options) ∙ ap (λ b. list_all g t.places && b) (needs_all g t.options)

-- ---- what is found among the arguments of a table

long_option : (os : List (Text × Bool)) (name : Text) → arg_by_long (map taken os) name ≡ option_named os name
long_option [] name = refl
long_option (o ∷ os) name = ap (λ x. cond (bytes_eq o.0 name || false) (Some (taken o)) x) (long_option os name)

long_named : (i : ℕ) (ps : List Text) (os : List (Text × Bool)) (name : Text) → arg_by_long (numbered i ps ++ map taken os) name ≡ option_named os name
long_named i [] os name = long_option os name
long_named i (p ∷ ps) os name = long_named (i + 1) ps os name

no_short_option : (os : List (Text × Bool)) (x : ℕ) → arg_by_short (map taken os) x ≡ None
no_short_option [] x = refl
no_short_option (o ∷ os) x = no_short_option os x

no_short : (i : ℕ) (ps : List Text) (os : List (Text × Bool)) (x : ℕ) → arg_by_short (numbered i ps ++ map taken os) x ≡ None
no_short i [] os x = no_short_option os x
no_short i (p ∷ ps) os x = no_short (i + 1) ps os x

no_default_option : (os : List (Text × Bool)) → NoDefaults (map taken os)
no_default_option [] = tt
no_default_option (o ∷ os) = (refl, no_default_option os)

no_default_of : (i : ℕ) (ps : List Text) (os : List (Text × Bool)) → NoDefaults (numbered i ps ++ map taken os)
no_default_of i [] os = no_default_option os
no_default_of i (p ∷ ps) os = (refl, no_default_of (i + 1) ps os)

builds_table : (title : Text) (t : Table) → IsServed title t → Builds (rules_of t) (form_of t)
builds_table title t served = record {
  serves = record {
    by_name = λ name. names_found (rules_of t) t.options served.options name (long_named 1 t.places t.options name);
    by_short = λ x. no_short 1 t.places t.options x;
  };
  places = served.places;
  defaults = no_default_of 1 t.places t.options;
  needs = table_needs t;
}

-- further arguments leave it that the words have no program's name
nameless : (a : App) (rs : List Rule) → (with_rules a rs).top.no_binary_name ≡ a.top.no_binary_name
nameless a [] = refl
nameless a (r ∷ rs) = nameless (with_rule a r) rs

all_words : (title : Text) (t : Table) (words : List Text) → argument_words (table_app title t) words ≡ words
all_words title t words =
    let named : (table_app title t).top.no_binary_name ≡ true =
    nameless (with_rules (bare_app title) (map place_rule t.places)) (map option_of t.options) ∙ nameless (bare_app title) (map place_rule t.places) in
    ap (λ b. cond b words (drop 1 words)) named

-- what a command finds among its words, or none of it, is the line of the table's form
pub table_reads : (title : Text) (t : Table) → IsServed title t → (words : List Text) → All IsUtf8 words → (o : Option ArgMatches)
    → ParsesTo (table_app title t) words o → Reads (form_of t) words o
table_reads title t served words utf8 o parses =
    parse_reads (table_app title t) title (rules_of t) (form_of t) (builds_table title t served) words utf8 faults rows o parses
  where
    made : App
    made = record { top = shape title (rules_of t); subs = [] }

    faults : fault_of (table_app title t) words ≡ level title (rules_of t) words
    faults = ap₂ (λ a ws. built_fault a nothing_held ws) served.built_is (all_words title t words) ∙ leaf_fault made nothing_held words refl

    rows : matches_of (table_app title t) words ≡ rows_of_words (rules_of t) words
    rows = ap₂ (λ (a : App) ws. rows_after a.top.rules (names_of a) ws) served.built_is (all_words title t words)
