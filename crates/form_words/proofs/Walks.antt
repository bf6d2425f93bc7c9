-- What clap's walk makes of the words, as `uses` says it.
use Rattle.std.proofs.Common.{◌≡◌, ◌⊎◌, ◌==◌, ◌&&◌, ◌||◌, ◌++◌, ◌+◌, ◌∙◌, ℕ, suc, Bool, true, false, not, List, [], ◌∷◌, Option, Some, None, append_assoc, refl, inl, inr, sym, ap, arith, map, length, cond}
use Rattle.std.specs.Prelude.{min, slice_get}
use Rattle.std.specs.Str.{IsUtf8}
use Rattle.std.proofs.lemmas.Slice.Eq.{bytes_eq-Decides}
use Rattle.std.specs.Prelude.{encode_utf8_all}
use Rattle.std.specs.Char.{encode_utf8}
use Rattle.std.proofs.lemmas.Bool.Decides.{nat_tests}
use Rattle.std.proofs.lemmas.Str.{encodes-chars, chars_past_char}
use Rattle.std.specs.List.{All}
use Rattle.std.proofs.lemmas.List.Elements.{All-head, All-tail}
use Rattle.std.specs.Str.{bytes_eq, chars}
use Rattle.std.proofs.lemmas.Bool.{or_parts}
use Rattle.std.proofs.Math.Bool.{and_assoc, and-true, and-false}
use Rattle.clap.specs.Lexer.{long_of, short_of, usize_max}
use Rattle.clap.specs.Kinds.{Kinds, or_else}
use Rattle.clap.specs.Walk.{Held, Rule, Row, Walk, arg_by_id, arg_by_index, arg_by_long, arg_by_short, settled, walked, idle, option as waits_for, is_pending, settled_rows, Waiting, value, to_positional, pushed, has_row, more_values, at_row, with_values, without, used, reading_by}
use Rattle.clap.specs.Faults.{settle_fault, turn_fault, step_fault, use_fault, flags_fault}
use Rattle.clap.specs.Simple.{Shape}
use Rattle.clap.specs.declared.error.kind.ErrorKind.TheVariants as kind
use Rattle.clap.specs.declared.parser.matches.ValueSource.TheVariants.{CommandLine}
use Rattle.form_words.specs.Commands.{is_nothing as none}
use Rattle.form_words.specs.Served.{HasPlaces, shape, taker}
use Rattle.form_words.specs.Line.{Text, Use, Look, has_text, ends, option, dashed, plain, Mode, free, after, ended, look, look_long, look_second, uses, has_name, are_new, onto, by_look, by_mode, at_place, as_value, by_name}

pub none-or_else : (a b : Kinds) → none (or_else a b) ≡ (none a && none b)
none-or_else [] b = refl
none-or_else (k ∷ ks) b = refl

-- the faults of the words and of the end
abbrev pub passes : Shape → Walk → List Text → Bool
passes s w [] = none (settle_fault s.rules false w.held)
passes s w (x ∷ xs) = none (turn_fault s [] w x) && passes s (walked s.rules [] w x) xs

abbrev pub rows_at_end : Shape → Walk → List Text → List Row
rows_at_end s w [] = (settled s.rules w.held).rows
rows_at_end s w (x ∷ xs) = rows_at_end s (walked s.rules [] w x) xs

-- the row of a use
abbrev pub row : Use → Row
row u = record { id = u.0; values = u.1 ∷ []; count = None; source = Some CommandLine; reading = reading_by (taker u.0 None None false) }

pub fault_new : (id : Text) (long : Option Text) (index : Option ℕ) (required : Bool) (v : Text) (rows : List Row)
    → none (use_fault false (taker id long index required) (v ∷ []) rows) ≡ not (has_row id rows)
fault_new id long index required v rows =
    elim (has_row id rows) as (λ b. none (or_else (cond (b && true) (kind.ArgumentConflict ∷ []) []) []) ≡ not b) [ true ↦ refl | false ↦ refl ]

-- a row that isn't there goes to the end
row_at_end : (id : Text) (change : Row → List Row) (missing rows : List Row) → has_row id rows ≡ false → at_row id change missing rows ≡ rows ++ missing
row_at_end id change missing [] e = refl
row_at_end id change missing (r ∷ rs) e =
    let both = or_parts (bytes_eq r.id id) (has_row id rs) e in
    rw both.0 (ap (λ t. r ∷ t) (row_at_end id change missing rs both.1))

pub append_nil : {X : Type 0} (xs : List X) → xs ++ [] ≡ xs
append_nil [] = refl
append_nil (x ∷ xs) = ap (λ t. x ∷ t) (append_nil xs)

pub used_new : (id : Text) (long : Option Text) (index : Option ℕ) (required : Bool) (v : Text) (rows : List Row) → has_row id rows ≡ false
    → used (taker id long index required) (v ∷ []) rows ≡ rows ++ row (id, v) ∷ []
used_new id long index required v rows e =
    let gone : without id rows ≡ rows = row_at_end id (λ _. []) [] rows e ∙ append_nil rows in
    ap (with_values id (row (id, v)).reading CommandLine (v ∷ [])) gone ∙ row_at_end id (more_values CommandLine (v ∷ [])) (row (id, v) ∷ []) rows e

pub rows_have : (id : Text) (us : List Use) → has_row id (map row us) ≡ has_name id us
rows_have id [] = refl
rows_have id (u ∷ us) = ap (λ b. bytes_eq u.0 id || b) (rows_have id us)

-- ---- what a word looks like

abbrev pub hyphens : Text
hyphens = 45 ∷ 45 ∷ []

abbrev pub Looks : Text → Look → Type 0
Looks w ends = bytes_eq w hyphens ≡ true
Looks w (option name v) = (bytes_eq w hyphens ≡ false) × (long_of w ≡ Some (name, v))
Looks w dashed = (bytes_eq w hyphens ≡ false) × (long_of w ≡ None) × ((x : ℕ) × (xs : Text) × (short_of w ≡ Some (x ∷ xs)) × (w ≡ 45 ∷ x ∷ xs))
Looks w plain = (bytes_eq w hyphens ≡ false) × (long_of w ≡ None) × (short_of w ≡ None)

looks_long : (bs : Text) → Looks (45 ∷ 45 ∷ bs) (look_long bs)
looks_long [] = refl
looks_long (x ∷ xs) = (refl, refl)

looks_second : (bs : Text) → Looks (45 ∷ bs) (look_second bs)
looks_second [] = (refl, refl, refl)
looks_second (b ∷ bs) = go (b == 45) refl
  where
    go : (t : Bool) → (b == 45) ≡ t → Looks (45 ∷ b ∷ bs) (cond t (look_long bs) dashed)
    go true e = let is : b ≡ 45 = grind (arith, nat_tests) in rw is (looks_long bs)
    go false e = (rw e refl, rw e refl, (b, bs, rw e refl, refl))

pub looks : (w : Text) → Looks w (look w)
looks [] = (refl, refl, refl)
looks (b ∷ bs) = go (b == 45) refl
  where
    go : (t : Bool) → (b == 45) ≡ t → Looks (b ∷ bs) (cond t (look_second bs) plain)
    go true e = let is : b ≡ 45 = grind (arith, nat_tests) in rw is (looks_second bs)
    go false e = (rw e refl, rw e refl, rw e refl)

-- a text that is not empty has a first character
pub first_char : (x : ℕ) (xs : Text) → IsUtf8 (45 ∷ x ∷ xs) → (y : ℕ) × (slice_get (chars (x ∷ xs)) 0 ≡ Some y)
unfolding encode_utf8
first_char x xs u = go (chars (x ∷ xs)) (chars_past_char (45 ∷ x ∷ xs) (x ∷ xs) 45 u refl) (encodes-chars (45 ∷ x ∷ xs) u)
  where
    go : (cs : List ℕ) → chars (45 ∷ x ∷ xs) ≡ 45 ∷ cs → encode_utf8_all (chars (45 ∷ x ∷ xs)) ≡ 45 ∷ x ∷ xs → (y : ℕ) × (slice_get cs 0 ≡ Some y)
    go [] is e =
        let short : encode_utf8_all (45 ∷ []) ≡ 45 ∷ x ∷ xs = rw is at e in
        let n : 1 ≡ length (45 ∷ x ∷ xs) = ap length short in
        absurd (omega arith)
    go (c ∷ cs) is e = (c, refl)

-- ---- what the rules of a form have

abbrev pub ByName : List Rule → Text → Bool → Type 0
ByName R name true = (required : Bool) × (arg_by_long R name ≡ Some (taker name (Some name) None required)) × (arg_by_id R name ≡ Some (taker name (Some name) None required))
ByName R name false = arg_by_long R name ≡ None

pub record Serves (R : List Rule) (options : List Text) : Type 0 where
  pub by_name : (name : Text) → ByName R name (has_text options name)
  pub by_short : (x : ℕ) → arg_by_short R x ≡ None

same_text : (t : Text) → bytes_eq t t ≡ true
same_text t = (bytes_eq-Decides t t).1 refl

-- ---- one word

abbrev pub Pending : Type 0
Pending = Option (Text × List Text)

abbrev pub held : List Row → Pending → Held
held rows pending = record { rows = rows; pending = pending; skip = 0 }

abbrev pub state : List Row → Pending → Waiting → Bool → ℕ → Walk
state rows pending waiting trailing p =
    record { held = held rows pending; waiting = waiting; position = p; is_trailing = trailing; stopped = None }

module _ (title : Text) (R : List Rule) (options : List Text) where
  abbrev pub s : Shape
  s = shape title R

  abbrev pub settles : List Row → Pending → Bool
  settles rows pending = none (settle_fault R false (held rows pending))

  -- a value goes to a place

  no_place : (p : ℕ) (h : Held) → arg_by_index R p ≡ None → none (step_fault s p h value) ≡ false
  no_place p h e = rw e refl

  place_turn : (p : ℕ) (rows : List Row) (pending : Pending) (id : Text) (i : Option ℕ) (required : Bool) → arg_by_index R p ≡ Some (taker id None i required)
      → none (step_fault s p (held rows pending) value) ≡ settles rows pending
  place_turn p rows pending id i required e = rw e (
      elim (is_pending (taker id None i required) pending)
      as (λ b. none (cond (b && false) [] (settle_fault R false (held rows pending))) ≡ settles rows pending) [ true ↦ refl | false ↦ refl ]
      )

  place_next : (p : ℕ) (x : Text) (rows : List Row) (pending : Pending) (waiting : Waiting) (t : Bool) (id : Text) (i : Option ℕ) (required : Bool)
      → arg_by_index R p ≡ Some (taker id None i required)
      → to_positional R (arg_by_index R p) x (state rows pending waiting t p) (held rows pending)
      ≡ state (settled_rows R pending rows) (Some (id, x ∷ [])) idle t (min (p + 1) usize_max)
  place_next p x rows pending waiting t id i required e = rw e (
      elim (is_pending (taker id None i required) pending)
      as (λ b. record {
        held = pushed id x (cond (b && false) (held rows pending) (settled R (held rows pending)));
        waiting = idle;
        position = min (p + 1) usize_max;
        is_trailing = t || false;
        stopped = None;
      } ≡ state (settled_rows R pending rows) (Some (id, x ∷ [])) idle t (min (p + 1) usize_max)) [
        | true ↦ same_end t
        | false ↦ same_end t
      ]
      )
    where
      same_end : (t : Bool) → state (settled_rows R pending rows) (Some (id, x ∷ [])) idle (t || false) (min (p + 1) usize_max)
          ≡ state (settled_rows R pending rows) (Some (id, x ∷ [])) idle t (min (p + 1) usize_max)
      same_end true = refl
      same_end false = refl

  -- after `--`

  ended_next : (rows : List Row) (pending : Pending) (waiting : Waiting) (p : ℕ) (x : Text)
      → walked R [] (state rows pending waiting true p) x ≡ to_positional R (arg_by_index R p) x (state rows pending waiting true p) (held rows pending)
  unfolding walked
  ended_next rows pending waiting p x = refl

  -- before

  ends_turn : (rows : List Row) (pending : Pending) (waiting : Waiting) (p : ℕ) (x : Text) → (waiting ≡ idle) ⊎ ((o : Text) × (waiting ≡ waits_for o)) → bytes_eq x hyphens ≡ true
      → none (turn_fault s [] (state rows pending waiting false p) x) ≡ true
  ends_turn rows pending waiting p x (inl w) e = rw (w, e) refl
  ends_turn rows pending waiting p x (inr w) e = rw (w.1, e) refl

  ends_next : (rows : List Row) (pending : Pending) (waiting : Waiting) (p : ℕ) (x : Text) → (waiting ≡ idle) ⊎ ((o : Text) × (waiting ≡ waits_for o)) → bytes_eq x hyphens ≡ true
      → walked R [] (state rows pending waiting false p) x ≡ state rows pending waiting true p
  unfolding walked
  ends_next rows pending waiting p x (inl w) e = rw (w, e) refl
  ends_next rows pending waiting p x (inr w) e = rw (w.1, e) refl

  abbrev Asks : Waiting → Type 0
  Asks waiting = (waiting ≡ idle) ⊎ ((o : Text) × (waiting ≡ waits_for o))

  unknown_turn : (rows : List Row) (pending : Pending) (waiting : Waiting) (p : ℕ) (x n : Text) (v : Option Text) → Asks waiting
      → bytes_eq x hyphens ≡ false → long_of x ≡ Some (n, v) → arg_by_long R n ≡ None
      → none (turn_fault s [] (state rows pending waiting false p) x) ≡ false
  unknown_turn rows pending waiting p x n v (inl w) e l a = rw (w, e, l, a) refl
  unknown_turn rows pending waiting p x n v (inr w) e l a = rw (w.1, e, l, a) refl

  given_turn : (rows : List Row) (pending : Pending) (waiting : Waiting) (p : ℕ) (x n v : Text) (long : Option Text) (i : Option ℕ) (required : Bool) → Asks waiting
      → bytes_eq x hyphens ≡ false → long_of x ≡ Some (n, Some v) → arg_by_long R n ≡ Some (taker n long i required)
      → none (turn_fault s [] (state rows pending waiting false p) x)
      ≡ (settles rows pending && none (use_fault false (taker n long i required) (v ∷ []) (settled_rows R pending rows)))
  given_turn rows pending waiting p x n v long i required (inl w) e l a =
      rw (w, e, l, a) (none-or_else (or_else (settle_fault R false (held rows pending)) (use_fault false (taker n long i required) (v ∷ []) (settled_rows R pending rows))) [] ∙ and-true _
      ∙ none-or_else _ _)
  given_turn rows pending waiting p x n v long i required (inr w) e l a =
      rw (w.1, e, l, a) (none-or_else (or_else (settle_fault R false (held rows pending)) (use_fault false (taker n long i required) (v ∷ []) (settled_rows R pending rows))) [] ∙ and-true _
      ∙ none-or_else _ _)

  given_next : (rows : List Row) (pending : Pending) (waiting : Waiting) (p : ℕ) (x n v : Text) (long : Option Text) (i : Option ℕ) (required : Bool) → Asks waiting
      → bytes_eq x hyphens ≡ false → long_of x ≡ Some (n, Some v) → arg_by_long R n ≡ Some (taker n long i required)
      → walked R [] (state rows pending waiting false p) x
      ≡ state (used (taker n long i required) (v ∷ []) (settled_rows R pending rows)) None idle false p
  unfolding walked
  given_next rows pending waiting p x n v long i required (inl w) e l a = rw (w, e, l, a) refl
  given_next rows pending waiting p x n v long i required (inr w) e l a = rw (w.1, e, l, a) refl

  named_turn : (rows : List Row) (pending : Pending) (waiting : Waiting) (p : ℕ) (x n : Text) (long : Option Text) (i : Option ℕ) (required : Bool) → Asks waiting
      → bytes_eq x hyphens ≡ false → long_of x ≡ Some (n, None) → arg_by_long R n ≡ Some (taker n long i required)
      → none (turn_fault s [] (state rows pending waiting false p) x) ≡ settles rows pending
  named_turn rows pending waiting p x n long i required (inl w) e l a = rw (w, e, l, a) (none-or_else (settle_fault R false (held rows pending)) [] ∙ and-true _)
  named_turn rows pending waiting p x n long i required (inr w) e l a = rw (w.1, e, l, a) (none-or_else (settle_fault R false (held rows pending)) [] ∙ and-true _)

  named_next : (rows : List Row) (pending : Pending) (waiting : Waiting) (p : ℕ) (x n : Text) (long : Option Text) (i : Option ℕ) (required : Bool) → Asks waiting
      → bytes_eq x hyphens ≡ false → long_of x ≡ Some (n, None) → arg_by_long R n ≡ Some (taker n long i required)
      → walked R [] (state rows pending waiting false p) x ≡ state (settled_rows R pending rows) (Some (n, [])) (waits_for n) false p
  unfolding walked
  named_next rows pending waiting p x n long i required (inl w) e l a = rw (w, e, l, a) refl
  named_next rows pending waiting p x n long i required (inr w) e l a = rw (w.1, e, l, a) refl

  bundle_none : (h : Held) (y : ℕ) (x : ℕ) (xs : Text) → ((c : ℕ) → arg_by_short R c ≡ None) → slice_get (chars (x ∷ xs)) 0 ≡ Some y
      → flags_fault R false (suc (length xs)) (x ∷ xs) 0 h ≡ kind.UnknownArgument ∷ []
  unfolding flags_fault
  bundle_none h y x xs short first = rw (first, short y) refl

  dashed_turn : (rows : List Row) (pending : Pending) (waiting : Waiting) (p : ℕ) (w : Text) (x : ℕ) (xs : Text) (y : ℕ) → Asks waiting
      → bytes_eq w hyphens ≡ false → long_of w ≡ None → short_of w ≡ Some (x ∷ xs) → slice_get (chars (x ∷ xs)) 0 ≡ Some y → ((c : ℕ) → arg_by_short R c ≡ None)
      → none (turn_fault s [] (state rows pending waiting false p) w) ≡ false
  dashed_turn rows pending waiting p w x xs y (inl a) e l t first short = rw (a, e, l, t, bundle_none (held rows pending) y x xs short first) refl
  dashed_turn rows pending waiting p w x xs y (inr a) e l t first short = rw (a.1, e, l, t, bundle_none (held rows pending) y x xs short first) refl

  plain_turn : (rows : List Row) (pending : Pending) (p : ℕ) (x : Text) → bytes_eq x hyphens ≡ false → long_of x ≡ None → short_of x ≡ None
      → none (turn_fault s [] (state rows pending idle false p) x) ≡ none (step_fault s p (held rows pending) value)
  plain_turn rows pending p x e l t = rw (e, l, t) refl

  plain_next : (rows : List Row) (pending : Pending) (p : ℕ) (x : Text) → bytes_eq x hyphens ≡ false → long_of x ≡ None → short_of x ≡ None
      → walked R [] (state rows pending idle false p) x ≡ to_positional R (arg_by_index R p) x (state rows pending idle false p) (held rows pending)
  unfolding walked
  plain_next rows pending p x e l t = rw (e, l, t) refl

  value_turn : (rows : List Row) (o : Text) (p : ℕ) (x : Text) → bytes_eq x hyphens ≡ false → long_of x ≡ None → short_of x ≡ None
      → none (turn_fault s [] (state rows (Some (o, [])) (waits_for o) false p) x) ≡ true
  value_turn rows o p x e l t = rw (e, l, t) refl

  value_next : (rows : List Row) (o : Text) (p : ℕ) (x : Text) (long : Option Text) (i : Option ℕ) (required : Bool) → bytes_eq x hyphens ≡ false → long_of x ≡ None → short_of x ≡ None
      → arg_by_id R o ≡ Some (taker o long i required)
      → walked R [] (state rows (Some (o, [])) (waits_for o) false p) x ≡ state rows (Some (o, x ∷ [])) idle false p
  unfolding walked
  value_next rows o p x long i required e l t a = rw (e, l, t, a, same_text o) refl

  step_passes : (w nw : Walk) (x : Text) (xs : List Text) (t : Bool) → none (turn_fault s [] w x) ≡ t → walked R [] w x ≡ nw → passes s w (x ∷ xs) ≡ (t && passes s nw xs)
  step_passes w nw x xs t e n = rw (e, n) refl

  step_rows : (w nw : Walk) (x : Text) (xs : List Text) → walked R [] w x ≡ nw → rows_at_end s w (x ∷ xs) ≡ rows_at_end s nw xs
  step_rows w nw x xs n = rw n refl

  step_fails : (w : Walk) (x : Text) (xs : List Text) → none (turn_fault s [] w x) ≡ false → passes s w (x ∷ xs) ≡ false
  step_fails w x xs e = rw e refl

  -- ---- a value that waits is as good as one that is used

  abbrev Lags : Bool → Bool → Bool → List Row → List Row → Type 0
  Lags ok later settled rows later_rows = (ok ≡ (settled && later)) × (ok ≡ true → rows ≡ later_rows)

  lag_fails : (ok later settled : Bool) (rows later_rows : List Row) → ok ≡ false → later ≡ false → Lags ok later settled rows later_rows
  lag_fails ok later settled rows later_rows e l = (e ∙ sym (ap (λ b. settled && b) l ∙ and-false settled), λ t. let bad : false ≡ true = sym e ∙ t in cc)

  abbrev LagsAt : List Row → Pending → Waiting → Bool → ℕ → List Text → Type 0
  LagsAt rows pending waiting t p words = Lags (passes s (state rows pending waiting t p) words) (passes s (state (settled_rows R pending rows) None waiting t p) words) (settles rows pending)
      (rows_at_end s (state rows pending waiting t p) words) (rows_at_end s (state (settled_rows R pending rows) None waiting t p) words)

  -- both go on in the same way
  lag_joins : (rows : List Row) (pending : Pending) (waiting : Waiting) (t : Bool) (p : ℕ) (x : Text) (xs : List Text) (nw : Walk)
      → none (turn_fault s [] (state rows pending waiting t p) x) ≡ settles rows pending → walked R [] (state rows pending waiting t p) x ≡ nw
      → none (turn_fault s [] (state (settled_rows R pending rows) None waiting t p) x) ≡ true → walked R [] (state (settled_rows R pending rows) None waiting t p) x ≡ nw
      → LagsAt rows pending waiting t p (x ∷ xs)
  lag_joins rows pending waiting t p x xs nw t1 n1 t2 n2 = (
    step_passes _ nw x xs _ t1 n1 ∙ ap (λ b. settles rows pending && b) (sym (step_passes _ nw x xs true t2 n2)),
    λ _. step_rows _ nw x xs n1 ∙ sym (step_rows _ nw x xs n2),
  )

  lag_ended : (words : List Text) (rows : List Row) (pending : Pending) (waiting : Waiting) (p : ℕ) (places : List Text) → HasPlaces R p places → LagsAt rows pending waiting true p words
  lag_ended [] rows pending waiting p places has = (sym (and-true _), λ _. refl)
  lag_ended (x ∷ xs) rows pending waiting p [] has =
      lag_fails _ _ _ _ _ (step_fails (state rows pending waiting true p) x xs (no_place p (held rows pending) has))
      (step_fails (state (settled_rows R pending rows) None waiting true p) x xs (no_place p (held (settled_rows R pending rows) None) has))
  lag_ended (x ∷ xs) rows pending waiting p (id ∷ ids) has =
      lag_joins rows pending waiting true p x xs (state (settled_rows R pending rows) (Some (id, x ∷ [])) idle true (min (p + 1) usize_max))
      (place_turn p rows pending id (Some p) true has.0)
      (ended_next rows pending waiting p x ∙ place_next p x rows pending waiting true id (Some p) true has.0)
      (place_turn p (settled_rows R pending rows) None id (Some p) true has.0)
      (ended_next (settled_rows R pending rows) None waiting p x ∙ place_next p x (settled_rows R pending rows) None waiting true id (Some p) true has.0)

  lag_free : Serves R options → (words : List Text) → All IsUtf8 words → (rows : List Row) (pending : Pending) (p : ℕ) (places : List Text) → HasPlaces R p places
      → LagsAt rows pending idle false p words
  lag_free serves [] utf8 rows pending p places has = (sym (and-true _), λ _. refl)
  lag_free serves (x ∷ xs) utf8 rows pending p places has = by_look_of (look x) (looks x) places has
    where
      later : List Row
      later = settled_rows R pending rows

      both_fail : none (turn_fault s [] (state rows pending idle false p) x) ≡ false → none (turn_fault s [] (state (settled_rows R pending rows) None idle false p) x) ≡ false
          → LagsAt rows pending idle false p (x ∷ xs)
      both_fail a b = lag_fails _ _ _ _ _ (step_fails (state rows pending idle false p) x xs a) (step_fails (state (settled_rows R pending rows) None idle false p) x xs b)

      by_value : (places : List Text) → HasPlaces R p places → bytes_eq x hyphens ≡ false → long_of x ≡ None → short_of x ≡ None → LagsAt rows pending idle false p (x ∷ xs)
      by_value [] has e l t = both_fail (plain_turn rows pending p x e l t ∙ no_place p (held rows pending) has)
          (plain_turn (settled_rows R pending rows) None p x e l t ∙ no_place p (held (settled_rows R pending rows) None) has)
      by_value (id ∷ ids) has e l t =
          lag_joins rows pending idle false p x xs (state (settled_rows R pending rows) (Some (id, x ∷ [])) idle false (min (p + 1) usize_max))
          (plain_turn rows pending p x e l t ∙ place_turn p rows pending id (Some p) true has.0)
          (plain_next rows pending p x e l t ∙ place_next p x rows pending idle false id (Some p) true has.0)
          (plain_turn (settled_rows R pending rows) None p x e l t ∙ place_turn p (settled_rows R pending rows) None id (Some p) true has.0)
          (plain_next (settled_rows R pending rows) None p x e l t ∙ place_next p x (settled_rows R pending rows) None idle false id (Some p) true has.0)

      by_option : (n : Text) (v : Option Text) (b : Bool) → ByName R n b → bytes_eq x hyphens ≡ false → long_of x ≡ Some (n, v) → LagsAt rows pending idle false p (x ∷ xs)
      by_option n v false by e l = both_fail (unknown_turn rows pending idle p x n v (inl refl) e l by) (unknown_turn (settled_rows R pending rows) None idle p x n v (inl refl) e l by)
      by_option n None true by e l =
          lag_joins rows pending idle false p x xs (state (settled_rows R pending rows) (Some (n, [])) (waits_for n) false p)
          (named_turn rows pending idle p x n (Some n) None by.0 (inl refl) e l by.1)
          (named_next rows pending idle p x n (Some n) None by.0 (inl refl) e l by.1)
          (named_turn (settled_rows R pending rows) None idle p x n (Some n) None by.0 (inl refl) e l by.1)
          (named_next (settled_rows R pending rows) None idle p x n (Some n) None by.0 (inl refl) e l by.1)
      by_option n (Some v) true by e l =
          let f = none (use_fault false (taker n (Some n) None by.0) (v ∷ []) (settled_rows R pending rows)) in
          let nw = state (used (taker n (Some n) None by.0) (v ∷ []) (settled_rows R pending rows)) None idle false p in
          let l1 : passes s (state rows pending idle false p) (x ∷ xs) ≡ ((settles rows pending && f) && passes s nw xs) = step_passes (state rows pending idle false p) nw x xs _
          (given_turn rows pending idle p x n v (Some n) None by.0 (inl refl) e l by.1)
          (given_next rows pending idle p x n v (Some n) None by.0 (inl refl) e l by.1) in
          let l2 : passes s (state (settled_rows R pending rows) None idle false p) (x ∷ xs) ≡ ((true && f) && passes s nw xs) =
          step_passes (state (settled_rows R pending rows) None idle false p) nw x xs _
          (given_turn (settled_rows R pending rows) None idle p x n v (Some n) None by.0 (inl refl) e l by.1)
          (given_next (settled_rows R pending rows) None idle p x n v (Some n) None by.0 (inl refl) e l by.1) in (
            l1 ∙ and_assoc (settles rows pending) f (passes s nw xs) ∙ ap (λ b. settles rows pending && b) (sym l2),
            λ _. step_rows (state rows pending idle false p) nw x xs (given_next rows pending idle p x n v (Some n) None by.0 (inl refl) e l by.1)
                ∙ sym (step_rows (state (settled_rows R pending rows) None idle false p) nw x xs (given_next (settled_rows R pending rows) None idle p x n v (Some n) None by.0 (inl refl) e l by.1)),
          )

      by_look_of : (l : Look) → Looks x l → (places : List Text) → HasPlaces R p places → LagsAt rows pending idle false p (x ∷ xs)
      by_look_of ends k places has =
          let rest = lag_ended xs rows pending idle p places has in
          let l1 = step_passes (state rows pending idle false p) (state rows pending idle true p) x xs true (ends_turn rows pending idle p x (inl refl) k)
          (ends_next rows pending idle p x (inl refl) k) in
          let l2 = step_passes (state (settled_rows R pending rows) None idle false p) (state (settled_rows R pending rows) None idle true p) x xs true
          (ends_turn (settled_rows R pending rows) None idle p x (inl refl) k) (ends_next (settled_rows R pending rows) None idle p x (inl refl) k) in (
            l1 ∙ rest.0 ∙ ap (λ b. settles rows pending && b) (sym l2),
            λ ok. step_rows (state rows pending idle false p) (state rows pending idle true p) x xs (ends_next rows pending idle p x (inl refl) k)
                ∙ rest.1 (sym l1 ∙ ok)
                ∙ sym (step_rows (state (settled_rows R pending rows) None idle false p) (state (settled_rows R pending rows) None idle true p) x xs
                (ends_next (settled_rows R pending rows) None idle p x (inl refl) k)),
          )
      by_look_of (option n v) k places has = by_option n v (has_text options n) (serves.by_name n) k.0 k.1
      by_look_of dashed k places has =
          let u : IsUtf8 (45 ∷ k.2.0 ∷ k.2.1) = rw (← k.2.3) (All-head IsUtf8 x xs utf8) in
          let first = first_char k.2.0 k.2.1 u in
          both_fail (dashed_turn rows pending idle p x k.2.0 k.2.1 first.0 (inl refl) k.0 k.1 k.2.2 first.1 serves.by_short)
          (dashed_turn (settled_rows R pending rows) None idle p x k.2.0 k.2.1 first.0 (inl refl) k.0 k.1 k.2.2 first.1 serves.by_short)
      by_look_of plain k places has = by_value places has k.0 k.1 k.2

  -- ---- the words, as `uses` reads them

  abbrev pub Agrees : List Use → Bool → List Row → Option (List Use) → Type 0
  Agrees us ok rows None = ok ≡ false
  Agrees us ok rows (Some more) = (ok ≡ are_new us more) × (ok ≡ true → rows ≡ map row (us ++ more))

  agrees_repeat : (us : List Use) (u : Use) (ok : Bool) (rows : List Row) (t : Option (List Use)) → has_name u.0 us ≡ true → ok ≡ false → Agrees us ok rows (onto u t)
  unfolding are_new
  agrees_repeat us u ok rows None has e = e
  agrees_repeat us u ok rows (Some more) has e = (e ∙ sym (rw has refl), λ t. let bad : false ≡ true = sym e ∙ t in cc)

  agrees_fresh : (us : List Use) (u : Use) (ok : Bool) (rows : List Row) (t : Option (List Use)) → has_name u.0 us ≡ false → Agrees (us ++ u ∷ []) ok rows t → Agrees us ok rows (onto u t)
  unfolding are_new
  agrees_fresh us u ok rows None has h = h
  agrees_fresh us u ok rows (Some more) has h = (h.0 ∙ sym (rw has refl), λ t. h.1 t ∙ ap (map row) (append_assoc us (u ∷ []) more))

  map_row_end : (us : List Use) (u : Use) → map row (us ++ u ∷ []) ≡ map row us ++ row u ∷ []
  map_row_end [] u = refl
  map_row_end (x ∷ us) u = ap (λ t. row x ∷ t) (map_row_end us u)

  abbrev pub start : Mode → List Use → ℕ → Walk
  start free us p = state (map row us) None idle false p
  start ended us p = state (map row us) None idle true p
  start (after o) us p = state (map row us) (Some (o, [])) (waits_for o) false p

  abbrev pub Known : Mode → Type 0
  Known (after o) = has_text options o ≡ true
  Known _ = Unit {0}

  abbrev pub AgreesAt : Mode → List Use → ℕ → List Text → Option (List Use) → Type 0
  AgreesAt mode us p words t = Agrees us (passes s (start mode us p) words) (rows_at_end s (start mode us p) words) t

  abbrev pub Walks : List Text → Type 0
  Walks words = (mode : Mode) → Known mode → (us : List Use) (p : ℕ) (places : List Text) → HasPlaces R p places → AgreesAt mode us p words (uses options words places mode)

  -- a use comes in: P and Q say what follows over the rows
  use_comes : (us : List Use) (id v : Text) (long : Option Text) (i : Option ℕ) (required : Bool) (ok : Bool) (rows : List Row) (P : List Row → Bool) (Q : List Row → List Row) (t : Option (List Use))
      → ok ≡ (none (use_fault false (taker id long i required) (v ∷ []) (map row us)) && P (used (taker id long i required) (v ∷ []) (map row us)))
      → (ok ≡ true → rows ≡ Q (used (taker id long i required) (v ∷ []) (map row us)))
      → Agrees (us ++ (id, v) ∷ []) (P (map row (us ++ (id, v) ∷ []))) (Q (map row (us ++ (id, v) ∷ []))) t
      → Agrees us ok rows (onto (id, v) t)
  use_comes us id v long i required ok rows P Q t is rows_are later = go (has_name id us) refl
    where
      new : none (use_fault false (taker id long i required) (v ∷ []) (map row us)) ≡ not (has_name id us)
      new = fault_new id long i required v (map row us) ∙ ap not (rows_have id us)

      go : (b : Bool) → has_name id us ≡ b → Agrees us ok rows (onto (id, v) t)
      go true e =
          let no : none (use_fault false (taker id long i required) (v ∷ []) (map row us)) ≡ false = new ∙ ap not e in
          agrees_repeat us (id, v) ok rows t e (is ∙ ap (λ b. b && P (used (taker id long i required) (v ∷ []) (map row us))) no)
      go false e =
          let fresh : none (use_fault false (taker id long i required) (v ∷ []) (map row us)) ≡ true = new ∙ ap not e in
          let same : used (taker id long i required) (v ∷ []) (map row us) ≡ map row (us ++ (id, v) ∷ []) =
          used_new id long i required v (map row us) (rows_have id us ∙ e) ∙ sym (map_row_end us (id, v)) in
          let ok_is : ok ≡ P (map row (us ++ (id, v) ∷ [])) = is ∙ ap (λ b. b && P (used (taker id long i required) (v ∷ []) (map row us))) fresh ∙ ap P same in
          agrees_fresh us (id, v) ok rows t e (moved t ok_is (λ k. rows_are k ∙ ap Q same) later)
        where
          moved : (t : Option (List Use)) → ok ≡ P (map row (us ++ (id, v) ∷ [])) → (ok ≡ true → rows ≡ Q (map row (us ++ (id, v) ∷ [])))
              → Agrees (us ++ (id, v) ∷ []) (P (map row (us ++ (id, v) ∷ []))) (Q (map row (us ++ (id, v) ∷ []))) t → Agrees (us ++ (id, v) ∷ []) ok rows t
          moved None a b h = a ∙ h
          moved (Some more) a b h = (a ∙ h.0, λ k. b k ∙ h.1 (sym a ∙ k))

  agrees_as : (us : List Use) (ok ok2 : Bool) (rows rows2 : List Row) (t : Option (List Use)) → ok ≡ ok2 → rows ≡ rows2 → Agrees us ok2 rows2 t → Agrees us ok rows t
  agrees_as us ok ok2 rows rows2 t a b h = rw (a, b) h

  -- the state w takes the word x, and goes on at nw
  agrees_step : (us : List Use) (w nw : Walk) (x : Text) (xs : List Text) (t : Option (List Use)) → none (turn_fault s [] w x) ≡ true → walked R [] w x ≡ nw
      → Agrees us (passes s nw xs) (rows_at_end s nw xs) t → Agrees us (passes s w (x ∷ xs)) (rows_at_end s w (x ∷ xs)) t
  agrees_step us w nw x xs t e n h =
      agrees_as us (passes s w (x ∷ xs)) (passes s nw xs) (rows_at_end s w (x ∷ xs)) (rows_at_end s nw xs) t
      (step_passes w nw x xs true e n) (step_rows w nw x xs n) h

  -- a value that waits, between words
  pended : (f : Bool) (words : List Text) (us : List Use) (id v : Text) (p : ℕ) (long : Option Text) (i : Option ℕ) (required : Bool) (t : Option (List Use))
      → arg_by_id R id ≡ Some (taker id long i required)
      → LagsAt (map row us) (Some (id, v ∷ [])) idle f p words
      → Agrees (us ++ (id, v) ∷ []) (passes s (state (map row (us ++ (id, v) ∷ [])) None idle f p) words) (rows_at_end s (state (map row (us ++ (id, v) ∷ [])) None idle f p) words) t
      → Agrees us (passes s (state (map row us) (Some (id, v ∷ [])) idle f p) words) (rows_at_end s (state (map row us) (Some (id, v ∷ [])) idle f p) words) (onto (id, v) t)
  pended f words us id v p long i required t by lag later =
      use_comes us id v long i required (passes s (state (map row us) (Some (id, v ∷ [])) idle f p) words) (rows_at_end s (state (map row us) (Some (id, v ∷ [])) idle f p) words)
      (λ r. passes s (state r None idle f p) words) (λ r. rows_at_end s (state r None idle f p) words) t
      (rw by at lag.0) (rw by at lag.1) later

  pub walks : Serves R options → (words : List Text) → All IsUtf8 words → Walks words
  unfolding uses are_new
  walks serves [] utf8 free known us p places has = (refl, λ _. ap (map row) (sym (append_nil us)))
  walks serves [] utf8 ended known us p places has = (refl, λ _. ap (map row) (sym (append_nil us)))
  walks serves [] utf8 (after o) known us p places has =
      let by = rw known at (serves.by_name o) in
      rw by.2 refl
  walks serves (x ∷ xs) utf8 mode known us p places has = by_mode_of mode known places has (walks serves xs (All-tail IsUtf8 x xs utf8))
    where
      tail : All IsUtf8 xs
      tail = All-tail IsUtf8 x xs utf8

      free_value : (places : List Text) → HasPlaces R p places → Walks xs → bytes_eq x hyphens ≡ false → long_of x ≡ None → short_of x ≡ None
          → AgreesAt free us p (x ∷ xs) (at_place places x free (uses options xs))
      free_value [] has rest e l t = step_fails (start free us p) x xs (plain_turn (map row us) None p x e l t ∙ no_place p (held (map row us) None) has)
      free_value (id ∷ ids) has rest e l t =
          agrees_step us (start free us p) (state (map row us) (Some (id, x ∷ [])) idle false (min (p + 1) usize_max)) x xs (onto (id, x) (uses options xs ids free))
          (plain_turn (map row us) None p x e l t ∙ place_turn p (map row us) None id (Some p) true has.0)
          (plain_next (map row us) None p x e l t ∙ place_next p x (map row us) None idle false id (Some p) true has.0)
          (pended false xs us id x (min (p + 1) usize_max) None (Some p) true (uses options xs ids free) has.1
          (lag_free serves xs tail (map row us) (Some (id, x ∷ [])) (min (p + 1) usize_max) ids has.2)
          (rest free tt (us ++ (id, x) ∷ []) (min (p + 1) usize_max) ids has.2))

      ended_value : (places : List Text) → HasPlaces R p places → Walks xs → AgreesAt ended us p (x ∷ xs) (at_place places x ended (uses options xs))
      ended_value [] has rest = step_fails (start ended us p) x xs (no_place p (held (map row us) None) has)
      ended_value (id ∷ ids) has rest =
          agrees_step us (start ended us p) (state (map row us) (Some (id, x ∷ [])) idle true (min (p + 1) usize_max)) x xs (onto (id, x) (uses options xs ids ended))
          (place_turn p (map row us) None id (Some p) true has.0)
          (ended_next (map row us) None idle p x ∙ place_next p x (map row us) None idle true id (Some p) true has.0)
          (pended true xs us id x (min (p + 1) usize_max) None (Some p) true (uses options xs ids ended) has.1
          (lag_ended xs (map row us) (Some (id, x ∷ [])) idle (min (p + 1) usize_max) ids has.2)
          (rest ended tt (us ++ (id, x) ∷ []) (min (p + 1) usize_max) ids has.2))

      by_option : (places : List Text) → HasPlaces R p places → Walks xs → (n : Text) (v : Option Text) (b : Bool) → has_text options n ≡ b → ByName R n b → bytes_eq x hyphens ≡ false
          → long_of x ≡ Some (n, v)
          → AgreesAt free us p (x ∷ xs) (by_name b n v places (uses options xs))
      by_option places has rest n v false k by e l = step_fails (start free us p) x xs (unknown_turn (map row us) None idle p x n v (inl refl) e l by)
      by_option places has rest n None true k by e l =
          agrees_step us (start free us p) (start (after n) us p) x xs (uses options xs places (after n))
          (named_turn (map row us) None idle p x n (Some n) None by.0 (inl refl) e l by.1)
          (named_next (map row us) None idle p x n (Some n) None by.0 (inl refl) e l by.1)
          (rest (after n) k us p places has)
      by_option places has rest n (Some v) true k by e l =
          use_comes us n v (Some n) None by.0 (passes s (start free us p) (x ∷ xs)) (rows_at_end s (start free us p) (x ∷ xs))
          (λ r. passes s (state r None idle false p) xs) (λ r. rows_at_end s (state r None idle false p) xs) (uses options xs places free)
          (step_passes (start free us p) (state (used (taker n (Some n) None by.0) (v ∷ []) (map row us)) None idle false p) x xs _
          (given_turn (map row us) None idle p x n v (Some n) None by.0 (inl refl) e l by.1)
          (given_next (map row us) None idle p x n v (Some n) None by.0 (inl refl) e l by.1))
          (λ _. step_rows (start free us p) (state (used (taker n (Some n) None by.0) (v ∷ []) (map row us)) None idle false p) x xs
          (given_next (map row us) None idle p x n v (Some n) None by.0 (inl refl) e l by.1))
          (rest free tt (us ++ (n, v) ∷ []) p places has)

      no_dash : (rows : List Row) (pending : Pending) (waiting : Waiting) → Asks waiting → Looks x dashed → none (turn_fault s [] (state rows pending waiting false p) x) ≡ false
      no_dash rows pending waiting asks k =
          let u : IsUtf8 (45 ∷ k.2.0 ∷ k.2.1) = rw (← k.2.3) (All-head IsUtf8 x xs utf8) in
          let first = first_char k.2.0 k.2.1 u in
          dashed_turn rows pending waiting p x k.2.0 k.2.1 first.0 asks k.0 k.1 k.2.2 first.1 serves.by_short

      by_look_of : (l : Look) → Looks x l → (places : List Text) → HasPlaces R p places → Walks xs → AgreesAt free us p (x ∷ xs) (by_look options l x places (uses options xs))
      by_look_of ends k places has rest =
          agrees_step us (start free us p) (start ended us p) x xs (uses options xs places ended)
          (ends_turn (map row us) None idle p x (inl refl) k) (ends_next (map row us) None idle p x (inl refl) k) (rest ended tt us p places has)
      by_look_of (option n v) k places has rest = by_option places has rest n v (has_text options n) refl (serves.by_name n) k.0 k.1
      by_look_of dashed k places has rest = step_fails (start free us p) x xs (no_dash (map row us) None idle (inl refl) k)
      by_look_of plain k places has rest = free_value places has rest k.0 k.1 k.2

      -- what waits for a value gets none
      unmet : (o : Text) → (required : Bool) → arg_by_id R o ≡ Some (taker o (Some o) None required) → settles (map row us) (Some (o, [])) ≡ false
      unmet o required by = rw by refl

      by_value_of : (o : Text) → has_text options o ≡ true → (l : Look) → Looks x l → (places : List Text) → HasPlaces R p places → Walks xs
          → AgreesAt (after o) us p (x ∷ xs) (as_value l (o, x) places (uses options xs))
      by_value_of o known ends k places has rest =
          let by = rw known at (serves.by_name o) in
          let lag = lag_ended xs (map row us) (Some (o, [])) (waits_for o) p places has in
          step_passes (start (after o) us p) (state (map row us) (Some (o, [])) (waits_for o) true p) x xs true
          (ends_turn (map row us) (Some (o, [])) (waits_for o) p x (inr (o, refl)) k) (ends_next (map row us) (Some (o, [])) (waits_for o) p x (inr (o, refl)) k)
          ∙ lag.0 ∙ ap (λ b. b && passes s (state (settled_rows R (Some (o, [])) (map row us)) None (waits_for o) true p) xs) (unmet o by.0 by.2)
      by_value_of o known (option n v) k places has rest = option_fails (has_text options n) v (serves.by_name n) k.1
        where
          option_fails : (b : Bool) (v : Option Text) → ByName R n b → long_of x ≡ Some (n, v) → passes s (start (after o) us p) (x ∷ xs) ≡ false
          option_fails false v by l = step_fails (start (after o) us p) x xs (unknown_turn (map row us) (Some (o, [])) (waits_for o) p x n v (inr (o, refl)) k.0 l by)
          option_fails true None by l =
              let mine = rw known at (serves.by_name o) in
              step_fails (start (after o) us p) x xs (named_turn (map row us) (Some (o, [])) (waits_for o) p x n (Some n) None by.0 (inr (o, refl)) k.0 l by.1 ∙ unmet o mine.0 mine.2)
          option_fails true (Some v) by l =
              let mine = rw known at (serves.by_name o) in
              step_fails (start (after o) us p) x xs (given_turn (map row us) (Some (o, [])) (waits_for o) p x n v (Some n) None by.0 (inr (o, refl)) k.0 l by.1
              ∙ ap (λ b. b && none (use_fault false (taker n (Some n) None by.0) (v ∷ []) (settled_rows R (Some (o, [])) (map row us)))) (unmet o mine.0 mine.2))
      by_value_of o known dashed k places has rest = step_fails (start (after o) us p) x xs (no_dash (map row us) (Some (o, [])) (waits_for o) (inr (o, refl)) k)
      by_value_of o known plain k places has rest =
          let by = rw known at (serves.by_name o) in
          agrees_step us (start (after o) us p) (state (map row us) (Some (o, x ∷ [])) idle false p) x xs (onto (o, x) (uses options xs places free))
          (value_turn (map row us) o p x k.0 k.1 k.2) (value_next (map row us) o p x (Some o) None by.0 k.0 k.1 k.2 by.2)
          (pended false xs us o x p (Some o) None by.0 (uses options xs places free) by.2
          (lag_free serves xs tail (map row us) (Some (o, x ∷ [])) p places has)
          (rest free tt (us ++ (o, x) ∷ []) p places has))

      by_mode_of : (mode : Mode) → Known mode → (places : List Text) → HasPlaces R p places → Walks xs → AgreesAt mode us p (x ∷ xs) (by_mode options mode x places (uses options xs))
      by_mode_of free known places has rest = by_look_of (look x) (looks x) places has rest
      by_mode_of ended known places has rest = ended_value places has rest
      by_mode_of (after o) known places has rest = by_value_of o known (look x) (looks x) places has rest
