-- What finds a block, and stays right with each block more.
use Rattle.std.proofs.Common.{◌≡◌, ℕ, ◌+◌, ◌<◌, ◌≤◌, Bool, true, false, cond, not, List, [], ◌∷◌, ◌++◌, length, get_or, Option, Some, None, refl, sym, ap, ◌∙◌, subst, arith, Contains, ◌⊎◌, inl, inr, length-append}
use Rattle.std.specs.Prelude.{MatchOption, ◌==◌, is_some}
use Rattle.std.specs.List.{list_any}
use Rattle.std.specs.Str.{bytes_eq}
use Rattle.std.specs.HashMap.{HashMap}
use Rattle.std.specs.Map.{lookup}
use Rattle.std.proofs.lemmas.Bool.{cases_Bool, cases_lt, false≢true, eqb-true, eq-eqb, false_from_ne_true, and_parts, and_from}
use Rattle.std.proofs.lemmas.List.{get_or_append_left, get_or_push, get_or_default}
use Rattle.std.proofs.lemmas.List.Elements.{All-push, All-weaker, Contains-append_left}
use Rattle.std.proofs.lemmas.List.Folds.{position_or_len_push, list_any_at, list_any_none}
use Rattle.std.proofs.lemmas.List.Sums.{prefix_len_passes, prefix_len_stops, prefix_len-le-length}
use Rattle.std.proofs.lemmas.Slice.Eq.{bytes_eq-Decides}
use Rattle.names.specs.Names.{number_by_name, IsNumberOf}
use Rattle.tgff_reader.specs.Looking.{is_table, table_at, IsTableAt, HasNoTable}
use Rattle.tgff_reader.specs.Places.{is_pair, place_in, AreFound, HasAtMost}
use Rattle.tgff_reader.specs.declared.file.Table.{Table}

abbrev Name : Type 0
Name = List ℕ

same : (a b : Name) → bytes_eq a b ≡ true → a ≡ b
same a b e = (bytes_eq-Decides a b).0 e

-- ---- numbers of names

-- a name that is there has a number below their count, and stands there
number_within : (names : List Name) (name : Name) → Contains names name → number_by_name names name < length names
number_within names name h = elim (cases_lt (number_by_name names name) (length names)) [
  | inl l ↦ l
  | inr g ↦
      let p = prefix_len_passes (λ (x : Name). not (bytes_eq name x)) names h.0 name (omega (arith, h.1, g)) in
      let t : bytes_eq name (get_or names h.0 name) ≡ true = (bytes_eq-Decides name (get_or names h.0 name)).1 (sym h.2) in
      absurd (false≢true (ap not (sym t) ∙ p))
]

number_stands : (names : List Name) (name d : Name) → Contains names name → get_or names (number_by_name names name) d ≡ name
number_stands names name d h =
    let l = number_within names name h in
    let p = prefix_len_stops (λ (x : Name). not (bytes_eq name x)) names d l in
    elim (cases_Bool (bytes_eq name (get_or names (number_by_name names name) d))) [
      | inl t ↦ sym (same name (get_or names (number_by_name names name) d) t)
      | inr f ↦ absurd (false≢true (sym p ∙ ap not f))
    ]

-- two names of one number are one
one_name : (names : List Name) (a b : Name) → Contains names a → Contains names b → number_by_name names a ≡ number_by_name names b → a ≡ b
one_name names a b h k e = sym (number_stands names a [] h) ∙ ap (λ (n : ℕ). get_or names n []) e ∙ number_stands names b [] k

-- a number that is found is that of a name that is there
pub is_there : (names : List Name) (name : Name) (n : ℕ) → IsNumberOf names name n → Contains names name
is_there names name n h = (n, h.within, get_or_default names n name [] h.within ∙ h.same)

-- with a name more at the end, the numbers stay
number_stays : (names : List Name) (x name : Name) → Contains names name → number_by_name (names ++ x ∷ []) name ≡ number_by_name names name
number_stays names x name h =
    let n = number_by_name names name in
    position_or_len_push (bytes_eq name) names x
    ∙ ap (λ (b : Bool). cond b (length names + cond (bytes_eq name x) 0 1) n) (false_from_ne_true _ (λ t. let e : n ≡ length names = eqb-true n (length names) t in
    omega (arith, e, number_within names name h)))

-- a name whose number is below their count is there
there_by : (names : List Name) (name : Name) → number_by_name names name < length names → Contains names name
there_by names name l =
    let p = prefix_len_stops (λ (y : Name). not (bytes_eq name y)) names [] l in
    elim (cases_Bool (bytes_eq name (get_or names (number_by_name names name) []))) [
      | inl t ↦ (number_by_name names name, l, get_or_default names (number_by_name names name) name [] l ∙ sym (same name (get_or names (number_by_name names name) []) t))
      | inr f ↦ absurd (false≢true (sym p ∙ ap not f))
    ]

number_past : (names : List Name) (x name : Name) → ¬ Contains names name → length names ≤ number_by_name (names ++ x ∷ []) name
number_past names x name h = elim (cases_lt (number_by_name names name) (length names)) [
  | inl l ↦ absurd (h (there_by names name l))
  | inr g ↦
      let most = prefix_len-le-length (λ (y : Name). not (bytes_eq name y)) names in
      let n = number_by_name names name in
      let e : n ≡ length names = omega (arith, g, most) in
      let past : number_by_name (names ++ x ∷ []) name ≡ length names + cond (bytes_eq name x) 0 1
      = position_or_len_push (bytes_eq name) names x ∙ ap (λ (b : Bool). cond b (length names + cond (bytes_eq name x) 0 1) n) (eq-eqb n (length names) e) in
      omega (arith, past)
]

-- a name that is added at the end has the number of the names before it
pub new_number : (names : List Name) (name : Name) → ¬ Contains names name → IsNumberOf (names ++ name ∷ []) name (length names)
new_number names name h =
    let all = names ++ name ∷ [] in
    let within : length names < length all = omega (arith, length-append names (name ∷ [])) in
    let there : Contains all name = (length names, within, get_or_push names name name (length names) refl) in
    let least = number_past names name name h in
    let most = number_within all name there in
    record { within = within; same = get_or_push names name [] (length names) refl; first = omega (arith, least, most, length-append names (name ∷ [])) }

-- ---- tables

-- a name more changes nothing
pub found_with_name : (names new : List Name) (place : ℕ × ℕ → Option ℕ) (tables : List Table) (x : Name) → AreFound names place tables → HasAtMost names x new → AreFound new place tables
found_with_name names new place tables x f (inl e) = subst (λ (ns : List Name). AreFound ns place tables) (sym e) f
found_with_name names new place tables x f (inr e) = subst (λ (ns : List Name). AreFound ns place tables) (sym e) (record {
  named = All-weaker (λ t. Contains names t.name) (λ t. Contains (names ++ x ∷ []) t.name) (λ t h. Contains-append_left names (x ∷ []) t.name h) tables f.named;
  found = λ name index h. at name index (cases_lt (number_by_name names name) (length names));
  none = λ n index l. f.none n index (omega (arith, l, length-append names (x ∷ [])));
})
  where
    Found : Name → ℕ → ℕ → Type 0
    Found name index n = MatchOption (place (n, index)) (HasNoTable tables name index) (IsTableAt tables name index)

    named_at : (name : Name) (index i : ℕ) → IsTableAt tables name index i → Contains names name
    named_at name index i t = subst (Contains names) t.name_is (f.named i _ t.there)

    at : (name : Name) (index : ℕ) → (number_by_name names name < length names) ⊎ (length names ≤ number_by_name names name) → Found name index (number_by_name (names ++ x ∷ []) name)
    at name index (inl l) =
        let h = there_by names name l in
        subst (Found name index) (sym (number_stays names x name h)) (f.found name index h)
    at name index (inr g) =
        let away : ¬ Contains names name = λ h. omega (arith, g, number_within names name h) in
        let e = f.none (number_by_name (names ++ x ∷ []) name) index (number_past names x name away) in
        subst (λ (o : Option ℕ). MatchOption o (HasNoTable tables name index) (IsTableAt tables name index)) (sym e) (λ i t. away (named_at name index i t))

-- the table at a place, with a table more at the end
still_at : (tables : List Table) (t : Table) (name : Name) (index i : ℕ) → IsTableAt tables name index i → IsTableAt (tables ++ t ∷ []) name index i
still_at tables t name index i h =
    let e : table_at (tables ++ t ∷ []) i ≡ table_at tables i = get_or_append_left tables (t ∷ []) _ i h.there in
    record {
      there = omega (arith, h.there, length-append tables (t ∷ []));
      name_is = ap (λ (x : Table). x.name) e ∙ h.name_is;
      index_is = ap (λ (x : Table). x.index) e ∙ h.index_is;
    }

at_end : (tables : List Table) (t : Table) → table_at (tables ++ t ∷ []) (length tables) ≡ t
at_end tables t = get_or_push tables t _ (length tables) refl

-- a table more is found by the number of its name and by its index
pub found_with_table : (names : List Name) (old new : ℕ × ℕ → Option ℕ) (tables : List Table) (t : Table) (n : ℕ) → AreFound names old tables → IsNumberOf names t.name n
    → ((p : ℕ × ℕ) → new p ≡ cond (is_pair (n, t.index) p) (Some (length tables)) (old p)) → AreFound names new (tables ++ t ∷ [])
found_with_table names old new tables t n f h u = record {
  named = All-push (λ x. Contains names x.name) tables t f.named there;
  found = λ name index c. at name index c (cases_Bool (is_pair (n, t.index) (number_by_name names name, index)));
  none = λ m index l. u (m, index) ∙ ap (λ (b : Bool). cond b (Some (length tables)) (old (m, index))) (away m index l) ∙ f.none m index l;
}
  where
    there : Contains names t.name
    there = is_there names t.name n h

    away : (m index : ℕ) → length names ≤ m → is_pair (n, t.index) (m, index) ≡ false
    away m index l = false_from_ne_true _ (λ y. omega (arith, l, h.within, eqb-true n m (and_parts (n == m) (t.index == index) y).0))

    Found : Name → ℕ → Option ℕ → Type 0
    Found name index o = MatchOption o (HasNoTable (tables ++ t ∷ []) name index) (IsTableAt (tables ++ t ∷ []) name index)

    same_pair : (name : Name) (index : ℕ) → Contains names name → t.name ≡ name → t.index ≡ index → is_pair (n, t.index) (number_by_name names name, index) ≡ true
    same_pair name index c e k = and_from (n == number_by_name names name) (t.index == index) (eq-eqb n _ (h.first ∙ ap (number_by_name names) e)) (eq-eqb t.index index k)

    older : (name : Name) (index : ℕ) → Contains names name → is_pair (n, t.index) (number_by_name names name, index) ≡ false → (o : Option ℕ)
        → MatchOption o (HasNoTable tables name index) (IsTableAt tables name index) → Found name index o
    older name index c e (Some i) x = still_at tables t name index i x
    older name index c e None x = λ i y. elim (cases_lt i (length tables)) [
      | inl l ↦
          let k : table_at (tables ++ t ∷ []) i ≡ table_at tables i = get_or_append_left tables (t ∷ []) _ i l in
          x i (record { there = l; name_is = sym (ap (λ (z : Table). z.name) k) ∙ y.name_is; index_is = sym (ap (λ (z : Table). z.index) k) ∙ y.index_is })
      | inr g ↦
          let last : i ≡ length tables = omega (arith, g, y.there, length-append tables (t ∷ [])) in
          let k : table_at (tables ++ t ∷ []) i ≡ t = ap (table_at (tables ++ t ∷ [])) last ∙ at_end tables t in
          false≢true (sym e ∙ same_pair name index c (sym (ap (λ (z : Table). z.name) k) ∙ y.name_is) (sym (ap (λ (z : Table). z.index) k) ∙ y.index_is))
    ]

    at : (name : Name) (index : ℕ) → Contains names name → (is_pair (n, t.index) (number_by_name names name, index) ≡ true) ⊎ (is_pair (n, t.index) (number_by_name names name, index) ≡ false)
        → Found name index (new (number_by_name names name, index))
    at name index c (inl y) =
        let both = and_parts (n == number_by_name names name) (t.index == index) y in
        let e : t.name ≡ name = one_name names t.name name there c (sym h.first ∙ eqb-true n (number_by_name names name) both.0) in
        let k : t.index ≡ index = eqb-true t.index index both.1 in
        let is : new (number_by_name names name, index) ≡ Some (length tables) = u (number_by_name names name, index)
        ∙ ap (λ (b : Bool). cond b (Some (length tables)) (old (number_by_name names name, index))) y in
        subst (Found name index) (sym is) (record {
          there = omega (arith, length-append tables (t ∷ []));
          name_is = ap (λ (z : Table). z.name) (at_end tables t) ∙ e;
          index_is = ap (λ (z : Table). z.index) (at_end tables t) ∙ k;
        })
    at name index c (inr e) =
        let is : new (number_by_name names name, index) ≡ old (number_by_name names name, index) = u (number_by_name names name, index)
        ∙ ap (λ (b : Bool). cond b (Some (length tables)) (old (number_by_name names name, index))) e in
        subst (Found name index) (sym is) (older name index c e (old (number_by_name names name, index)) (f.found name index c))

-- a name without a number is no table's
pub no_such : (names : List Name) (place : ℕ × ℕ → Option ℕ) (tables : List Table) (name : Name) (index : ℕ) → AreFound names place tables → ¬ Contains names name → HasNoTable tables name index
no_such names place tables name index f away i t = away (subst (Contains names) t.name_is (f.named i _ t.there))

-- what is found by the number of a name is found by the name
pub found_by : (names : List Name) (place : ℕ × ℕ → Option ℕ) (tables : List Table) (name : Name) (index n : ℕ) (o : Option ℕ) → AreFound names place tables → IsNumberOf names name n
    → o ≡ place (n, index)
    → MatchOption o (HasNoTable tables name index) (IsTableAt tables name index)
found_by names place tables name index n o f h e =
    subst (λ (x : Option ℕ). MatchOption x (HasNoTable tables name index) (IsTableAt tables name index)) (sym (e ∙ ap (λ (k : ℕ). place (k, index)) h.first))
    (f.found name index (is_there names name n h))

-- entries that stay find what they found
pub found_unchanged : {S : Type 0} (names : List Name) (old new : HashMap (ℕ × ℕ) ℕ S) (tables : List Table) → new.entries ≡ old.entries → AreFound names (place_in old) tables
    → AreFound names (place_in new) tables
found_unchanged names old new tables e f = subst (λ (es : List ((ℕ × ℕ) × ℕ)). AreFound names (λ p. lookup (is_pair p) es) tables) (sym e) f

-- a search by name and index tells whether a table passes the test
pub tells : (tables : List Table) (name : Name) (index : ℕ) (o : Option ℕ) → MatchOption o (HasNoTable tables name index) (IsTableAt tables name index)
    → is_some o ≡ list_any (is_table name index) tables
tells tables name index (Some i) h =
    sym (list_any_at (is_table name index) tables i _ h.there (and_from _ _ ((bytes_eq-Decides (table_at tables i).name name).1 h.name_is) (eq-eqb (table_at tables i).index index h.index_is)))
tells tables name index None h = sym (list_any_none (is_table name index) tables (λ i d l. false_from_ne_true _ (λ y.
    let e : get_or tables i d ≡ table_at tables i = get_or_default tables i d (record { name = []; index = 0; rows = [] }) l in
    let both = and_parts (bytes_eq (get_or tables i d).name name) ((get_or tables i d).index == index) y in
    h i (record {
      there = l;
      name_is = sym (ap (λ (z : Table). z.name) e) ∙ same (get_or tables i d).name name both.0;
      index_is = sym (ap (λ (z : Table). z.index) e)
          ∙ eqb-true (get_or tables i d).index index both.1;
    }))))

-- ---- graphs
