-- The tables by variable, after each change of the entries.
use Rattle.std.proofs.Common.{◌≡◌, ◌≢◌, ℕ, ◌<◌, ◌≤◌, Bool, Option, Some, None, List, [], ◌∷◌, ◌++◌, length, get_or, set, take, sym, ap, ◌∙◌, arith, inl, inr, length-take, length-set, get_or-set_same, get_or-set_other}
use Rattle.std.specs.Prelude.{All}
use Rattle.std.proofs.lemmas.Bool.{cases_eq, cases_lt}
use Rattle.std.proofs.lemmas.List.{get_or-take, get_or_past}
use Rattle.pb_rules.specs.Literal.{Literal}
use Rattle.pb_constraints.specs.declared.ConId.{ConId}
use Rattle.trail_state.specs.Trail.{Entry, TrailView, value_in, level_in, level_of}
use Rattle.trail_state.specs.Tables.{HasTables}
use Rattle.trail_state.proofs.Entries.{value_in-none, push_same, push_other}
use Rattle.trail_state.proofs.Levels.{level_in-append, level_in-push}

abbrev none_of_Bool : Option Bool
none_of_Bool = None

-- what gives each variable the same value and level, and has room
pub tables_same : (t u : TrailView) (vs vs' : List (Option Bool)) (ls ls' : List ℕ) → HasTables t vs ls → u.variables ≤ length vs' → u.variables ≤ length ls'
    → ((x : ℕ) → get_or vs' x None ≡ get_or vs x None) → ((x : ℕ) → get_or ls' x 0 ≡ get_or ls x 0) → ((x : ℕ) → value_in u.entries x ≡ value_in t.entries x)
    → ((x : ℕ) → level_in u.entries x ≡ level_in t.entries x) → HasTables u vs' ls'
tables_same t u vs vs' ls ls' h values levels v l value level = record {
  values_room = values;
  levels_room = levels;
  valued = λ x. v x ∙ h.valued x ∙ sym (value x);
  leveled = λ x b q. l x ∙ h.leveled x b (sym (value x) ∙ q) ∙ sym (level x);
}

-- a literal more
pub tables_put : (t u : TrailView) (vs : List (Option Bool)) (ls : List ℕ) (l : Literal) (r : Option ConId) (k : ℕ) → HasTables t vs ls → l.var < t.variables → value_in t.entries l.var ≡ None
    → u.entries ≡ t.entries ++ record { lit = l; reason = r } ∷ [] → u.variables ≡ t.variables → k ≡ level_of u.entries → HasTables u (set vs l.var (Some l.yes)) (set ls l.var k)
tables_put t u vs ls l r k h lt free more same level =
    let e : Entry = record { lit = l; reason = r } in
    let room = h.values_room in
    let room' = h.levels_room in
    let len = length-set vs l.var (Some l.yes) in
    let len' = length-set ls l.var k in
    let value : (x : ℕ) → value_in u.entries x ≡ value_in (t.entries ++ e ∷ []) x = λ x. ap (λ (es : List Entry). value_in es x) more in
    record {
      values_room = omega arith;
      levels_room = omega arith;
      valued = λ x. elim (cases_eq x l.var) [
        | inl q ↦ ap (λ (y : ℕ). get_or (set vs l.var (Some l.yes)) y None) q ∙ get_or-set_same vs l.var (Some l.yes) None (omega arith)
            ∙ sym (value x ∙ push_same t.entries e x (ap (value_in t.entries) q ∙ free) (sym q))
        | inr n ↦ get_or-set_other vs l.var x (Some l.yes) None n ∙ h.valued x ∙ sym (value x ∙ push_other t.entries e x (λ z. n (sym z)))
      ];
      leveled = λ x b v. elim (cases_eq x l.var) [
        | inl q ↦ ap (λ (y : ℕ). get_or (set ls l.var k) y 0) q ∙ get_or-set_same ls l.var k 0 (omega arith) ∙ level ∙ ap level_of more ∙ sym (level_in-push t.entries e free)
            ∙ ap (λ (y : ℕ). level_in (t.entries ++ e ∷ []) y) (sym q) ∙ ap (λ (es : List Entry). level_in es x) (sym more)
        | inr n ↦ (let old : value_in t.entries x ≡ Some b = sym (value x ∙ push_other t.entries e x (λ z. n (sym z))) ∙ v in
            get_or-set_other ls l.var x k 0 n ∙ h.leveled x b old ∙ sym (ap (λ (es : List Entry). level_in es x) more ∙ level_in-append t.entries (e ∷ []) x b old))
      ];
    }

-- the last literal less
pub tables_pop : (t u : TrailView) (vs : List (Option Bool)) (ls : List ℕ) (l : Literal) (r : Option ConId) → HasTables t vs ls → l.var < t.variables
    → t.entries ≡ u.entries ++ record { lit = l; reason = r } ∷ [] → u.variables ≡ t.variables → value_in u.entries l.var ≡ None → HasTables u (set vs l.var None) ls
tables_pop t u vs ls l r h lt less same gone =
    let e : Entry = record { lit = l; reason = r } in
    let room = h.values_room in
    let room' = h.levels_room in
    let len = length-set vs l.var none_of_Bool in
    let value : (x : ℕ) → value_in t.entries x ≡ value_in (u.entries ++ e ∷ []) x = λ x. ap (λ (es : List Entry). value_in es x) less in
    record {
      values_room = omega arith;
      levels_room = omega arith;
      valued = λ x. elim (cases_eq x l.var) [
        | inl q ↦ ap (λ (y : ℕ). get_or (set vs l.var None) y None) q ∙ get_or-set_same vs l.var None None (omega arith) ∙ sym (ap (value_in u.entries) q ∙ gone)
        | inr n ↦ get_or-set_other vs l.var x None None n ∙ h.valued x ∙ value x ∙ push_other u.entries e x (λ z. n (sym z))
      ];
      leveled = λ x b v.
          (let n : l.var ≢ x = λ z. (let w : value_in u.entries x ≡ None = ap (value_in u.entries) (sym z) ∙ gone in absurd (cc)) in
          h.leveled x b (value x ∙ push_other u.entries e x n ∙ v) ∙ ap (λ (es : List Entry). level_in es x) less ∙ level_in-append u.entries (e ∷ []) x b v);
    }

-- a variable past those that there are has no value
none_past : (es : List Entry) (n x : ℕ) → All (λ e. e.lit.var < n) es → n ≤ x → value_in es x ≡ None
none_past es n x all h = value_in-none es x (λ k d l q. let lt : (get_or es k d).lit.var < n = all k d l in omega arith)

-- the tables as far as there are variables
pub values_part : (t : TrailView) (vs : List (Option Bool)) (ls : List ℕ) → HasTables t vs ls → All (λ e. e.lit.var < t.variables) t.entries → (x : ℕ)
    → get_or (take t.variables vs) x None ≡ value_in t.entries x
values_part t vs ls h all x = elim (cases_lt x t.variables) [
  | inl lt ↦ get_or-take t.variables vs x None lt ∙ h.valued x
  | inr ge ↦ (let len = length-take t.variables vs in
      let room = h.values_room in
      get_or_past (take t.variables vs) x None (omega arith) ∙ sym (none_past t.entries t.variables x all ge))
]

pub levels_part : (t : TrailView) (vs : List (Option Bool)) (ls : List ℕ) → HasTables t vs ls → All (λ e. e.lit.var < t.variables) t.entries → (x : ℕ) (b : Bool) → value_in t.entries x ≡ Some b
    → get_or (take t.variables ls) x 0 ≡ level_in t.entries x
levels_part t vs ls h all x b v = elim (cases_lt x t.variables) [
  | inl lt ↦ get_or-take t.variables ls x 0 lt ∙ h.leveled x b v
  | inr ge ↦ (let none = none_past t.entries t.variables x all ge in absurd (cc))
]
