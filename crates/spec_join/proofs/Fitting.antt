-- What was read of a statement is what its carrying out needs.
use Rattle.std.proofs.Common.{◌≡◌, ◌≢◌, ℕ, ℤ, ◌+◌, ◌≤◌, ◌<◌, ◌^◌, zero, suc, Bool, true, false, not, cond, List, [], ◌∷◌, ◌++◌, length, get_or, map, Option, None, Some, refl, sym, ap, subst, ◌∙◌, arith, Contains}
use Rattle.std.specs.Prelude.{nat_le, is_none, ◌&&◌}
use Rattle.std.specs.Option.{option_map_or}
use Rattle.std.specs.Str.{bytes_eq}
use Rattle.std.proofs.lemmas.Slice.Eq.{bytes_eq-Decides}
use Rattle.std.proofs.lemmas.Bool.{false≢true, leb-false, or_parts, not-false}
use Rattle.std.proofs.lemmas.List.{length-map, take-map, map-append}
use Rattle.names.specs.Names.{IsName}
use Rattle.spec_model.specs.Spec.{Name}
use Rattle.file_bricks.specs.Words.{IsWord}
use Rattle.arch_reader.specs.Numbers.{at_scale}
use Rattle.std.specs.Option.{option_or}
use Rattle.arch_reader.specs.Seen.{scale_or_0, seen, objectives_in, clock_in, after as seen_after}
use Rattle.tgff_reader.specs.Facts.{TgffValue}
use Rattle.arch_reader.specs.Tests.{objective_called, is_declared, is_above, weights_of}
use Rattle.arch_reader.specs.Arch.{AllPass, Passes, statement_of, statements_in}
use Rattle.arch_reader.specs.declared.statement.ArchLine.{ArchLine}
use Rattle.arch_reader.proofs.Places.{before_place, passes_at, seen_at_more}
use Rattle.arch_reader.specs.declared.seen.Objective.{Objective as Declared}
use Rattle.arch_reader.specs.declared.seen.Seen.{Seen}
use Rattle.arch_reader.specs.declared.statement.Statement.{Statement}
use Rattle.arch_reader.specs.declared.statement.Statement.TheVariants.{Objective, Clock, Resource, Link, Traffic, Task, Message, Merge, Map, Table, Quantity, QuantityTable, Hops, Delay, Deadline}
use Rattle.graph_plan.proofs.Naming.{word_bytes}
use Rattle.spec_join.specs.Joining.{Joining, SettingsValue, settings_of, with_declared, plan_with, objective_name, objective_scale, objective_floor, time_at, time_or_0}
use Rattle.spec_join.specs.Reading.{after}
use Rattle.spec_join.specs.Fits.{IsFit, IsDeclarable, AreWeighable}
use Rattle.spec_join.proofs.Tying.{IsTied, tied}
use Rattle.spec_join.proofs.Weighing.{weighable, known_keys, known_places, declared_of, not_declared, not_above}

-- a word is a name
pub named_of : (name : Name) → IsWord name → IsName name
named_of name h = record { some = h.some; bytes = word_bytes name h.plain }

there : (was now : List Name) (name : Name) → now ≡ was → not (is_declared was name) ≡ false → Contains now name
there was now name e h = subst (λ (ns : List Name). Contains ns name) (sym e) (declared_of was name (not-false (is_declared was name) h))

new : (was now : List Name) (name : Name) → now ≡ was → is_declared was name ≡ false → Contains now name → ⊥
new was now name e h c = not_declared was name h (subst (λ (ns : List Name). Contains ns name) e c)

room : (was now : List Name) (most : ℕ) → now ≡ was → nat_le most (length was) ≡ false → length now < most
room was now most e h = omega (arith, ap length e, leb-false most (length was) h)

apart : (a b : Name) → bytes_eq a b ≡ false → a ≢ b
apart a b h e = false≢true (sym h ∙ (bytes_eq-Decides a b).1 e)

-- a time at the clock's scale
timed : (was : Seen) (s : Joining) (amount : ℤ) → s.clock ≡ was.clock → is_above (scale_or_0 was.clock) amount ≡ false → time_at s amount ≤ 2 ^ 40
timed was s amount e h = subst (λ (o : Option ℕ). at_scale (scale_or_0 o) amount ≤ 2 ^ 40) (sym e) (not_above (scale_or_0 was.clock) amount h)

timed_or_0 : (was : Seen) (s : Joining) (time : Option ℤ) → s.clock ≡ was.clock → option_map_or (is_above (scale_or_0 was.clock)) time false ≡ false → time_or_0 s time ≤ 2 ^ 40
timed_or_0 was s None e h = omega arith
timed_or_0 was s (Some amount) e h = timed was s amount e h

weighable_of : (before : List Statement) (s : Joining) (st : Statement) → IsTied (seen before) s → Passes before st → AreWeighable s (weights_of st)
weighable_of before s st t p = weighable (seen before).objectives t.later s.plan.objectives s.scales (weights_of st) t.objectives t.scales p.weights_are_known p.weights_are_small

pub fits : (before : List Statement) (s : Joining) (st : Statement) → IsTied (seen before) s → Passes before st → IsFit s st
fits before s (Resource name ws) t p = record {
  named = named_of name p.name_is_word;
  new = new (seen before).resources s.plan.resources name t.resources p.name_is_new;
  weighable = weighable_of before s (Resource name ws) t p;
  room = room (seen before).resources s.plan.resources 256 t.resources p.resources_are_few;
}
fits before s (Link name a b two_way ws) t p =
    let was = (seen before).resources in
    record {
      named = named_of name p.name_is_word;
      new = new (seen before).links s.plan.links name t.links p.name_is_new;
      a_there = there was s.plan.resources a t.resources (or_parts (not (is_declared was a)) (not (is_declared was b)) p.resources_are_known).0;
      b_there = there was s.plan.resources b t.resources (or_parts (not (is_declared was a)) (not (is_declared was b)) p.resources_are_known).1;
      apart = apart a b p.no_self_link;
      weighable = weighable_of before s (Link name a b two_way ws) t p;
      room = room (seen before).links s.plan.links 1024 t.links p.links_are_few;
    }
fits before s (Traffic link ws) t p = record {
  there = there (seen before).links s.plan.links link t.links p.link_is_known;
  weighable = weighable_of before s (Traffic link ws) t p;
}
fits before s (Task name) t p = named_of name p.name_is_word
fits before s (Message name sender receivers) t p = record { named = named_of name p.name_is_word; some = p.is_formed }
fits before s (Merge name messages) t p = record { named = named_of name p.name_is_word; some = p.is_formed }
fits before s (Map task resource time ws) t p = record {
  there = there (seen before).resources s.plan.resources resource t.resources p.resources_are_known;
  weighable = weighable_of before s (Map task resource time ws) t p;
  small = timed_or_0 (seen before) s time t.clock p.time_is_small;
}
fits before s (Quantity message amount) t p = not_above 0 amount p.quantity_is_small
fits before s (Delay message amount) t p = timed (seen before) s amount t.clock p.time_is_small
fits before s (Deadline task at) t p = timed (seen before) s at t.clock p.time_is_small
fits before s (Objective name scale floor) t p = tt
fits before s (Clock scale floor) t p = tt
fits before s (Table name index resource keys weights_at) t p = record {
  there = there (seen before).resources s.plan.resources resource t.resources p.resources_are_known;
  keys_known = known_keys (seen before).objectives t.later s.plan.objectives keys t.objectives p.keys_are_known;
  places_known = known_places (seen before).objectives t.later s.plan.objectives weights_at t.objectives p.places_are_known;
}
fits before s (QuantityTable name index column rows) t p = tt
fits before s (Hops message limit) t p = tt

-- a name that no objective has
apart_by : (o : Declared) (os : List Declared) (name : Name) → (is_none (objective_called os name) ≡ true → Contains (map objective_name os) name → ⊥) → (b : Bool) → bytes_eq o.name name ≡ b
    → is_none (objective_called (o ∷ os) name) ≡ true → Contains (map objective_name (o ∷ os)) name → ⊥
apart_by o os name ih true e h c = false≢true (ap (λ (b : Bool). is_none (cond b (Some o) (objective_called os name))) (sym e) ∙ h)
apart_by o os name ih false e h (zero, l, x) = false≢true (sym e ∙ (bytes_eq-Decides o.name name).1 x)
apart_by o os name ih false e h (suc k, l, x) = ih (ap (λ (b : Bool). is_none (cond b (Some o) (objective_called os name))) (sym e) ∙ h) (k, omega (arith, l), x)

unknown_apart : (os : List Declared) (name : Name) → is_none (objective_called os name) ≡ true → Contains (map objective_name os) name → ⊥
unknown_apart [] name h c = omega (arith, c.1)
unknown_apart (o ∷ os) name h c = apart_by o os name (unknown_apart os name) (bytes_eq o.name name) refl h c

-- a statement of a file declares an objective where those before it are declared
pub declarable : (before : List Statement) (st : Statement) → Passes before st → IsDeclarable (settings_of (seen before)) st
declarable before (Objective name scale floor) p = record {
  named = named_of name p.name_is_word;
  new = unknown_apart (seen before).objectives name (not-false (is_none (objective_called (seen before).objectives name)) p.name_is_new);
  room = omega (arith, length-map (seen before).objectives objective_name, leb-false 8 (length (seen before).objectives) p.objectives_are_few);
  no_resource = refl;
  no_link = refl;
  no_option = refl;
}
declarable before (Clock scale floor) p = tt
declarable before (Resource name ws) p = tt
declarable before (Link name a b two_way ws) p = tt
declarable before (Traffic link ws) p = tt
declarable before (Task name) p = tt
declarable before (Message name sender receivers) p = tt
declarable before (Merge name messages) p = tt
declarable before (Map task resource time ws) p = tt
declarable before (Table name index resource keys weights_at) p = tt
declarable before (Quantity message amount) p = tt
declarable before (QuantityTable name index column rows) p = tt
declarable before (Hops message limit) p = tt
declarable before (Delay message amount) p = tt
declarable before (Deadline task at) p = tt

-- the statement at a place fits what those before it made
pub fits_at : (tgff : TgffValue) (ls : List ArchLine) (k : ℕ) (l : ArchLine) (s : Joining) → AllPass [] ls → k < length ls → l ≡ get_or ls k l → s ≡ after tgff (statements_in ls) k
    → IsFit s l.statement
fits_at tgff ls k l s a lt e es =
    let sts = statements_in ls in
    let before = before_place ls k in
    let t : IsTied (seen before) (after tgff sts k) = subst (λ (b : List Statement). IsTied (seen b) (after tgff sts k)) (take-map statement_of k ls) (tied tgff sts k) in
    let p : Passes before l.statement = subst (λ (x : ArchLine). Passes before x.statement) (sym e) (passes_at ls k l a lt) in
    subst (λ (x : Joining). IsFit x l.statement) (sym es) (fits before (after tgff sts k) l.statement t p)

-- the statement at a place declares an objective where those before it are declared
pub declarable_at : (ls : List ArchLine) (k : ℕ) (l : ArchLine) (s : SettingsValue) → AllPass [] ls → k < length ls → l ≡ get_or ls k l → s ≡ settings_of (seen (before_place ls k))
    → IsDeclarable s l.statement
declarable_at ls k l s a lt e es =
    let before = before_place ls k in
    let p : Passes before l.statement = subst (λ (x : ArchLine). Passes before x.statement) (sym e) (passes_at ls k l a lt) in
    subst (λ (x : SettingsValue). IsDeclarable x l.statement) (sym es) (declarable before l.statement p)

abbrev set_with : List Name → List ℕ → List Bool → Option ℕ → SettingsValue
set_with names scales floors clock = record { plan = plan_with names; scales = scales; floors = floors; clock = clock }

-- what one more statement says, behind what was seen
more_declared : (s : Seen) (st : Statement) → with_declared (settings_of s) st ≡ settings_of (seen_after s st)
more_declared s st =
    let os = s.objectives in
    let new = objectives_in st in
    let clock = option_or s.clock (clock_in st) in
    ap (λ (ns : List Name). set_with ns (map objective_scale os ++ map objective_scale new) (map objective_floor os ++ map objective_floor new) clock) (sym (map-append objective_name os new))
    ∙ ap (λ (cs : List ℕ). set_with (map objective_name (os ++ new)) cs (map objective_floor os ++ map objective_floor new) clock) (sym (map-append objective_scale os new))
    ∙ ap (λ (fs : List Bool). set_with (map objective_name (os ++ new)) (map objective_scale (os ++ new)) fs clock) (sym (map-append objective_floor os new))

pub declared_at : (ls : List ArchLine) (k : ℕ) (l : ArchLine) (old new : SettingsValue) → k < length ls → l ≡ get_or ls k l → old ≡ settings_of (seen (before_place ls k))
    → new ≡ with_declared old l.statement → new ≡ settings_of (seen (before_place ls (k + 1)))
declared_at ls k l old new lt e eo en =
    let s = seen (before_place ls k) in
    en
    ∙ ap (λ (x : SettingsValue). with_declared x l.statement) eo
    ∙ more_declared s l.statement
    ∙ ap (λ (x : ArchLine). settings_of (seen_after s x.statement)) e
    ∙ ap settings_of (sym (seen_at_more ls k l lt))
