use Rattle.std.proofs.Common.{◌≡◌, ◌∙◌, List, map, Option, filter, sym, ap, subst, arith}
use Rattle.pb_rules.specs.Linear.{Linear}
use Rattle.propagate.specs.declared.occurrences.Occurrence.{Occurrence}
use Rattle.propagate.specs.declared.counters.Counters.{Counters}
use Rattle.propagate.specs.Counters.{AreBuilt, is_filled}
use Rattle.propagate.proofs.Emptying.{built_cleared}
use Rattle.propagate.proofs.counters.Counters.empty_each.Goals as goal

pub returns-clause-built : goal.returns-clause-built
returns-clause-built c =
    let s = c.args.self.now in
    let d = c.clear_each.new.self in
    let e = c.clear_each.ensures in
    let new = c.keep_filled.new.self in
    let b = c.requires.built in
    let has_rooms = b.room.has_rooms in
    let has_limits = b.room.has_limits in
    let can_wait = b.room.can_wait in
    let same_slots = e.cleared.same_slots in
    let same_rooms = e.cleared.same_rooms in
    let kept : List (Option Linear) → List (List Occurrence) → List (List Occurrence) = λ slots lists. map (filter (is_filled slots)) lists in
    let is : new ≡ kept d.slots.items s.occurrences = c.keep_filled.ensures ∙ ap (λ slots. kept slots d.occurrences) c.deref.ensures.value
    ∙ ap (λ (v : Counters). kept d.slots.items v.occurrences) e.same in
    let P : Counters → Type 0 = λ v. AreBuilt (record {
      variables = v.variables;
      slots = d.slots;
      rooms = d.rooms;
      limits = v.limits;
      occurrences = new;
      lits = v.lits;
      used = v.used;
      waiting =
          v.waiting;
    }) in
    subst P (sym e.same) (record {
      built = built_cleared s.variables s.slots.items d.slots.items s.limits.items s.rooms.items d.rooms.items s.occurrences new b.built e.cleared is;
      room = record { has_rooms = omega arith; has_limits = omega arith; can_wait = omega arith };
      lits = b.lits;
      used = b.used;
    })
