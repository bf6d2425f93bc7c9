use Rattle.std.proofs.Common.{◌≡◌, ◌∙◌, ℕ, ◌+◌, ◌-◌, ◌<◌, ◌^◌, List, [], ◌∷◌, ◌++◌, get_or, take, drop, sym, ap, subst, arith}
use Rattle.std.proofs.lemmas.List.{with_items_is}
use Rattle.std.specs.Vec.{with_items}
use Rattle.pb_rules.specs.Literal.{Literal, opposite_of}
use Rattle.pb_rules.specs.Partial.{open_weight}
use Rattle.propagate.specs.declared.occurrences.Occurrence.{Occurrence}
use Rattle.propagate.specs.Counters.{literal_number, value_given, counted_of, linear_at, occurrences_of, weight_at, AreDistinct, IsGivenBack, taken_off}
use Rattle.propagate.proofs.Backing.{given_fits, given_more, off_at}
use Rattle.propagate.proofs.Tying.{gave_by, last_counted}
use Rattle.propagate.proofs.counters.Counters.give_last.Goals as goal

pub give_rooms-requires-clause-fits : goal.give_rooms-requires-clause-fits
give_rooms-requires-clause-fits c =
    let s = c.args.self.now in
    let l = c.index.result.now in
    let ls = take (s.used - 1) s.lits.items in
    let is : counted_of s ≡ ls ++ l ∷ [] = last_counted s.lits.items s.used l c.requires.some c.requires.built.used c.index.ensures in
    let S : List Literal → Type 0 = λ us. (i : ℕ) → get_or s.rooms.items i 0 ≡ open_weight (value_given us) (linear_at s.slots.items i).terms in
    let D : List Literal → Type 0 = λ us. AreDistinct us in
    let os : c.of.result.now ≡ occurrences_of s.occurrences (literal_number (opposite_of l)) = c.of.ensures
    ∙ ap (λ (m : Literal). occurrences_of s.occurrences (literal_number m)) c.opposite.ensures in
    let rooms : c.deref_mut.result.now ≡ s.rooms.items = c.deref_mut.ensures.value in
    let P : List Occurrence → Type 0 = λ us. (i : ℕ) → get_or s.rooms.items i 0 + weight_at i us < 2 ^ 63 in
    let Q : List ℕ → Type 0 = λ rs. (i : ℕ) → get_or rs i 0 + weight_at i c.of.result.now < 2 ^ 63 in
    let h = given_fits s.variables s.slots.items s.limits.items s.rooms.items s.occurrences ls l c.requires.built.built (subst S is c.requires.sums) (subst D is c.requires.distinct) in
    subst Q (sym rooms) (subst P (sym os) h)

pub returns-clause-given : goal.returns-clause-given
returns-clause-given c top le there p =
    let s = c.args.self.now in
    let l = c.index.result.now in
    let ls = take (s.used - 1) s.lits.items in
    let is : counted_of s ≡ ls ++ l ∷ [] = last_counted s.lits.items s.used l c.requires.some c.requires.built.used c.index.ensures in
    let S : List Literal → Type 0 = λ us. IsGivenBack s.variables s.slots.items s.rooms.items s.waiting us (taken_off top s) in
    let os : c.of.result.now ≡ occurrences_of s.occurrences (literal_number (opposite_of l)) = c.of.ensures
    ∙ ap (λ (m : Literal). occurrences_of s.occurrences (literal_number m)) c.opposite.ensures in
    let g = gave_by c.of.result.now (occurrences_of s.occurrences (literal_number (opposite_of l))) c.deref_mut.result.now s.rooms.items c.give_rooms.new.rooms os c.deref_mut.ensures.value
    c.give_rooms.ensures in
    let same = g.same_length in
    let rooms : (with_items s.rooms c.give_rooms.new.rooms).items ≡ c.give_rooms.new.rooms = with_items_is s.rooms c.give_rooms.new.rooms (omega (arith, s.rooms.ok.0)) in
    let some = c.requires.some in
    let up : s.used - 1 + 1 ≡ s.used = omega arith in
    let off : drop (s.used - 1) (take top s.lits.items) ≡ l ∷ taken_off top s = off_at s.lits.items top (s.used - 1) l (omega arith) there c.index.ensures
    ∙ ap (λ (m : ℕ). l ∷ drop m (take top s.lits.items)) up in
    let q = given_more s.variables s.slots.items s.limits.items s.rooms.items c.give_rooms.new.rooms s.occurrences s.waiting ls (taken_off top s) l c.requires.built.built (subst S is p) g in
    let P : List ℕ → Type 0 = λ rs. IsGivenBack s.variables s.slots.items rs s.waiting ls (l ∷ taken_off top s) in
    let O : List Literal → Type 0 = λ us. IsGivenBack s.variables s.slots.items (with_items s.rooms c.give_rooms.new.rooms).items s.waiting ls us in
    subst O (sym off) (subst P (sym rooms) q)
