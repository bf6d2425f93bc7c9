use Rattle.std.proofs.Common.{sym, ap, ◌∙◌, ◌≡◌, ◌++◌, ◌∷◌, [], subst, List, ℕ, length}
use Rattle.std.specs.List.{insert}
use Rattle.result_text.specs.Answers.{EntryValue, as_seen}
use Rattle.result_text.specs.declared.entries.Entry.{Entry}
use Rattle.front_lists.specs.Lists.{vectors_in, IsUndominated}
use Rattle.front_search.specs.Searches.{seen}
use Rattle.front_search.specs.Turns.{IsPlaceFor, AreKeptOf}
use Rattle.front_search.proofs.Places.{kept_more, kept_less, seen-insert}
use Rattle.front_search.proofs.fronts.keep.Goals as goal

pub returns-then-is_dominated : goal.returns-then-is_dominated
returns-then-is_dominated c early h new =
    let us = vectors_in (seen c.args.found.now) in
    kept_less (seen c.args.found.now) early (seen c.args.front.now.items) (as_seen c.args.entry.now) h
    (λ free. c.is_dominated.ensures.yes c.if-is_dominated.true (subst (IsUndominated us) (sym c.numbers.ensures) free))

pub returns : goal.returns
returns c early h new =
    let found = seen c.args.found.now in
    let items = c.args.front.now.items in
    let e : EntryValue = as_seen c.args.entry.now in
    let k = c.place_for-place.result in
    let free : IsUndominated (vectors_in found) e.vector = subst (IsUndominated (vectors_in found)) c.numbers.ensures (c.is_dominated.ensures.no c.if-is_dominated.false) in
    let place : IsPlaceFor (vectors_in (seen items)) e.vector k = subst (λ (es : List Entry). IsPlaceFor (vectors_in (seen es)) e.vector k) c.deref.ensures.value
    (subst (λ (v : List ℕ). IsPlaceFor (vectors_in (seen c.deref.result.now)) v k) c.numbers-2.ensures c.place_for-place.ensures) in
    let grown : seen c.insert.new.self.items ≡ insert (seen items) k e = ap seen c.in_ok-insert.ensures.items
    ∙ (seen-insert items k c.in_ok-copied.copied ∙ ap (λ (x : Entry). insert (seen items) k (as_seen x)) c.in_ok-copied.ensures) in
    subst (AreKeptOf found (early ++ e ∷ [])) (sym grown) (kept_more found early (seen items) e k h c.requires.front_long new c.requires.there free place)
