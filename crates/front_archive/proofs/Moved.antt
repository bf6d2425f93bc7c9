-- A list whose unmarked entries move to its front, one after another, by swaps.
use Rattle.std.proofs.Common.{◌≡◌, ℕ, ◌+◌, ◌<◌, ◌≤◌, List, [], ◌∷◌, ◌++◌, length, get_or, set, take, drop, Bool, true, false, ap, ap₂, sym, ◌∙◌, arith, append-nil, inl, inr}
use Rattle.std.specs.List.{swap}
use Rattle.std.proofs.lemmas.Bool.{cases_lt}
use Rattle.std.proofs.lemmas.List.{take_all, take_more_set, take-set-le, drop-set-lt, get_or-drop, length-set}
use Rattle.std.proofs.lemmas.List.Edits.{swap_is}
use Rattle.std.proofs.lemmas.Grind.{drop_more_same}
use Rattle.dominance_lanes.specs.Columns.{unmarked}
use Rattle.dominance_lanes.proofs.ColumnEdits.{unmarked_more}

-- what a list is, once its first k entries were looked at
pub record IsMoved {X : Type 0} (ms : List Bool) (old now : List X) (k kept : ℕ) : Type 0 where
  pub front : take kept now ≡ unmarked (take k ms) (take k old)
  pub rest : drop k now ≡ drop k old

-- a list with a place has an entry
with_entry : {X P : Type 0} (xs : List X) (k : ℕ) → k < length xs → (X → P) → P
with_entry [] k h f = absurd (omega arith)
with_entry (x ∷ xs) k h f = f x

pub passes_marked : {X : Type 0} (ms : List Bool) (old now : List X) (k kept : ℕ) → length ms ≡ length old → k < length ms → get_or ms k false ≡ true → IsMoved ms old now k kept
    → IsMoved ms old now (k + 1) kept
passes_marked ms old now k kept same h is so = record {
  front = so.front ∙ sym (with_entry old k (omega arith) (λ d. unmarked_more ms old k true d same h is ∙ append-nil _));
  rest = drop_more_same now old k so.rest;
}

-- entries are swapped where the first place is below the second
module _ {X : Type 0} (now : List X) (k kept : ℕ) (d : X) (h : k < length now) where
  swapped_front : kept ≤ k → take (kept + 1) (swap now kept k) ≡ take kept now ++ get_or now k d ∷ []
  swapped_front le =
      let x = get_or now k d in
      let z = get_or now kept d in
      let long = length-set now kept x in
      ap (take (kept + 1)) (sym (swap_is now kept k d (omega arith) h))
      ∙ elim (cases_lt kept k) [
        | inl lt ↦ take-set-le (kept + 1) (set now kept x) k z (omega arith) ∙ take_more_set now kept x (omega arith)
        | inr ge ↦ (let same : kept ≡ k = omega arith in
            ap (λ n. take (kept + 1) (set (set now kept x) n z)) (sym same)
            ∙ take_more_set (set now kept x) kept z (omega arith)
            ∙ ap₂ (λ l a. l ++ a ∷ []) (take-set-le kept now kept x (omega arith)) (ap (λ n. get_or now n d) same))
      ]

  swapped_rest : kept ≤ k → drop (k + 1) (swap now kept k) ≡ drop (k + 1) now
  swapped_rest le =
      let x = get_or now k d in
      let z = get_or now kept d in
      ap (drop (k + 1)) (sym (swap_is now kept k d (omega arith) h))
      ∙ drop-set-lt (k + 1) (set now kept x) k z (omega arith)
      ∙ drop-set-lt (k + 1) now kept x (omega arith)

pub swaps_unmarked : {X : Type 0} (ms : List Bool) (old now : List X) (k kept : ℕ) → length ms ≡ length old → length now ≡ length old → k < length ms → kept ≤ k → get_or ms k false ≡ false
    → IsMoved ms old now k kept → IsMoved ms old (swap now kept k) (k + 1) (kept + 1)
swaps_unmarked {X} ms old now k kept same long h le is so = with_entry old k (omega arith) (λ d.
    let first : (xs : List X) → get_or (drop k xs) 0 d ≡ get_or xs k d = λ xs. get_or-drop k xs 0 d ∙ ap (λ n. get_or xs n d) (omega arith) in
    let read : get_or now k d ≡ get_or old k d = sym (first now) ∙ ap (λ l. get_or l 0 d) so.rest ∙ first old in record {
      front = swapped_front now k kept d (omega arith) le ∙ ap₂ (λ l a. l ++ a ∷ []) so.front read ∙ sym (unmarked_more ms old k false d same h is);
      rest = swapped_rest now k kept d (omega arith) le ∙ drop_more_same now old k so.rest;
    })

pub all_moved : {X : Type 0} (ms : List Bool) (old now : List X) (k kept : ℕ) → length ms ≡ length old → k ≡ length ms → IsMoved ms old now k kept → take kept now ≡ unmarked ms old
all_moved ms old now k kept same end so = so.front ∙ ap₂ unmarked (take_all k ms (omega arith)) (take_all k old (omega arith))
