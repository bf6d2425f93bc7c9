-- The lengths at which all clauses are closed, once some of them were forgotten.
use Rattle.std.proofs.Common.{◌≡◌, ◌∙◌, ℕ, ◌≤◌, Bool, false, Option, None, List, length, take, get_or, sym, ap, subst, arith, inl, inr}
use Rattle.std.specs.Prelude.{All}
use Rattle.std.specs.List.Retain.{IsFiltered}
use Rattle.std.proofs.lemmas.Bool.{cases_eq}
use Rattle.std.proofs.lemmas.Grind.{get_or_picked}
use Rattle.std.proofs.lemmas.List.{take-take, take-map, length-take}
use Rattle.std.proofs.lemmas.Option.{same_Some}
use Rattle.pb_rules.specs.Literal.{Literal}
use Rattle.pb_rules.specs.Partial.{falsifies, is_false}
use Rattle.trail_state.specs.Trail.{Entry, value_in}
use Rattle.propagate.specs.Counters.{value_given}
use Rattle.propagate.specs.Watched.{WatchedView, Watches, IsGuarded, AreGuarded}
use Rattle.propagate.specs.Watches.{IsClosedAt}
use Rattle.propagate.proofs.Placed.{IsPlaced}
use Rattle.propagate.proofs.Tying.{lits_of}
use Rattle.propagate.proofs.Weights.{value_given_entries}

-- what `retain` keeps stood in the list
pub All-retained : {X F : Type 0} (R : F → X → Bool → F → Type 0) (P : X → Type 0) (f : F) (xs ys : List X) → IsFiltered R f xs ys → All P xs → All P ys
All-retained {X} R P f xs ys (bs, q, same, turns, is) a =
    let Q : List X → Type 0 = All P in
    subst Q (sym is) (λ k d h. (let w = (get_or_picked bs xs k d h).1 in subst P (sym w.2) (a w.0 d w.1)))

-- under fewer literals, where the length is left
pub closed_fewer : (ls : List Literal) (slots : List (Option WatchedView)) (left n : ℕ) → n ≤ left → IsClosedAt ls slots n → IsClosedAt (take left ls) slots n
closed_fewer ls slots left n h c =
    let P : List Literal → Type 0 = λ us. AreGuarded (value_given us) (value_given us) slots in
    let len = length-take left ls in
    let below = c.below in
    record { below = omega (arith, h, below, len); guarded = subst P (sym (take-take n left ls h)) c.guarded }

-- where the slots are the same
pub closed_same : (ls : List Literal) (old new : List (Option WatchedView)) (n : ℕ) → ((i : ℕ) → get_or new i None ≡ get_or old i None) → IsClosedAt ls old n → IsClosedAt ls new n
closed_same ls old new n same c = record { below = c.below; guarded = λ i w e. c.guarded i w (sym (same i) ∙ e) }

-- the first literals of a trail give the values that its first entries do
given_first : (ls : List Literal) (es : List Entry) (n x : ℕ) → take (length ls) (lits_of es) ≡ ls → n ≤ length ls → value_given (take n ls) x ≡ value_in (take n es) x
given_first ls es n x first h =
    let t : take n ls ≡ take n (lits_of es) = ap (take n) (sym first) ∙ take-take n (length ls) (lits_of es) h in
    ap (λ (us : List Literal). value_given us x) (t ∙ take-map (λ (e : Entry). e.lit) n es) ∙ value_given_entries (take n es) x

-- where one more clause has no watched literal that is false under so many
pub closed_placed : (ls : List Literal) (es : List Entry) (old new : List (Option WatchedView)) (slot : ℕ) (w : WatchedView) (n : ℕ) → take (length ls) (lits_of es) ≡ ls → IsPlaced slot w old new
    → ((l : Literal) → Watches w l → is_false (value_in (take n es)) l ≡ false) → IsClosedAt ls old n → IsClosedAt ls new n
closed_placed ls es old new slot w n first p opens c =
    let q = value_given (take n ls) in
    record {
      below = c.below;
      guarded = λ i v e. elim (cases_eq i slot) [
        | inl s ↦ (
            let P : WatchedView → Type 0 = λ u. IsGuarded q q u in
            let is : w ≡ v = same_Some w v (sym p.here ∙ ap (λ (j : ℕ). get_or new j None) (sym s) ∙ e) in
            let own : IsGuarded q q w = λ l h f. absurd (
            let same : is_false q l ≡ is_false (value_in (take n es)) l = ap (λ (o : Option Bool). falsifies o l.yes) (given_first ls es n l.var first c.below) in
            let no : is_false q l ≡ false = same ∙ opens l h in
            cc) in
            subst P is own)
        | inr ne ↦ c.guarded i v (sym (p.others i ne) ∙ e)
      ];
    }
