-- What an offer leaves, from what the steps of the call say.
use Rattle.std.proofs.Common.{◌≡◌, ◌++◌, ◌&&◌, not, cond, List, [], ◌∷◌, true, false, refl, sym, ap, ap₂, ◌∙◌}
use Rattle.std.proofs.Common.{ℕ, None, Result, Ok, Err, OnOk, arith, ◌≤◌}
use Rattle.std.proofs.lemmas.Bool.{leb-true, le-leb}
use Rattle.std.specs.List.{list_any, filter, position}
use Rattle.std.specs.Cmp.{first_so, second_so}
use Rattle.front_archive.specs.declared.member.Member.{Member}
use Rattle.front_archive.specs.AtMost.{at_most}
use Rattle.front_archive.specs.Members.{covers}
use Rattle.front_archive.specs.Best.{best, offered}
use Rattle.front_archive.proofs.Bests.{best_offered, none_any}

pub at_most_trans : (u v w : List ℕ) → at_most u v ≡ true → at_most v w ≡ true → at_most u w ≡ true
at_most_trans [] v w p q = refl
at_most_trans (x ∷ u) [] w p q = absurd (cc)
at_most_trans (x ∷ u) (y ∷ v) [] p q = absurd (cc)
at_most_trans (x ∷ u) (y ∷ v) (z ∷ w) p q =
    let a : x ≤ y = leb-true x y (first_so _ _ p) in let b : y ≤ z = leb-true y z (first_so _ _ q) in
    ap₂ (λ s t. s && t) (le-leb x z (omega arith)) (at_most_trans u v w (second_so _ _ p) (second_so _ _ q))

pub covers_trans : (a b c : Member) → covers a b ≡ true → covers b c ≡ true → covers a c ≡ true
covers_trans a b c p q = at_most_trans a.vector b.vector c.vector p q

pub best_offer : (history : List Member) (m : Member) (new old : List Member) → new ≡ offered covers old m → old ≡ best covers history → new ≡ best covers (history ++ m ∷ [])
best_offer history m new old is e = is ∙ ap (λ l. offered covers l m) e ∙ best_offered covers covers_trans history m

pub found_offered : (old : List Member) (m : Member) → list_any (λ x. covers x m) old ≡ true → old ≡ offered covers old m
found_offered old m e = ap (λ b. cond b old (filter (λ x. not (covers m x)) old ++ m ∷ [])) (sym e)

pub none_offered : (old : List Member) (m : Member) → list_any (λ x. covers x m) old ≡ false → filter (λ x. not (covers m x)) old ++ m ∷ [] ≡ offered covers old m
none_offered old m e = ap (λ b. cond b old (filter (λ x. not (covers m x)) old ++ m ∷ [])) (sym e)

pub entered_members : {T E : Type 0} (r : Result T E) (old new : List Member) (m : Member) → None ≡ position (λ x. covers x m) old → OnOk r (new ≡ filter (λ x. not (covers m x)) old ++ m ∷ [])
    → OnOk r (new ≡ offered covers old m)
entered_members (Ok x) old new m none e = e ∙ none_offered old m (none_any (λ x. covers x m) old none)
entered_members (Err x) old new m none e = tt

pub entered_best : {T E : Type 0} (r : Result T E) (old new : List Member) (m : Member) → OnOk r (new ≡ offered covers old m)
    → OnOk r ((history : List Member) → old ≡ best covers history → new ≡ best covers (history ++ m ∷ []))
entered_best (Ok x) old new m e = λ history was. best_offer history m new old e was
entered_best (Err x) old new m e = tt
