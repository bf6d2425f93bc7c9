-- The numbers of several words, read one by one.
use Rattle.std.proofs.Common.{◌≡◌, ℕ, ◌+◌, ◌<◌, Bool, false, ◌||◌, List, [], ◌∷◌, ◌++◌, length, map, take, get_or, refl, sym, ap, ◌∙◌, Bor}
use Rattle.std.proofs.lemmas.List.{map_push}
use Rattle.std.proofs.Math.Bool.{or-false}
use Rattle.line_words.specs.Rules.{Words, said}
use Rattle.file_bricks.proofs.Deciding.{or_or}
use Rattle.arch_reader.specs.Numbers.{fine, both, all_misread}
use Rattle.arch_reader.specs.declared.numbers.Misread.{Misread}
use Rattle.file_bricks.proofs.Said.{said_more}

abbrev made : Bool → Bool → Misread
made bad big = record { bad = bad; big = big }

made_same : (a b c d : Bool) → a ≡ b → c ≡ d → made a c ≡ made b d
made_same a b c d e f = ap (λ (x : Bool). made x c) e ∙ ap (λ (x : Bool). made b x) f

both_fine : (m : Misread) → both m fine ≡ m
both_fine m = made_same (m.bad || false) m.bad (m.big || false) m.big (or-false m.bad) (or-false m.big)

both_assoc : (a b c : Misread) → both a (both b c) ≡ both (both a b) c
both_assoc a b c = made_same (a.bad || (b.bad || c.bad)) ((a.bad || b.bad) || c.bad) (a.big || (b.big || c.big)) ((a.big || b.big) || c.big) (or_or a.bad b.bad c.bad) (or_or a.big b.big c.big)

-- one more word
pub misread-push : (f : List ℕ → Misread) (ws : Words) (w : List ℕ) → all_misread f (ws ++ w ∷ []) ≡ both (all_misread f ws) (f w)
misread-push f [] w = both_fine (f w) ∙ refl
misread-push f (x ∷ ws) w = ap (λ (m : Misread). both (f x) m) (misread-push f ws w) ∙ both_assoc (f x) (all_misread f ws) (f w)

-- nothing is misread where no word is bad and none is too big
pub none_misread : (m : Misread) → m.bad ≡ false → m.big ≡ false → m ≡ fine
none_misread m a b = made_same m.bad false m.big false a b

-- ---- in a loop over words lent from a line

pub items_more : {X : Type 0} (f : List ℕ → X) (ws : List (Bor (List ℕ))) (i : ℕ) (d : Bor (List ℕ)) → i < length ws → (items new : List X) (x : X)
    → items ≡ map f (said (take i ws)) → new ≡ items ++ x ∷ [] → x ≡ f (get_or ws i d).now → new ≡ map f (said (take (i + 1) ws))
items_more {X} f ws i d h items new x so_far e is =
    e ∙ ap (λ (l : List X). l ++ x ∷ []) so_far
    ∙ ap (λ (y : X). map f (said (take i ws)) ++ y ∷ []) is
    ∙ sym (map_push f (said (take i ws)) (get_or ws i d).now)
    ∙ ap (λ (l : Words). map f l) (sym (said_more ws i d h))

pub misread_more : (f : List ℕ → Misread) (ws : List (Bor (List ℕ))) (i : ℕ) (d : Bor (List ℕ)) → i < length ws → (m n k : Misread)
    → m ≡ all_misread f (said (take i ws)) → n ≡ both m k → k ≡ f (get_or ws i d).now → n ≡ all_misread f (said (take (i + 1) ws))
misread_more f ws i d h m n k so_far e is =
    e ∙ ap (λ (x : Misread). both x k) so_far
    ∙ ap (λ (x : Misread). both (all_misread f (said (take i ws))) x) is
    ∙ sym (misread-push f (said (take i ws)) (get_or ws i d).now)
    ∙ ap (λ (l : Words). all_misread f l) (sym (said_more ws i d h))
