-- One more statement: what is declared then.
use Rattle.std.proofs.Common.{◌≡◌, ℕ, Bool, ◌||◌, List, [], ◌∷◌, ◌++◌, Option, Some, None, refl, sym, ap, ◌∙◌}
use Rattle.std.specs.List.{list_any}
use Rattle.std.specs.Option.{option_or}
use Rattle.std.proofs.lemmas.List.{flat_map_more}
use Rattle.std.proofs.Math.Bool.{or-false}
use Rattle.arch_reader.specs.Seen.{objectives_in, resources_in, links_in, clock_in, clock_of, is_timed, seen, after}
use Rattle.arch_reader.specs.declared.statement.Statement.{Statement}
use Rattle.arch_reader.specs.declared.seen.Objective.{Objective}
use Rattle.arch_reader.specs.declared.seen.Seen.{Seen}
use Rattle.file_bricks.proofs.Deciding.{or_or}

-- what is there already stays where nothing is stated
pub or_none : (o : Option ℕ) → option_or o None ≡ o
or_none None = refl
or_none (Some n) = refl

or_assoc : (a b c : Option ℕ) → option_or a (option_or b c) ≡ option_or (option_or a b) c
or_assoc None b c = refl
or_assoc (Some n) b c = refl

clock_of-push : (ss : List Statement) (s : Statement) → clock_of (ss ++ s ∷ []) ≡ option_or (clock_of ss) (clock_in s)
clock_of-push [] s = or_none (clock_in s)
clock_of-push (x ∷ ss) s = ap (λ (o : Option ℕ). option_or (clock_in x) o) (clock_of-push ss s) ∙ or_assoc (clock_in x) (clock_of ss) (clock_in s)

timed-push : (ss : List Statement) (s : Statement) → list_any is_timed (ss ++ s ∷ []) ≡ (list_any is_timed ss || is_timed s)
timed-push [] s = or-false (is_timed s)
timed-push (x ∷ ss) s = ap (λ (b : Bool). is_timed x || b) (timed-push ss s) ∙ or_or (is_timed x) (list_any is_timed ss) (is_timed s)

abbrev made : List Objective → List (List ℕ) → List (List ℕ) → Option ℕ → Bool → Seen
made o r l c t = record { objectives = o; resources = r; links = l; clock = c; is_timed = t }

made_same : (o p : List Objective) (r q l k : List (List ℕ)) (c d : Option ℕ) (t u : Bool) → o ≡ p → r ≡ q → l ≡ k → c ≡ d → t ≡ u → made o r l c t ≡ made p q k d u
made_same o p r q l k c d t u a b e f g =
    ap (λ (x : List Objective). made x r l c t) a
    ∙ ap (λ (x : List (List ℕ)). made p x l c t) b
    ∙ ap (λ (x : List (List ℕ)). made p q x c t) e
    ∙ ap (λ (x : Option ℕ). made p q k x t) f
    ∙ ap (λ (x : Bool). made p q k d x) g

-- what statements declare, and one more
pub seen-push : (ss : List Statement) (s : Statement) → seen (ss ++ s ∷ []) ≡ after (seen ss) s
seen-push ss s = made_same _ _ _ _ _ _ _ _ _ _
    (sym (flat_map_more objectives_in [] ss s))
    (sym (flat_map_more resources_in [] ss s))
    (sym (flat_map_more links_in [] ss s))
    (clock_of-push ss s)
    (timed-push ss s)
