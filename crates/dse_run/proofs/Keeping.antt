-- What is left of tools that no command calls.
use Rattle.std.proofs.Common.{◌≡◌, ◌∙◌, ◌+◌, ◌<◌, ◌++◌, ◌∷◌, [], ℕ, List, Option, Some, None, get_or, length, map, take, refl, sym, ap}
use Rattle.std.proofs.lemmas.List.{take_more, map_push}
use Rattle.run_words.specs.Values.{RequestValue, decode, explore, front, check, make}
use Rattle.explore_run.specs.Tools.{ToolsValue}
use Rattle.dse_run.specs.Commands.{Calls, KeepsTools}
use Rattle.evo_explore.proofs.Rounds.{none_rose}

none_called : (asked : Option RequestValue) (calls : _) → Calls asked calls calls
none_called None calls = refl
none_called (Some (decode d)) calls = refl
none_called (Some (explore e)) calls = none_rose e.rounds e.chosen calls
none_called (Some (front f)) calls = refl
none_called (Some (check c)) calls = refl
none_called (Some (make m)) calls = refl

-- nothing is done with them
pub same_kept : (asked : Option RequestValue) (tools : ToolsValue) → KeepsTools asked tools tools
same_kept asked tools = record { tags = refl; values = λ s f. refl; calls = none_called asked tools.calls }

-- one more text beside one more of what it is made of
pub one_more : {X Y : Type 0} (f : X → List ℕ) (h : Y → List ℕ) (xs : List X) (i : ℕ) (x : X) (now next : List Y) (y : Y) → map h now ≡ map f (take i xs) → next ≡ now ++ y ∷ [] → h y ≡ f x
    → x ≡ get_or xs i x → i < length xs → map h next ≡ map f (take (i + 1) xs)
one_more f h xs i x now next y so_far push is there lt =
    ap (map h) push ∙ (map_push h now y ∙ (ap (λ (ts : List (List ℕ)). ts ++ h y ∷ []) so_far ∙ (ap (λ (t : List ℕ). map f (take i xs) ++ t ∷ []) (is ∙ ap f there)
    ∙ sym (ap (map f) (take_more xs i x lt) ∙ map_push f (take i xs) (get_or xs i x)))))
