-- The types of the messages that aren't merged.
use Rattle.std.proofs.Common.{◌≡◌, ℕ, ◌+◌, ◌<◌, Bool, true, false, cond, List, [], ◌∷◌, ◌++◌, length, get_or, map, Option, None, sym, ap, ◌∙◌}
use Rattle.std.proofs.lemmas.List.{map-append, append-nil, get_or_default}
use Rattle.spec_model.specs.Spec.{those}
use Rattle.spec_model.proofs.Those.{those_more}
use Rattle.spec_join.specs.Quantities.{message_kind_at}

abbrev Types : Type 0
Types = List (Option ℕ)

-- one message more that isn't listed
pub kinds_yes : (kinds : Types) (p : ℕ → Bool) (m : ℕ) (old new : Types) (kind d : Option ℕ) → p m ≡ true → m < length kinds → kind ≡ get_or kinds m d
    → old ≡ map (message_kind_at kinds) (those p m) → new ≡ old ++ kind ∷ [] → new ≡ map (message_kind_at kinds) (those p (m + 1))
kinds_yes kinds p m old new kind d e l k o n =
    n
    ∙ ap (λ (xs : Types). xs ++ kind ∷ []) o
    ∙ ap (λ (x : Option ℕ). map (message_kind_at kinds) (those p m) ++ x ∷ []) (k ∙ get_or_default kinds m d None l)
    ∙ sym (map-append (message_kind_at kinds) (those p m) (m ∷ []))
    ∙ ap (map (message_kind_at kinds)) (sym (those_more p m ∙ ap (λ (b : Bool). those p m ++ cond b (m ∷ []) []) e))

-- one more that is
pub kinds_no : (kinds : Types) (p : ℕ → Bool) (m : ℕ) (old new : Types) → p m ≡ false → old ≡ map (message_kind_at kinds) (those p m) → new ≡ old → new ≡ map (message_kind_at kinds) (those p (m + 1))
kinds_no kinds p m old new e o n = n ∙ o ∙ ap (map (message_kind_at kinds)) (sym (those_more p m ∙ ap (λ (b : Bool). those p m ++ cond b (m ∷ []) []) e ∙ append-nil (those p m)))
