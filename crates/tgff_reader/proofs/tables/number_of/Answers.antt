use Rattle.std.proofs.Common.{◌≡◌, ℕ, List, ◌∷◌, ◌++◌, [], Option, map, refl, sym, ◌∙◌, subst, Contains}
use Rattle.std.specs.Prelude.{MatchOption}
use Rattle.std.specs.String.{string_bytes}
use Rattle.std.proofs.lemmas.List.{length-map}
use Rattle.names.specs.Names.{IsNumberOf}
use Rattle.names.proofs.Texts.{find_at, add_at}
use Rattle.tgff_reader.proofs.Places.{new_number}
use Rattle.tgff_reader.proofs.tables.number_of.Goals as goal

pub returns-in-Some-clause-number : goal.returns-in-Some-clause-number
returns-in-Some-clause-number c =
    let names : List (List ℕ) = map string_bytes c.args.names.now.keys in
    subst (λ (o : Option ℕ). MatchOption o (Contains names c.args.name.now → ⊥) (IsNumberOf names c.args.name.now)) c.in-Some.is
    (find_at c.args.names.now.keys c.args.name.now c.get_index_of.result names c.get_index_of.ensures.index refl)

pub returns-clause-number : goal.returns-clause-number
returns-clause-number c =
    let names : List (List ℕ) = map string_bytes c.args.names.now.keys in
    let name : List ℕ = c.args.name.now in
    let new : Contains names name → ⊥ = subst (λ (o : Option ℕ). MatchOption o (Contains names name → ⊥) (IsNumberOf names name)) c.in_default.is
    (find_at c.args.names.now.keys name c.get_index_of.result names c.get_index_of.ensures.index refl) in
    let all : map string_bytes c.insert_full.new.self.keys ≡ names ++ name ∷ [] = add_at c.args.names.now.keys c.insert_full.new.self.keys c.in_ok-text.text name names
    c.in_ok-insert_full.ensures.keys c.in_ok-text.ensures.ok refl new in
    subst (λ (ns : List (List ℕ)). IsNumberOf ns name c.len-number.result) (sym all) (subst (IsNumberOf (names ++ name ∷ []) name)
    (length-map c.args.names.now.keys string_bytes ∙ sym c.len-number.ensures.len) (new_number names name new))
