use Rattle.std.proofs.Common.{ℕ, List, Option, Some, None, map, refl, subst, Contains}
use Rattle.std.specs.Prelude.{MatchOption}
use Rattle.std.specs.String.{string_bytes}
use Rattle.names.specs.Names.{IsNumberOf}
use Rattle.names.proofs.Texts.{find_at}
use Rattle.tgff_reader.specs.Looking.{IsTableAt, HasNoTable}
use Rattle.tgff_reader.specs.Places.{place_in}
use Rattle.tgff_reader.specs.declared.file.Table.{Table}
use Rattle.tgff_reader.proofs.Places.{no_such, found_by}
use Rattle.tgff_reader.proofs.tables.Tables.find.Goals as goal

pub returns-in_default : goal.returns-in_default
returns-in_default c =
    let names : List (List ℕ) = map string_bytes c.self.inside.names.keys in
    let name : List ℕ = c.args.name.now in
    let away : Contains names name → ⊥ = subst (λ (o : Option ℕ). MatchOption o (Contains names name → ⊥) (IsNumberOf names name)) c.in_default.is
    (find_at c.self.inside.names.keys name c.get_index_of.result names c.get_index_of.ensures.index refl) in
    subst (λ (ts : List Table). HasNoTable ts name c.args.index) c.self.view_is (no_such names (place_in c.self.inside.places) c.self.inside.list.items name c.args.index c.self.invariant away)

pub returns-in-Some-get : goal.returns-in-Some-get
returns-in-Some-get c =
    let names : List (List ℕ) = map string_bytes c.self.inside.names.keys in
    let name : List ℕ = c.args.name.now in
    let number : IsNumberOf names name c.in-Some.number = subst (λ (o : Option ℕ). MatchOption o (Contains names name → ⊥) (IsNumberOf names name)) c.in-Some.is
    (find_at c.self.inside.names.keys name c.get_index_of.result names c.get_index_of.ensures.index refl) in
    subst (λ (ts : List Table). IsTableAt ts name c.args.index c.in-Some-get.place.now) c.self.view_is
    (found_by names (place_in c.self.inside.places) c.self.inside.list.items name c.args.index c.in-Some.number (Some c.in-Some-get.place.now) c.self.invariant number c.in-Some-get.ensures.value)

pub returns-in-None : goal.returns-in-None
returns-in-None c =
    let names : List (List ℕ) = map string_bytes c.self.inside.names.keys in
    let name : List ℕ = c.args.name.now in
    let number : IsNumberOf names name c.in-Some.number = subst (λ (o : Option ℕ). MatchOption o (Contains names name → ⊥) (IsNumberOf names name)) c.in-Some.is
    (find_at c.self.inside.names.keys name c.get_index_of.result names c.get_index_of.ensures.index refl) in
    subst (λ (ts : List Table). HasNoTable ts name c.args.index) c.self.view_is
    (found_by names (place_in c.self.inside.places) c.self.inside.list.items name c.args.index c.in-Some.number None c.self.invariant number c.in-None.ensures.value)
