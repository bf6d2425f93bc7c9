use Rattle.std.proofs.Common.{◌≡◌, ℕ, cond, List, length, Some, map, sym, ap, ◌∙◌, subst}
use Rattle.std.specs.String.{string_bytes}
use Rattle.names.specs.Names.{IsNumberOf}
use Rattle.tgff_reader.specs.Places.{is_pair, place_in, AreFound}
use Rattle.tgff_reader.specs.declared.file.Table.{Table}
use Rattle.tgff_reader.proofs.Places.{found_with_name, found_with_table, found_unchanged}
use Rattle.tgff_reader.proofs.tables.Tables.push.Goals as goal

pub invariant_of-self-in_err-number : goal.invariant_of-self-in_err-number
invariant_of-self-in_err-number c =
    found_with_name (map string_bytes c.self.inside.names.keys) (map string_bytes c.number_of.new.names.keys) (place_in c.self.inside.places) c.reserve.new.self.items c.list.result.now
    (subst (λ (ts : List Table). AreFound (map string_bytes c.self.inside.names.keys) (place_in c.self.inside.places) ts) (sym c.reserve.ensures.items) c.self.invariant) c.number_of.ensures.names

pub invariant_of-self-in_err-insert : goal.invariant_of-self-in_err-insert
invariant_of-self-in_err-insert c =
    let named = found_with_name (map string_bytes c.self.inside.names.keys) (map string_bytes c.number_of.new.names.keys) (place_in c.self.inside.places) c.reserve.new.self.items c.list.result.now
    (subst (λ (ts : List Table). AreFound (map string_bytes c.self.inside.names.keys) (place_in c.self.inside.places) ts) (sym c.reserve.ensures.items) c.self.invariant) c.number_of.ensures.names in
    found_unchanged (map string_bytes c.number_of.new.names.keys) c.self.inside.places c.insert.new.self c.reserve.new.self.items c.in_err-insert.ensures.err named

pub invariant_of-self-2 : goal.invariant_of-self-2
invariant_of-self-2 c =
    let names : List (List ℕ) = map string_bytes c.number_of.new.names.keys in
    let t : Table = c.args.table in
    let named = found_with_name (map string_bytes c.self.inside.names.keys) names (place_in c.self.inside.places) c.reserve.new.self.items c.list.result.now
    (subst (λ (ts : List Table). AreFound (map string_bytes c.self.inside.names.keys) (place_in c.self.inside.places) ts) (sym c.reserve.ensures.items) c.self.invariant) c.number_of.ensures.names in
    let number : IsNumberOf names t.name c.in_ok-number.number = subst (λ (name : List ℕ). IsNumberOf names name c.in_ok-number.number) c.list.ensures c.in_ok-number.ensures.number in
    let told : (p : ℕ × ℕ) → place_in c.insert.new.self p ≡ cond (is_pair (c.in_ok-number.number, t.index) p) (Some (length c.reserve.new.self.items)) (place_in c.self.inside.places p)
    = λ p. c.in_ok-insert.ensures.updates.0 p ∙ ap (λ (n : ℕ). cond (is_pair (c.in_ok-number.number, t.index) p) (Some n) (place_in c.self.inside.places p))
    (c.len.ensures ∙ c.reserve.new.self.ok.0) in
    subst (λ (ts : List Table). AreFound names (place_in c.insert.new.self) ts) (sym c.push_reserved.ensures.items)
    (found_with_table names (place_in c.self.inside.places) (place_in c.insert.new.self) c.reserve.new.self.items t c.in_ok-number.number named number told)
