use Rattle.std.proofs.Common.{ℕ, List, ◌≡◌, ◌∙◌, subst, ap, ap₂, arith, length, map, vec_items, Vec, Global, sym}
use Rattle.std.specs.List.{All}
use Rattle.std.proofs.lemmas.List.{with_items_is}
use Rattle.dominance_lanes.specs.Columns.{Vectors, HasLength, AreColumns, unmarked}
use Rattle.dominance_lanes.proofs.Rows.{seen, length-rows, rows-unmarked, are_unmarked}
use Rattle.dominance_lanes.proofs.Columns.keep.Goals as goal

pub keep_each-requires : goal.keep_each-requires
keep_each-requires c =
    let places : length c.args.marks.now ≡ c.self.inside.len = c.requires ∙ sym (ap (λ (s : Vectors). length s.vectors) c.self.view_is)
    ∙ length-rows (map vec_items c.self.inside.columns.items) c.self.inside.len in
    subst (λ n. All (HasLength n) (map vec_items c.deref_mut.result.now)) (sym places)
    (subst (λ (cs : List (Vec ℕ Global)). All (HasLength c.self.inside.len) (map vec_items cs)) (sym c.deref_mut.ensures.value) c.self.invariant.even)

pub invariant_of-self : goal.invariant_of-self
invariant_of-self c =
    let columns = map vec_items c.self.inside.columns.items in
    let places : length c.args.marks.now ≡ c.self.inside.len = c.requires ∙ sym (ap (λ (s : Vectors). length s.vectors) c.self.view_is) ∙ length-rows columns c.self.inside.len in
    let long : length c.keep_each.new.columns ≡ c.self.inside.columns.len = omega (arith, c.keep_each.auto.columns, c.deref_mut.ensures.len) in
    let now = c.keep_each.ensures ∙ ap (λ (cs : List (Vec ℕ Global)). map (unmarked c.args.marks.now) (map vec_items cs)) c.deref_mut.ensures.value in
    subst (λ (cs : List (Vec ℕ Global)). AreColumns (map vec_items cs) c.self.inside.width c.count_kept-self-inside.result) (sym (with_items_is c.self.inside.columns c.keep_each.new.columns long))
    (subst (λ cs. AreColumns cs c.self.inside.width c.count_kept-self-inside.result) (sym now)
    (subst (λ n. AreColumns (map (unmarked c.args.marks.now) columns) c.self.inside.width n) (sym c.count_kept-self-inside.ensures)
    (are_unmarked c.args.marks.now columns c.self.inside.width c.self.inside.len places c.self.invariant)))

pub returns : goal.returns
returns c =
    let columns = map vec_items c.self.inside.columns.items in
    let places : length c.args.marks.now ≡ c.self.inside.len = c.requires ∙ sym (ap (λ (s : Vectors). length s.vectors) c.self.view_is) ∙ length-rows columns c.self.inside.len in
    let long : length c.keep_each.new.columns ≡ c.self.inside.columns.len = omega (arith, c.keep_each.auto.columns, c.deref_mut.ensures.len) in
    let now = c.keep_each.ensures ∙ ap (λ (cs : List (Vec ℕ Global)). map (unmarked c.args.marks.now) (map vec_items cs)) c.deref_mut.ensures.value in
    ap (λ (cs : List (Vec ℕ Global)). seen c.self.inside.width (map vec_items cs) c.count_kept-self-inside.result) (with_items_is c.self.inside.columns c.keep_each.new.columns long)
    ∙ ap₂ (seen c.self.inside.width) now c.count_kept-self-inside.ensures
    ∙ ap (λ us. record { width = c.self.inside.width; vectors = us }) (rows-unmarked c.args.marks.now c.self.inside.len columns places c.self.invariant.even)
    ∙ ap (λ (s : Vectors). record { width = s.width; vectors = unmarked c.args.marks.now s.vectors }) c.self.view_is
