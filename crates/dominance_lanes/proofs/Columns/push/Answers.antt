use Rattle.std.proofs.Common.{ℕ, List, [], ◌∷◌, ◌++◌, ◌≡◌, ◌+◌, ◌∙◌, subst, ap, ap₂, arith, length, map, vec_items, Vec, Global, sym, rules}
use Rattle.std.proofs.lemmas.List.{with_items_is, length-map}
use Rattle.dominance_lanes.specs.Columns.{Vectors, AreColumns}
use Rattle.dominance_lanes.specs.Groups.{with_row}
use Rattle.dominance_lanes.proofs.Rows.{seen, completed_by, rows-with_row, are_with_row}
use Rattle.dominance_lanes.proofs.Columns.push.Goals as goal
use Rattle.plain_lists.proofs.Results.{on_err}

pub returns-in_err-complete-clause-err : goal.returns-in_err-complete-clause-err
returns-in_err-complete-clause-err c =
    let done = completed_by c.self.inside.columns c.complete.new.columns c.self.inside.width c.self.inside.len c.complete.ensures.more c.complete.ensures.bound c.self.invariant in
    on_err c.from_residual.result (ap (λ us. record { width = c.self.inside.width; vectors = us }) done.same ∙ c.self.view_is)

pub returns-in_err-push_row-clause-err : goal.returns-in_err-push_row-clause-err
returns-in_err-push_row-clause-err c =
    let done = completed_by c.self.inside.columns c.complete.new.columns c.self.inside.width c.self.inside.len c.complete.ensures.more c.complete.ensures.bound c.self.invariant in
    let long : length c.push_row.new.columns ≡ c.complete.new.columns.len = omega (arith, c.push_row.auto.columns, c.deref_mut.ensures.len) in
    on_err c.from_residual-in_err-push_row.result (
    ap (λ (cs : List (Vec ℕ Global)). seen c.self.inside.width (map vec_items cs) c.self.inside.len) (with_items_is c.complete.new.columns c.push_row.new.columns long)
    ∙ ap (λ cs. seen c.self.inside.width cs c.self.inside.len) (c.in_err-push_row.ensures.err ∙ ap (map vec_items) c.deref_mut.ensures.value)
    ∙ ap (λ us. record { width = c.self.inside.width; vectors = us }) done.same ∙ c.self.view_is)

pub invariant_of-self-2 : goal.invariant_of-self-2
invariant_of-self-2 c =
    let now = map vec_items c.complete.new.columns.items in
    let done = completed_by c.self.inside.columns c.complete.new.columns c.self.inside.width c.self.inside.len c.complete.ensures.more c.complete.ensures.bound c.self.invariant in
    let long : length c.push_row.new.columns ≡ c.complete.new.columns.len = omega (arith, c.push_row.auto.columns, c.deref_mut.ensures.len) in
    let plus : c.in-Some.len ≡ c.self.inside.len + 1 = search rules in
    let whole : length now ≡ c.self.inside.width = omega (arith, length-map c.complete.new.columns.items vec_items, c.complete.new.columns.ok.0, c.in_ok-complete.ensures.whole) in
    let width : length c.args.v.now ≡ c.self.inside.width = c.requires ∙ sym (ap (λ (s : Vectors). s.width) c.self.view_is) in
    subst (λ (cs : List (Vec ℕ Global)). AreColumns (map vec_items cs) c.self.inside.width c.in-Some.len) (sym (with_items_is c.complete.new.columns c.push_row.new.columns long))
    (subst (λ cs. AreColumns cs c.self.inside.width c.in-Some.len) (sym (c.in_ok-push_row.ensures.ok
    ∙ ap (λ (cs : List (Vec ℕ Global)). with_row (map vec_items cs) c.args.v.now) c.deref_mut.ensures.value))
    (subst (λ n. AreColumns (with_row now c.args.v.now) c.self.inside.width n) (sym plus) (are_with_row now c.args.v.now c.self.inside.width c.self.inside.len whole width done.are.even)))

pub returns-clause-ok : goal.returns-clause-ok
returns-clause-ok c =
    let now = map vec_items c.complete.new.columns.items in
    let done = completed_by c.self.inside.columns c.complete.new.columns c.self.inside.width c.self.inside.len c.complete.ensures.more c.complete.ensures.bound c.self.invariant in
    let long : length c.push_row.new.columns ≡ c.complete.new.columns.len = omega (arith, c.push_row.auto.columns, c.deref_mut.ensures.len) in
    let plus : c.in-Some.len ≡ c.self.inside.len + 1 = search rules in
    let whole : length now ≡ length c.args.v.now = omega (
      arith,
      length-map c.complete.new.columns.items vec_items,
      c.complete.new.columns.ok.0,
      c.in_ok-complete.ensures.whole,
      ap (λ (s : Vectors). s.width) c.self.view_is,
      c.requires,
    ) in
    ap (λ (cs : List (Vec ℕ Global)). seen c.self.inside.width (map vec_items cs) c.in-Some.len) (with_items_is c.complete.new.columns c.push_row.new.columns long)
    ∙ ap₂ (seen c.self.inside.width) (c.in_ok-push_row.ensures.ok ∙ ap (λ (cs : List (Vec ℕ Global)). with_row (map vec_items cs) c.args.v.now) c.deref_mut.ensures.value) plus
    ∙ ap (λ us. record { width = c.self.inside.width; vectors = us }) (rows-with_row now c.args.v.now c.self.inside.len whole done.are.even ∙ ap (λ us. us ++ c.args.v.now ∷ []) done.same)
    ∙ ap (λ (s : Vectors). record { width = s.width; vectors = s.vectors ++ c.args.v.now ∷ [] }) c.self.view_is
