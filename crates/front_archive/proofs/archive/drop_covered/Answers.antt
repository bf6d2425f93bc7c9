use Rattle.std.proofs.Common.{◌≡◌, ◌∙◌, ◌-◌, ◌+◌, ◌<◌, [], List, ap, sym, subst, arith, length, get_or, set, false}
use Rattle.std.proofs.lemmas.List.{length-map, length-set, length_push, get_or_at}
use Rattle.dominance_lanes.specs.Columns.{unmarked}
use Rattle.front_archive.specs.declared.member.Member.{Member}
use Rattle.front_archive.specs.Members.{AreColumnsOf}
use Rattle.front_archive.proofs.Marked.{drops_covered, keeps_columns}
use Rattle.front_archive.proofs.archive.drop_covered.Goals as goal

pub mark_above-requires-clause-width : goal.mark_above-requires-clause-width
mark_above-requires-clause-width c =
    let at : c.len-last.result - 1 < length c.args.members.now.items = omega (arith, c.args.members.now.ok.0) in
    ap length c.numbers.ensures ∙ ap (λ (x : Member). length x.vector) c.index.ensures ∙ c.requires.same.widths (c.len-last.result - 1) c.index.result.now at

pub mark_above-requires-clause-places : goal.mark_above-requires-clause-places
mark_above-requires-clause-places c =
    let count = ap length c.requires.same.same ∙ length-map c.args.members.now.items (λ (x : Member). x.vector) in
    omega (arith, count, c.args.members.now.ok.0)

pub keep-requires : goal.keep-requires
keep-requires c =
    let count = ap length c.requires.same.same ∙ length-map c.args.members.now.items (λ (x : Member). x.vector) in
    omega (arith, count, c.args.members.now.ok.0, c.mark_above.auto.marks, length-set c.mark_above.new.marks (c.len-last.result - 1) false)

pub drop_marked-requires : goal.drop_marked-requires
drop_marked-requires c = omega (arith, c.mark_above.auto.marks, length-set c.mark_above.new.marks (c.len-last.result - 1) false)

pub returns-clause-items : goal.returns-clause-items
returns-clause-items c before m is =
    let last = c.len-last.result - 1 in
    let items = c.args.members.now.items in
    let long = ap length is ∙ length_push before m in
    let at : length before ≡ last = omega (arith, long, c.args.members.now.ok.0) in
    let end : last + 1 ≡ length items = omega (arith, long, c.args.members.now.ok.0) in
    let count : length c.mark_above.new.marks ≡ length items = omega (arith, c.mark_above.auto.marks, c.args.members.now.ok.0) in
    let read = c.index.ensures ∙ ap (λ (xs : List Member). get_or xs last c.index.result.now) is ∙ get_or_at before m [] c.index.result.now last at in
    c.drop_marked.ensures ∙ drops_covered items before m c.args.columns.now c.numbers.result.now c.mark_above.new.marks last c.requires.same is
    (c.numbers.ensures ∙ ap (λ (x : Member). x.vector) read) count end c.mark_above.ensures

pub returns-clause-same : goal.returns-clause-same
returns-clause-same c =
    let marks = set c.mark_above.new.marks (c.len-last.result - 1) false in
    subst (λ cs. AreColumnsOf c.drop_marked.new.members.items cs) (sym c.keep.ensures)
    (subst (λ xs. AreColumnsOf xs (record c.args.columns.now { vectors = unmarked marks c.args.columns.now.vectors })) (sym c.drop_marked.ensures)
    (keeps_columns c.args.members.now.items c.args.columns.now marks c.requires.same))
