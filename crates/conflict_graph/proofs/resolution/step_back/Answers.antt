use Rattle.std.proofs.Common.{◌∙◌, sym, ap, arith, get_or, List}
use Rattle.pb_rules.specs.Literal.{Literal}
use Rattle.conflict_graph.specs.Learning.{signs}
use Rattle.conflict_graph.proofs.Resolving.{at_place, skip_place}
use Rattle.conflict_graph.proofs.Writing.{none_of}
use Rattle.conflict_graph.proofs.resolution.step_back.Goals as goal

pub bounds-clause-var : goal.bounds-clause-var
bounds-clause-var c =
    let a = (at_place c.args.trail.now.entries c.args.trail.now.variables c.args.place c.index-literals-place.result c.requires.place c.assigned-assigned.ensures.distinct
    c.assigned-assigned.ensures.in_range (c.index-literals-place.is ∙ ap (λ (ls : List Literal). get_or ls c.args.place c.index-literals-place.result) c.literals.ensures)).0 in
    let v = c.var-var.ensures.value in
    let l = c.requires.clause_length in omega arith

pub returns-then-is_none : goal.returns-then-is_none
returns-then-is_none c =
    skip_place c.args.store.now c.args.trail.now.entries c.args.trail.now.variables c.args.place c.index-literals-place.result (signs c.args.clause.now) c.args.count c.args.ops.now.items
    c.requires.place (c.index-literals-place.is ∙ ap (λ (ls : List Literal). get_or ls c.args.place c.index-literals-place.result) c.literals.ensures)
    (ap (signs c.args.clause.now) (sym c.var-var.ensures.value) ∙ none_of (signs c.args.clause.now c.var-var.result) c.if-is_none.ensures) c.requires.learning
