use Rattle.std.proofs.Common.{◌∙◌, sym, subst, List}
use Rattle.std.specs.Prelude.{All}
use Rattle.pb_rules.specs.Literal.{Literal}
use Rattle.propagate.proofs.Ready.{along_nothing}
use Rattle.proof_log.specs.Log.{LogValue}
use Rattle.ordered_solver.specs.Engines.{HasKeptIds}
use Rattle.ordered_solver.specs.Lessons.{GoesOnKept}
use Rattle.ordered_solver.specs.Trails.{IsVarBelow, Covers}
use Rattle.ordered_solver.proofs.Between.{listed_added, goes_kept}
use Rattle.ordered_solver.proofs.Orders.{order_below, order_covers}
use Rattle.ordered_solver.proofs.engine.Engine.solve.Goals as goal

pub search-requires-clause-in_range : goal.search-requires-clause-in_range
search-requires-clause-in_range c =
    let n = c.args.self.now.trail.variables in
    let P : List Literal → Type 0 = λ ls. All (IsVarBelow n) ls in
    subst P (sym c.literals.ensures.literals) (order_below c.args.order.now n c.literals.ensures.each_once c.requires.every)

pub search-requires-clause-covers : goal.search-requires-clause-covers
search-requires-clause-covers c =
    let n = c.args.self.now.trail.variables in
    let P : List Literal → Type 0 = λ ls. Covers ls n in
    subst P (sym c.literals.ensures.literals) (order_covers c.args.order.now n c.literals.ensures.each_once c.requires.every)

pub back-requires : goal.back-requires
back-requires c = along_nothing c.search.new.self.propagator c.clear.new.self c.clear.ensures.entries

pub drop_oldest-requires-clause-listed : goal.drop_oldest-requires-clause-listed
drop_oldest-requires-clause-listed c =
    let s = c.args.self.now in
    let w = c.search.new.self in
    listed_added s.store w.store s.kept.items w.kept.items s.log w.log c.requires.listed c.in_ok-answer.ensures.added

pub returns-clause-kept : goal.returns-clause-kept
returns-clause-kept c =
    let s = c.args.self.now in
    let w = c.search.new.self in
    let d = c.drop_oldest.new.self in
    let g = c.close_gaps.new.self in
    let added = c.in_ok-answer.ensures.added in
    let before = listed_added s.store w.store s.kept.items w.kept.items s.log w.log c.requires.listed added in
    let listed : HasKeptIds d.store d.kept.items w.log = subst (λ (v : LogValue). HasKeptIds d.store d.kept.items v) c.drop_oldest.ensures.log c.drop_oldest.ensures.listed in
    let kept : GoesOnKept s.store g.store s.log w.log = goes_kept s.store w.store d.store g.store s.kept.items w.kept.items d.kept.items s.log w.log added c.drop_oldest.ensures.dropped before
    listed c.drop_oldest.ensures.count c.close_gaps.ensures.same in
    subst (λ (v : LogValue). GoesOnKept s.store g.store s.log v) (sym (c.close_gaps.ensures.log ∙ c.drop_oldest.ensures.log)) kept
