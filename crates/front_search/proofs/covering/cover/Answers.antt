use Rattle.std.proofs.Common.{◌≡◌, ◌<◌, ◌≤◌, ◌+◌, ◌^◌, ℕ, List, length, sym, ap, ◌∙◌, subst, arith, true, inr}
use Rattle.std.specs.List.{list_all}
use Rattle.pb_rules.specs.Operations.{small_number}
use Rattle.result_text.specs.Answers.{as_seen}
use Rattle.ordered_solver.specs.Solver.{SolverValue}
use Rattle.encode_model.specs.Block.{block_of, cover_frame}
use Rattle.front_lists.specs.Lists.{vectors_in, covers_of}
use Rattle.front_search.specs.Searches.{seen}
use Rattle.front_search.proofs.Steps.{HasCovered, count_covered, small_vector, vector_fits, block_given, first_some, block_small, covered_by, covers_many, searching_covered, unfinished_covered}
use Rattle.front_search.proofs.Turns.{most_covered}
use Rattle.pb_rules.specs.Frames.{derived_count}
use Rattle.front_search.proofs.covering.cover.Goals as goal

pub block-requires-clause-one_each : goal.block-requires-clause-one_each
block-requires-clause-one_each c = (vector_fits c.args.spec.now (vectors_in (seen c.args.found.now)) (as_seen c.args.entry.now) c.numbers-v.result.now c.requires.next c.numbers-v.ensures).0

pub block-requires-clause-within : goal.block-requires-clause-within
block-requires-clause-within c = (vector_fits c.args.spec.now (vectors_in (seen c.args.found.now)) (as_seen c.args.entry.now) c.numbers-v.result.now c.requires.next c.numbers-v.ensures).1

pub add_all-requires-clause-given : goal.add_all-requires-clause-given
add_all-requires-clause-given c i l =
    let s = c.args.spec.now in
    let v = c.numbers-v.result.now in
    let old = c.args.solver.now in
    let log = ap (λ (sv : SolverValue). sv.log) c.in_ok-add_variables.ensures.ok ∙ ap (λ (sv : SolverValue). sv.log) c.in_ok-first.ensures.ok in
    let sized = c.requires.searching.agrees.frame.sized (length c.args.found.now + 1) v in
    let many : length c.deref.result.now ≡ length v + 1 = ap length (c.deref.ensures.value ∙ c.in_ok-block.ensures.value) ∙ sized in
    block_given old.log c.add_variables.new.self.log v c.in_ok-first.first i log c.in_ok-first.ensures.id (first_some s old c.requires.searching.agrees) (omega (arith, l, many))

pub add_all-requires-clause-small : goal.add_all-requires-clause-small
add_all-requires-clause-small c =
    let v = c.numbers-v.result.now in
    let sized = c.requires.searching.agrees.frame.sized (length c.args.found.now + 1) v in
    let many : length c.deref.result.now ≡ length v + 1 = ap length (c.deref.ensures.value ∙ c.in_ok-block.ensures.value) ∙ sized in
    let old = c.args.solver.now in
    let log = ap (λ (sv : SolverValue). sv.log) c.in_ok-first.ensures.ok in
    omega (arith, many, block_small old.log c.cover.new.self.log v c.in_ok-first.first log c.in_ok-first.ensures.id c.in_ok-first.ensures.room)

pub returns-clause-searching : goal.returns-clause-searching
returns-clause-searching c =
    let s = c.args.spec.now in
    let v = c.numbers-v.result.now in
    let old = c.args.solver.now in
    let found = c.args.found.now in
    let h = c.requires.searching in
    let blocks : c.deref.result.now ≡ block_of s (length (covers_of old.log.lines) + 1) v = c.deref.ensures.value
    ∙ (c.in_ok-block.ensures.value ∙ ap (λ (n : ℕ). block_of s (n + 1) v) (sym (covers_many s found old h))) in
    let x = covered_by s v c.in_ok-first.first _ old c.cover.new.self c.add_variables.new.self c.add_all.new.solver c.deref.result.now c.in_ok-first.ensures.ok c.in_ok-add_variables.ensures.ok
    c.in_ok-add_all.ensures c.objectives.ensures.count c.in_ok-first.ensures.id (block_small old.log c.cover.new.self.log v c.in_ok-first.first
    (ap (λ (sv : SolverValue). sv.log) c.in_ok-first.ensures.ok) c.in_ok-first.ensures.id c.in_ok-first.ensures.room) blocks in
    searching_covered s (seen found) (as_seen c.args.entry.now) c.in_ok-first.first old c.add_all.new.solver c.facts.ensures h c.requires.next
    (subst (λ (w : List ℕ). HasCovered s w c.in_ok-first.first old c.add_all.new.solver) c.numbers-v.ensures x)

pub returns-clause-unfinished : goal.returns-clause-unfinished
returns-clause-unfinished c budget u =
    let old = c.args.solver.now in
    let a = c.requires.searching.agrees in
    let log = ap (λ (sv : SolverValue). sv.log.lines) c.in_ok-add_all.ensures ∙ (ap (λ (sv : SolverValue). sv.log.lines) c.in_ok-add_variables.ensures.ok
    ∙ ap (λ (sv : SolverValue). sv.log.lines) c.in_ok-first.ensures.ok) in
    let small = subst (λ (w : List ℕ). list_all small_number w ≡ true) (sym c.numbers-v.ensures) (small_vector c.args.spec.now (vectors_in (seen c.args.found.now)) (as_seen c.args.entry.now)
    c.facts.ensures c.requires.next) in
    unfinished_covered c.args.spec.now budget c.numbers-v.result.now old.log.lines c.add_all.new.solver.log.lines a.given small a.legal log u

pub returns-clause-starts : goal.returns-clause-starts
returns-clause-starts c =
    let log = ap (λ (sv : SolverValue). sv.log.lines) c.in_ok-add_all.ensures ∙ (ap (λ (sv : SolverValue). sv.log.lines) c.in_ok-add_variables.ensures.ok
    ∙ ap (λ (sv : SolverValue). sv.log.lines) c.in_ok-first.ensures.ok) in
    inr (c.args.solver.now.log.lines, c.numbers-v.result.now, log)

pub returns-clause-bounded : goal.returns-clause-bounded
returns-clause-bounded c h =
    let old = c.args.solver.now.log.lines in
    let log = ap (λ (sv : SolverValue). sv.log.lines) c.in_ok-add_all.ensures ∙ (ap (λ (sv : SolverValue). sv.log.lines) c.in_ok-add_variables.ensures.ok
    ∙ ap (λ (sv : SolverValue). sv.log.lines) c.in_ok-first.ensures.ok) in
    omega (arith, count_covered old c.add_all.new.solver.log.lines c.numbers-v.result.now log, most_covered c.args.spec.now (length (seen c.args.found.now)) (derived_count old) h)
