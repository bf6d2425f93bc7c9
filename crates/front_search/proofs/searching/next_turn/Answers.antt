use Rattle.std.proofs.Common.{◌≡◌, ◌<◌, ◌≤◌, ◌+◌, ◌-◌, ◌*◌, ℕ, List, Bool, length, take, sym, ap, ◌∙◌, subst, arith}
use Rattle.pb_rules.specs.Linear.{IsModel}
use Rattle.encode_model.specs.Encoding.{encoding}
use Rattle.spec_model.specs.Spec.{bits_of, design_variables, all_variables}
use Rattle.spec_model.specs.Genotypes.{GeneValue, natural}
use Rattle.spec_model.proofs.Numbers.{design_variables-le}
use Rattle.genotype.specs.Order.{IsOrderOf}
use Rattle.pb_rules.specs.Frames.{derived_count, Line}
use Rattle.proof_log.specs.Log.{LogValue}
use Rattle.result_text.specs.Answers.{as_seen}
use Rattle.ordered_solver.specs.Solver.{constraints_of}
use Rattle.std.proofs.lemmas.List.{length-replicate}
use Rattle.front_search.specs.Searches.{seen}
use Rattle.front_search.proofs.Steps.{searching_solved}
use Rattle.front_search.proofs.Turns.{solved_of, model_turn, model_open, model_most, budget_turn, nothing_turn, model_says, model_encodes}
use Rattle.front_search.proofs.searching.next_turn.Goals as goal

pub order_of-requires : goal.order_of-requires
order_of-requires c =
    let len = ap length c.in_ok-genotype.ensures ∙ length-replicate c.design_variables.result _ in
    omega (arith, len, c.design_variables.ensures.count, c.all_variables.ensures.count, design_variables-le c.args.spec.now)

pub entry_of-requires-clause-model : goal.entry_of-requires-clause-model
entry_of-requires-clause-model c =
    let first = model_says (constraints_of c.args.solver.now.given) c.in_ok-order.order c.in_ok-values.field-0 c.in-Model.values c.in-Model.is c.in_ok-values.ensures.answer in
    subst (λ (values : List Bool). IsModel (encoding c.args.spec.now) (bits_of values)) (sym c.deref.ensures.value)
    (model_encodes c.args.spec.now (seen c.args.found.now) c.args.solver.now c.in_ok-order.order c.in-Model.values.items c.requires.searching first)

pub entry_of-requires-clause-variables : goal.entry_of-requires-clause-variables
entry_of-requires-clause-variables c =
    let first = model_says (constraints_of c.args.solver.now.given) c.in_ok-order.order c.in_ok-values.field-0 c.in-Model.values c.in-Model.is c.in_ok-values.ensures.answer in
    let len = ap length c.deref.ensures.value ∙ (first.one_each ∙ c.in_ok-order.ensures.len) in
    omega (arith, len, c.all_variables.ensures.count)

pub returns-in-Model-clause-searching : goal.returns-in-Model-clause-searching
returns-in-Model-clause-searching c =
    let x = c.in_ok-values.ensures in
    searching_solved c.args.spec.now (seen c.args.found.now) c.args.solver.now c.solve.new.self _ c.requires.searching
    (solved_of c.args.spec.now (seen c.args.found.now) c.args.solver.now c.solve.new.self c.in_ok-order.order c.in_ok-values.field-0 c.requires.searching x.log x.frames x.same)

pub returns-in-Nothing-clause-searching : goal.returns-in-Nothing-clause-searching
returns-in-Nothing-clause-searching c =
    let x = c.in_ok-values.ensures in
    searching_solved c.args.spec.now (seen c.args.found.now) c.args.solver.now c.solve.new.self _ c.requires.searching
    (solved_of c.args.spec.now (seen c.args.found.now) c.args.solver.now c.solve.new.self c.in_ok-order.order c.in_ok-values.field-0 c.requires.searching x.log x.frames x.same)

pub returns-clause-searching : goal.returns-clause-searching
returns-clause-searching c =
    let x = c.in_ok-values.ensures in
    searching_solved c.args.spec.now (seen c.args.found.now) c.args.solver.now c.solve.new.self _ c.requires.searching
    (solved_of c.args.spec.now (seen c.args.found.now) c.args.solver.now c.solve.new.self c.in_ok-order.order c.in_ok-values.field-0 c.requires.searching x.log x.frames x.same)

pub returns-in-Model-clause-says : goal.returns-in-Model-clause-says
returns-in-Model-clause-says c =
    let s = c.args.spec.now in
    let found = seen c.args.found.now in
    let x = c.in_ok-values.ensures in
    let e = c.in_ok-entry_of-in-Model in
    let left : (c.args.budget - c.learned.result) + derived_count c.args.solver.now.log.lines ≡ c.args.budget =
    (let q = ap (λ (v : LogValue). derived_count v.lines) c.log.ensures.log in omega (arith, c.learned.ensures.value, q, c.requires.unfinished.few)) in
    let gene = c.in_ok-genotype.ensures ∙ ap natural c.design_variables.ensures.count in
    let n : ℕ = c.all_variables.result + length c.args.found.now * c.objectives.result in
    let o = subst (λ (g : List GeneValue). IsOrderOf g n c.in_ok-order.order) gene c.in_ok-order.ensures in
    let first = model_says (constraints_of c.args.solver.now.given) c.in_ok-order.order c.in_ok-values.field-0 c.in-Model.values c.in-Model.is x.answer in
    record {
      unfinished = model_open s found c.args.solver.now c.solve.new.self c.in_ok-order.order c.args.budget (c.args.budget - c.learned.result) c.facts.ensures c.requires.searching
          c.requires.unfinished c.requires.starts c.requires.bounded left x.log c.in_ok-values.field-0 c.in-Model.values c.in-Model.is x.frames x.count;
      next = model_turn s found c.args.solver.now c.solve.new.self c.in_ok-order.order c.args.budget (c.args.budget - c.learned.result) c.facts.ensures c.requires.searching c.requires.unfinished
          c.requires.starts c.requires.bounded left x.log n c.in-Model.values.items (as_seen e.field-0) first o (omega (arith, c.all_variables.ensures.count, design_variables-le s))
          e.ensures.one_each (e.ensures.part ∙ ap (take (design_variables s)) c.deref.ensures.value) e.ensures.vector;
      bounded = model_most s found c.args.solver.now c.solve.new.self c.in_ok-order.order c.args.budget (c.args.budget - c.learned.result) c.facts.ensures c.requires.searching
          c.requires.unfinished c.requires.starts c.requires.bounded left x.log c.in_ok-values.field-0 c.in-Model.values c.in-Model.is x.count;
    }

pub returns-in-Nothing-clause-says : goal.returns-in-Nothing-clause-says
returns-in-Nothing-clause-says c =
    let x = c.in_ok-values.ensures in
    let left : (c.args.budget - c.learned.result) + derived_count c.args.solver.now.log.lines ≡ c.args.budget =
    (let q = ap (λ (v : LogValue). derived_count v.lines) c.log.ensures.log in omega (arith, c.learned.ensures.value, q, c.requires.unfinished.few)) in
    nothing_turn c.args.spec.now (seen c.args.found.now) c.args.solver.now c.solve.new.self c.in_ok-order.order c.args.budget (c.args.budget - c.learned.result) c.facts.ensures
    c.requires.searching c.requires.unfinished c.requires.starts c.requires.bounded left x.log c.in_ok-values.field-0 c.in-Nothing.is
    (searching_solved c.args.spec.now (seen c.args.found.now) c.args.solver.now c.solve.new.self _ c.requires.searching
    (solved_of c.args.spec.now (seen c.args.found.now) c.args.solver.now c.solve.new.self c.in_ok-order.order c.in_ok-values.field-0 c.requires.searching x.log x.frames
    x.same)).covers_are x.frames x.answer x.count

pub returns-clause-says : goal.returns-clause-says
returns-clause-says c =
    let x = c.in_ok-values.ensures in
    let left : (c.args.budget - c.learned.result) + derived_count c.args.solver.now.log.lines ≡ c.args.budget =
    (let q = ap (λ (v : LogValue). derived_count v.lines) c.log.ensures.log in omega (arith, c.learned.ensures.value, q, c.requires.unfinished.few)) in
    budget_turn c.args.spec.now (seen c.args.found.now) c.args.solver.now c.solve.new.self c.in_ok-order.order c.args.budget (c.args.budget - c.learned.result) c.facts.ensures c.requires.searching
    c.requires.unfinished c.requires.starts c.requires.bounded left x.log c.in_ok-values.field-0 c.in-Budget.is x.frames x.count
