use Rattle.std.proofs.Common.{◌≡◌, ℕ, length, subst, arith, ◌∙◌}
use Rattle.spec_model.specs.Spec.{all_variables}
use Rattle.spec_model.proofs.Numbers.{design_variables-le}
use Rattle.genotype.specs.Order.{IsOrderOf}
use Rattle.sat_decoder.proofs.Standing.{may_have_model, says, counts, shown, solver_later}
use Rattle.sat_decoder.proofs.decoder.decode_by.Goals as goal

pub order_of-requires : goal.order_of-requires
order_of-requires c = omega (arith, c.requires.genes, c.all_variables.ensures.count, design_variables-le c.args.spec.now)

pub decoded_from-requires : goal.decoded_from-requires
decoded_from-requires c =
    let o = c.in_ok-order.ensures in
    may_have_model c.args.spec.now c.args.solver.now c.in_ok-order.order c.in_ok-answer.answer c.requires.solver_of (o.len ∙ c.all_variables.ensures.count) c.in_ok-answer.ensures.answer

pub returns-clause-answer : goal.returns-clause-answer
returns-clause-answer c =
    let s = c.args.spec.now in
    let o : IsOrderOf c.args.g.now (all_variables s) c.in_ok-order.order = subst (λ (n : ℕ). IsOrderOf c.args.g.now n c.in_ok-order.order) c.all_variables.ensures.count c.in_ok-order.ensures in
    says s c.args.g.now c.args.solver.now c.in_ok-order.order c.in_ok-answer.answer c.in_ok-decoded.decoded c.requires.solver_of c.facts.ensures c.requires.genes o c.in_ok-answer.ensures.answer
    c.in_ok-decoded.ensures

pub returns-clause-count : goal.returns-clause-count
returns-clause-count c =
    counts c.args.spec.now c.args.solver.now c.args.budget _ c.in_ok-answer.answer c.in_ok-decoded.decoded c.requires.solver_of c.in_ok-answer.ensures.count c.in_ok-decoded.ensures

pub returns-clause-shown : goal.returns-clause-shown
returns-clause-shown c =
    let s = c.args.spec.now in
    let o : IsOrderOf c.args.g.now (all_variables s) c.in_ok-order.order = subst (λ (n : ℕ). IsOrderOf c.args.g.now n c.in_ok-order.order) c.all_variables.ensures.count c.in_ok-order.ensures in
    shown s c.args.g.now c.args.solver.now c.solve.new.self c.in_ok-order.order c.in_ok-answer.answer c.in_ok-decoded.decoded c.requires.solver_of c.requires.genes o c.in_ok-answer.ensures.frames
    c.in_ok-decoded.ensures

pub returns-clause-solver_of : goal.returns-clause-solver_of
returns-clause-solver_of c =
    solver_later c.args.spec.now c.args.solver.now c.solve.new.self c.in_ok-order.order c.in_ok-answer.answer c.requires.solver_of c.in_ok-answer.ensures.same c.in_ok-answer.ensures.log
    c.in_ok-answer.ensures.frames
