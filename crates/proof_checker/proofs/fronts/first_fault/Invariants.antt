use Rattle.result_text.specs.Fronts.{front_of}
use Rattle.proof_checker.proofs.Orders.{AllFine}
use Rattle.proof_checker.proofs.fronts.first_fault.Given as goal

abbrev pub invariant-loop-i : goal.invariant-loop-i
invariant-loop-i l = AllFine l.spec (front_of l.front) l.i
