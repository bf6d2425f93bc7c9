use Rattle.std.proofs.Common.{arith, sym, ap, ◌∙◌, ◌≡◌, subst, map, List, ℕ, length, true}
use Rattle.result_text.specs.Fronts.{front_of}
use Rattle.front_model.specs.Fronts.{vector_in, vectors_of}
use Rattle.front_model.specs.Judging.{is_at_most}
use Rattle.proof_checker.specs.Answers.{AllLong}
use Rattle.proof_checker.specs.Checkers.{vectors_in}
use Rattle.proof_checker.proofs.Loops.{entry_below}
use Rattle.proof_checker.proofs.covers.has_below.Goals as goal
use Rattle.proof_checker.proofs.Orders.{long_at}

pub is_at_most-requires : goal.is_at_most-requires
is_at_most-requires c =
    let es = c.list-entries.result.now in
    let v = c.args.v.now in
    let same : vectors_of (front_of c.args.front.now) ≡ vectors_in es = sym (ap (map vector_in) c.list-entries.ensures) in
    ap length c.numbers.ensures ∙ long_at (length v) es c.loop-entry.entry-index c.entry-item.result (subst (AllLong (length v)) same c.requires) (omega arith) c.entry-item.is

pub returns-then-is_at_most : goal.returns-then-is_at_most
returns-then-is_at_most c =
    let es = c.list-entries.result.now in
    let v = c.args.v.now in
    let same : vectors_of (front_of c.args.front.now) ≡ vectors_in es = sym (ap (map vector_in) c.list-entries.ensures) in
    entry_below es v c.loop-entry.entry-index c.entry-item.result (vectors_of (front_of c.args.front.now)) same (omega arith) c.entry-item.is
    (subst (λ (x : List ℕ). is_at_most v x ≡ true) c.numbers.ensures (sym c.is_at_most.ensures ∙ c.if-is_at_most.true))
