use Rattle.std.proofs.Common.{ℕ, ◌≡◌, ◌+◌, ◌-◌, ap}
use Rattle.encode_model.specs.Block.{unused_terms, gap, not_below}
use Rattle.std.proofs.Common.{List, [], ◌∷◌, ◌++◌}
use Rattle.pb_rules.specs.declared.Term.{Term}
use Rattle.block_encode.proofs.Adding.{number_terms}
use Rattle.block_encode.proofs.Forms.{number_normal, number_is, made}
use Rattle.block_encode.proofs.bounds.below_number.Goals as goal

pub of_normal-requires : goal.of_normal-requires
of_normal-requires c =
    let s = c.args.spec.now in
    let g : ℕ = c.weight_sum.result - c.args.number + 1 in
    let is_gap : g ≡ gap s c.args.j c.args.number = ap (λ (w : ℕ). w - c.args.number + 1) c.weight_sum.ensures.sum in
    number_normal s c.args.cover_no c.args.j c.args.number g c.push.new.self.items c.facts.ensures is_gap
    (number_terms s c.args.cover_no c.args.j c.args.number g c.below_var.result c.no.result c.in_ok-terms.terms.items c.push.new.self.items c.in_ok-terms.ensures is_gap
    c.below_var.ensures.variable c.no.ensures c.in_ok-push.ensures.items)

pub returns : goal.returns
returns c =
    let s = c.args.spec.now in
    let g : ℕ = c.weight_sum.result - c.args.number + 1 in
    let is_gap : g ≡ gap s c.args.j c.args.number = ap (λ (w : ℕ). w - c.args.number + 1) c.weight_sum.ensures.sum in
    let ts : List Term = unused_terms s c.args.j ++ not_below s c.args.cover_no c.args.j c.args.number ∷ [] in
    made (gap s c.args.j c.args.number) g ts c.push.new.self.items c.of_normal.result c.of_normal.ensures.value is_gap
    (number_terms s c.args.cover_no c.args.j c.args.number g c.below_var.result c.no.result c.in_ok-terms.terms.items c.push.new.self.items c.in_ok-terms.ensures is_gap
    c.below_var.ensures.variable c.no.ensures c.in_ok-push.ensures.items)
    (number_is s c.args.cover_no c.args.j c.args.number c.facts.ensures)
