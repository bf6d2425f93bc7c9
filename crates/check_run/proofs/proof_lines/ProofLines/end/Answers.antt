use Rattle.std.proofs.Common.{◌≡◌, ◌∙◌, ◌<◌, List, Err, ℕ, ap, arith, sym, subst}
use Rattle.std.proofs.lemmas.Bool.{eqb-true}
use Rattle.std.proofs.lemmas.List.{nil_from_length}
use Rattle.front_model.specs.Judging.{verdict_of}
use Rattle.proof_checker.specs.Checkers.{CheckerValue, with_line, Takes}
use Rattle.proof_checker.specs.declared.faults.LineFault.{LineFault}
use Rattle.front_model.specs.Laws.{IsPiece}
use Rattle.proof_checker.proofs.Orders.{some_of}
use Rattle.check_run.proofs.Lines.{last_is_piece}
use Rattle.check_run.proofs.Taking.{ends_empty, ends_line}
use Rattle.check_run.proofs.proof_lines.ProofLines.end.Goals as goal

pub returns-then-is_empty : goal.returns-then-is_empty
returns-then-is_empty c =
    let n : c.args.self.held.len ≡ 0 = eqb-true c.args.self.held.len 0 (sym c.is_empty.ensures ∙ c.if-is_empty.true) in
    let empty = nil_from_length c.args.self.held.items (omega (arith, n, c.args.self.held.ok.0)) in
    c.end.ensures.verdict ∙ ap verdict_of (sym (ends_empty c.args.self empty))

pub line-requires : goal.line-requires
line-requires c =
    let n : 0 < c.args.self.held.len = some_of c.args.self.held.len (sym c.is_empty.ensures ∙ c.if-is_empty.false) in
    subst IsPiece (sym c.deref.ensures.value) (last_is_piece c.args.self.held.items (omega (arith, n, c.args.self.held.ok.0)) c.requires)

pub returns-in-Err-Refused : goal.returns-in-Err-Refused
returns-in-Err-Refused c =
    let reader = c.args.self in
    let n : 0 < c.args.self.held.len = some_of c.args.self.held.len (sym c.is_empty.ensures ∙ c.if-is_empty.false) in
    let takes = subst (λ (f : LineFault). Takes {T = Unit {0}} c.args.self.checker c.deref.result.now c.line.new.self (Err f)) c.in-Err-Refused.field-0-is c.in-Err-Refused.ensures in
    let taken = takes.0 ∙ ap (λ (t : List ℕ). with_line c.args.self.checker t) c.deref.ensures.value in
    c.end-in-Err-Refused.ensures.verdict
    ∙ ap verdict_of (ap (λ (d : CheckerValue). d.progress) taken ∙ sym (ends_line c.args.self (omega (arith, n, c.args.self.held.ok.0)) c.requires))
