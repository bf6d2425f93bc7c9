use Rattle.std.proofs.Common.{◌∙◌, ◌++◌, ◌∷◌, [], ℕ, List, Err, ap, sym, subst}
use Rattle.std.proofs.lemmas.List.{append_assoc}
use Rattle.front_model.specs.Laws.{IsPiece}
use Rattle.proof_checker.specs.Checkers.{with_line, Takes}
use Rattle.check_run.proofs.Lines.{no_lf_joined, line_is_piece}
use Rattle.check_run.proofs.Taking.{line_taken, fault_taken}
use Rattle.check_run.proofs.proof_lines.ProofLines.take_line.Goals as goal

pub line-requires : goal.line-requires
line-requires c =
    let held : List ℕ = c.args.self.now.held.items in
    let whole = c.deref.ensures.value ∙ (c.in_ok-push.ensures.items ∙ ap (λ (t : List ℕ). t ++ 10 ∷ []) c.in_ok-extend_from_slice.ensures.items) in
    subst IsPiece (sym whole) (line_is_piece (held ++ c.args.body.now) (no_lf_joined held c.args.body.now c.requires.held c.requires.body))

pub returns-in-Err : goal.returns-in-Err
returns-in-Err c =
    let held : List ℕ = c.args.self.now.held.items in
    let body = c.args.body.now in
    let whole = c.deref.ensures.value ∙ (c.in_ok-push.ensures.items ∙ ap (λ (t : List ℕ). t ++ 10 ∷ []) c.in_ok-extend_from_slice.ensures.items) in
    let line = whole ∙ append_assoc held body (10 ∷ []) in
    fault_taken (Unit {0}) c.args.self.now (record { checker = c.line.new.self; held = c.push.new.self }) body c.line.new.self c.in-Err.fault c.law_of_taking.ensures.stays c.requires.held
    c.requires.body
    (subst (λ (t : List ℕ). Takes {T = Unit {0}} c.args.self.now.checker t c.line.new.self (Err c.in-Err.fault)) line c.in-Err.ensures)

pub returns-in-Ok : goal.returns-in-Ok
returns-in-Ok c =
    let held : List ℕ = c.args.self.now.held.items in
    let body = c.args.body.now in
    let whole = c.deref.ensures.value ∙ (c.in_ok-push.ensures.items ∙ ap (λ (t : List ℕ). t ++ 10 ∷ []) c.in_ok-extend_from_slice.ensures.items) in
    let line = whole ∙ append_assoc held body (10 ∷ []) in
    line_taken c.args.self.now (record { checker = c.line.new.self; held = c.clear.new.self }) body c.requires.held c.requires.body c.clear.ensures.items
    (c.in-Ok.ensures.0 ∙ ap (λ (t : List ℕ). with_line c.args.self.now.checker t) line)
