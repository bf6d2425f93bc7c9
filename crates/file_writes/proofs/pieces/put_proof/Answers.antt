use Rattle.std.proofs.Common.{◌≡◌, ◌∙◌, ◌+◌, List, ℕ, arith, length, refl, subst, sym}
use Rattle.std.proofs.lemmas.Result.{on_ok_weaker, on_err_weaker}
use Rattle.desk_io.specs.Files.{Edits, Appends, AppendsPrefix}
use Rattle.file_writes.proofs.Filling.{IsFilled, filled_line, filled_on, filled_whole, filled_part, filled_cut}
use Rattle.file_writes.proofs.pieces.put_proof.Goals.{then-len-ge-PIECE_BYTES+in_ok-append, else-len-ge-PIECE_BYTES}
use Rattle.file_writes.proofs.pieces.put_proof.Goals as goal
use Rattle.plain_lists.proofs.Results.{on_err}

pub returns-in_err-step_text-clause-err : goal.returns-in_err-step_text-clause-err
returns-in_err-step_text-clause-err g c =
    on_err c.from_residual-in_err-step_text.result
    (filled_part (g.D.Desk.files c.args.desk.now) (g.D.Desk.files c.loop-i.desk) c.args.name.now c.args.log.now.lines c.loop-i.i c.loop-i.piece.items c.loop-i.invariant.0)

pub returns-in_err-append-clause-err : goal.returns-in_err-append-clause-err
returns-in_err-append-clause-err g c =
    let start = g.D.Desk.files c.args.desk.now in
    let now = g.D.Desk.files c.loop-i.desk in
    let new = g.D.Desk.files c.append.new.self in
    let name = c.args.name.now in
    let lines = c.args.log.now.lines in
    let piece = c.step_text.new.out.items in
    let filled = filled_line start now name lines c.loop-i.i c.loop-i.piece.items piece (omega (arith, c.loop-i-test.true, c.steps-i-end.ensures)) c.in_ok-step_text.ensures.ok c.loop-i.invariant.0 in
    let edits : Edits now new name (AppendsPrefix piece) = subst (λ (p : List ℕ). Edits now new name (AppendsPrefix p)) c.deref.ensures.value c.in_err-append.ensures.err in
    on_err c.from_residual-in_err-append.result (filled_cut start now new name lines (c.loop-i.i + 1) piece filled edits)

pub loop-i-preserved : goal.loop-i-preserved
loop-i-preserved g c =
    let start = g.D.Desk.files c.args.desk.now in
    let now = g.D.Desk.files c.loop-i.desk in
    let name = c.args.name.now in
    let lines = c.args.log.now.lines in
    let piece = c.step_text.new.out.items in
    let filled = filled_line start now name lines c.loop-i.i c.loop-i.piece.items piece (omega (arith, c.loop-i-test.true, c.steps-i-end.ensures)) c.in_ok-step_text.ensures.ok c.loop-i.invariant.0 in
    elim c.if-len-ge-PIECE_BYTES.branch [
      | then-len-ge-PIECE_BYTES+in_ok-append w ↦
          let new = g.D.Desk.files w.append.new.self in
          let edits : Edits now new name (Appends piece) = subst (λ (p : List ℕ). Edits now new name (Appends p)) w.deref.ensures.value w.in_ok-append.ensures.ok in
          rw (w.desk-is, w.piece-is, w.clear.ensures.items) (
            filled_on start now new name lines (c.loop-i.i + 1) piece filled edits,
            w.append.ensures.said_kept ∙ c.loop-i.invariant.1,
            w.in_ok-append.ensures.cause.kept ∙ c.loop-i.invariant.2,
          )
      | else-len-ge-PIECE_BYTES w ↦ rw (w.desk-is, w.piece-is) (filled, c.loop-i.invariant.1, c.loop-i.invariant.2)
    ]

pub returns-clause-ok : goal.returns-clause-ok
returns-clause-ok g c =
    let start = g.D.Desk.files c.args.desk.now in
    let now = g.D.Desk.files c.loop-i.desk in
    let new = g.D.Desk.files c.append-2.new.self in
    let name = c.args.name.now in
    let lines = c.args.log.now.lines in
    let piece = c.loop-i.piece.items in
    on_ok_weaker c.append-2.result
    (λ edits. filled_whole start now new name lines c.loop-i.i piece (omega (arith, c.loop-i-test.false, c.steps-i-end.ensures)) c.loop-i.invariant.0
    (subst (λ (p : List ℕ). Edits now new name (Appends p)) c.deref-2.ensures.value edits))
    c.append-2.ensures.ok

pub returns-clause-err : goal.returns-clause-err
returns-clause-err g c =
    let start = g.D.Desk.files c.args.desk.now in
    let now = g.D.Desk.files c.loop-i.desk in
    let new = g.D.Desk.files c.append-2.new.self in
    let name = c.args.name.now in
    let lines = c.args.log.now.lines in
    let piece = c.loop-i.piece.items in
    on_err_weaker c.append-2.result
    (λ edits. filled_cut start now new name lines c.loop-i.i piece c.loop-i.invariant.0 (subst (λ (p : List ℕ). Edits now new name (AppendsPrefix p)) c.deref-2.ensures.value edits))
    c.append-2.ensures.err
