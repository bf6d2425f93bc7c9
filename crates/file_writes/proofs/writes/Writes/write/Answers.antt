use Rattle.std.proofs.Common.{◌≡◌, ◌∙◌, ◌<◌, List, ℕ, ap, arith, length, map, string_bytes, subst, sym}
use Rattle.desk_io.specs.Files.{Files, HasDistinctNames}
use Rattle.file_writes.specs.Writes.{ArePartlyWritten, Becomes, KeepsOrBecomesPart, Leaves, Rewrites, bytes_of, file_of}
use Rattle.file_writes.specs.declared.writes.Write.{Write}
use Rattle.file_writes.proofs.Steps.{writes_on, writes_cut}
use Rattle.file_writes.proofs.writes.Writes.write.Goals as goal
use Rattle.plain_lists.proofs.Results.{on_err}

pub returns-in_err-write_file-clause-err : goal.returns-in_err-write_file-clause-err
returns-in_err-write_file-clause-err g c =
    let start = g.D.Desk.files c.args.desk.now in
    let now = g.D.Desk.files c.loop-write.desk in
    let new = g.D.Desk.files c.write_file.new.desk in
    let writes : List Write = c.deref-write-items.result.now in
    let write : Write = c.write-item.result in
    let held : writes ≡ c.self.inside.list.items = c.deref-write-items.ensures.value in
    let distinct : HasDistinctNames (map file_of writes) = subst (λ (ws : List Write). HasDistinctNames (map file_of ws)) (sym held) c.self.invariant in
    let named = subst (λ (n : List ℕ). Leaves now new (Rewrites n (KeepsOrBecomesPart (bytes_of write.content)))) c.as_str.ensures.value c.in_err-write_file.ensures.err in
    let here = subst (λ (w : Write). Leaves now new (Rewrites (file_of w).0 (KeepsOrBecomesPart (file_of w).1))) c.write-item.is named in
    let seen : map file_of writes ≡ c.args.self.now = ap (map file_of) held ∙ c.self.view_is in
    on_err c.from_residual.result
    (subst (λ (fs : Files). Leaves start new (ArePartlyWritten fs)) seen
    (writes_cut start now new writes c.loop-write.write-index write (omega (arith, c.loop-write-test.true, c.loop-write.auto.write-index-end)) distinct c.loop-write.invariant.0 here))

pub loop-write-preserved : goal.loop-write-preserved
loop-write-preserved g c =
    let start = g.D.Desk.files c.args.desk.now in
    let now = g.D.Desk.files c.loop-write.desk in
    let new = g.D.Desk.files c.write_file.new.desk in
    let writes : List Write = c.deref-write-items.result.now in
    let write : Write = c.write-item.result in
    let held : writes ≡ c.self.inside.list.items = c.deref-write-items.ensures.value in
    let distinct : HasDistinctNames (map file_of writes) = subst (λ (ws : List Write). HasDistinctNames (map file_of ws)) (sym held) c.self.invariant in
    let named = subst (λ (n : List ℕ). Leaves now new (Rewrites n (Becomes (bytes_of write.content)))) c.as_str.ensures.value c.in_ok-write_file.ensures.ok in
    let here = subst (λ (w : Write). Leaves now new (Rewrites (file_of w).0 (Becomes (file_of w).1))) c.write-item.is named in (
      writes_on start now new writes c.loop-write.write-index write (omega (arith, c.loop-write-test.true, c.loop-write.auto.write-index-end)) distinct c.loop-write.invariant.0 here,
      c.write_file.ensures.said ∙ c.loop-write.invariant.1,
      c.in_ok-write_file.ensures.cause.kept ∙ c.loop-write.invariant.2,
    )
