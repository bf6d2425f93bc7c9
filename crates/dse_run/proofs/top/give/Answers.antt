use Rattle.std.proofs.Common.{◌≡◌, Option, ap, subst, sym}
use Rattle.desk_io.specs.Files.{Files}
use Rattle.file_writes.specs.Writes.{AreWritten, ArePartlyWritten, Leaves}
use Rattle.file_writes.proofs.Rewriting.{leaves_then}
use Rattle.file_writes.proofs.Written.{whole}
use Rattle.dse_run.specs.Run.{ReplyValue}
use Rattle.dse_run.proofs.top.give.Goals as goal
use Rattle.plain_lists.proofs.Results.{on_err}

pub returns-clause-part : goal.returns-clause-part
returns-clause-part g c =
    let files = g.D.Desk.files c.args.desk.now in
    let new_files = g.D.Desk.files c.write.new.desk in
    let writes : Files = c.reply.inside.writes in
    let writes_are : writes ≡ c.args.reply.now.writes = ap (λ (r : ReplyValue). r.writes) c.reply.view_is in
    let part = leaves_then files new_files (AreWritten writes) (ArePartlyWritten writes) (λ x y h. whole writes x y h) c.in_ok-write.ensures.ok in
    on_err c.say.result
    (subst (λ (f : Option Files). Leaves files f (ArePartlyWritten c.args.reply.now.writes)) (sym c.say.ensures.files_kept)
    (subst (λ (ws : Files). Leaves files new_files (ArePartlyWritten ws)) writes_are part))
