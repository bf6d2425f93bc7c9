use Rattle.std.proofs.Common.{sym}
use Rattle.desk_io.proofs.HeldLemmas.{file_there, absent}
use Rattle.desk_io.proofs.held.find.Goals as goal

pub returns-in-Some : goal.returns-in-Some
returns-in-Some c = rw (c.deref.ensures.value, ← c.index-files-i.is) (sym (file_there c.args.files.now c.args.name.now c.in-Some.i c.index-files-i.result c.in-Some.ensures c.index-files-i.is))

pub returns-in-None : goal.returns-in-None
returns-in-None c = sym (absent c.args.files.now c.args.name.now c.in-None.ensures)
