use Rattle.std.proofs.Common.{refl, ap, ◌∙◌}
use Rattle.std.specs.List.{position}
use Rattle.desk_io.specs.MemoryState.{has_name}
use Rattle.desk_io.proofs.HeldLemmas.{written_in_place, written_at_end}
use Rattle.desk_io.proofs.held.clear.Goals as goal

pub returns-in-Some-clause-ok : goal.returns-in-Some-clause-ok
returns-in-Some-clause-ok c =
    let at = c.in-Some.ensures {u = tt} ∙ ap (position (has_name c.args.name.now)) c.deref.ensures.value in
    written_in_place c.args.files.now.items c.args.name.now c.in-Some.i _ c.index_mut-file.result.now _ c.requires at c.index_mut-file.ensures.value refl c.clear.ensures.items

pub returns-in_ok-push-in-None-clause-ok : goal.returns-in_ok-push-in-None-clause-ok
returns-in_ok-push-in-None-clause-ok c =
    let at = c.in-None.ensures {u = tt} ∙ ap (position (has_name c.args.name.now)) c.deref.ensures.value in
    rw c.in_ok-push-in-None.ensures.items (written_at_end c.args.files.now.items c.args.name.now _ _ c.requires at c.in_ok-name-in-None.ensures.ok c.new.ensures.items)
