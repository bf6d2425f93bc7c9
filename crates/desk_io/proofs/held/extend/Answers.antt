use Rattle.std.proofs.Common.{ℕ, List, ◌++◌, refl, sym, ap, ◌∙◌}
use Rattle.std.specs.List.{position}
use Rattle.desk_io.specs.MemoryState.{has_name}
use Rattle.desk_io.proofs.HeldLemmas.{written_in_place, written_at_end, content_there, content_absent, entries-set_same}
use Rattle.desk_io.proofs.held.extend.Goals as goal
use Rattle.plain_lists.proofs.Results.{on_err}

pub returns-in_err-extend_from_slice-in-Some-clause-err :
    goal.returns-in_err-extend_from_slice-in-Some-clause-err
returns-in_err-extend_from_slice-in-Some-clause-err c =
    on_err _ (entries-set_same c.args.files.now.items c.in-Some.i _ c.index_mut-file.result.now c.index_mut-file.ensures.value refl c.in_err-extend_from_slice-in-Some.ensures.items)

pub returns-in_ok-extend_from_slice-in-Some-clause-ok :
    goal.returns-in_ok-extend_from_slice-in-Some-clause-ok
returns-in_ok-extend_from_slice-in-Some-clause-ok c =
    let at = c.in-Some.ensures {u = tt} ∙ ap (position (has_name c.args.name.now)) c.deref.ensures.value in
    let before = content_there c.args.files.now.items c.args.name.now c.in-Some.i c.index_mut-file.result.now at c.index_mut-file.ensures.value in
    written_in_place c.args.files.now.items c.args.name.now c.in-Some.i _ c.index_mut-file.result.now _ c.requires at c.index_mut-file.ensures.value refl
    (c.in_ok-extend_from_slice-in-Some.ensures.items ∙ ap (λ (b : List ℕ). b ++ c.args.bytes.now) (sym before))

pub returns-in_ok-push-in-None-clause-ok : goal.returns-in_ok-push-in-None-clause-ok
returns-in_ok-push-in-None-clause-ok c =
    let at = c.in-None.ensures {u = tt} ∙ ap (position (has_name c.args.name.now)) c.deref.ensures.value in
    let before = content_absent c.args.files.now.items c.args.name.now at in
    rw (c.in_ok-push-in-None.ensures.items, before) (written_at_end c.args.files.now.items c.args.name.now _ _ c.requires at c.in_ok-name-in-None.ensures.ok c.in_ok-bytes-in-None.ensures.items)
