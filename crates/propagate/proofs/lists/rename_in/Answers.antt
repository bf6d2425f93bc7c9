use Rattle.std.proofs.Common.{◌∙◌, Option, get_or, set, sym, ap, arith}
use Rattle.std.specs.Prelude.{unwrap_or}
use Rattle.std.proofs.lemmas.List.{get_or_default}
use Rattle.std.proofs.lemmas.List.Edits.{map_over_more}
use Rattle.pb_constraints.specs.declared.ConId.{ConId}
use Rattle.propagate.specs.declared.lists.Watch.{Watch}
use Rattle.propagate.specs.Watches.{renamed_watch}
use Rattle.propagate.proofs.lists.rename_in.Goals as goal
use Rattle.propagate.proofs.lists.rename_in.Goals.{in-Some, in_default}

pub loop-one-preserved : goal.loop-one-preserved
loop-one-preserved c =
    let now = c.loop-one.list in
    let i = c.loop-one.one-index in
    let test = c.loop-one-test.true in
    let same = c.loop-one.auto.list in
    let x = get_or now i c.one-item.result in
    let more = map_over_more (renamed_watch c.args.moves.now) c.args.list.now now i x test c.loop-one.invariant (get_or_default now i c.one-item.result x (omega (arith, test, same))) in
    let put : Watch → Option ConId → Watch = λ v u. (let own : ConId = record { 0 = v.slot } in record { slot = (unwrap_or u own).0; other = v.other }) in
    elim c.match-of.branch [
      | in-Some w ↦ w.list-is ∙ ap (λ (u : Option ConId). set now i (put x u)) (sym w.in-Some.is ∙ c.of.ensures.value) ∙ more
      | in_default w ↦ w.list-is ∙ ap (λ (u : Option ConId). set now i (put x u)) (sym w.in_default.is ∙ c.of.ensures.value) ∙ more
    ]
