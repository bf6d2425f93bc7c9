use Rattle.std.proofs.Common.{◌≡◌, ◌∙◌, List, length, map, sym, arith}
use Rattle.std.proofs.lemmas.List.{same_lists, get_or-map, length-map}
use Rattle.pb_constraints.specs.declared.ConId.{ConId}
use Rattle.ordered_solver.specs.Engines.{moved}
use Rattle.ordered_solver.proofs.keeping.rename.Goals as goal

pub returns : goal.returns
returns c =
    let f : ConId → ConId = moved c.args.moves.now in
    let old : List ConId = c.args.ids.now.items in
    let now : List ConId = c.loop-i.ids.items in
    let i = c.loop-i.invariant in
    let len : length (map f old) ≡ length old = length-map old f in
    let same = i.same_length in
    let end = c.loop-i-test.false in
    same_lists now (map f old) (same ∙ sym len) (λ k d l. i.done k d (omega (arith, c.args.ids.now.ok, c.len-i-end.ensures)) ∙ sym (get_or-map f old k d d (omega arith)))
