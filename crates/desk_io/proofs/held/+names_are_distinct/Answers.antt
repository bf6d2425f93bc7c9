use Rattle.std.proofs.Common.{refl}
use Rattle.desk_io.proofs.HeldLemmas.{distinct_none, distinct_first, distinct_clash}
use Rattle.desk_io.proofs.held.+names_are_distinct.Goals as goal

pub returns-in-empty : goal.returns-in-empty
returns-in-empty t c = ((λ _. distinct_none c.args.files.now c.in-empty.len_below), (λ _. refl))

pub returns-then-is_none : goal.returns-then-is_none
returns-then-is_none t c =
    let first = distinct_first c.args.files.now c.file-item.result c.as_str.result.now c.place.result c.in-len1-up.len_at_least c.file-item.is c.as_str.ensures.value c.place.ensures
    (c.if-is_none.ensures {u = tt}) in
    let rest = c.names_are_distinct.ensures in
    ((λ yes. first.0 (rest.0 yes)), (λ distinct. rest.1 (first.1 distinct)))

pub returns-else-is_none : goal.returns-else-is_none
returns-else-is_none t c =
    let clash = distinct_clash c.args.files.now c.file-item.result c.as_str.result.now c.place.result c.in-len1-up.len_at_least c.file-item.is c.as_str.ensures.value c.place.ensures
    (c.if-is_none.ensures {u = tt}) in
    ((λ yes. absurd (cc)), (λ distinct. absurd (clash distinct)))
