use Rattle.std.proofs.Common.{ℕ, List, subst, length, map, vec_items, MatchOption, Vec, Global, sym}
use Rattle.dominance_lanes.specs.Columns.{Vectors, NoneBelow, IsFirstBelow, rows}
use Rattle.dominance_lanes.proofs.Rows.{length-rows}
use Rattle.dominance_lanes.proofs.Columns.first_below.Goals as goal

pub returns : goal.returns
returns c =
    let columns = map vec_items c.self.inside.columns.items in
    let v = c.args.v.now in
    let found = subst (λ (cs : List (Vec ℕ Global)). MatchOption c.first_below.result (NoneBelow (rows (map vec_items cs) c.self.inside.len) v c.self.inside.len)
    (IsFirstBelow (rows (map vec_items cs) c.self.inside.len) v)) c.deref.ensures.value c.first_below.ensures in
    subst (λ (s : Vectors). MatchOption c.first_below.result (NoneBelow s.vectors v (length s.vectors)) (IsFirstBelow s.vectors v)) c.self.view_is
    (subst (λ n. MatchOption c.first_below.result (NoneBelow (rows columns c.self.inside.len) v n) (IsFirstBelow (rows columns c.self.inside.len) v)) (sym (length-rows columns c.self.inside.len))
    found)
