use Rattle.std.proofs.Common.{◌≡◌, sym, subst, length, map, vec_items}
use Rattle.std.specs.List.{All}
use Rattle.dominance_lanes.specs.Columns.{Vectors, HasLength}
use Rattle.dominance_lanes.proofs.Rows.{length-rows, widths}
use Rattle.dominance_lanes.proofs.Columns.len.Goals as goal

pub returns : goal.returns
returns c =
    let columns = map vec_items c.self.inside.columns.items in record {
      value = subst (λ (s : Vectors). c.self.inside.len ≡ length s.vectors) c.self.view_is (sym (length-rows columns c.self.inside.len));
      widths = subst (λ (s : Vectors). All (HasLength s.width) s.vectors) c.self.view_is (widths columns c.self.inside.width c.self.inside.len c.self.invariant);
    }
