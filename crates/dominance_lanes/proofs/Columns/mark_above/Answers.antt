use Rattle.std.proofs.Common.{ℕ, List, ◌≡◌, ◌∙◌, subst, ap, length, map, vec_items, Vec, Global, sym}
use Rattle.dominance_lanes.specs.Columns.{Vectors, MarksAbove, AreColumns, rows}
use Rattle.dominance_lanes.proofs.Rows.{length-rows}
use Rattle.dominance_lanes.proofs.Columns.mark_above.Goals as goal

pub mark_above-requires-clause-room : goal.mark_above-requires-clause-room
mark_above-requires-clause-room c =
    let width : c.self.inside.width ≡ length c.args.v.now = ap (λ (s : Vectors). s.width) c.self.view_is ∙ sym c.requires.width in
    let len : c.self.inside.len ≡ length c.args.marks.now = sym (length-rows (map vec_items c.self.inside.columns.items) c.self.inside.len) ∙ ap (λ (s : Vectors). length s.vectors) c.self.view_is
    ∙ sym c.requires.places in
    subst (λ n. AreColumns (map vec_items c.deref.result.now) (length c.args.v.now) n) len
    (subst (λ w. AreColumns (map vec_items c.deref.result.now) w c.self.inside.len) width
    (subst (λ (cs : List (Vec ℕ Global)). AreColumns (map vec_items cs) c.self.inside.width c.self.inside.len) (sym c.deref.ensures.value) c.self.invariant))

pub returns-then-self-gt0 : goal.returns-then-self-gt0
returns-then-self-gt0 c =
    let len : length c.args.marks.now ≡ c.self.inside.len = c.requires.places ∙ sym (ap (λ (s : Vectors). length s.vectors) c.self.view_is)
    ∙ length-rows (map vec_items c.self.inside.columns.items) c.self.inside.len in
    subst (λ (s : Vectors). MarksAbove s.vectors c.args.v.now c.mark_above.new.marks) c.self.view_is
    (subst (λ n. MarksAbove (rows (map vec_items c.self.inside.columns.items) n) c.args.v.now c.mark_above.new.marks) len
    (subst (λ (cs : List (Vec ℕ Global)). MarksAbove (rows (map vec_items cs) (length c.args.marks.now)) c.args.v.now c.mark_above.new.marks) c.deref.ensures.value c.mark_above.ensures))
