use Rattle.std.proofs.Common.{◌≡◌, ◌+◌, List, length, sym, ap, ◌∙◌, arith, ◌++◌, ◌∷◌, [], get_or}
use Rattle.std.specs.Prelude.{Bool, map}
use Rattle.std.proofs.lemmas.List.FromFn.{get_or-map-range_with_len, length-map-range_with_len}
use Rattle.spec_model.specs.Spec.{below, bits_of}
use Rattle.spec_model.proofs.Those.{map-below_more}
use Rattle.encode_views.specs.Reached.{reached_row, next_row}
use Rattle.encode_views.proofs.Rows.{onward_row}
use Rattle.encode_views.proofs.reached.rows_of.Goals as goal

pub index-requires : goal.index-requires
index-requires c =
    let long = ap length c.loop-t.invariant ∙ length-map-range_with_len (reached_row c.args.spec.now (bits_of c.args.design.now) c.args.m.0) 0 (c.loop-t.t + 1) in
    omega (arith, long, c.loop-t.rows.ok.0)

pub loop-t-preserved : goal.loop-t-preserved
loop-t-preserved c =
    let s = c.args.spec.now in
    let f = bits_of c.args.design.now in
    let row = reached_row s f c.args.m.0 in
    let t = c.loop-t.t in
    let before : c.index.result.now ≡ row t =
    c.index.ensures ∙ (ap (λ (xs : List (List Bool)). get_or xs t c.index.result.now) c.loop-t.invariant
    ∙ get_or-map-range_with_len row 0 (t + 1) t t c.index.result.now (omega arith) (omega arith)) in
    let next : c.in_ok-next.next ≡ row (t + 1) = c.in_ok-next.ensures ∙ (ap (next_row s f c.args.m.0) before ∙ onward_row s f c.args.m.0 t c.facts.ensures) in
    c.in_ok-push-2.ensures.items
    ∙ (ap (λ (xs : List (List Bool)). xs ++ c.in_ok-next.next ∷ []) c.loop-t.invariant
    ∙ (ap (λ (x : List Bool). map row (below (t + 1)) ++ x ∷ []) next ∙ sym (map-below_more row (t + 1))))
