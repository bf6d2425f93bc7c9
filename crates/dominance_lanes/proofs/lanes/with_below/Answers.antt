use Rattle.std.proofs.Common.{ℕ, List, false, cond, ltb, length, get_or, ap, ◌∙◌, ◌≡◌, arith, w64}
use lib.Lanes.{zip2, sel_l}
use lib.ListN.{replicate}
use Rattle.std.proofs.lemmas.Simd.{tops_compared, length-zip2, length-sel_l, get_or-sel_l, get_or-zip2, get_or-replicate}
use Rattle.dominance_lanes.proofs.lanes.with_below.Goals as goal

pub returns : goal.returns
returns c =
    let a = c.args.first in
    let b = c.args.second in
    let ones : List ℕ = replicate 8 1 in
    let old = c.args.so_far in
    let tests : length (zip2 ltb a b) ≡ 8 = length-zip2 ltb a b (omega arith) ∙ c.requires.first_lanes in
    let is = ap (λ ms. sel_l ms ones old) (tops_compared w64 ltb a b) in record {
      lanes = ap length is ∙ length-sel_l (zip2 ltb a b) ones old (omega arith) (omega arith) ∙ tests;
      each = λ i lt. ap (λ l. get_or l i 0) is ∙ get_or-sel_l (zip2 ltb a b) ones old i 0 (omega arith) (omega arith) (omega arith)
          ∙ ap (λ t. cond t (get_or ones i 0) (get_or old i 0)) (get_or-zip2 ltb a b i 0 0 false (omega arith) (omega arith))
          ∙ ap (λ y. cond (ltb (get_or a i 0) (get_or b i 0)) y (get_or old i 0)) (get_or-replicate 8 i 1 0 lt);
    }
