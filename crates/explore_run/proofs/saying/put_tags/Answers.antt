use Rattle.std.proofs.Common.{◌≡◌, ◌<◌, ◌∙◌, ◌++◌, ◌∷◌, [], List, ℕ, ap, sym, arith, length, map, get_or, slice_index_or}
use Rattle.std.proofs.lemmas.List.{get_or-map, length-map}
use Rattle.explore_run.specs.Tools.{tags_at}
use Rattle.explore_run.proofs.Lines.{word_more, words_whole}
use Rattle.explore_run.proofs.saying.put_tags.Goals as goal

pub loop-i-preserved : goal.loop-i-preserved
loop-i-preserved g c =
    let tags = map (λ t. (goal.Evaluator-dyn g (t.vtable, t.value)).text t.value) c.args.tools.now in
    let there : c.loop-i.i < length c.args.chosen.now = omega arith in
    let tag : slice_index_or tags (get_or c.args.chosen.now c.loop-i.i 0) [] ≡ get_or (tags_at tags c.args.chosen.now) c.loop-i.i [] =
    sym (get_or-map (λ (p : ℕ). slice_index_or tags p []) c.args.chosen.now c.loop-i.i 0 [] there) in
    let push = c.in_ok-put_tag.ensures ∙ ap (λ (w : List ℕ). c.loop-i.out.items ++ 32 ∷ w) tag in
    word_more c.args.out.now.items c.loop-i.out.items c.put_tag.new.out.items (tags_at tags c.args.chosen.now) c.loop-i.i c.loop-i.invariant push
    (omega (arith, there, length-map c.args.chosen.now (λ (p : ℕ). slice_index_or tags p [])))

pub returns : goal.returns
returns g c =
    let tags = map (λ t. (goal.Evaluator-dyn g (t.vtable, t.value)).text t.value) c.args.tools.now in
    words_whole c.args.out.now.items c.loop-i.out.items (tags_at tags c.args.chosen.now) c.loop-i.i (omega (arith, length-map c.args.chosen.now (λ (p : ℕ). slice_index_or tags p [])))
    c.loop-i.invariant
