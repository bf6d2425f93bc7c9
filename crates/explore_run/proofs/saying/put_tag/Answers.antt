use Rattle.std.proofs.Common.{◌≡◌, ◌∙◌, ◌++◌, ◌∷◌, [], List, ℕ, OnOk, ap, sym, subst, map, slice_index_or}
use Rattle.std.proofs.lemmas.List.{get_or-map}
use Rattle.explore_run.proofs.saying.put_tag.Goals as goal

pub returns : goal.returns
returns g c =
    let tools = c.args.tools.now in
    let tool = c.index-tools-place.result in
    let tag : (goal.Evaluator-dyn g (tool.vtable, tool.value)).text tool.value ≡ slice_index_or (map (λ t. (goal.Evaluator-dyn g (t.vtable, t.value)).text t.value) tools) c.args.place [] =
    ap (λ t. (goal.Evaluator-dyn g (t.vtable, t.value)).text t.value) c.index-tools-place.is
    ∙ sym (get_or-map (λ t. (goal.Evaluator-dyn g (t.vtable, t.value)).text t.value) tools c.args.place tool [] c.requires) in
    subst (λ (w : List ℕ). OnOk c.put_tag_of.result (c.put_tag_of.new.out.items ≡ c.args.out.now.items ++ 32 ∷ w)) tag c.put_tag_of.ensures
