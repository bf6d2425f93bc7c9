use Rattle.std.proofs.Common.{◌∙◌, ◌++◌, ◌∷◌, [], List, ℕ, ap, map}
use Rattle.std.specs.Prelude.{codes}
use Rattle.explore_run.specs.Words.{spaced}
use Rattle.explore_run.specs.Tools.{tags_at}
use Rattle.explore_run.proofs.Lines.{line_of}
use Rattle.explore_run.proofs.saying.put_names.Goals as goal

pub returns : goal.returns
returns g c =
    let tags = tags_at (map (λ t. (goal.Evaluator-dyn g (t.vtable, t.value)).text t.value) c.args.tools.now) c.args.chosen.now in
    let objectives = c.args.spec.now.objectives in
    let named = c.in_ok-extend_from_slice.ensures.items in
    let one = c.in_ok-put_objectives.ensures ∙ ap (λ (t : List ℕ). t ++ spaced objectives) named in
    let two = c.in_ok-put_tags.ensures ∙ ap (λ (t : List ℕ). t ++ spaced tags) one in
    c.in_ok-push.ensures.items ∙ (ap (λ (t : List ℕ). t ++ 10 ∷ []) two ∙ line_of c.args.out.now.items (codes "names") objectives tags)
