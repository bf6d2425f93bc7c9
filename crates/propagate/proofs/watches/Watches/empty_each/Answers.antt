use Rattle.std.proofs.Common.{◌≡◌, ◌∙◌, List, Option, filter, length, map, sym, ap, subst, arith}
use Rattle.std.proofs.lemmas.List.{length-map}
use Rattle.propagate.specs.declared.lists.Watch.{Watch}
use Rattle.propagate.specs.Watched.{WatchedView}
use Rattle.propagate.specs.Watches.{AreListed, is_named_held}
use Rattle.propagate.proofs.Thinning.{listed_held}
use Rattle.propagate.proofs.watches.Watches.empty_each.Goals as goal

pub returns-clause-built : goal.returns-clause-built
returns-clause-built c =
    let d = c.clear_each.new.self in
    let slots = d.slots.items in
    let kept : List (Option WatchedView) → List (List Watch) = λ ss. map (filter (is_named_held ss)) d.lists in
    let is : c.keep_held.new.self ≡ kept slots = c.keep_held.ensures ∙ ap kept c.deref.ensures.value in
    let P : List (List Watch) → Type 0 = λ us. AreListed slots us in
    let len = ap (λ (us : List (List Watch)). length us) is ∙ length-map d.lists (filter (is_named_held slots)) in
    λ n b. (let a = c.clear_each.ensures.built n b in let wide = a.wide in record {
      few = a.few;
      wide = omega (arith, wide, len);
      kept = a.kept;
      listed = subst P (sym is) (listed_held slots d.lists a.listed);
    })
