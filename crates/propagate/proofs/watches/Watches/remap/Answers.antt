use Rattle.std.proofs.Common.{◌≡◌, ◌∙◌, ℕ, List, length, map, sym, ap, subst, arith, All}
use Rattle.std.proofs.lemmas.List.{length-map}
use Rattle.constraint_store.specs.Live.{new_id}
use Rattle.propagate.specs.declared.lists.Watch.{Watch}
use Rattle.propagate.specs.declared.watches.Watches.{Watches}
use Rattle.propagate.specs.Watches.{AreListed, IsClosedAt, renamed_watch}
use Rattle.propagate.proofs.Thinning.{kept_old, closed_old}
use Rattle.propagate.proofs.Moving.{old_moved, listed_moved, wholes_moved}
use Rattle.propagate.proofs.watches.Watches.remap.Goals as goal

pub returns-clause-built : goal.returns-clause-built
returns-clause-built c =
    let s = c.args.self.now in
    let old = s.slots.items in
    let new = c.move_each.new.self.slots.items in
    let ids = c.args.moves.now in
    let m = c.move_each.ensures.moved in
    let all : List (List Watch) → List (List Watch) = λ us. map (map (renamed_watch ids)) us in
    let is : c.rename.new.self ≡ all s.lists = c.rename.ensures ∙ ap (λ (v : Watches). all v.lists) c.move_each.ensures.same in
    let P : List (List Watch) → Type 0 = λ us. AreListed new us in
    let len = ap (λ (us : List (List Watch)). length us) is ∙ length-map s.lists (map (renamed_watch ids)) in
    λ n b. (let wide = b.wide in record {
      few = b.few;
      wide = omega (arith, wide, len);
      kept = kept_old n old new (old_moved (new_id ids) old new m) b.kept;
      listed = subst P (sym is) (listed_moved ids old new s.lists m b.listed);
    })

pub returns-clause-closed : goal.returns-clause-closed
returns-clause-closed c =
    let old = c.args.self.now.slots.items in
    let new = c.move_each.new.self.slots.items in
    let closed_of : Watches → List ℕ = λ v. v.closed.items in
    λ ls a. (
    let P : List ℕ → Type 0 = λ ns. All (IsClosedAt ls new) ns in
    subst P (sym (ap closed_of c.move_each.ensures.same)) (closed_old ls old new c.args.self.now.closed.items (old_moved (new_id c.args.moves.now) old new c.move_each.ensures.moved) a))

pub returns-clause-moved : goal.returns-clause-moved
returns-clause-moved c = wholes_moved (new_id c.args.moves.now) (length c.args.self.now.slots.items) c.args.self.now.slots.items c.move_each.new.self.slots.items c.move_each.ensures.moved
