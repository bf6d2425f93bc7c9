use Rattle.std.proofs.Common.{◌≡◌, ◌∙◌, sym, ap, refl, Bool, true, false, List, length, subst, take, Option}
use Rattle.pb_rules.specs.declared.Term.{Term}
use Rattle.pb_rules.specs.Linear.{IsNormal}
use Rattle.pb_rules.specs.Partial.{is_false}
use Rattle.constraint_store.specs.Live.{constraint_of}
use Rattle.trail_state.specs.Trail.{value_in}
use Rattle.conflict_graph.specs.Learning.{signs}
use Rattle.conflict_graph.proofs.Writing.{mark_false, mark_kept, counted_join}
use Rattle.conflict_graph.proofs.marks.mark.Goals as goal
use Rattle.conflict_graph.proofs.marks.mark.Goals.{then-is_false, else-is_false}

pub loop-t-preserved : goal.loop-t-preserved
loop-t-preserved c =
    let a = value_in (take c.args.place c.args.trail.now.entries) in
    let ts = c.terms-t-items.result.now in
    let i = c.loop-t.t-index in
    let t = c.t-item.result in
    let start = signs c.args.clause.now in
    let inv = c.loop-t.invariant in
    let es = c.args.trail.now.entries in
    let n = length c.args.clause.now in
    let N : List Term → Type 0 = λ ts. IsNormal ts (constraint_of c.args.store.now c.args.c).degree in
    let normal : IsNormal ts (constraint_of c.args.store.now c.args.c).degree = subst N (sym c.terms-t-items.ensures.value) c.terms-t-items.ensures.normal in
    elim c.if-is_false.branch [
      | then-is_false w ↦ (
          let f : is_false a t.lit ≡ true = sym c.is_false.ensures ∙ w.if-is_false.true in
          let q = mark_false a ts i t start (signs c.loop-t.clause) (signs w.add_literal-count.new.clause) normal.rising c.loop-t-test.true c.t-item.is f inv.added w.add_literal-count.ensures.added in
          record {
            added = λ y. ap (λ (items : List (Option Bool)). signs items y) w.clause-is ∙ q y;
            counted =
                counted_join es n (length c.loop-t.clause) c.if-is_false.count w.add_literal-count.result c.if-is_false.clause w.add_literal-count.new.clause (sym c.loop-t.auto.clause) w.count-is
                w.clause-is w.add_literal-count.ensures.counted;
          })
      | else-is_false w ↦ (
          let f : is_false a t.lit ≡ false = sym c.is_false.ensures ∙ w.if-is_false.false in
          let q = mark_kept a ts i t start (signs c.loop-t.clause) normal.rising c.loop-t-test.true c.t-item.is f inv.added in
          record {
            added = λ y. ap (λ (items : List (Option Bool)). signs items y) w.clause-is ∙ q y;
            counted =
                counted_join es n n c.if-is_false.count c.loop-t.count c.if-is_false.clause c.loop-t.clause refl w.count-is w.clause-is inv.counted;
          })
    ]
