use Rattle.std.proofs.Common.{◌≡◌, ◌<◌, ◌++◌, ◌∷◌, [], ℕ, ◌-◌, ◌^◌, ◌∙◌, sym, ap, arith, true, false}
use Rattle.std.proofs.lemmas.Result.{on_ok_weaker}
use Rattle.pb_rules.specs.Linear.{total}
use Rattle.pb_rules.specs.Partial.{is_false}
use Rattle.pb_rules.specs.declared.Op.TheVariants.{Id, Weaken}
use Rattle.constraint_store.specs.Live.{constraint_of, proof_id_of}
use Rattle.conflict_graph.specs.Clauses.{clause_ops, finishing}
use Rattle.conflict_graph.specs.Learning.{seen}
use Rattle.pb_rules.proofs.Rooms.{open_weight_fits}
use Rattle.conflict_graph.proofs.Writing.{explain_kept, explain_weakened, explain_end}
use Rattle.conflict_graph.proofs.reasons.explain.Goals as goal
use Rattle.conflict_graph.proofs.reasons.explain.Goals.{then-is_false_with, else-is_false_with+in_ok-push-2}

pub overflow_add-room : goal.overflow_add-room
overflow_add-room c =
    let f = open_weight_fits (seen c.args.trail.now.entries c.args.place c.args.made.now) c.terms-terms.result.now c.loop-t.t-index c.t-item.result c.loop-t-test.true c.t-item.is in
    let s : total c.terms-terms.result.now < 2 ^ 63 = rw c.terms-terms.ensures.value c.terms-terms.ensures.normal.small in
    let r = c.loop-t.invariant.room_is in
    omega arith

pub loop-t-preserved : goal.loop-t-preserved
loop-t-preserved c =
    let a = seen c.args.trail.now.entries c.args.place c.args.made.now in
    let ts = c.terms-terms.result.now in
    let i = c.loop-t.t-index in
    let t = c.t-item.result in
    let start = c.args.ops.now.items ++ Id (proof_id_of c.args.store.now c.args.c) ∷ [] in
    let inv = c.loop-t.invariant in
    elim c.if-is_false_with.branch [
      | then-is_false_with w ↦ (
          let f : is_false a t.lit ≡ true = sym c.is_false_with.ensures ∙ w.if-is_false_with.true in
          rw (w.ops-is, w.room-is, w.greatest-is) (explain_kept a ts i t start c.loop-t.ops.items c.loop-t.room c.loop-t.greatest w.max-greatest.result c.loop-t-test.true c.t-item.is f
          w.max-greatest.ensures inv))
      | else-is_false_with+in_ok-push-2 w ↦ (
          let f : is_false a t.lit ≡ false = sym c.is_false_with.ensures ∙ w.if-is_false_with.false in
          let pushed = w.in_ok-push-2.ensures.items ∙ ap (λ x. c.loop-t.ops.items ++ Weaken x ∷ []) w.var.ensures.value in
          rw (w.ops-is, w.room-is, w.greatest-is) (explain_weakened a ts i t start c.loop-t.ops.items w.push-else-is_false_with.new.self.items c.loop-t.room c.loop-t.greatest c.loop-t-test.true
          c.t-item.is f pushed inv))
    ]

pub returns-clause-written : goal.returns-clause-written
returns-clause-written c =
    let l = c.loop-t in
    let con = constraint_of c.args.store.now c.args.c in
    let pid = proof_id_of c.args.store.now c.args.c in
    let a = seen c.args.trail.now.entries c.args.place c.args.made.now in
    let old = c.args.ops.now.items in
    let new = c.finish.new.ops.items in
    let degree = ap (λ (d : ℕ). l.ops.items ++ finishing (d - l.room) l.greatest) c.degree.ensures.value in
    on_ok_weaker {P = (new ≡ l.ops.items ++ finishing (c.degree.result - l.room) l.greatest)} {Q = (new ≡ old ++ clause_ops pid a con)} c.finish.result
    (λ w. explain_end a con pid l.room l.greatest l.t-index old l.ops.items new c.terms-terms.result.now c.terms-terms.ensures.value c.loop-t-test.false l.invariant (w ∙ degree)) c.finish.ensures
