use Rattle.std.proofs.Common.{◌≡◌, ◌++◌, ◌∙◌, sym, ap, refl, arith, Bool, List, length, subst, Option, ℕ, take}
use Rattle.std.proofs.lemmas.List.{length-map}
use Rattle.pb_rules.specs.Literal.{Literal}
use Rattle.pb_rules.specs.Linear.{Linear}
use Rattle.pb_rules.specs.Partial.{InConflict}
use Rattle.conflict_graph.specs.Clauses.{false_signs, clause_ops}
use Rattle.pb_rules.specs.declared.Op.{Op}
use Rattle.constraint_store.specs.Live.{constraint_of, proof_id_of}
use Rattle.trail_state.specs.Trail.{Entry, value_in}
use Rattle.conflict_graph.specs.Learning.{signs, current_at, currents, Learning}
use Rattle.conflict_graph.proofs.Counts.{currents_none}
use Rattle.conflict_graph.proofs.Steps.{learning_start, learnt-one, learnt_none}
use Rattle.conflict_graph.proofs.Resolving.{start_same, marked_start, before_goes_on, whole_trail}
use Rattle.conflict_graph.proofs.resolution.take_apart.Goals as goal

pub explain-requires-clause-conflict : goal.explain-requires-clause-conflict
explain-requires-clause-conflict c =
    let Q : List Entry → Type 0 = λ fs. InConflict (value_in fs) (constraint_of c.args.store.now c.args.conflict) in
    subst Q (sym (whole_trail c.args.trail.now.entries c.literals-place.result.now c.literals-place.ensures)) c.requires.conflict

pub mark-count-requires-clause-assigned : goal.mark-count-requires-clause-assigned
mark-count-requires-clause-assigned c =
    let es = c.args.trail.now.entries in
    before_goes_on es (length c.literals-place.result.now) (value_in (take (length c.literals-place.result.now) es)) refl

pub mark-count-requires-clause-counted : goal.mark-count-requires-clause-counted
mark-count-requires-clause-counted c =
    sym (currents_none (length c.args.clause.now) 0 c.args.trail.now.entries (signs c.args.clause.now) (λ x. ap (current_at c.args.trail.now.entries x) (c.requires.nothing x)))

pub loop-place-init : goal.loop-place-init
loop-place-init c =
    let es = c.args.trail.now.entries in
    let n = c.args.trail.now.variables in
    let live = c.args.store.now in
    let con : Linear = constraint_of live c.args.conflict in
    let len : length c.literals-place.result.now ≡ length es = ap (λ (ls : List Literal). length ls) c.literals-place.ensures ∙ length-map es (λ (e : Entry). e.lit) in
    let b : ℕ → Option Bool = value_in (take (length c.literals-place.result.now) es) in
    let all : b ≡ value_in es = ap value_in (whole_trail es c.literals-place.result.now c.literals-place.ensures) in
    let f : ℕ → Option Bool = signs c.mark-count.new.clause in
    let f-is : f ≡ false_signs (value_in es) con.terms = marked_start (value_in es) b con.terms con.terms (signs c.args.clause.now) f c.requires.nothing all refl c.mark-count.ensures.added in
    let count : c.mark-count.result ≡ currents n 0 es f = c.mark-count.ensures.counted ∙ ap (λ (m : ℕ). currents m 0 es f) c.requires.clause_length in
    let pid : ℕ = proof_id_of live c.args.conflict in
    let ops : c.explain.new.ops.items ≡ clause_ops pid (value_in es) con = c.in_ok-explain.ensures.written
    ∙ ap (λ (old : List Op). old ++ clause_ops pid b con) c.requires.no_ops
    ∙ ap (λ (a : ℕ → Option Bool). clause_ops pid a con) all in
    record {
      place = omega arith;
      learning = start_same live es n (length c.literals-place.result.now) c.mark-count.result f (false_signs (value_in es) con.terms) (clause_ops pid (value_in es) con) c.explain.new.ops.items
          len f-is count ops (learning_start live es n c.args.conflict c.requires.few c.requires.usable c.in_ok-explain.ensures.normal c.requires.conflict c.requires.current);
    }

pub returns-then-not-goes_on : goal.returns-then-not-goes_on
returns-then-not-goes_on c =
    let off = c.goes_on.ensures.off c.if-not-goes_on.true in
    let pos = off.0 in
    let level = c.level-level.ensures in
    learnt-one c.args.store.now c.args.trail.now.entries c.args.trail.now.variables c.loop-place.place (signs c.loop-place.clause) c.loop-place.count c.loop-place.ops.items (omega arith) off.1
    c.loop-place.invariant.learning

pub returns : goal.returns
returns c =
    let zero : c.loop-place.place ≡ 0 = omega arith in
    let P : ℕ → Type 0 = λ p. Learning c.args.store.now c.args.trail.now.entries c.args.trail.now.variables p (signs c.loop-place.clause) c.loop-place.count c.loop-place.ops.items in
    learnt_none c.args.store.now c.args.trail.now.entries c.args.trail.now.variables (signs c.loop-place.clause) c.loop-place.count c.loop-place.ops.items
    (subst P zero c.loop-place.invariant.learning)
