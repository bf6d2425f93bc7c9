use Rattle.std.proofs.Common.{◌≡◌, ◌++◌, ◌∷◌, [], ◌∙◌, refl, sym, ap, arith, Bool, get_or, List, length, subst, Option, ℕ, take}
use Rattle.pb_rules.specs.Literal.{Literal}
use Rattle.pb_rules.specs.Linear.{Linear, VarsBelow}
use Rattle.conflict_graph.specs.Clauses.{clause_ops}
use Rattle.pb_rules.specs.declared.Op.{Op}
use Rattle.pb_rules.specs.declared.Op.TheVariants.{Add, Saturate}
use Rattle.constraint_store.specs.Live.{constraint_of, proof_id_of}
use Rattle.trail_state.specs.Trail.{reason_in, value_in}
use Rattle.conflict_graph.specs.Learning.{signs, currents}
use Rattle.pb_rules.specs.Partial.{flipped}
use Rattle.pb_rules.proofs.Assignments.{forced_flip}
use Rattle.conflict_graph.proofs.Resolving.{at_place, can_resolve, no_decision, before_goes_on, is_resolvent, learning_same}
use Rattle.conflict_graph.proofs.resolution.resolve.Goals as goal

pub reason-requires : goal.reason-requires
reason-requires c =
    let a = (at_place c.args.trail.now.entries c.args.trail.now.variables c.args.place c.index-literals-place.result c.requires.place c.assigned-assigned.ensures.distinct
    c.assigned-assigned.ensures.in_range (c.index-literals-place.is ∙ ap (λ (ls : List Literal). get_or ls c.args.place c.index-literals-place.result) c.literals.ensures)).0 in
    let v = c.var.ensures.value in omega arith

pub unreachable-requires : goal.unreachable-requires
unreachable-requires c =
    no_decision c.args.store.now c.args.trail.now.entries c.args.trail.now.variables c.args.place c.index-literals-place.result (signs c.args.clause.now) c.args.count c.args.ops.now.items
    c.requires.place c.assigned-assigned.ensures.distinct (c.index-literals-place.is ∙ ap (λ (ls : List Literal). get_or ls c.args.place c.index-literals-place.result) c.literals.ensures)
    c.requires.two c.requires.learning (ap (reason_in c.args.trail.now.entries) (sym c.var.ensures.value) ∙ sym c.reason.ensures ∙ c.in-None.is)

pub explain_reason-requires-clause-live : goal.explain_reason-requires-clause-live
explain_reason-requires-clause-live c =
    let k = can_resolve c.args.store.now c.args.trail.now.entries c.args.trail.now.variables c.args.place c.index-literals-place.result c.in-Some.reason (signs c.args.clause.now) c.args.count
    c.args.ops.now.items c.requires.place c.requires.few c.assigned-assigned.ensures.distinct (c.index-literals-place.is
    ∙ ap (λ (ls : List Literal). get_or ls c.args.place c.index-literals-place.result) c.literals.ensures) c.requires.forced c.requires.marked c.requires.two c.requires.learning
    (ap (reason_in c.args.trail.now.entries) (sym c.var.ensures.value) ∙ sym c.reason.ensures ∙ c.in-Some.is) in
    (k.usable).live_there

pub mark-requires-clause-live : goal.mark-requires-clause-live
mark-requires-clause-live c =
    let k = can_resolve c.args.store.now c.args.trail.now.entries c.args.trail.now.variables c.args.place c.index-literals-place.result c.in-Some.reason (signs c.args.clause.now) c.args.count
    c.args.ops.now.items c.requires.place c.requires.few c.assigned-assigned.ensures.distinct (c.index-literals-place.is
    ∙ ap (λ (ls : List Literal). get_or ls c.args.place c.index-literals-place.result) c.literals.ensures) c.requires.forced c.requires.marked c.requires.two c.requires.learning
    (ap (reason_in c.args.trail.now.entries) (sym c.var.ensures.value) ∙ sym c.reason.ensures ∙ c.in-Some.is) in
    (k.usable).live_there

pub explain_reason-requires-clause-conflict : goal.explain_reason-requires-clause-conflict
explain_reason-requires-clause-conflict c =
    let k = can_resolve c.args.store.now c.args.trail.now.entries c.args.trail.now.variables c.args.place c.index-literals-place.result c.in-Some.reason (signs c.args.clause.now) c.args.count
    c.args.ops.now.items c.requires.place c.requires.few c.assigned-assigned.ensures.distinct (c.index-literals-place.is
    ∙ ap (λ (ls : List Literal). get_or ls c.args.place c.index-literals-place.result) c.literals.ensures) c.requires.forced c.requires.marked c.requires.two c.requires.learning
    (ap (reason_in c.args.trail.now.entries) (sym c.var.ensures.value) ∙ sym c.reason.ensures ∙ c.in-Some.is) in
    forced_flip (value_in (take c.args.place c.args.trail.now.entries)) (constraint_of c.args.store.now c.in-Some.reason) c.index-literals-place.result k.forces

pub drop_literal-rest-requires-clause-in_range : goal.drop_literal-rest-requires-clause-in_range
drop_literal-rest-requires-clause-in_range c =
    let a = (at_place c.args.trail.now.entries c.args.trail.now.variables c.args.place c.index-literals-place.result c.requires.place c.assigned-assigned.ensures.distinct
    c.assigned-assigned.ensures.in_range (c.index-literals-place.is ∙ ap (λ (ls : List Literal). get_or ls c.args.place c.index-literals-place.result) c.literals.ensures)).0 in
    let l = c.requires.clause_length in omega arith

pub drop_literal-rest-requires-clause-assigned : goal.drop_literal-rest-requires-clause-assigned
drop_literal-rest-requires-clause-assigned c =
    (can_resolve c.args.store.now c.args.trail.now.entries c.args.trail.now.variables c.args.place c.index-literals-place.result c.in-Some.reason (signs c.args.clause.now) c.args.count
    c.args.ops.now.items c.requires.place c.requires.few c.assigned-assigned.ensures.distinct (c.index-literals-place.is
    ∙ ap (λ (ls : List Literal). get_or ls c.args.place c.index-literals-place.result) c.literals.ensures) c.requires.forced c.requires.marked c.requires.two c.requires.learning
    (ap (reason_in c.args.trail.now.entries) (sym c.var.ensures.value) ∙ sym c.reason.ensures ∙ c.in-Some.is)).set

pub drop_literal-rest-requires-clause-there : goal.drop_literal-rest-requires-clause-there
drop_literal-rest-requires-clause-there c =
    (can_resolve c.args.store.now c.args.trail.now.entries c.args.trail.now.variables c.args.place c.index-literals-place.result c.in-Some.reason (signs c.args.clause.now) c.args.count
    c.args.ops.now.items c.requires.place c.requires.few c.assigned-assigned.ensures.distinct (c.index-literals-place.is
    ∙ ap (λ (ls : List Literal). get_or ls c.args.place c.index-literals-place.result) c.literals.ensures) c.requires.forced c.requires.marked c.requires.two c.requires.learning
    (ap (reason_in c.args.trail.now.entries) (sym c.var.ensures.value) ∙ sym c.reason.ensures ∙ c.in-Some.is)).there

pub mark-requires-clause-in_range : goal.mark-requires-clause-in_range
mark-requires-clause-in_range c =
    let k = can_resolve c.args.store.now c.args.trail.now.entries c.args.trail.now.variables c.args.place c.index-literals-place.result c.in-Some.reason (signs c.args.clause.now) c.args.count
    c.args.ops.now.items c.requires.place c.requires.few c.assigned-assigned.ensures.distinct (c.index-literals-place.is
    ∙ ap (λ (ls : List Literal). get_or ls c.args.place c.index-literals-place.result) c.literals.ensures) c.requires.forced c.requires.marked c.requires.two c.requires.learning
    (ap (reason_in c.args.trail.now.entries) (sym c.var.ensures.value) ∙ sym c.reason.ensures ∙ c.in-Some.is) in
    let len : length c.drop_literal-rest.new.clause ≡ c.args.trail.now.variables = c.drop_literal-rest.auto.clause ∙ c.requires.clause_length in
    let Q : ℕ → Type 0 = λ m. VarsBelow m (constraint_of c.args.store.now c.in-Some.reason).terms in
    subst Q (sym len) (k.usable).in_range

pub mark-requires-clause-assigned : goal.mark-requires-clause-assigned
mark-requires-clause-assigned c =
    before_goes_on c.args.trail.now.entries c.args.place (value_in (take c.args.place c.args.trail.now.entries)) refl

pub returns : goal.returns
returns c =
    let k = can_resolve c.args.store.now c.args.trail.now.entries c.args.trail.now.variables c.args.place c.index-literals-place.result c.in-Some.reason (signs c.args.clause.now) c.args.count
    c.args.ops.now.items c.requires.place c.requires.few c.assigned-assigned.ensures.distinct (c.index-literals-place.is
    ∙ ap (λ (ls : List Literal). get_or ls c.args.place c.index-literals-place.result) c.literals.ensures) c.requires.forced c.requires.marked c.requires.two c.requires.learning
    (ap (reason_in c.args.trail.now.entries) (sym c.var.ensures.value) ∙ sym c.reason.ensures ∙ c.in-Some.is) in
    let at = at_place c.args.trail.now.entries c.args.trail.now.variables c.args.place c.index-literals-place.result c.requires.place c.assigned-assigned.ensures.distinct
    c.assigned-assigned.ensures.in_range (c.index-literals-place.is ∙ ap (λ (ls : List Literal). get_or ls c.args.place c.index-literals-place.result) c.literals.ensures) in
    let es = c.args.trail.now.entries in
    let n = c.args.trail.now.variables in
    let a : ℕ → Option Bool = value_in (take c.args.place es) in
    let con : Linear = constraint_of c.args.store.now c.in-Some.reason in
    let f : ℕ → Option Bool = signs c.args.clause.now in
    let mid : ℕ → Option Bool = signs c.drop_literal-rest.new.clause in
    let h : ℕ → Option Bool = signs c.mark.new.clause in
    let is = is_resolvent a a con.terms n c.index-literals-place.result.var f mid h (k.usable).in_range refl at.1 c.drop_literal-rest.ensures.dropped
    c.mark.ensures.added in
    let len : length c.drop_literal-rest.new.clause ≡ n = c.drop_literal-rest.auto.clause ∙ c.requires.clause_length in
    let count : c.mark.result ≡ currents n 0 es h = c.mark.ensures.counted ∙ ap (λ (m : ℕ). currents m 0 es h) len in
    let lit = c.index-literals-place.result in
    let old = c.args.ops.now.items in
    let pid = proof_id_of c.args.store.now c.in-Some.reason in
    let F : (ℕ → Option Bool) → List Op = λ a. old ++ (clause_ops pid (flipped a lit) con ++ Add ∷ Saturate ∷ []) in
    let ops = c.in_ok-explain_reason-in-Some.ensures.ops in
    learning_same c.args.store.now es n c.args.place c.mark.result h (F a) c.explain_reason.new.ops.items count ops (k.step c.in_ok-explain_reason-in-Some.ensures.normal h is)
