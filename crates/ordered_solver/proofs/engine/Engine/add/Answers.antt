use Rattle.std.proofs.Common.{◌≡◌, ◌∙◌, ℕ, sym, ap, subst, List, Some, IsTrue}
use Rattle.pb_rules.specs.Linear.{Linear, VarsBelow}
use Rattle.constraint_store.specs.Live.{Live, is_live, constraint_of}
use Rattle.propagate.specs.Attached.{ChangesOnly}
use Rattle.propagate.specs.Propagator.{IsReady}
use Rattle.propagate.proofs.Ready.{ready_add}
use Rattle.ordered_solver.specs.Engines.{IsLoaded}
use Rattle.ordered_solver.proofs.Loading.{live_added, constraint_added, loaded_add}
use Rattle.ordered_solver.proofs.engine.Engine.add.Goals as goal

pub attach-requires-clause-ready : goal.attach-requires-clause-ready
attach-requires-clause-ready c =
    let s = c.args.self.now in
    let x : Live = record { id = c.in_ok-id.id; constraint = c.args.c; proof_id = c.args.proof_id } in
    let P : List Live → Type 0 = λ ls. IsReady s.propagator ls s.trail in
    subst P (sym c.in_ok-id.ensures.added) (ready_add s.propagator s.store s.trail x c.requires.loaded.ready)

pub attach-requires-clause-live : goal.attach-requires-clause-live
attach-requires-clause-live c =
    let s = c.args.self.now in
    let x : Live = record { id = c.in_ok-id.id; constraint = c.args.c; proof_id = c.args.proof_id } in
    let P : List Live → Type 0 = λ ls. IsTrue (is_live ls c.in_ok-id.id) in
    subst P (sym c.in_ok-id.ensures.added) (live_added s.store x)

pub attach-requires-clause-in_range : goal.attach-requires-clause-in_range
attach-requires-clause-in_range c =
    let s = c.args.self.now in
    let x : Live = record { id = c.in_ok-id.id; constraint = c.args.c; proof_id = c.args.proof_id } in
    let is : constraint_of c.add.new.self c.in_ok-id.id ≡ c.args.c = ap (λ (ls : List Live). constraint_of ls c.in_ok-id.id) c.in_ok-id.ensures.added
    ∙ constraint_added s.store x c.in_ok-id.ensures.fresh in
    let P : Linear → Type 0 = λ k. VarsBelow s.propagator.variables k.terms in
    let Q : ℕ → Type 0 = λ n. VarsBelow n c.args.c.terms in
    subst P (sym is) (subst Q (sym c.requires.loaded.ready.variables) c.requires.in_range)

pub returns-clause-attached : goal.returns-clause-attached
returns-clause-attached c =
    let s = c.args.self.now in
    let x : Live = record { id = c.in_ok-id.id; constraint = c.args.c; proof_id = c.args.proof_id } in
    let is : constraint_of c.add.new.self c.in_ok-id.id ≡ c.args.c = ap (λ (ls : List Live). constraint_of ls c.in_ok-id.id) c.in_ok-id.ensures.added
    ∙ constraint_added s.store x c.in_ok-id.ensures.fresh in
    let P : Linear → Type 0 = λ k. ChangesOnly s.propagator.attached c.attach.new.self.attached c.in_ok-id.id (Some k) in
    subst P is c.in_ok-attach.ensures.ok

pub returns-clause-loaded : goal.returns-clause-loaded
returns-clause-loaded c =
    let s = c.args.self.now in
    let x : Live = record { id = c.in_ok-id.id; constraint = c.args.c; proof_id = c.args.proof_id } in
    let C : List Live → Type 0 = λ ls. ChangesOnly s.propagator.attached c.attach.new.self.attached c.in_ok-id.id (Some (constraint_of ls c.in_ok-id.id)) in
    let P : List Live → Type 0 = λ ls. IsLoaded ls c.attach.new.self s.trail in
    subst P (sym c.in_ok-id.ensures.added) (loaded_add s.store s.propagator c.attach.new.self s.trail x c.requires.loaded c.in_ok-id.ensures.fresh c.requires.in_range
    (subst C c.in_ok-id.ensures.added c.in_ok-attach.ensures.ok) c.in_ok-attach.ensures.variables c.in_ok-attach.ensures.counted)
