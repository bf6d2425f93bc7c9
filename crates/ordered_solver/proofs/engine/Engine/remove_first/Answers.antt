use Rattle.std.proofs.Common.{subst, IsTrue}
use Rattle.pb_constraints.specs.declared.ConId.{ConId}
use Rattle.constraint_store.specs.Live.{is_live}
use Rattle.ordered_solver.proofs.Dropping.{first_kept, kept-live, dropped_first}
use Rattle.ordered_solver.proofs.Leaving.{leaving_first}
use Rattle.ordered_solver.proofs.engine.Engine.remove_first.Goals as goal

pub remove-requires : goal.remove-requires
remove-requires c =
    let s = c.args.self.now in
    let h = first_kept s.log s.store s.kept.items c.pop_front.new.self.items c.in-Some.id c.requires.listed c.in-Some.ensures.items in
    let P : ConId → Type 0 = λ i. IsTrue (is_live s.store i) in
    subst P h.under (kept-live s.log s.store h.clause h.others h.kept)

pub returns-in-Some-clause-dropped : goal.returns-in-Some-clause-dropped
returns-in-Some-clause-dropped c =
    let s = c.args.self.now in
    let h = first_kept s.log s.store s.kept.items c.pop_front.new.self.items c.in-Some.id c.requires.listed c.in-Some.ensures.items in
    (dropped_first s.log s.store c.remove.new.self c.in-Some.id c.pop_front.new.self.items c.is_live-live.ensures.distinct c.requires.listed.known h c.remove.ensures).0

pub returns-in-Some-clause-leaving : goal.returns-in-Some-clause-leaving
returns-in-Some-clause-leaving c n l =
    let s = c.args.self.now in
    leaving_first s.store c.remove.new.self s.propagator s.trail s.kept.items c.in-Some.id c.pop_front.new.self.items n c.in-Some.ensures.items c.remove.ensures l

pub returns-in-Some-clause-listed : goal.returns-in-Some-clause-listed
returns-in-Some-clause-listed c =
    let s = c.args.self.now in
    let h = first_kept s.log s.store s.kept.items c.pop_front.new.self.items c.in-Some.id c.requires.listed c.in-Some.ensures.items in
    (dropped_first s.log s.store c.remove.new.self c.in-Some.id c.pop_front.new.self.items c.is_live-live.ensures.distinct c.requires.listed.known h c.remove.ensures).1
