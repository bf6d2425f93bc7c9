use Rattle.std.proofs.Common.{◌∙◌, ◌+◌, ◌++◌, ◌∷◌, [], List, ap, sym, map, append_assoc}
use Rattle.std.proofs.lemmas.List.{length_push}
use Rattle.std.specs.Vec.Iter.{into_iter_items}
use Rattle.pb_rules.specs.Linear.{Linear}
use Rattle.constraint_store.specs.Live.{Live, content}
use Rattle.trail_state.specs.Trail.{TrailView}
use Rattle.ordered_solver.proofs.Agreeing.{numbered_last}
use Rattle.ordered_solver.proofs.engine.Engine.load.Goals as goal

pub loop-c-preserved : goal.loop-c-preserved
loop-c-preserved c =
    let i = c.loop-c.invariant in
    let a = c.in_ok-add.ensures in
    let x : Live = record { id = c.in_ok-add.field-0; constraint = c.in-Some.c; proof_id = c.loop-c.proof_id } in
    record {
      idle = record {
        loaded = a.loaded;
        nothing = ap (λ (t : TrailView). t.entries) a.trail ∙ i.idle.nothing;
      };
      given = ap (map content) a.added ∙ numbered_last c.loop-c.yielded c.loop-c.self.store x i.numbered i.given;
      numbered = ap (λ n. n + 1) (i.numbered ∙ sym (length_push c.loop-c.yielded c.in-Some.c));
      parts = i.parts ∙ ap (λ (cs : List Linear). c.loop-c.yielded ++ cs) c.in-Some.ensures.steps.0 ∙ sym (append_assoc c.loop-c.yielded (c.in-Some.c ∷ []) (into_iter_items c.next.new.self));
      variables = ap (λ (t : TrailView). t.variables) a.trail ∙ i.variables;
      log = a.log ∙ i.log;
      kept = a.kept ∙ i.kept;
    }
