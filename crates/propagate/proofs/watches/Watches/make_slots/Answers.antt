use Rattle.std.proofs.Common.{◌≡◌, ◌∙◌, List, [], ◌∷◌, ◌++◌, Option, None, get_or, ap}
use Rattle.std.proofs.lemmas.List.{map_push}
use Rattle.propagate.specs.Counters.{attached_from}
use Rattle.propagate.specs.declared.watches.Watches.{Watches}
use Rattle.propagate.specs.Watched.{WatchedView, whole_in, wholes}
use Rattle.propagate.proofs.Placing.{attached-push}
use Rattle.propagate.proofs.Placed.{beyond-push}
use Rattle.propagate.proofs.watches.Watches.make_slots.Goals as goal

pub loop-self-preserved : goal.loop-self-preserved
loop-self-preserved c =
    let old = c.loop-self.self.slots.items in
    let new = c.push.new.self.items in
    let is : new ≡ old ++ None ∷ [] = c.in_ok-push.ensures.items in
    let i = c.loop-self.invariant in
    record {
      same = λ k. ap (λ (us : List (Option WatchedView)). get_or us k None) is ∙ beyond-push old None k ∙ i.same k;
      attached = ap (λ us. attached_from 0 (wholes us)) is ∙ ap (attached_from 0) (map_push whole_in old None) ∙ attached-push 0 (wholes old) ∙ i.attached;
      rest = ap (λ (w : Watches). record w { slots = c.push.new.self }) i.rest;
    }
