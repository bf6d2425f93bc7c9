use Rattle.std.proofs.Common.{length}
use Rattle.std.proofs.Common.{◌∙◌, ap, List}
use Rattle.std.specs.List.{take_while}
use Rattle.pb_rules.specs.declared.Term.{Term}
use Rattle.route_encode.specs.Adding.{goes_first}
use Rattle.route_encode.proofs.Writing.{put_is}
use Rattle.route_encode.proofs.literals.put.Goals as goal

pub returns : goal.returns
returns c =
    put_is c.args.literal c.args.literals.now.items c.insert.new.self.items c.place_of-place.result (c.in_ok-insert.ensures {u = tt}).items
    (c.place_of-place.ensures ∙ ap (λ (ts : List Term). length (take_while (goes_first c.args.literal) ts)) c.deref.ensures.value)
