use Rattle.std.proofs.Common.{◌∷◌, length}
use Rattle.std.specs.Prelude.{codes, decimal}
use Rattle.make_run.proofs.Counted.{counted, line_of_seven}
use Rattle.make_run.proofs.saying.put_made.Goals as goal

pub returns : goal.returns
returns c =
    let s = c.args.spec.now in
    line_of_seven c.args.out.now.items (codes "made") (32 ∷ decimal c.args.number) _ _ _ _ _ _ _ _ _ _ _ _ _
    c.in_ok-extend_from_slice.ensures.items
    c.in_ok-put_number.ensures
    (counted _ _ (codes "tasks") _ (length s.tasks) c.in_ok-put_count.ensures c.tasks.ensures.count)
    (counted _ _ (codes "messages") _ (length s.messages) c.in_ok-put_count-2.ensures c.messages.ensures.count)
    (counted _ _ (codes "resources") _ (length s.resources) c.in_ok-put_count-3.ensures c.resources.ensures.count)
    (counted _ _ (codes "links") _ (length s.links) c.in_ok-put_count-4.ensures c.links.ensures.count)
    (counted _ _ (codes "options") _ (length s.options) c.in_ok-put_count-5.ensures c.options.ensures.count)
    c.in_ok-push.ensures.items
