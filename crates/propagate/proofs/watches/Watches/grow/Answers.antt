use Rattle.std.proofs.Common.{◌≤◌, ◌*◌, ℕ, length, refl}
use Rattle.propagate.specs.Watches.{AreWatched}
use Rattle.propagate.proofs.Attachments.{on_ok_map}
use Rattle.propagate.proofs.Placed.{more_lists, watched_more, watched_wider}
use Rattle.propagate.proofs.watches.Watches.grow.Goals as goal

pub returns-clause-room : goal.returns-clause-room
returns-clause-room c =
    let old = c.args.self.now in
    let m = c.args.variables in
    let e = c.grow.ensures in
    let new = record old { lists = c.grow.new.self } in
    on_ok_map c.grow.result (2 * m ≤ length new.lists) ((n : ℕ) → n ≤ m → AreWatched n old → AreWatched m new)
    (λ wide n h a. watched_wider n m new h c.requires.few wide (watched_more n old new (λ i. refl) (more_lists old.lists new.lists e.longer e.same) a)) e.room
