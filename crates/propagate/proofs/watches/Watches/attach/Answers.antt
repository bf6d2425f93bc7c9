use Rattle.std.proofs.Common.{rules, ◌≡◌, ◌∙◌, ℕ, false, length, take, sym, ap, inl, inr, subst, arith}
use Rattle.std.specs.Prelude.{All}
use Rattle.std.proofs.lemmas.Fn.{All-from_retain}
use Rattle.pb_rules.specs.Literal.{Literal}
use Rattle.pb_rules.specs.Partial.{is_false}
use Rattle.trail_state.specs.Trail.{value_in}
use Rattle.propagate.specs.declared.watches.Watches.{Watches as Clauses}
use Rattle.propagate.specs.Counters.{literal_number}
use Rattle.propagate.specs.Watched.{Watches, IsWatched, IsKept}
use Rattle.propagate.specs.Watches.{watches_of, IsListedIn, IsClosedAt}
use Rattle.propagate.proofs.Closed.{All-retained, closed_same, closed_placed}
use Rattle.propagate.proofs.Placed.{placed_set, put_placed, more_same, more_trans, listed_more, literal_in_range, pushed, pushed_first, watched_more, watched_placed}
use Rattle.propagate.proofs.watches.Watches.attach.Goals as goal

pub returns-in_err-make_slots-clause-built : goal.returns-in_err-make_slots-clause-built
returns-in_err-make_slots-clause-built c =
    let old = c.args.self.now in
    let mid = c.make_slots.new.self in
    let e = c.in_err-make_slots.ensures in
    watched_more c.args.trail.now.variables old mid e.same (more_same old.lists mid.lists (ap (λ (v : Clauses). v.lists) e.rest))

pub returns-in_err-push-clause-built : goal.returns-in_err-push-clause-built
returns-in_err-push-clause-built c =
    let old = c.args.self.now in
    let mid = c.make_slots.new.self in
    let e = c.in_ok-make_slots.ensures in
    watched_more c.args.trail.now.variables old (record mid { lists = c.push.new.self }) e.same
    (more_same old.lists c.push.new.self (c.in_err-push.ensures.err ∙ ap (λ (v : Clauses). v.lists) e.rest))

pub returns-in_err-push-clause-closed : goal.returns-in_err-push-clause-closed
returns-in_err-push-clause-closed c =
    λ ls first closed k d h.
    (let old = c.args.self.now in
    let mid = c.make_slots.new.self in
    let e = c.in_ok-make_slots.ensures in
    let P : Clauses → Type 0 = λ v. All (IsClosedAt ls old.slots.items) v.closed.items in
    closed_same ls old.slots.items mid.slots.items _ e.same (subst P (sym e.rest) closed k d h))

pub push-requires-2 : goal.push-requires-2
push-requires-2 c =
    let old = c.args.self.now in
    let w = c.args.c in
    let mid = c.make_slots.new.self in
    let n = c.args.trail.now.variables in
    let kept : IsKept n w = record { watched = subst (λ v. IsWatched v) c.c.view_is c.c.invariant; in_range = c.requires.in_range } in
    let p = pushed_first n old mid c.push.new.self c.args.slot w c.first-first.result c.second-second.result c.in_ok-make_slots.ensures.rest c.requires.wide kept
    c.first-first.ensures c.second-second.ensures c.in_ok-push.ensures.ok in
    let wide = c.requires.wide in
    let longer = p.0.longer in
    literal_in_range w.whole.terms c.second-second.result w.second n (length c.push.new.self) c.requires.in_range kept.watched.second_there c.second-second.ensures (omega (arith, wide, longer))

pub returns-in_err-push-2-clause-built : goal.returns-in_err-push-2-clause-built
returns-in_err-push-2-clause-built c =
    let old = c.args.self.now in
    let w = c.args.c in
    let mid = c.make_slots.new.self in
    let n = c.args.trail.now.variables in
    let kept : IsKept n w = record { watched = subst (λ v. IsWatched v) c.c.view_is c.c.invariant; in_range = c.requires.in_range } in
    let p = pushed_first n old mid c.push.new.self c.args.slot w c.first-first.result c.second-second.result c.in_ok-make_slots.ensures.rest c.requires.wide kept
    c.first-first.ensures c.second-second.ensures c.in_ok-push.ensures.ok in
    watched_more n old (record mid { lists = c.push-2.new.self }) c.in_ok-make_slots.ensures.same
    (more_trans old.lists c.push.new.self c.push-2.new.self p.0 (more_same c.push.new.self c.push-2.new.self c.in_err-push-2.ensures.err))

pub returns-in_err-push-2-clause-closed : goal.returns-in_err-push-2-clause-closed
returns-in_err-push-2-clause-closed c =
    λ ls first closed k d h.
    (let old = c.args.self.now in
    let mid = c.make_slots.new.self in
    let e = c.in_ok-make_slots.ensures in
    let P : Clauses → Type 0 = λ v. All (IsClosedAt ls old.slots.items) v.closed.items in
    closed_same ls old.slots.items mid.slots.items _ e.same (subst P (sym e.rest) closed k d h))

pub returns-clause-built : goal.returns-clause-built
returns-clause-built c =
    let old = c.args.self.now in
    let w = c.args.c in
    let mid = c.make_slots.new.self in
    let n = c.args.trail.now.variables in
    let kept : IsKept n w = record { watched = subst (λ v. IsWatched v) c.c.view_is c.c.invariant; in_range = c.requires.in_range } in
    let p = pushed_first n old mid c.push.new.self c.args.slot w c.first-first.result c.second-second.result c.in_ok-make_slots.ensures.rest c.requires.wide kept
    c.first-first.ensures c.second-second.ensures c.in_ok-push.ensures.ok in
    let done = c.push-2.new.self in
    let wide = c.requires.wide in
    let longer = p.0.longer in
    let at_first = kept.watched.first_there in
    let at_second = kept.watched.second_there in
    let q = pushed n c.push.new.self done c.args.slot w c.second-second.result c.first-first.result w.second w.first (omega (arith, wide, longer)) kept.in_range at_second at_first
    c.second-second.ensures c.first-first.ensures c.in_ok-push-2.ensures.ok in
    let room = c.in_ok-make_slots.ensures.room in
    let P : Literal → Type 0 = λ l. IsListedIn (watches_of done (literal_number l)) c.args.slot w in
    let first : P w.first = listed_more c.push.new.self done (literal_number w.first) c.args.slot w q.0 p.1 in
    watched_placed n old _ c.args.slot w (placed_set old.slots.items mid.slots.items c.args.slot w c.in_ok-make_slots.ensures.same (omega (arith, room)))
    (more_trans old.lists c.push.new.self done p.0 q.0) kept (λ l h. elim h [ inl e ↦ subst P e first | inr e ↦ subst P e q.1 ])

pub returns-clause-closed : goal.returns-clause-closed
returns-clause-closed c =
    λ ls first closed k d h.
    (let old = c.args.self.now in
    let mid = c.make_slots.new.self in
    let es = c.args.trail.now.entries in
    let ns = c.retain.new.self.items in
    let w = c.args.c in
    let r = c.retain.ensures.filtered in
    let room = c.in_ok-make_slots.ensures.room in
    let Open : ℕ → Type 0 = λ n. (l : Literal) → Watches w l → is_false (value_in (take n es)) l ≡ false in
    let Kept : ℕ → Type 0 = IsClosedAt ls old.slots.items in
    let opens : All Open ns = All-from_retain _ Open _ (λ x b f' k. search rules) mid.closed.items ns r in
    let before : All Kept mid.closed.items = subst (λ (v : Clauses). All Kept v.closed.items) (sym c.in_ok-make_slots.ensures.rest) closed in
    let kept = All-retained _ Kept _ mid.closed.items ns r before in
    closed_placed ls es old.slots.items _ c.args.slot w _ first (placed_set old.slots.items mid.slots.items c.args.slot w c.in_ok-make_slots.ensures.same (omega (arith, room)))
    (opens k d h) (kept k d h))

pub returns-clause-ok : goal.returns-clause-ok
returns-clause-ok c =
    let old = c.args.self.now in
    let mid = c.make_slots.new.self in
    let room = c.in_ok-make_slots.ensures.room in
    put_placed old.slots.items _ c.args.slot c.args.c (placed_set old.slots.items mid.slots.items c.args.slot c.args.c c.in_ok-make_slots.ensures.same (omega (arith, room)))
