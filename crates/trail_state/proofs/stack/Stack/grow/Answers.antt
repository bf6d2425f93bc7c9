use Rattle.std.proofs.Common.{◌≡◌, ap, arith, take, length, None, is_ok, vec_len}
use Rattle.trail_state.specs.Trail.{TrailView}
use Rattle.trail_state.proofs.Fields.{room, resized, IsTrail-room, IsTrail-grown}
use Rattle.trail_state.proofs.stack.Stack.grow.Goals as goal

pub invariant_of-self-in_err-resize-2 : goal.invariant_of-self-in_err-resize-2
invariant_of-self-in_err-resize-2 c =
    let i = c.self.inside in
    let t = c.self.invariant in
    let b = room i.lits.items i.reasons.items i.places.items i.used i.depth t in
    let v : length i.places.items ≡ c.args.self.now.variables = ap (λ (v : TrailView). v.variables) c.self.view_is in
    let few = b.few in
    let lits = resized i.lits.items c.resize.new.self.items c.yes.result i.used c.args.count (vec_len i.lits) (omega arith) c.in_ok-resize.ensures.items (omega arith) b.lits in
    IsTrail-room i.lits.items c.resize.new.self.items i.reasons.items c.resize-2.new.self.items i.places.items i.used i.depth t (omega (arith, lits.0))
    (omega (arith, ap length c.in_err-resize-2.ensures.items, t.reasons_room)) lits.1 (ap (take i.used) c.in_err-resize-2.ensures.items)

pub invariant_of-self-2 : goal.invariant_of-self-2
invariant_of-self-2 c =
    let i = c.self.inside in
    let t = c.self.invariant in
    let b = room i.lits.items i.reasons.items i.places.items i.used i.depth t in
    let v : length i.places.items ≡ c.args.self.now.variables = ap (λ (v : TrailView). v.variables) c.self.view_is in
    let few = b.few in
    let lits = resized i.lits.items c.resize.new.self.items c.yes.result i.used c.args.count (vec_len i.lits) (omega arith) c.in_ok-resize.ensures.items (omega arith) b.lits in
    let reasons = resized i.reasons.items c.resize-2.new.self.items None i.used c.args.count (vec_len i.reasons) (omega arith) c.in_ok-resize-2.ensures.items (omega arith) b.reasons in
    let wide = IsTrail-room i.lits.items c.resize.new.self.items i.reasons.items c.resize-2.new.self.items i.places.items i.used i.depth t (omega (arith, lits.0)) (omega (arith, reasons.0)) lits.1
    reasons.1 in
    IsTrail-grown c.resize.new.self.items c.resize-2.new.self.items i.places.items c.resize-3.new.self.items i.used i.depth c.args.count (vec_len i.places) (is_ok c.resize-3.result) (omega arith)
    wide (omega arith) (omega arith) (omega (arith, lits.0)) (omega (arith, reasons.0)) c.resize-3.ensures.items
