use Rattle.std.proofs.Common.{◌∙◌, sym, ap, is_some, take}
use Rattle.trail_state.specs.Trail.{TrailView, value_in}
use Rattle.trail_state.proofs.Entries.{take_known, take_unknown}
use Rattle.trail_state.proofs.Trail.value_before.Goals as goal

pub returns-then-is_among_first : goal.returns-then-is_among_first
returns-then-is_among_first c =
    let t = ap (λ (v : TrailView). is_some (value_in (take c.args.count v.entries) c.args.var)) c.self.view_is in
    c.value.ensures ∙ take_known c.args.self.now.entries c.args.count c.args.var (sym t ∙ sym c.if-is_among_first.ensures)

pub returns-else-is_among_first : goal.returns-else-is_among_first
returns-else-is_among_first c =
    let t = ap (λ (v : TrailView). is_some (value_in (take c.args.count v.entries) c.args.var)) c.self.view_is in
    sym (take_unknown c.args.self.now.entries c.args.count c.args.var (sym t ∙ sym c.if-is_among_first.ensures))
