use Rattle.std.proofs.Common.{◌≡◌, ◌∙◌, length, ap, arith}
use Rattle.propagate.proofs.counters.Counters.give_back_to.Goals as goal

pub loop-self-preserved : goal.loop-self-preserved
loop-self-preserved c =
    let i = c.loop-self.invariant in
    let e = c.give_last.ensures in
    let top = c.args.self.now.used in
    let len : length c.loop-self.self.lits.items ≡ length c.args.self.now.lits.items = ap (λ v. length v.items) i.lits in
    let le = c.requires.built.used in
    let more = c.loop-self-test.true in
    let one = e.used in
    let fewer = i.fewer in
    record {
      built = e.built;
      given = e.given top i.fewer (omega (arith, len)) i.given;
      used = omega arith;
      fewer = omega arith;
      lits = e.lits ∙ i.lits;
      slots = e.slots ∙ i.slots;
      variables = e.variables ∙ i.variables;
    }
