use Rattle.std.proofs.Common.{◌<◌, length, arith, rules, ap}
use Rattle.spec_join.specs.Joining.{Joining}
use Rattle.spec_join.proofs.Making.{addable, made_more}
use Rattle.spec_join.proofs.joiner.Joiner.add_options.Goals as goal

pub add_option-requires : goal.add_option-requires
add_option-requires c =
    let within : c.loop-t.t < length c.args.self.now.task_kinds = omega (arith, ap (λ (s : Joining). length s.task_kinds) c.self.view_is) in
    let a = addable c.args.self.now c.loop-t.self c.args.table c.args.resource.now c.args.keys.now c.loop-t.t within c.requires.unbroken c.requires.free c.loop-t.invariant in
    record {
      table = search rules;
      there = search rules;
      task = search rules;
      known = search rules;
      unbroken = a.unbroken;
      new = a.new;
      room = a.room;
    }

pub loop-t-preserved : goal.loop-t-preserved
loop-t-preserved c = made_more c.args.self.now c.loop-t.self c.add_option.new.self c.args.table c.args.resource.now c.args.keys.now c.loop-t.t c.loop-t.invariant c.in_ok-add_option.ensures
