use Rattle.std.proofs.Common.{arith, ap, length, [], ◌∷◌}
use Rattle.std.proofs.lemmas.List.{length-append}
use Rattle.proof_checker.proofs.Runs.{run_begins, run_goes_on, least_goes_on, none_above}
use Rattle.proof_checker.proofs.weakenings.run_at.Goals as goal

pub loop-next-init : goal.loop-next-init
loop-next-init c =
    let none = c.new-vars.ensures.items in
    record {
      run = run_begins c.args.known c.args.words.now c.args.from c.new-vars.result.items c.requires none;
      here = omega (arith, ap length none);
      bound = none_above 0 c.new-vars.result.items none;
    }

pub loop-next-preserved : goal.loop-next-preserved
loop-next-preserved c =
    let l = c.loop-next in
    let xs = l.vars.items in
    let more = c.in_ok-push.ensures.items in
    record {
      run =
          run_goes_on c.args.known c.args.words.now c.args.from l.next l.least c.in-Some.var xs c.push.new.self.items _ l.invariant.run l.invariant.bound l.invariant.here c.loop-next-test.true
          c.in-Some.ensures more;
      here = omega (arith, l.invariant.here, ap length more, length-append xs (c.in-Some.var ∷ []));
      bound = least_goes_on l.least c.in-Some.var xs c.push.new.self.items l.invariant.bound c.in-Some.ensures.after more;
    }
