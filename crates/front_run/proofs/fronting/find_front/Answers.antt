use Rattle.std.proofs.Common.{◌<◌, ◌^◌, arith}
use Rattle.pb_rules.specs.Frames.{derived_count}
use Rattle.result_text.specs.Fronts.{front_of}
use Rattle.run_base.specs.declared.outcome.Outcome.{Outcome}
use Rattle.front_run.specs.Wanting.{wanted_value}
use Rattle.front_run.proofs.Found.{finds}
use Rattle.front_run.proofs.fronting.find_front.Goals as goal

pub returns : goal.returns
returns c =
    let s = c.args.spec.now in
    let wanted = wanted_value c.args.wanted in
    let r = c.in_ok-searched.searched in
    let x = c.in_ok-searched.ensures in
    let outcome : Outcome = record { ending = c.ending_of-ending.result; text = c.in_ok-text.text; writes = c.in_ok-writes.writes } in
    let few : derived_count r.log.lines < 2 ^ 63 = omega (arith, c.learned-learned.ensures.value, c.learned-learned.ensures.small) in
    finds c.law_of_files.ensures.legal s wanted c.unwrap_or.result r.found (front_of r.front) r.log r.end outcome
    c.unwrap_or.ensures few x.prefix x.covers x.front x.complete x.end x.exact x.accepted c.ending_of-ending.ensures c.in_ok-text.ensures c.in_ok-writes.ensures
