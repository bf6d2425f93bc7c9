use Rattle.std.proofs.Common.{◌∙◌, Option, arith, subst}
use Rattle.desk_io.specs.Files.{Files}
use Rattle.front_model.specs.declared.refusals.Refused.{Refused}
use Rattle.check_run.specs.Taking.{TakesPart}
use Rattle.check_run.proofs.Taking.{reads_on, refused_within, ends_whole, at_end}
use Rattle.check_run.proofs.proof_file.read_proof.Goals as goal

pub returns-in-Some-clause-verdict : goal.returns-in-Some-clause-verdict
returns-in-Some-clause-verdict g c =
    let files = g.D.Desk.files c.args.desk.now in
    let name = c.args.name.now in
    let told = subst (λ (f : Option Files). TakesPart f name c.loop-at.at c.min-count.result c.loop-at.lines c.take_part.new.lines c.in_ok-refused.field-0) c.loop-at.invariant.3
    c.in_ok-refused.ensures.taken in
    let part = subst (λ (r : Option Refused). TakesPart files name c.loop-at.at c.min-count.result c.loop-at.lines c.take_part.new.lines r) c.in-Some.is told in
    refused_within files name c.loop-at.at c.min-count.result c.args.checker c.loop-at.lines c.take_part.new.lines c.in-Some.refused c.loop-at.invariant.0 part

pub loop-at-preserved : goal.loop-at-preserved
loop-at-preserved g c =
    let files = g.D.Desk.files c.args.desk.now in
    let name = c.args.name.now in
    let i = c.loop-at.invariant in
    let told = subst (λ (f : Option Files). TakesPart f name c.loop-at.at c.min-count.result c.loop-at.lines c.take_part.new.lines c.in_ok-refused.field-0) i.3 c.in_ok-refused.ensures.taken in
    let part = subst (λ (r : Option Refused). TakesPart files name c.loop-at.at c.min-count.result c.loop-at.lines c.take_part.new.lines r) c.in_default.is told in (
      reads_on files name c.loop-at.at c.min-count.result c.args.checker c.loop-at.lines c.take_part.new.lines i.0 part,
      omega (arith, c.min-count.ensures, i.1, c.loop-at-test.true),
      i.2,
      c.in_ok-refused.ensures.files ∙ i.3,
      c.in_ok-refused.ensures.said ∙ i.4,
      c.in_ok-refused.ensures.cause.kept ∙ i.5,
    )

pub returns-clause-verdict : goal.returns-clause-verdict
returns-clause-verdict g c =
    let files = g.D.Desk.files c.args.desk.now in
    let name = c.args.name.now in
    let i = c.loop-at.invariant in
    ends_whole files name c.loop-at.at c.args.checker c.loop-at.lines c.in_ok-verdict.verdict (at_end files name c.loop-at.at c.in_ok-len.len c.loop-at-test.false i.2) i.0 c.in_ok-verdict.ensures
