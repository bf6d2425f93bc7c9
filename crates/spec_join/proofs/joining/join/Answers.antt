use Rattle.std.proofs.Common.{◌≡◌, ap, ◌∙◌}
use Rattle.arch_reader.specs.Arch.{ArchValue}
use Rattle.spec_join.proofs.Breaking.{joined, ended}
use Rattle.spec_join.proofs.joining.join.Goals as goal

pub returns-in-Ok : goal.returns-in-Ok
returns-in-Ok c =
    let lines : c.list.result.now ≡ c.args.arch.now.lines = c.list.ensures ∙ ap (λ (f : ArchValue). f.lines) c.arch.view_is in
    record {
      reads = joined c.args.tgff.now c.args.arch.now c.list.result.now c.in_ok-joiner.joiner c.in-Ok.spec lines c.in_ok-joiner.ensures.made c.in_ok-joiner.ensures.accepted
          c.in-Ok.ensures.accepted c.in-Ok.ensures.finished;
    }

pub returns-in-Err : goal.returns-in-Err
returns-in-Err c =
    let lines : c.list.result.now ≡ c.args.arch.now.lines = c.list.ensures ∙ ap (λ (f : ArchValue). f.lines) c.arch.view_is in
    record {
      reads = ended c.args.tgff.now c.args.arch.now c.list.result.now c.arch.inside.end_line c.in_ok-joiner.joiner c.in-Err.stop c.at_line.result lines
          (ap (λ (f : ArchValue). f.end_line) c.arch.view_is) c.in_ok-joiner.ensures.made c.in_ok-joiner.ensures.accepted c.in-Err.ensures.refused c.at_line.ensures;
    }
