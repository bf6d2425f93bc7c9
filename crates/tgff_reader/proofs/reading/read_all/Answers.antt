use Rattle.std.proofs.Common.{ap, ◌∙◌}
use Rattle.tgff_reader.specs.Tgff.{closed_blocks}
use Rattle.tgff_reader.proofs.reading.read_all.Goals as goal

pub returns-in-Ok : goal.returns-in-Ok
returns-in-Ok c =
    let t = c.in-Ok.ensures.takes in
    (t.statements, t.gives, c.into_file.ensures ∙ ap closed_blocks t.state_is)
