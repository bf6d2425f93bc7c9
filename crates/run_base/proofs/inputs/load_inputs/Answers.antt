use Rattle.std.proofs.Common.{◌∙◌, ◌≡◌, Option, IfSome, subst}
use Rattle.desk_io.specs.Files.{Files, content}
use Rattle.run_base.specs.Loading.{IsLoaded, IsLoadedIfNamed}
use Rattle.run_base.specs.Worlds.{content_if_named, names_value}
use Rattle.run_base.proofs.Worlds.{loaded_from}
use Rattle.run_base.proofs.inputs.load_inputs.Goals as goal

pub returns-clause-loaded : goal.returns-clause-loaded
returns-clause-loaded g c =
    let first = c.in_ok-tgff.ensures.files in
    let second = c.in_ok-arch.ensures.files ∙ first in
    loaded_from (g.D.Desk.files c.args.desk.now) (names_value c.args.names.now) (record { tgff = c.in_ok-tgff.tgff; arch = c.in_ok-arch.arch; third = c.in_ok-third.third })
    c.in_ok-tgff.ensures.loaded
    (subst (λ (files : Option Files). IfSome files (λ all. IsLoaded c.in_ok-arch.arch (content all c.args.names.now.arch.now))) first c.in_ok-arch.ensures.loaded)
    (subst (λ (files : Option Files). IfSome files (λ all. IsLoadedIfNamed c.in_ok-third.third (content_if_named all c.args.names.now.third.now))) second c.in_ok-third.ensures.loaded)
