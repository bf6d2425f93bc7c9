use Rattle.std.proofs.Common.{◌∙◌, ◌<◌, ap₂, arith, length}
use Rattle.clap.specs.Simple.{app_of, with_rule}
use Rattle.form_words.specs.Commands.{place_rule}
use Rattle.form_words.proofs.TableForms.{more}
use Rattle.form_words.proofs.with_places.Goals as goal

pub loop-id-preserved : goal.loop-id-preserved
loop-id-preserved c =
    let lt : c.loop-id.id-index < length c.args.places.now = omega arith in
    c.in_ok-made.ensures.shape c.place.ensures.local ∙ ap₂ with_rule c.loop-id.invariant c.place.ensures.rule
    ∙ more (λ s. place_rule s.now) (app_of c.args.command) c.args.places.now c.loop-id.id-index _ lt
