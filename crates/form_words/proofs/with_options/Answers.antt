use Rattle.std.proofs.Common.{◌∙◌, ◌<◌, ap₂, arith, length}
use Rattle.clap.specs.Simple.{app_of, with_rule}
use Rattle.form_words.specs.Commands.{option_rule}
use Rattle.form_words.proofs.TableForms.{more}
use Rattle.form_words.proofs.with_options.Goals as goal

pub loop-named-preserved : goal.loop-named-preserved
loop-named-preserved c =
    let lt : c.loop-named.named-index < length c.args.options.now = omega arith in
    c.in_ok-made.ensures.shape c.option.ensures.local ∙ ap₂ with_rule c.loop-named.invariant c.option.ensures.rule
    ∙ more (λ o. option_rule o.0.now o.1) (app_of c.args.command) c.args.options.now c.loop-named.named-index _ lt
