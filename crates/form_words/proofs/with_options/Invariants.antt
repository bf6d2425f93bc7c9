use Rattle.std.proofs.Common.{◌≡◌, map, take}
use Rattle.clap.specs.Simple.{app_of}
use Rattle.form_words.specs.Commands.{option_rule, with_rules}
use Rattle.form_words.proofs.with_options.Given as goal

abbrev pub invariant-loop-named : goal.invariant-loop-named
invariant-loop-named l = app_of l.made ≡ with_rules (app_of l.fn.command) (map (λ o. option_rule o.0.now o.1) (take l.named-index l.options))
