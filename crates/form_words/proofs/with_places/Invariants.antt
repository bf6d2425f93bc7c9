use Rattle.std.proofs.Common.{◌≡◌, map, take}
use Rattle.clap.specs.Simple.{app_of}
use Rattle.form_words.specs.Commands.{place_rule, with_rules}
use Rattle.form_words.proofs.with_places.Given as goal

abbrev pub invariant-loop-id : goal.invariant-loop-id
invariant-loop-id l = app_of l.made ≡ with_rules (app_of l.fn.command) (map (λ s. place_rule s.now) (take l.id-index l.places))
