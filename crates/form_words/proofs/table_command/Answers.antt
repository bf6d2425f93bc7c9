use Rattle.std.proofs.Common.{◌∙◌, ap₂, sym}
use Rattle.std.proofs.lemmas.Result.{IfOk-weaker}
use Rattle.std.proofs.lemmas.Simd.{map-map}
use Rattle.form_words.specs.Commands.{option_of, place_rule, with_rules}
use Rattle.form_words.proofs.table_command.Goals as goal

pub returns : goal.returns
returns c =
    let places = sym (map-map place_rule (λ s. s.now) c.args.places.now) in
    let options = sym (map-map option_of (λ o. (o.0.now, o.1)) c.args.options.now) in
    IfOk-weaker c.with_options.result _ _
    (λ made h. h ∙ ap₂ with_rules (c.in_ok-placed.ensures ∙ ap₂ with_rules c.bare.ensures places) options)
    c.with_options.ensures
