use Rattle.std.proofs.Common.{◌≡◌, sym, ap, ◌∙◌, ◌++◌, List, Bool, length, take, subst}
use Rattle.std.specs.List.{flat_map}
use Rattle.spec_model.specs.Spec.{bits_of, below, design_variables}
use Rattle.encode_model.specs.Encoding.{encoding}
use Rattle.encode_laws.specs.Exactness.{IsOnlyModel}
use Rattle.encode_laws.specs.ModelBits.{message_bits, model_list}
use Rattle.encode_laws.proofs.Laws.{only_model}
use Rattle.encode_views.proofs.Rows.{all_bits, design_part}
use Rattle.encode_views.proofs.models.model_of.Goals as goal

pub returns-clause-variables : goal.returns-clause-variables
returns-clause-variables c =
    let s = c.args.spec.now in
    let f = bits_of c.args.design.now in
    let e : c.add_messages.new.model.items ≡ model_list s f = c.in_ok-add_messages.ensures ∙ ap (λ (xs : List Bool). xs ++ flat_map (message_bits s f) (below (length s.messages)))
    c.in_ok-model.ensures in
    ap length e ∙ all_bits s f

pub returns-clause-design : goal.returns-clause-design
returns-clause-design c =
    let s = c.args.spec.now in
    let f = bits_of c.args.design.now in
    let e : c.add_messages.new.model.items ≡ model_list s f = c.in_ok-add_messages.ensures ∙ ap (λ (xs : List Bool). xs ++ flat_map (message_bits s f) (below (length s.messages)))
    c.in_ok-model.ensures in
    ap (take (design_variables s)) e ∙ design_part s c.args.design.now c.requires.bits

pub returns-clause-only : goal.returns-clause-only
returns-clause-only c =
    let s = c.args.spec.now in
    let f = bits_of c.args.design.now in
    let e : c.add_messages.new.model.items ≡ model_list s f = c.in_ok-add_messages.ensures ∙ ap (λ (xs : List Bool). xs ++ flat_map (message_bits s f) (below (length s.messages)))
    c.in_ok-model.ensures in
    subst (λ (xs : List Bool). IsOnlyModel s (encoding s) f (bits_of xs)) (sym e)
    (only_model s f c.facts.ensures c.requires.valid.routed (λ m w hm member r on. c.requires.valid.reached m w r hm member on))
