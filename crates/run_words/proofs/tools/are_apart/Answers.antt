use Rattle.std.proofs.Common.{◌≡◌, ◌∙◌, ◌+◌, ◌-◌, List, [], get_or, sym, refl, ap, arith, drop, length, map, take}
use Rattle.std.proofs.lemmas.List.{length-drop, take_all}
use Rattle.std.specs.Borrow.{Bor}
use Rattle.form_words.specs.Line.{Text, has_text}
use Rattle.run_words.proofs.Tags.{twice, once, all_apart}
use Rattle.run_words.proofs.tools.are_apart.Goals as goal

pub returns-then-has_name : goal.returns-then-has_name
returns-then-has_name c =
    let named = c.args.named.now in
    let from = c.loop-i.i + 1 in
    let none : Bor Text = record { ref_ptr = (0, 0); now = [] } in
    let name = (get_or named c.loop-i.i none).now in
    let rest : take (length named - from) (drop from named) ≡ drop from named = take_all (length named - from) (drop from named) (omega (arith, length-drop from named)) in
    twice (λ s. s.now) named c.loop-i.i none name _ c.loop-i-test.true refl
    (sym (ap (λ (ns : List (Bor Text)). has_text (map (λ s. s.now) ns) name) rest) ∙ (sym c.has_name.ensures ∙ c.if-has_name.true)) c.loop-i.invariant

pub loop-i-preserved : goal.loop-i-preserved
loop-i-preserved c =
    let named = c.args.named.now in
    let from = c.loop-i.i + 1 in
    let none : Bor Text = record { ref_ptr = (0, 0); now = [] } in
    let name = (get_or named c.loop-i.i none).now in
    let rest : take (length named - from) (drop from named) ≡ drop from named = take_all (length named - from) (drop from named) (omega (arith, length-drop from named)) in
    once (λ s. s.now) named c.loop-i.i none name _ c.loop-i-test.true refl
    (sym (ap (λ (ns : List (Bor Text)). has_text (map (λ s. s.now) ns) name) rest) ∙ (sym c.has_name.ensures ∙ c.if-has_name.false)) c.loop-i.invariant

pub returns : goal.returns
returns c = all_apart (λ s. s.now) c.args.named.now c.loop-i.i _ c.loop-i-test.false c.loop-i.invariant
