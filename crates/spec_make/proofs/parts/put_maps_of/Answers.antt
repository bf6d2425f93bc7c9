use Rattle.std.proofs.Common.{◌≡◌, ◌+◌, ◌%◌, ◌∙◌, ap, ap₂}
use Rattle.genotype.specs.Draws.{draw, after_words}
use Rattle.spec_make.specs.Streams.{stream_of}
use Rattle.spec_make.specs.Mesh.{resources_of}
use Rattle.spec_make.specs.Made.{option_words}
use Rattle.spec_make.proofs.Drawing.{three_lines, option_later}
use Rattle.spec_make.proofs.parts.put_maps_of.Goals as goal

pub returns-clause-text : goal.returns-clause-text
returns-clause-text g c =
    let gives = g.W.Words.gives in
    let after = g.W.Words.after in
    let start = c.args.words.now in
    let side = c.args.side in
    let t = c.args.t in
    let words = stream_of gives after start in
    let count = c.resources_of-resources.ensures.value in
    let first : c.draw_one-first.result ≡ draw words (resources_of side) 0 = c.draw_one-first.ensures.number ∙ ap (λ q. draw gives q start) count in
    let one : c.draw_one-first.new.words ≡ after_words after 1 start = c.draw_one-first.ensures.after in
    let two : c.put_option.new.words ≡ after_words after 3 start = c.in_ok-put_option.ensures.words ∙ ap (after_words after 2) one in
    let three : c.put_option-2.new.words ≡ after_words after 5 start = c.in_ok-put_option-2.ensures.words ∙ ap (after_words after 2) two in
    three_lines c.args.text.now.items c.put_option.new.text.items c.put_option-2.new.text.items c.put_option-3.new.text.items
    (option_words words 1 t (draw words (resources_of side) 0))
    (option_words words 3 t ((draw words (resources_of side) 0 + 1) % resources_of side))
    (option_words words 5 t ((draw words (resources_of side) 0 + side) % resources_of side))
    (option_later gives after 1 t start _ _ _ _ _ one first c.in_ok-put_option.ensures.text)
    (option_later gives after 3 t start _ _ _ _ _ two (ap₂ (λ a q. (a + 1) % q) first count) c.in_ok-put_option-2.ensures.text)
    (option_later gives after 5 t start _ _ _ _ _ three (ap₂ (λ a q. (a + side) % q) first count) c.in_ok-put_option-3.ensures.text)
