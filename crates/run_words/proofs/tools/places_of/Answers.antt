use Rattle.std.proofs.Common.{◌≡◌, ◌∙◌, ◌++◌, ◌∷◌, ◌<◌, [], ap, arith, cond, length, map, rules, string_bytes, take}
use Rattle.run_words.proofs.Tags.{place_step, places_end}
use Rattle.run_words.proofs.tools.places_of.Goals as goal
use Rattle.run_words.proofs.tools.places_of.Goals.{then-takes+in_ok-push, else-takes}

pub loop-i-preserved : goal.loop-i-preserved
loop-i-preserved c =
    let lt : c.loop-i.i < length c.args.tags.now = omega arith in
    let after_is : c.if-takes.places.items ≡ cond c.is_named-takes.result (c.loop-i.places.items ++ c.loop-i.i ∷ []) c.loop-i.places.items =
    elim c.if-takes.branch [ then-takes+in_ok-push w ↦ search rules | else-takes w ↦ search rules ] in
    place_step string_bytes c.args.tags.now c.loop-i.i c.index-tags-i.result (map (λ p. p.now) c.args.named.now) c.as_str.result.now c.loop-i.places.items c.if-takes.places.items _
    c.is_named-takes.result lt
    (c.as_str.ensures.value ∙ ap string_bytes c.index-tags-i.is)
    c.is_named-takes.ensures
    after_is c.loop-i.invariant

pub returns : goal.returns
returns c =
    places_end string_bytes c.args.tags.now c.loop-i.i (map (λ p. p.now) c.args.named.now) (map string_bytes (take c.loop-i.i c.args.tags.now)) c.loop-i.places.items _ c.loop-i-test.false
    c.loop-i.invariant
