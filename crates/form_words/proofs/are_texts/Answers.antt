use Rattle.std.proofs.Common.{◌≡◌, ◌∙◌, ◌<◌, String, Global, ap, arith, subst, length, string_bytes, slice_index_or}
use Rattle.std.specs.Str.{IsUtf8}
use Rattle.std.proofs.lemmas.List.{get_or_default}
use borrow.Author.Count.{below_more}
use Rattle.form_words.proofs.are_texts.Goals as goal

pub loop-word-preserved : goal.loop-word-preserved
loop-word-preserved c = below_more (λ k. (d : String Global) → IsUtf8 (string_bytes (slice_index_or c.args.words.now k d))) c.loop-word.word-index c.loop-word.invariant
    (λ d.
    let lt : c.loop-word.word-index < length c.args.words.now = omega arith in
    let same : c.as_str-text.result.now ≡ string_bytes (slice_index_or c.args.words.now c.loop-word.word-index d) =
    c.as_str-text.ensures.value ∙ ap string_bytes (c.word-item.is ∙ get_or_default c.args.words.now c.loop-word.word-index c.word-item.result d lt) in
    subst IsUtf8 same c.as_str-text.utf8)

pub returns : goal.returns
returns c = λ k d lt. c.loop-word.invariant k (omega arith) d
