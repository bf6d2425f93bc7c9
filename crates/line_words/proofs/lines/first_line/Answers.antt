use Rattle.std.proofs.Common.{◌≡◌, ◌+◌, ℕ, Bool, List, [], ◌∷◌, length, take, drop, sym, ap, ◌∙◌}
use Rattle.std.specs.Prelude.{nat_lt}
use Rattle.std.specs.List.{list_any, position_or_len}
use Rattle.std.proofs.lemmas.List.Folds.{length-prefix_len}
use Rattle.line_words.specs.Text.{is_bad}
use Rattle.line_words.specs.Rules.{has_bad_byte, first_broken}
use Rattle.line_words.specs.Limits.{most_line_bytes}
use Rattle.line_words.specs.Front.{is_lf, ends_content, has_word, line_of}
use Rattle.line_words.specs.declared.refusals.Why.TheVariants.{BadByte, LongLine}
use Rattle.line_words.proofs.FirstLine.{content-line_of, line_len_parts}
use Rattle.line_words.proofs.lines.first_line.Goals as goal

-- the length of the first line
whole_len : (bytes after : List ℕ) (front tail : ℕ) → front ≡ position_or_len ends_content bytes → after ≡ drop front bytes → tail ≡ position_or_len is_lf after
    → front + tail ≡ position_or_len is_lf bytes
whole_len bytes after front tail front_is after_is tail_is =
    ap (λ (n : ℕ). front + n) (tail_is ∙ ap (position_or_len is_lf) after_is)
    ∙ ap (λ (n : ℕ). n + position_or_len is_lf (drop n bytes)) front_is
    ∙ line_len_parts bytes

pub after_line-requires-clause-len : goal.after_line-requires-clause-len
after_line-requires-clause-len c =
    whole_len c.args.bytes.now c.split_at.result.1.now c.front_of-front.result.len c.len_before_lf.result c.front_of-front.ensures.len c.split_at.ensures.back c.len_before_lf.ensures.value

pub returns-clause-content : goal.returns-clause-content
returns-clause-content c =
    c.split_at.ensures.front ∙ ap (λ (n : ℕ). take n c.args.bytes.now) c.front_of-front.ensures.len ∙ sym (content-line_of c.args.bytes.now)

pub returns-clause-fault : goal.returns-clause-fault
returns-clause-fault c =
    let bytes = c.args.bytes.now in
    let bad : c.front_of-front.result.has_bad_byte ≡ has_bad_byte (line_of bytes) =
    c.front_of-front.ensures.bad ∙ ap (λ (n : ℕ). list_any is_bad (take n bytes)) c.front_of-front.ensures.len ∙ ap (list_any is_bad) (sym (content-line_of bytes)) in
    let len : c.front_of-front.result.len + c.len_before_lf.result ≡ length (line_of bytes) =
    whole_len bytes c.split_at.result.1.now c.front_of-front.result.len c.len_before_lf.result c.front_of-front.ensures.len c.split_at.ensures.back c.len_before_lf.ensures.value
    ∙ sym (length-prefix_len _ bytes) in
    c.fault_of.ensures ∙ ap (λ (b : Bool). first_broken ((BadByte, b) ∷ (LongLine, nat_lt most_line_bytes (c.front_of-front.result.len + c.len_before_lf.result)) ∷ [])) bad
    ∙ ap (λ (n : ℕ). first_broken ((BadByte, has_bad_byte (line_of bytes)) ∷ (LongLine, nat_lt most_line_bytes n) ∷ [])) len

pub returns-clause-word : goal.returns-clause-word
returns-clause-word c =
    let bytes = c.args.bytes.now in
    c.front_of-front.ensures.word ∙ ap (λ (n : ℕ). has_word (take n bytes)) c.front_of-front.ensures.len ∙ ap has_word (sym (content-line_of bytes))
