use Rattle.std.proofs.Common.{◌≡◌, ◌<◌, ℕ, false, take, slice_index}
use Rattle.std.specs.List.{list_any}
use Rattle.line_words.specs.Text.{is_bad}
use Rattle.line_words.specs.Front.{ends_content, has_word}
use Rattle.line_words.proofs.lines.front_of.Given as goal

-- nothing that ends the content was met so far
abbrev pub invariant-loop-len : goal.invariant-loop-len
invariant-loop-len l = record {
  goes : (k : ℕ) → k < l.len → ends_content (slice_index l.bytes k) ≡ false;
  bad : l.has_bad_byte ≡ list_any is_bad (take l.len l.bytes);
  word : l.has_word ≡ has_word (take l.len l.bytes);
}
