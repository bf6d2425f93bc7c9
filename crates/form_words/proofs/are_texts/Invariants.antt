use Rattle.std.proofs.Common.{ℕ, ◌<◌, String, Global, string_bytes, slice_index_or}
use Rattle.std.specs.Str.{IsUtf8}
use Rattle.form_words.proofs.are_texts.Given as goal

abbrev pub invariant-loop-word : goal.invariant-loop-word
invariant-loop-word l = (k : ℕ) → k < l.word-index → (d : String Global) → IsUtf8 (string_bytes (slice_index_or l.words k d))
