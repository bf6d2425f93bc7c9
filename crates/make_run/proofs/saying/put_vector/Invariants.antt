use Rattle.std.proofs.Common.{◌≡◌, ◌++◌, take}
use Rattle.std.specs.List.{join_with_byte}
use Rattle.result_text.specs.Spelling.{vector_words}
use Rattle.make_run.proofs.saying.put_vector.Given as goal

abbrev pub invariant-loop-number : goal.invariant-loop-number
invariant-loop-number l = l.out.items ≡ l.fn.out.items ++ join_with_byte 32 (vector_words (take l.number-index l.vector))
