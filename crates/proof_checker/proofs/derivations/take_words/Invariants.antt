use Rattle.std.proofs.Common.{◌≡◌, ◌-◌, [], drop, length}
use Rattle.line_words.specs.Rules.{said}
use Rattle.front_model.specs.Judging.{judge_words}
use Rattle.proof_checker.specs.Answers.{context_over}
use Rattle.proof_checker.proofs.derivations.take_words.Given as goal

abbrev pub invariant-loop-next : goal.invariant-loop-next
invariant-loop-next l = judge_words (context_over l.given) (said (drop l.next l.words)) l.stack ≡ judge_words (context_over l.given) (said l.words) []

abbrev pub decreases-loop-next : goal.decreases-loop-next
decreases-loop-next l = length l.words - l.next
