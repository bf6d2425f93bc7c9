use Rattle.std.proofs.Common.{◌≡◌, ◌+◌, ◌<◌, ◌^◌, [], List, length}
use Rattle.line_words.specs.Rules.{Statement}
use Rattle.line_words.specs.Run.{run}
use Rattle.spec_model.specs.Spec.{design_variables}
use Rattle.spelled_lines.specs.Lines.{pieces}
use Rattle.result_text.specs.FrontLines.{front_nothing, front_with_lines, front_rules}
use Rattle.result_text.specs.FrontAnswers.{front_state}
use Rattle.result_text.proofs.front_reading.read_all.Given as goal

-- some lines are done: reading on gives what the text gives, and what was seen is what they state
abbrev pub invariant-loop-rest : goal.invariant-loop-rest
invariant-loop-rest l = (done : List Statement)
    × (run (front_rules l.spec) l.number done (pieces l.rest) ≡ run (front_rules l.spec) 1 [] (pieces l.bytes))
    × (front_state l.seen ≡ front_with_lines l.spec (front_nothing l.spec) done)
    × (length l.seen.current.design ≡ design_variables l.spec)
    × (l.number + length l.rest < 2 ^ 64)

abbrev pub decreases-loop-rest : goal.decreases-loop-rest
decreases-loop-rest l = length l.rest
