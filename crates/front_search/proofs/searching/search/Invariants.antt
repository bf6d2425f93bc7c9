use Rattle.std.proofs.Common.{◌≡◌, ◌+◌, ◌-◌, ◌<◌, ◌≤◌, ◌^◌, length}
use Rattle.pb_rules.specs.Frames.{derived_count}
use Rattle.proof_log.specs.HonestLog.{EndsASolve}
use Rattle.front_search.specs.Searches.{most_lines, seen}
use Rattle.front_search.specs.Turns.{IsSearching, IsUnfinished}
use Rattle.front_search.proofs.searching.search.Given as goal

abbrev pub invariant-loop-found : goal.invariant-loop-found
invariant-loop-found l = record {
  searching : IsSearching l.spec (seen l.found.items) l.solver;
  unfinished : IsUnfinished l.spec l.budget l.solver.log.lines;
  starts : EndsASolve l.solver.log.lines;
  bounded : derived_count l.solver.log.lines ≤ most_lines l.spec (length (seen l.found.items)) (length (seen l.found.items));
  few : length l.found.items < 2 ^ 58;
}

-- each turn adds an entry, of which there are fewer than 2^58
abbrev pub decreases-loop-found : goal.decreases-loop-found
decreases-loop-found l = 2 ^ 58 - length l.found.items
