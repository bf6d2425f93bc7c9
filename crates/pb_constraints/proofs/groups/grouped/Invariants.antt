use Rattle.std.proofs.Common.{◌<◌, ◌≤◌, take, length, get_or}
use Rattle.pb_constraints.specs.declared.parts.Part.{Part}
use Rattle.pb_constraints.specs.Groups.{IsGrouping}
use Rattle.pb_constraints.specs.Groups.{var_of}
use Rattle.pb_constraints.proofs.groups.grouped.Given as goal

abbrev pub invariant-loop-p : goal.invariant-loop-p
invariant-loop-p l = record {
  grouping : IsGrouping (take l.p-index l.parts) l.groups.items l.var l.sum;
  next : (d : Part) → l.p-index < length l.parts → l.var ≤ var_of (get_or l.parts l.p-index d);
}
