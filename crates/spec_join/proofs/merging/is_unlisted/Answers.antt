use Rattle.std.proofs.Common.{not, ap, sym, ◌∙◌}
use Rattle.arch_reader.proofs.Cutting.{list_any-map}
use Rattle.spec_graph.specs.Lists.{message_number}
use Rattle.spec_graph.specs.Merged.{is_number}
use Rattle.spec_join.proofs.merging.is_unlisted.Goals as goal

pub returns : goal.returns
returns c = ap not (c.is_listed.ensures ∙ sym (list_any-map message_number (is_number c.args.m) c.args.listed.now))
