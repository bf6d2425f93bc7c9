use Rattle.std.proofs.Common.{rules}
use Rattle.std.proofs.lemmas.Fn.{filter_same}
use Rattle.propagate.specs.Counters.{is_filled}
use Rattle.propagate.proofs.occurrences.keep_in.Goals as goal

pub returns : goal.returns
returns c = filter_same _ (is_filled c.args.slots.now) _ (λ x b f' k. search rules) c.args.list.now.items c.retain.new.self.items c.retain.ensures.filtered
