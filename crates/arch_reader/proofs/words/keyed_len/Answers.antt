use Rattle.std.proofs.Common.{ℕ, List, sym, ◌∙◌, Bor}
use Rattle.arch_reader.specs.Words.{is_keyed}
use Rattle.arch_reader.proofs.Cutting.{prefix_len-map}
use Rattle.arch_reader.proofs.words.keyed_len.Goals as goal

pub returns-clause-value : goal.returns-clause-value
returns-clause-value c = c.count_keyed.ensures.value ∙ sym (prefix_len-map is_keyed (λ (w : Bor (List ℕ)). w.now) c.args.words.now)
