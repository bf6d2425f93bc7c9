use Rattle.std.proofs.Common.{ℕ, List, sym, ◌∙◌, Bor}
use Rattle.std.proofs.lemmas.List.Folds.{list_all-map}
use Rattle.arch_reader.specs.Words.{is_keyed}
use Rattle.arch_reader.proofs.words.are_keyed.Goals as goal

pub returns : goal.returns
returns c = c.all_keyed.ensures ∙ sym (list_all-map is_keyed (λ (w : Bor (List ℕ)). w.now) c.args.words.now)
