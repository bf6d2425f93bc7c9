use Rattle.std.proofs.Common.{◌∙◌, not, ap}
use Rattle.std.specs.Str.{bytes_eq}
use Rattle.clap.proofs.WalkLemmas.{list_any-map}
use Rattle.run_words.proofs.names.is_apart.Goals as goal

pub returns-in-Some : goal.returns-in-Some
returns-in-Some c = rw c.in-Some.is (ap not (c.contains.ensures.value ∙ list_any-map (λ n. bytes_eq n c.in-Some.name.now) (λ s. s.now) c.args.others.now))
