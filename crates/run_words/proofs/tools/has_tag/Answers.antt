use Rattle.std.proofs.Common.{◌∙◌, string_bytes}
use Rattle.std.specs.Str.{bytes_eq}
use Rattle.clap.proofs.WalkLemmas.{list_any-map}
use Rattle.run_words.proofs.tools.has_tag.Goals as goal

pub returns : goal.returns
returns c = c.is_among.ensures ∙ list_any-map (λ n. bytes_eq n c.args.tag.now) string_bytes c.args.tags.now
