use Rattle.std.proofs.Common.{◌∙◌, map, string_bytes}
use Rattle.run_words.specs.Tools.{is_tag}
use Rattle.run_words.proofs.Tags.{all_mapped}
use Rattle.run_words.proofs.tools.are_tags.Goals as goal

pub returns : goal.returns
returns c = c.each_is_tag.ensures ∙ all_mapped (is_tag (map string_bytes c.args.tags.now)) (λ s. s.now) c.args.named.now
