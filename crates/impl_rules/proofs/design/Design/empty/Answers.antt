use Rattle.std.proofs.Common.{ap, ◌∙◌, replicate}
use Rattle.std.specs.Prelude.{false}
use Rattle.impl_rules.specs.Bytes.{bits_in}
use Rattle.impl_rules.proofs.BytesLemmas.{bits_in-replicate}
use Rattle.impl_rules.proofs.design.Design.empty.Goals as goal

pub returns : goal.returns
returns c =
    ap bits_in (c.in_ok-bytes.ensures.items_if_clones_equal (λ y e. e)) ∙ (bits_in-replicate _ ∙ ap (λ n. replicate n false) c.design_variables.ensures.count)
