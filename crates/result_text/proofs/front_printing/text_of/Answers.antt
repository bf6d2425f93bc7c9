use Rattle.std.proofs.Common.{◌≡◌, List, Bool, length}
use Rattle.spec_model.specs.Spec.{design_variables}
use Rattle.result_text.proofs.FrontPrinting.{All-unseen}
use Rattle.result_text.proofs.front_printing.text_of.Goals as goal

pub put_entries-requires : goal.put_entries-requires
put_entries-requires c = All-unseen (λ (d : List Bool). length d ≡ design_variables c.args.spec.now) c.list.result.now _ c.list.ensures c.requires
