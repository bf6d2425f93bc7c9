use Rattle.std.proofs.Common.{◌≡◌, List, length, sym, ap, ◌∙◌, subst}
use Rattle.spec_model.specs.WellFormed.{AreDistinct}
use Rattle.result_text.specs.Answers.{EntryValue}
use Rattle.result_text.specs.declared.entries.Entry.{Entry}
use Rattle.front_lists.specs.Lists.{AreLong, vectors_in, AreUndominated}
use Rattle.front_lists.proofs.Kept.{vectors_long}
use Rattle.front_lists.proofs.Few.{found_distinct}
use Rattle.front_search.specs.Searches.{seen}
use Rattle.front_search.proofs.searching.ended.Goals as goal

pub undominated-requires-clause-long : goal.undominated-requires-clause-long
undominated-requires-clause-long c =
    let s = c.args.spec.now in
    (length s.objectives, subst (λ (es : List Entry). AreLong (length s.objectives) (vectors_in (seen es))) (sym c.deref.ensures.value) (vectors_long s (seen c.args.found.items) c.requires.prefix))

pub undominated-requires-clause-distinct : goal.undominated-requires-clause-distinct
undominated-requires-clause-distinct c =
    subst (λ (es : List Entry). AreDistinct (vectors_in (seen es))) (sym c.deref.ensures.value) (found_distinct c.args.spec.now (seen c.args.found.items) c.requires.prefix)
