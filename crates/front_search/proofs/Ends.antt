-- What a search that ended says of its front and of the texts.
use Rattle.std.proofs.Common.{◌≡◌, ℕ, Bool, true, List, length, get_or, refl, sym, ap, ◌∙◌, subst}
use Rattle.std.specs.Prelude.{All}
use Rattle.std.proofs.lemmas.List.Elements.{All-contains}
use Rattle.pb_rules.specs.Frames.{Line}
use Rattle.proof_log.specs.Text.{proof_text}
use Rattle.spec_model.specs.Spec.{SpecValue}
use Rattle.spec_model.specs.WellFormed.{IsWellFormed}
use Rattle.result_text.specs.Answers.{EntryValue}
use Rattle.result_text.specs.Fronts.{FrontValue, front_text, IsShaped}
use Rattle.front_model.specs.Fronts.{IsFrontOf}
use Rattle.front_model.specs.Proofs.{AcceptsTexts}
use Rattle.front_lists.specs.Lists.{FoundPrefix, AreUndominated, front_with}
use Rattle.front_lists.proofs.Kept.{whole_is_front}
use Rattle.front_lists.proofs.Refuting.{found_are_shaped, texts_are_accepted}
use Rattle.front_search.specs.declared.ending.SearchEnd.{SearchEnd}
use Rattle.front_search.specs.declared.ending.SearchEnd.TheVariants as ends
use Rattle.front_search.specs.Searches.{EndSays, IsWholeSearch, is_complete}

pub front_shaped : (s : SpecValue) (found front : List EntryValue) → IsWellFormed s → FoundPrefix s found → AreUndominated found front → All (IsShaped s) front
front_shaped s found front wf prefix kept k d l = All-contains (IsShaped s) found (get_or front k d) (found_are_shaped s found wf prefix) (kept.only k d l).there

module _ (s : SpecValue) (budget : ℕ) (found : List EntryValue) (front : FrontValue) (ls : List Line) (end : SearchEnd) (wf : IsWellFormed s) (prefix : FoundPrefix s found)
    (kept : AreUndominated found front.entries) (complete : front.complete ≡ is_complete end) (says : EndSays s budget found ls end) (is : end ≡ ends.Complete) where
  whole_search : IsWholeSearch s budget found ls
  whole_search = subst (EndSays s budget found ls) is says

  front_is : front ≡ front_with front.entries true
  front_is = ap (front_with front.entries) (complete ∙ ap is_complete is)

  pub exact : IsFrontOf s front
  exact = subst (IsFrontOf s) (sym front_is) (whole_is_front s found front.entries whole_search.whole kept)

  pub accepted : AcceptsTexts s (front_text s front) (proof_text ls)
  accepted = subst (λ (f : FrontValue). AcceptsTexts s (front_text s f) (proof_text ls)) (sym front_is) (texts_are_accepted s found front.entries ls wf prefix kept whole_search.refute)
