-- What a search comes to as an outcome.
use Rattle.std.proofs.Common.{◌≡◌, ◌∙◌, ◌-◌, ◌<◌, ◌≤◌, ◌^◌, ℕ, Bool, true, false, cond, List, Option, Some, None, length, refl, sym, ap, subst, inl, inr, arith, unwrap_or}
use Rattle.pb_rules.specs.Frames.{Line, derived_count, base_of, with_derived}
use Rattle.pb_rules.proofs.Given.{given-push}
use Rattle.proof_log.specs.Log.{LogValue}
use Rattle.proof_log.specs.Text.{proof_text}
use Rattle.proof_log.specs.Files.{LegalReadBack, AreLegal}
use Rattle.proof_log.proofs.Legal.{of_lines}
use Rattle.spec_model.specs.Spec.{SpecValue}
use Rattle.encode_model.specs.Block.{cover_frame}
use Rattle.result_text.specs.Answers.{EntryValue}
use Rattle.result_text.specs.Fronts.{FrontValue, front_text}
use Rattle.front_model.specs.Fronts.{IsFrontOf}
use Rattle.front_model.specs.Proofs.{AcceptsTexts, Refute}
use Rattle.front_lists.specs.Lists.{FoundPrefix, AreUndominated, vectors_in, covers_of}
use Rattle.front_search.specs.declared.ending.SearchEnd.{SearchEnd}
use Rattle.front_search.specs.declared.ending.SearchEnd.TheVariants as ends
use Rattle.front_search.specs.Searches.{EndSays, is_complete}
use Rattle.run_base.specs.declared.outcome.Outcome.{Outcome}
use Rattle.front_run.specs.Fronting.{WantedFrontValue, LinesFind, LinesUseUp, Finds, both_files, complete_text, open_text}
use Rattle.front_run.specs.Wanting.{ending_of, said_of}

-- lines that refute are legal
legal_refuting : (s : SpecValue) (us : List (List ℕ)) (ls : List Line) → Refute s us ls → AreLegal (cover_frame s) ls
legal_refuting s us ls r =
    subst (AreLegal (cover_frame s)) (sym r.whole) (with_derived r.before r.clash, given-push (cover_frame s) (base_of (cover_frame s)) r.before r.early r.last r.clash r.legal r.gives)

-- what a front says by whether it is complete
said_by : (b : Bool) (n : ℕ) → b ≡ true → cond b (complete_text n) (open_text n) ≡ complete_text n
said_by b n e = rw e refl

said_open : (b : Bool) (n : ℕ) → b ≡ false → cond b (complete_text n) (open_text n) ≡ open_text n
said_open b n e = rw e refl

-- the greatest budget isn't used up
budget_given : (o : Option ℕ) (budget lines : ℕ) → budget ≡ unwrap_or o (2 ^ 64 - 1) → lines ≡ budget → lines < 2 ^ 63 → o ≡ Some budget
budget_given None budget lines e used few = absurd (omega (arith, e, used, few))
budget_given (Some n) budget lines e used few = ap (λ (k : ℕ). Some k) (sym e)

within_given : (o : Option ℕ) (budget lines n : ℕ) → budget ≡ unwrap_or o (2 ^ 64 - 1) → lines ≤ budget → o ≡ Some n → lines ≤ n
within_given o budget lines n e within is =
    let same : budget ≡ n = e ∙ ap (λ (p : Option ℕ). unwrap_or p (2 ^ 64 - 1)) is in
    omega (arith, same, within)

pub finds : LegalReadBack → (s : SpecValue) (wanted : WantedFrontValue) (budget : ℕ) (found : List EntryValue) (front : FrontValue) (log : LogValue) (end : SearchEnd) (outcome : Outcome)
    → budget ≡ unwrap_or wanted.budget (2 ^ 64 - 1) → derived_count log.lines < 2 ^ 63
    → FoundPrefix s found → covers_of log.lines ≡ vectors_in found → AreUndominated found front.entries → front.complete ≡ is_complete end → EndSays s budget found log.lines end
    → (end ≡ ends.Complete → IsFrontOf s front) → (end ≡ ends.Complete → AcceptsTexts s (front_text s front) (proof_text log.lines))
    → outcome.ending ≡ ending_of end → outcome.text.items ≡ said_of front → outcome.writes ≡ both_files wanted (front_text s front) (proof_text log.lines) → Finds wanted s outcome
finds back s wanted budget found front log ends.Complete outcome given few prefix covers kept complete says exact accepted ending text writes = inl (record {
  ending = ending;
  found = found;
  whole = says.whole;
  front = front;
  undominated = kept;
  exact = exact refl;
  proof = proof_text log.lines;
  accepted = accepted refl;
  lines = of_lines back (LinesFind s found wanted.budget) (cover_frame s) log.lines (legal_refuting s (vectors_in found) log.lines says.refute) (record {
    covers = covers;
    last = says.last;
    within = λ n is. within_given wanted.budget budget (derived_count log.lines) n given says.within is;
  });
  writes = writes;
  says = text ∙ said_by front.complete (length front.entries) complete;
})
finds back s wanted budget found front log ends.Budget outcome given few prefix covers kept complete says exact accepted ending text writes = inr (record {
  ending = ending;
  budget = budget;
  given = budget_given wanted.budget budget (derived_count log.lines) given says.used_up few;
  small = says.small;
  found = found;
  prefix = prefix;
  front = front;
  undominated = kept;
  is_open = complete;
  proof = proof_text log.lines;
  lines = of_lines back (LinesUseUp s found budget) (cover_frame s) log.lines (says.honest.honest.after, says.honest.honest.legal)
      (record { covers = covers; count = says.used_up; honest = says.honest });
  writes = writes;
  says = text ∙ said_open front.complete (length front.entries) complete;
})
