-- What a run by no tools comes to.
use Rattle.std.proofs.Common.{◌≡◌, ◌∙◌, ◌++◌, ◌↔◌, [], ℕ, List, length, refl, ap, ap₂, subst, inl, inr}
use Rattle.std.proofs.lemmas.List.{length-map}
use Rattle.rand_pcg.specs.Lcg.{Lcg}
use Rattle.spelled_lines.specs.Lines.{spelled}
use Rattle.spec_model.specs.Spec.{SpecValue, Bits}
use Rattle.spec_make.specs.Made.{word_of, next_of}
use Rattle.front_archive.specs.declared.member.Member.{Member}
use Rattle.evo_explore.specs.Counts.{picked}
use Rattle.evo_explore.specs.Run.{EndsBy, FindsNone, IsRunOf, vector_in}
use Rattle.evo_explore.specs.declared.run.Run.{Run}
use Rattle.evo_explore.specs.declared.run.End.{End}
use Rattle.evo_explore.specs.declared.run.End.TheVariants.{Done, Infeasible}
use Rattle.run_base.specs.declared.outcome.Ending.{Ending}
use Rattle.explore_run.specs.Tools.{measured_by}
use Rattle.explore_run.specs.Exploring.{seeded}
use Rattle.explore_run.specs.Wanting.{ending_of}
use Rattle.make_run.specs.Saying.{made_words, run_text}
use Rattle.make_run.specs.Making.{Explores, RunsAlone, no_tools}
use Rattle.explore_run.proofs.Found.{done_is_feasible}

-- no tool is chosen, and the words are those of the seed
pub runs_alone : (s : SpecValue) (seed rounds : ℕ) (numbers : Bits → List ℕ) (chosen : List ℕ) (start last : Lcg) (run : Run) → chosen ≡ [] → start ≡ seeded seed
    → IsRunOf s word_of next_of (λ f. picked (numbers f) chosen) start last rounds run → RunsAlone s seed rounds run
runs_alone s seed rounds numbers chosen start last run none start_is h = record {
  last = last;
  run_is = subst (λ (g : Lcg). IsRunOf s word_of next_of (measured_by no_tools [] s) g last rounds run) start_is
      (subst (λ (ps : List ℕ). IsRunOf s word_of next_of (λ f. picked (numbers f) ps) start last rounds run) none h);
}

pub explores : (number rounds : ℕ) (s : SpecValue) (last : Lcg) (run : Run) (end : End) (ending : Ending) (text : List ℕ)
    → EndsBy s word_of next_of (measured_by no_tools [] s) (seeded number) last run rounds end → (end ≡ Infeasible) ↔ FindsNone s rounds
    → ending ≡ ending_of end → text ≡ spelled (made_words number s) ++ run_text (length run.history) run.archive.members end → Explores number rounds s ending text
explores number rounds s last run Done ending text h causes e t =
    let len : length run.history ≡ length h.entries = ap length h.history_is ∙ length-map h.entries vector_in in
    inl (record {
      ending_is = e;
      entries = h.entries;
      rounds_are = record { last = last; rounds = h.rounds_are };
      count = h.count;
      feasible = λ none. done_is_feasible (causes.1 none);
      says = t ∙ ap₂ (λ (n : ℕ) (ms : List Member). spelled (made_words number s) ++ run_text n ms Done) len h.best_are;
    })
explores number rounds s last run Infeasible ending text h causes e t =
    inr (record {
      ending_is = e;
      infeasible = causes.0 refl;
      says = t ∙ ap₂ (λ (hs : List (List ℕ)) (ms : List Member). spelled (made_words number s) ++ run_text (length hs) ms Infeasible) h.no_history h.no_members;
    })
