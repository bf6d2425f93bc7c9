-- What a run comes to as an outcome.
use Rattle.std.proofs.Common.{◌≡◌, ◌∙◌, ◌+◌, ◌↔◌, [], ℕ, List, None, All, length, refl, sym, ap, ap₂, subst, inl, inr}
use Rattle.std.proofs.lemmas.List.{length-map}
use Rattle.std.proofs.lemmas.List.Elements.{All-nil}
use Rattle.std.proofs.lemmas.Option.{same_Some}
use Rattle.rand_pcg.specs.Lcg.{Lcg}
use Rattle.pb_rules.specs.Frames.{Line, Given, base_of}
use Rattle.proof_log.specs.Log.{LogValue}
use Rattle.proof_log.specs.Files.{LegalReadBack, AreLegal}
use Rattle.proof_log.proofs.Legal.{of_lines}
use Rattle.spec_model.specs.Spec.{SpecValue, Bits}
use Rattle.encode_model.specs.Encoding.{encoding}
use Rattle.encode_model.specs.Block.{cover_frame}
use Rattle.ordered_solver.specs.Answers.{IsRefutation}
use Rattle.sat_decoder.specs.Decoder.{IsFrameOf, IsLogOf}
use Rattle.sat_decoder.specs.Decoding.{IsShown}
use Rattle.sat_decoder.specs.declared.decoded.Decoded.TheVariants.{Nothing}
use Rattle.spec_make.specs.Made.{word_of, next_of}
use Rattle.front_archive.specs.declared.member.Member.{Member}
use Rattle.front_archive.specs.Members.{covers}
use Rattle.evo_explore.specs.Counts.{RoseBy}
use Rattle.evo_explore.specs.Run.{AreDecodings, EndsBy, FindsNone, no_lines, vector_in}
use Rattle.evo_explore.specs.Laws.{DecodingsStayShown, IsShownBy}
use Rattle.evo_explore.specs.declared.run.Run.{Run}
use Rattle.evo_explore.specs.declared.run.End.{End}
use Rattle.evo_explore.specs.declared.run.End.TheVariants.{Done, Infeasible}
use Rattle.proof_files.specs.Writing.{files_of}
use Rattle.proof_files.proofs.Files.{refutes_file, written}
use Rattle.proof_files.proofs.Refuting.{refute_all}
use Rattle.run_base.specs.declared.outcome.Outcome.{Outcome}
use Rattle.explore_run.specs.Tools.{ToolsValue, tags_at, measured_by}
use Rattle.explore_run.specs.Saying.{explored_text}
use Rattle.explore_run.specs.Exploring.{ExplorationValue, Finds, LinesShowEach, seeded}
use Rattle.explore_run.specs.Wanting.{ending_of}
use Rattle.explore_run.proofs.Kept.{IsSized, best_all, rounds_sized}

-- the lines of a log of a specification, and its first id
abbrev with_lines : SpecValue → List Line → LogValue
with_lines s ls = record { first = length (encoding s) + 1; lines = ls }

same_log : (s : SpecValue) (log : LogValue) → IsLogOf s log → log ≡ with_lines s log.lines
same_log s log h = ap (λ (n : ℕ). record { first = n; lines = log.lines }) h.first_after

legal_in : (s : SpecValue) (log : LogValue) → IsFrameOf s (cover_frame s) → IsLogOf s log → AreLegal (cover_frame s) log.lines
legal_in s log frame h = let l = h.legal (cover_frame s) frame in (l.given, l.legal)

-- the lines of all decodings
shows_each : DecodingsStayShown → (s : SpecValue) (entries : List Member) (log : LogValue) → IsFrameOf s (cover_frame s) → IsLogOf s log → AreDecodings s entries (no_lines s) log
    → LinesShowEach s entries log.lines
shows_each law s entries log frame of decodings = record {
  derived_each = of.derived_each;
  legal = legal_in s log frame of;
  decodings = subst (λ (l : LogValue). AreDecodings s entries (no_lines s) l) (same_log s log of) decodings;
  shown = subst (λ (l : LogValue). All (IsShownBy s (cover_frame s) l) entries) (same_log s log of) (law s entries log decodings (cover_frame s) frame);
}

-- the lines of a decoding that finds no valid design, of a log that had none
refuted : (s : SpecValue) (genes : List _) (log : LogValue) → IsFrameOf s (cover_frame s) → IsShown s genes (no_lines s) log Nothing
    → IsRefutation (cover_frame s) (base_of (cover_frame s)) (encoding s) log.lines
refuted s genes log frame shown =
    let here = shown (cover_frame s) frame in
    subst (λ (g : Given). IsRefutation (cover_frame s) g (encoding s) log.lines) (same_Some here.before (base_of (cover_frame s)) (sym here.legal_before)) here.lines

-- the designs of the members have a bit for each design variable
pub members_sized : (s : SpecValue) (measured : Bits → List ℕ) (start last : Lcg) (rounds : ℕ) (run : Run) (end : End) → EndsBy s word_of next_of measured start last run rounds end
    → All (IsSized s) run.archive.members
members_sized s measured start last rounds run Done h =
    subst (λ (ms : List Member). All (IsSized s) ms) (sym h.best_are)
    (best_all (IsSized s) covers h.entries (rounds_sized s word_of next_of measured [] h.entries start last h.rounds_are))
members_sized s measured start last rounds run Infeasible h = subst (λ (ms : List Member). All (IsSized s) ms) (sym h.no_members) (All-nil (IsSized s))

-- an end with its rounds isn't that of a specification without a design
pub done_is_feasible : Done ≡ Infeasible → ⊥
done_is_feasible e = absurd (cc)

pub finds : LegalReadBack → DecodingsStayShown → (s : SpecValue) → IsFrameOf s (cover_frame s) → (wanted : ExplorationValue) (tools : ToolsValue) (calls : List ℕ) (last : Lcg) (run : Run) (end : End)
    (outcome : Outcome)
    → EndsBy s word_of next_of (measured_by tools wanted.chosen s) (seeded wanted.seed) last run wanted.rounds end → (end ≡ Infeasible) ↔ FindsNone s wanted.rounds → IsLogOf s run.log
    → RoseBy (length run.history) wanted.chosen tools.calls calls
    → outcome.ending ≡ ending_of end → outcome.text.items ≡ explored_text s (tags_at tools.tags wanted.chosen) (length run.history) run.archive.members end
    → outcome.writes ≡ files_of wanted.proof run.log → Finds wanted tools calls s outcome
finds back law s frame wanted tools calls last run Done outcome h causes of counted ending text writes =
    let len : length run.history ≡ length h.entries = ap length h.history_is ∙ length-map h.entries vector_in in
    inl (record {
      ending = ending;
      entries = h.entries;
      rounds_are = record { last = last; rounds = h.rounds_are };
      count = h.count;
      feasible = λ none. done_is_feasible (causes.1 none);
      says = text ∙ ap₂ (λ (n : ℕ) (ms : List Member). explored_text s (tags_at tools.tags wanted.chosen) n ms Done) len h.best_are;
      counted = subst (λ (n : ℕ). RoseBy n wanted.chosen tools.calls calls) len counted;
      proof = written wanted.proof run.log outcome.writes _ writes
          (of_lines back (LinesShowEach s h.entries) (cover_frame s) run.log.lines (legal_in s run.log frame of) (shows_each law s h.entries run.log frame of h.decodings_are));
    })
finds back law s frame wanted tools calls last run Infeasible outcome h causes of counted ending text writes =
    let legal = legal_in s run.log frame of in
    inr (record {
      ending = ending;
      infeasible = causes.0 refl;
      says = text ∙ ap₂ (λ (hs : List (List ℕ)) (ms : List Member). explored_text s (tags_at tools.tags wanted.chosen) (length hs) ms Infeasible) h.no_history h.no_members;
      counted = subst (λ (hs : List (List ℕ)). RoseBy (length hs) wanted.chosen tools.calls calls) h.no_history counted;
      proof = written wanted.proof run.log outcome.writes _ writes
          (refutes_file back s None run.log.lines (refute_all s None run.log.lines legal.0 of.derived_each legal.1 tt (refuted s h.refuted.genes run.log frame h.refuted.shown)));
    })

-- the same of what stands for the rounds, the places, the seed's generator and the tags
pub finds_from : LegalReadBack → DecodingsStayShown → (s : SpecValue) → IsFrameOf s (cover_frame s) → (wanted : ExplorationValue) (tools : ToolsValue) (calls : List ℕ) (rounds : ℕ) (chosen : List ℕ)
    (tags : List (List ℕ)) (start last : Lcg) (run : Run) (outcome : Outcome)
    → rounds ≡ wanted.rounds → chosen ≡ wanted.chosen → tags ≡ tools.tags → start ≡ seeded wanted.seed
    → EndsBy s word_of next_of (measured_by tools chosen s) start last run rounds run.end → (run.end ≡ Infeasible) ↔ FindsNone s rounds → IsLogOf s run.log
    → RoseBy (length run.history) chosen tools.calls calls
    → outcome.ending ≡ ending_of run.end → outcome.text.items ≡ explored_text s (tags_at tags wanted.chosen) (length run.history) run.archive.members run.end
    → outcome.writes ≡ files_of wanted.proof run.log → Finds wanted tools calls s outcome
finds_from back law s frame wanted tools calls rounds chosen tags start last run outcome rounds_is chosen_is tags_is start_is ends causes of counted ending text writes =
    let by_rounds = subst (λ (n : ℕ). EndsBy s word_of next_of (measured_by tools chosen s) start last run n run.end) rounds_is ends in
    let by_chosen = subst (λ (ps : List ℕ). EndsBy s word_of next_of (measured_by tools ps s) start last run wanted.rounds run.end) chosen_is by_rounds in
    let by_start = subst (λ (g : Lcg). EndsBy s word_of next_of (measured_by tools wanted.chosen s) g last run wanted.rounds run.end) start_is by_chosen in
    finds back law s frame wanted tools calls last run run.end outcome by_start
    (subst (λ (n : ℕ). (run.end ≡ Infeasible) ↔ FindsNone s n) rounds_is causes) of
    (subst (λ (ps : List ℕ). RoseBy (length run.history) ps tools.calls calls) chosen_is counted)
    ending (text ∙ ap (λ (ts : List (List ℕ)). explored_text s (tags_at ts wanted.chosen) (length run.history) run.archive.members run.end) tags_is) writes
