-- One round more of a run, and a run that stops in its first round.
use Rattle.std.proofs.Common.{◌≡◌, ◌↔◌, ℕ, ◌+◌, ◌<◌, ◌++◌, Bool, true, false, List, [], ◌∷◌, length, map, refl, sym, ap, ◌∙◌, subst, arith, append_assoc, append-nil}
use Rattle.std.proofs.lemmas.List.{map-append, length-append, length-map}
use Rattle.spec_model.specs.Spec.{SpecValue, Bits, bits_of, design_variables}
use Rattle.spec_model.specs.Genotypes.{HasNoValid}
use Rattle.spec_model.specs.Vectors.{vector_of}
use Rattle.proof_log.specs.Log.{LogValue}
use Rattle.front_archive.specs.declared.member.Member.{Member}
use Rattle.front_archive.specs.Members.{covers, ArchiveValue}
use Rattle.front_archive.specs.Best.{best}
use Rattle.ordered_solver.specs.Answers.{GoesOnDerived}
use Rattle.sat_decoder.specs.Decoding.{IsShown}
use Rattle.sat_decoder.specs.declared.decoded.Decoded.TheVariants.{Nothing}
use Rattle.evo_explore.specs.Breeding.{next_genes, after_next}
use Rattle.evo_explore.specs.Counts.{RoseBy}
use Rattle.evo_explore.specs.Run.{IsRound, after_round, AreRounds, Decodes, AreDecodings, IsFound, FoundNone, FindsNone, EndsBy, IsRunOf, no_lines, vector_in}
use Rattle.evo_explore.specs.Steps.{Joins, Stops, RoundSays}
use Rattle.evo_explore.specs.declared.run.Found.{Found}
use Rattle.evo_explore.specs.declared.run.End.{End}
use Rattle.evo_explore.specs.declared.run.End.TheVariants.{Done, Infeasible}
use Rattle.evo_explore.specs.declared.run.Run.{Run}

module _ {S : Type 0} (s : SpecValue) (gives : S → ℕ) (after : S → S) (measured : Bits → List ℕ) where
  rounds_push : (before entries : List Member) (start words next : S) (m : Member) → AreRounds s gives after measured before entries start words
      → IsRound s gives after measured (before ++ entries) words m → next ≡ after_round s gives after (before ++ entries) words
      → AreRounds s gives after measured before (entries ++ m ∷ []) start next
  rounds_push before [] start words next m e r is =
      let b : before ++ [] ≡ before = append-nil before in (
        subst (λ (w : S). IsRound s gives after measured before w m) (sym e) (subst (λ (xs : List Member). IsRound s gives after measured xs words m) b r),
        ap (after_round s gives after before) e ∙ (ap (λ (xs : List Member). after_round s gives after xs words) (sym b) ∙ sym is),
      )
  rounds_push before (x ∷ xs) start words next m p r is =
      let b : (before ++ x ∷ []) ++ xs ≡ before ++ (x ∷ xs) = append_assoc before (x ∷ []) xs in (
        p.0,
        rounds_push (before ++ x ∷ []) xs (after_round s gives after before start) words next m p.1
            (subst (λ (ys : List Member). IsRound s gives after measured ys words m) (sym b) r) (is ∙ ap (λ (ys : List Member). after_round s gives after ys words) (sym b)),
      )

  decodings_push : (entries : List Member) (old log new : LogValue) (m : Member) → AreDecodings s entries old log → Decodes s m log new → AreDecodings s (entries ++ m ∷ []) old new
  decodings_push [] old log new m e d = (new, subst (λ (l : LogValue). Decodes s m l new) (sym e) d, refl)
  decodings_push (x ∷ xs) old log new m p d = (p.0, p.1, decodings_push xs p.0 log new m p.2 d)

  pub found_none_yet : (start : S) (log : LogValue) (history : List (List ℕ)) (members : List Member) → log ≡ no_lines s → history ≡ [] → members ≡ []
      → IsFound s gives after measured start start log history members 0
  found_none_yet start log history members l h m = record { entries = []; rounds_are = refl; decodings_are = sym l; history_is = h; best_are = m; count = refl }

  -- what a round says, where it is known how it ends
  pub joined : (words next : S) (log new : LogValue) (before now : Found) (more : Bool) → more ≡ true
      → RoundSays s gives after measured words next log new before now more → Joins s gives after measured words next log new before now
  joined words next log new before now more is says = subst (RoundSays s gives after measured words next log new before now) is says

  pub stopped : (words next : S) (log new : LogValue) (before now : Found) (more : Bool) → more ≡ false
      → RoundSays s gives after measured words next log new before now more → Stops s gives after words next log new before now
  stopped words next log new before now more is says = subst (RoundSays s gives after measured words next log new before now) is says

  -- what is measured by tools that measure the same
  pub joins_as : (other : Bits → List ℕ) (words next : S) (log new : LogValue) (before now : Found) → ((f : Bits) → other f ≡ measured f)
      → Joins s gives after other words next log new before now → Joins s gives after measured words next log new before now
  joins_as other words next log new before now same j = record {
    member = j.member;
    genes = j.genes;
    words_are = j.words_are;
    one_each = j.one_each;
    first = j.first;
    vector = j.vector ∙ ap (λ (xs : List ℕ). vector_of s (bits_of j.member.design) ++ xs) (same (bits_of j.member.design));
    decodes = j.decodes;
    history = j.history;
    best_are = j.best_are;
  }

  pub found_more : (start words next : S) (log new : LogValue) (before now : Found) (n : ℕ)
      → IsFound s gives after measured start words log before.history before.archive.members n → Joins s gives after measured words next log new before now
      → IsFound s gives after measured start next new now.history now.archive.members (n + 1)
  found_more start words next log new before now n f j =
      let round : IsRound s gives after measured f.entries words j.member = record {
        genes = subst (λ (ms : List Member). j.member.genotype ≡ next_genes gives after (design_variables s) ms words) f.best_are j.genes;
        one_each = j.one_each;
        first = j.first;
        vector = j.vector;
      } in
      let words_are : next ≡ after_round s gives after f.entries words = subst (λ (ms : List Member). next ≡ after_next gives after (design_variables s) ms words) f.best_are j.words_are in
      record {
        entries = f.entries ++ j.member ∷ [];
        rounds_are = rounds_push [] f.entries start words next j.member f.rounds_are round words_are;
        decodings_are = decodings_push f.entries (no_lines s) log new j.member f.decodings_are j.decodes;
        history_is = j.history ∙ (ap (λ (vs : List (List ℕ)). vs ++ j.member.vector ∷ []) f.history_is ∙ sym (map-append vector_in f.entries (j.member ∷ [])));
        best_are = j.best_are f.entries f.best_are;
        count = length-append f.entries (j.member ∷ []) ∙ ap (λ (k : ℕ). k + 1) f.count;
      }

  -- where no design is valid there was no round before
  no_entries : (before entries : List Member) (start words : S) → HasNoValid s → AreRounds s gives after measured before entries start words → entries ≡ []
  no_entries before [] start words none r = refl
  no_entries before (x ∷ xs) start words none r = absurd (none (bits_of x.design) r.0.first.meets)

  pub no_rounds : (start words : S) (log : LogValue) (history : List (List ℕ)) (members : List Member) (n : ℕ) → HasNoValid s
      → IsFound s gives after measured start words log history members n → n ≡ 0
  no_rounds start words log history members n none f = sym f.count ∙ ap length (no_entries [] f.entries start words none f.rounds_are)

  pub found_none : (start words next : S) (log new : LogValue) (before now : Found) (n rounds : ℕ) → n < rounds
      → IsFound s gives after measured start words log before.history before.archive.members n → Stops s gives after words next log new before now
      → FoundNone s gives after start next new now.history now.archive.members rounds
  found_none start words next log new before now n rounds l f stops =
      let none : f.entries ≡ [] = no_entries [] f.entries start words stops.refuted.none_valid f.rounds_are in
      let words_same : start ≡ words = subst (λ (es : List Member). AreRounds s gives after measured [] es start words) none f.rounds_are in
      let log_same : no_lines s ≡ log = subst (λ (es : List Member). AreDecodings s es (no_lines s) log) none f.decodings_are in
      let best_none : before.archive.members ≡ [] = f.best_are ∙ ap (best covers) none in
      record {
        some_round = omega (arith, l);
        refuted = record {
          none_valid = stops.refuted.none_valid;
          goes_on = subst (λ (a : LogValue). GoesOnDerived a new) (sym log_same) stops.refuted.goes_on;
          genes = stops.refuted.genes;
          shown = subst (λ (a : LogValue). IsShown s stops.refuted.genes a new Nothing) (sym log_same) stops.refuted.shown;
        };
        no_history = stops.history ∙ (f.history_is ∙ ap (map vector_in) none);
        no_members = stops.members ∙ best_none;
        words_are = stops.words_are ∙ (ap (λ (ms : List Member). after_next gives after (design_variables s) ms words) best_none ∙ ap (after_round s gives after []) (sym words_same));
      }

  -- ---- how a run ends

  -- a run at its end
  pub done_run : (start words : S) (rounds : ℕ) (run : Run) (log : LogValue) (found : Found) → run.history ≡ found.history → run.archive ≡ found.archive → run.log ≡ log
      → run.end ≡ Done → IsFound s gives after measured start words log found.history found.archive.members rounds → IsRunOf s gives after measured start words rounds run
  done_run start words rounds run log found h a l e f =
      let by_log = subst (λ (x : LogValue). IsFound s gives after measured start words x found.history found.archive.members rounds) (sym l) f in
      let by_archive = subst (λ (x : ArchiveValue). IsFound s gives after measured start words run.log found.history x.members rounds) (sym a) by_log in
      let by_history = subst (λ (x : List (List ℕ)). IsFound s gives after measured start words run.log x run.archive.members rounds) (sym h) by_archive in
      subst (EndsBy s gives after measured start words run rounds) (sym e) by_history

  pub infeasible_run : (start words : S) (rounds : ℕ) (run : Run) (log : LogValue) (found : Found) → run.history ≡ found.history → run.archive ≡ found.archive
      → run.log ≡ log → run.end ≡ Infeasible → FoundNone s gives after start words log found.history found.archive.members rounds
      → IsRunOf s gives after measured start words rounds run
  infeasible_run start words rounds run log found h a l e f =
      let by_log = subst (λ (x : LogValue). FoundNone s gives after start words x found.history found.archive.members rounds) (sym l) f in
      let by_archive = subst (λ (x : ArchiveValue). FoundNone s gives after start words run.log found.history x.members rounds) (sym a) by_log in
      let by_history = subst (λ (x : List (List ℕ)). FoundNone s gives after start words run.log x run.archive.members rounds) (sym h) by_archive in
      subst (EndsBy s gives after measured start words run rounds) (sym e) by_history

  pub done_not : (start words : S) (log : LogValue) (history : List (List ℕ)) (members : List Member) (rounds : ℕ) (end : End) → end ≡ Done
      → IsFound s gives after measured start words log history members rounds → (end ≡ Infeasible) ↔ FindsNone s rounds
  done_not start words log history members rounds end is f = (
    λ e. absurd (let both : Done ≡ Infeasible = sym is ∙ e in cc),
    λ none. absurd (omega (arith, none.some_round, no_rounds start words log history members rounds none.none_valid f)),
  )

  pub infeasible_so : (start words : S) (log : LogValue) (history : List (List ℕ)) (members : List Member) (rounds : ℕ) (end : End) → end ≡ Infeasible
      → FoundNone s gives after start words log history members rounds → (end ≡ Infeasible) ↔ FindsNone s rounds
  infeasible_so start words log history members rounds end is f = (λ e. record { some_round = f.some_round; none_valid = f.refuted.none_valid }, λ none. is)

  -- ---- the counts of a run

  -- as many rounds as the history has entries
  pub counted_all : (start words : S) (log : LogValue) (history run_history : List (List ℕ)) (members : List Member) (n : ℕ) (ps old new : List ℕ) → run_history ≡ history
      → IsFound s gives after measured start words log history members n → RoseBy n ps old new → RoseBy (length run_history) ps old new
  counted_all start words log history run_history members n ps old new same f rose =
      let long : length run_history ≡ n = ap length (same ∙ f.history_is) ∙ (length-map f.entries vector_in ∙ f.count) in
      subst (λ (k : ℕ). RoseBy k ps old new) (sym long) rose

  -- none where no design is valid
  pub counted_none : (start words : S) (log : LogValue) (history : List (List ℕ)) (run_history : List (List ℕ)) (members : List Member) (n : ℕ) (ps old mid new : List ℕ)
      → run_history ≡ [] → HasNoValid s → IsFound s gives after measured start words log history members n → RoseBy n ps old mid → new ≡ mid
      → RoseBy (length run_history) ps old new
  counted_none start words log history run_history members n ps old mid new none unmet f rose same =
      let long : length run_history ≡ n = ap length none ∙ sym (no_rounds start words log history members n unmet f) in
      subst (λ (k : ℕ). RoseBy k ps old new) (sym long) (subst (RoseBy n ps old) (sym same) rose)
