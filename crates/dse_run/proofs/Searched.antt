-- What a search ends with, from what the decoder promises of a first call.
use Rattle.std.proofs.Common.{◌≡◌, ◌≢◌, ◌<◌, ◌≤◌, ◌+◌, ◌-◌, ◌^◌, ◌++◌, ◌∷◌, ◌∙◌, [], ℕ, true, List, Option, Some, None, All, length, get_or, refl, sym, ap, subst, inl, arith, unwrap_or}
use Rattle.std.proofs.lemmas.List.{append-nil, get_or_push, length_push}
use Rattle.pb_rules.specs.Linear.{Linear}
use Rattle.pb_rules.specs.Clauses.{contradiction}
use Rattle.pb_rules.specs.Frames.{Line, Frame, Given, base_of, given_by, derived_by, derived_count, is_derived}
use Rattle.proof_log.specs.Log.{LogValue}
use Rattle.proof_log.specs.HonestLog.{AreHonestLines, IsHonestLog}
use Rattle.proof_log.proofs.Solves.{begins_honest, honest_solve}
use Rattle.spec_model.specs.Spec.{SpecValue, all_variables}
use Rattle.spec_model.specs.Genotypes.{GeneValue}
use Rattle.encode_model.specs.Encoding.{encoding}
use Rattle.encode_model.specs.Block.{cover_frame}
use Rattle.ordered_solver.specs.Answers.{AreHonestSteps, GoesOnDerived, new_lines}
use Rattle.sat_decoder.specs.Decoder.{IsFrameOf}
use Rattle.sat_decoder.specs.Decoding.{DecodedSays, LineCountSays, NewLinesSay, IsShown}
use Rattle.sat_decoder.specs.declared.decoded.Decoded.{Decoded}
use Rattle.sat_decoder.specs.declared.decoded.Decoded.TheVariants.{First, Nothing, Budget}
use Rattle.proof_files.specs.Proving.{AreDerived, IsBelow, IsWithin}
use Rattle.proof_files.proofs.Refuting.{refute_all}
use Rattle.dse_run.specs.Searching.{AreUsedUp, LinesAreWorth, IsSearched}
use Rattle.evo_explore.proofs.Logs.{all_count}

-- the greatest budget
abbrev pub most : ℕ
most = 2 ^ 64 - 1

-- ---- how many lines

within : (budget : Option ℕ) (n : ℕ) → n ≤ unwrap_or budget most → IsWithin budget n
within None n h = tt
within (Some b) n h = h

below : (budget : Option ℕ) (n : ℕ) → n < unwrap_or budget most → IsBelow budget n
below None n h = tt
below (Some b) n h = h

-- ---- a used budget

-- the last constraint isn't `0 >= 1` where none is
never_last : (cs : List Linear) → All (λ c. c ≢ contradiction) cs → (early : List Linear) (c : Linear) → cs ≡ early ++ c ∷ [] → c ≢ contradiction
never_last cs none early c split =
    let len : length cs ≡ length early + 1 = ap length split ∙ length_push early c in
    let at : get_or cs (length early) c ≡ c = ap (λ (ks : List Linear). get_or ks (length early) c) split ∙ get_or_push early c c (length early) refl in
    subst (λ (d : Linear). d ≢ contradiction) at (none (length early) c (omega (arith, len)))

-- one solve is a whole log
honest_log : (f : Frame) (ls : List Line) → AreHonestSteps f (base_of f) f.base ls → IsHonestLog f ls
honest_log f ls h = record {
  honest = honest_solve f [] ls (base_of f) (begins_honest f) (inl refl) refl (subst (λ (base : List Linear). AreHonestLines f (base_of f) base ls) (sym (append-nil f.base)) h.honest);
  last = λ cs c e. never_last (derived_by f ls) h.no_contradiction cs c e;
}

used_up : (s : SpecValue) (budget : Option ℕ) (ls : List Line) → AreDerived ls → AreHonestSteps (cover_frame s) (base_of (cover_frame s)) (encoding s) ls → derived_count ls ≡ unwrap_or budget most
    → derived_count ls < 2 ^ all_variables s → derived_count ls < 2 ^ 63 → AreUsedUp s budget ls
used_up s None ls each h n few small = absurd (omega (arith, n, small))
used_up s (Some b) ls each h n few small = record {
  most = b;
  given = refl;
  few = subst (λ (k : ℕ). k < 2 ^ all_variables s) n few;
  lines = record { derived_each = each; honest = honest_log (cover_frame s) ls h; count = n };
}

-- ---- a search

-- a log without lines
abbrev pub empty : ℕ → LogValue
empty first = record { first = first; lines = [] }

worth : (s : SpecValue) (genes : List GeneValue) (budget : Option ℕ) (decoded : Decoded) (ls : List Line) (after : Given) → All (λ l. is_derived l ≡ true) ls
    → given_by (cover_frame s) ls ≡ Some after → LineCountSays s (unwrap_or budget most) (derived_count ls) decoded → derived_count ls < 2 ^ 63
    → NewLinesSay (cover_frame s) (base_of (cover_frame s)) s genes ls ls decoded → LinesAreWorth s genes budget decoded ls
worth s genes budget (First design) ls after each legal count small says = record {
  derived_each = each;
  legal = (after, legal);
  shows = says.shows;
  fewer = below budget (derived_count ls) count.0;
}
worth s genes budget Nothing ls after each legal count small says = refute_all s budget ls after each legal (within budget (derived_count ls) count.1.0) says
worth s genes budget Budget ls after each legal count small says = used_up s budget ls each says count.0 count.1 small

searched : (s : SpecValue) (genes : List GeneValue) (budget : Option ℕ) (decoded : Decoded) (first : ℕ) (new : LogValue) → IsFrameOf s (cover_frame s) → DecodedSays s genes decoded
    → LineCountSays s (unwrap_or budget most) (length (new_lines (empty first) new)) decoded → GoesOnDerived (empty first) new → IsShown s genes (empty first) new decoded
    → derived_count new.lines < 2 ^ 63 → IsSearched s genes budget decoded new
searched s genes budget decoded first new frame says count goes shown small =
    let f : Frame = cover_frame s in
    let here = shown f frame in
    let start : here.before ≡ base_of f = one_given here.before (base_of f) (sym here.legal_before) in
    let counted : derived_count new.lines ≡ length new.lines = all_count new.lines goes.derived_each in
    record {
      says = says;
      lines = worth s genes budget decoded new.lines here.after goes.derived_each here.legal_after
          (subst (λ (n : ℕ). LineCountSays s (unwrap_or budget most) n decoded) (sym counted) count)
          small
          (subst (λ (g : Given). NewLinesSay f g s genes new.lines new.lines decoded) start here.lines);
    }
  where
    one_given : (x y : Given) → Some x ≡ Some y → x ≡ y
    one_given x y q = cc

-- the same of what stands for the specification, the log before, the log after and the budget
pub searched_from : (s t : SpecValue) (genes : List GeneValue) (budget : Option ℕ) (given : ℕ) (decoded : Decoded) (first : ℕ) (old new log : LogValue) → t ≡ s → old ≡ empty first → log ≡ new
    → given ≡ unwrap_or budget most → IsFrameOf s (cover_frame s) → DecodedSays t genes decoded → LineCountSays t given (length (new_lines old new)) decoded → GoesOnDerived old new
    → IsShown t genes old new decoded → derived_count log.lines < 2 ^ 63 → IsSearched s genes budget decoded log
searched_from s t genes budget given decoded first old new log spec_is old_is new_is given_is frame says count goes shown small =
    let says_s = subst (λ (x : SpecValue). DecodedSays x genes decoded) spec_is says in
    let count_s = subst (λ (x : SpecValue). LineCountSays x given (length (new_lines old new)) decoded) spec_is count in
    let count_from = subst (λ (x : LogValue). LineCountSays s given (length (new_lines x new)) decoded) old_is count_s in
    let count_by = subst (λ (n : ℕ). LineCountSays s n (length (new_lines (empty first) new)) decoded) given_is count_from in
    let goes_from = subst (λ (x : LogValue). GoesOnDerived x new) old_is goes in
    let shown_s = subst (λ (x : SpecValue). IsShown x genes old new decoded) spec_is shown in
    let shown_from = subst (λ (x : LogValue). IsShown s genes x new decoded) old_is shown_s in
    let few = subst (λ (x : LogValue). derived_count x.lines < 2 ^ 63) new_is small in
    subst (λ (x : LogValue). IsSearched s genes budget decoded x) (sym new_is) (searched s genes budget decoded first new frame says_s count_by goes_from shown_from few)
