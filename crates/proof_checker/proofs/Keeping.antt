-- What a checker keeps, from line to line.
use Rattle.std.proofs.Common.{◌≡◌, ◌≢◌, ℕ, ◌+◌, ◌<◌, ◌^◌, Bool, true, false, cond, List, [], ◌∷◌, ◌++◌, length, sym, ap, ◌∙◌, subst, arith}
use Rattle.std.specs.Prelude.{Option, Some, None, Ok, Err, Vec}
use Rattle.std.specs.Global.{Global}
use Rattle.std.proofs.lemmas.Bool.{ne_eqb}
use Rattle.pb_rules.specs.Linear.{Linear}
use Rattle.std.proofs.lemmas.List.Elements.{All-weaker, All-map}
use Rattle.spec_model.specs.Spec.{SpecValue}
use Rattle.spec_model.specs.WellFormed.{IsWellFormed}
use Rattle.result_text.specs.Answers.{EntryValue}
use Rattle.result_text.specs.Fronts.{FrontValue}
use Rattle.front_model.specs.Fronts.{vector_in, vectors_of, IsEntry, IsClaim}
use Rattle.front_model.specs.declared.refusals.ProofWhy.{ProofWhy}
use Rattle.front_model.specs.declared.refusals.ProofWhy.TheVariants.{BadStep, NoContradiction}
use Rattle.front_model.specs.declared.refusals.Refused.{Refused}
use Rattle.front_model.specs.declared.refusals.Verdict.TheVariants as verdicts
use Rattle.front_model.specs.Judging.{Progress, begun, is_clash, judged, judge_next, judge_numbers, judge_cover, take_if, take_line, refusal_at, verdict_if, verdict_of}
use Rattle.front_model.specs.Laws.{IsPiece, IsReached, IsKnown}
use Rattle.front_model.proofs.Exact.{entry_long}
use Rattle.front_model.proofs.Files.{begins_reached, reaches_on}
use Rattle.front_model.proofs.Known.{begins_known, stays_known}
use Rattle.proof_checker.specs.Answers.{AllLong, Halts}
use Rattle.proof_checker.specs.declared.faults.StepFault.TheVariants as steps
use Rattle.proof_checker.specs.declared.faults.Halt.{Halt}
use Rattle.proof_checker.specs.declared.faults.Halt.TheVariants as halts
use Rattle.proof_checker.specs.declared.lines.Taken.{Taken}
use Rattle.proof_checker.specs.Takings.{given_of, stand_of}
use Rattle.proof_checker.specs.declared.lines.Taken.TheVariants.{Header, Derived, Block}
use Rattle.proof_checker.specs.Checkers.{IsChecker, progress_of}

-- the vectors of a front have a number for each objective
pub claim_long : (s : SpecValue) (front : FrontValue) → IsClaim s front → AllLong (length s.objectives) (vectors_of front)
claim_long s front h =
    All-map (λ (u : List ℕ). length u ≡ length s.objectives) vector_in front.entries (All-weaker (IsEntry s) (λ (e : EntryValue). length e.vector ≡ length s.objectives) (entry_long s)
    front.entries h.entries)

pub new_checker : (s : SpecValue) (front : FrontValue) (p : Progress) → IsWellFormed s → IsClaim s front → p ≡ begun s → IsChecker s front p
new_checker s front p wf claim e =
    subst (IsChecker s front) (sym e) (record { claim = claim; reached = begins_reached s (vectors_of front); known = begins_known s wf; few = omega arith; lines = omega arith })

pub next_checker : (s : SpecValue) (front : FrontValue) (p q : Progress) (piece : List ℕ) → IsChecker s front p → IsPiece piece → q ≡ take_line s (vectors_of front) p piece
    → q.given.covers < 2 ^ 58 → q.lines + 1 < 2 ^ 64 → IsChecker s front q
next_checker s front p q piece h cut e few lines = record {
  claim = h.claim;
  reached = subst (λ (r : Progress). IsReached s (vectors_of front) r) (sym e) (reaches_on s (vectors_of front) p piece h.reached cut);
  known = subst (λ (r : Progress). IsKnown s r) (sym e) (stays_known s (vectors_of front) p piece cut h.known);
  few = few;
  lines = lines;
}

-- ---- the end

pub accepted_by : (cs : List Linear) (covers lines : ℕ) (closed : Bool) (refused : Option Refused) → refused ≡ None → lines ≢ 0 → closed ≡ true
    → verdict_of (progress_of cs covers lines closed refused) ≡ verdicts.Accepted
accepted_by cs covers lines closed refused none some ends =
    ap (λ (o : Option Refused). verdict_if (progress_of cs covers lines closed refused) o) none
    ∙ (ap (λ (b : Bool). cond b (verdicts.Refused (refusal_at 1 BadStep)) (cond closed verdicts.Accepted (verdicts.Refused (refusal_at (lines + 1) NoContradiction)))) (ne_eqb lines 0 some)
    ∙ ap (λ (b : Bool). cond b verdicts.Accepted (verdicts.Refused (refusal_at (lines + 1) NoContradiction))) ends)

-- ---- a line

taken : (s : SpecValue) (us : List (List ℕ)) (cs : List Linear) (covers lines : ℕ) (closed : Bool) (refused : Option Refused) (piece : List ℕ) → refused ≡ None
    → take_line s us (progress_of cs covers lines closed refused) piece ≡ judged (progress_of cs covers lines closed refused) (judge_next s us lines (given_of cs covers) piece)
taken s us cs covers lines closed refused piece none = ap (take_if s us (progress_of cs covers lines closed refused) piece) none

pub takes_header : (s : SpecValue) (us : List (List ℕ)) (cs : List Linear) (covers lines : ℕ) (closed : Bool) (refused : Option Refused) (piece : List ℕ) → refused ≡ None
    → judge_next s us lines (given_of cs covers) piece ≡ Ok (stand_of (given_of cs covers) Header) → progress_of cs covers (lines + 1) false refused
    ≡ take_line s us (progress_of cs covers lines closed refused) piece
takes_header s us cs covers lines closed refused piece none e =
    ap (progress_of cs covers (lines + 1) false) none ∙ sym (taken s us cs covers lines closed refused piece none ∙ ap (judged (progress_of cs covers lines closed refused)) e)

pub takes_derived : (s : SpecValue) (us : List (List ℕ)) (cs new : List Linear) (covers lines : ℕ) (closed now : Bool) (refused : Option Refused) (piece : List ℕ) (c : Linear) → refused ≡ None
    → judge_next s us lines (given_of cs covers) piece ≡ Ok (stand_of (given_of cs covers) (Derived c)) → new ≡ cs ++ c ∷ [] → now ≡ is_clash c
    → progress_of new covers (lines + 1) now refused ≡ take_line s us (progress_of cs covers lines closed refused) piece
takes_derived s us cs new covers lines closed now refused piece c none e items clash =
    ap (progress_of new covers (lines + 1) now) none ∙ (ap (λ (b : Bool). progress_of new covers (lines + 1) b None) clash
    ∙ (ap (λ (xs : List Linear). progress_of xs covers (lines + 1) (is_clash c) None) items
    ∙ sym (taken s us cs covers lines closed refused piece none ∙ ap (judged (progress_of cs covers lines closed refused)) e)))

pub takes_block : (s : SpecValue) (us : List (List ℕ)) (cs new : List Linear) (covers lines : ℕ) (closed : Bool) (refused : Option Refused) (piece : List ℕ) (block : Vec Linear Global)
    → refused ≡ None
    → judge_next s us lines (given_of cs covers) piece ≡ Ok (stand_of (given_of cs covers) (Block block)) → new ≡ cs ++ block.items
    → progress_of new (covers + 1) (lines + 1) false refused ≡ take_line s us (progress_of cs covers lines closed refused) piece
takes_block s us cs new covers lines closed refused piece block none e items =
    ap (progress_of new (covers + 1) (lines + 1) false) none ∙ (ap (λ (xs : List Linear). progress_of xs (covers + 1) (lines + 1) false None) items
    ∙ sym (taken s us cs covers lines closed refused piece none ∙ ap (judged (progress_of cs covers lines closed refused)) e))

pub takes_refusal : (s : SpecValue) (us : List (List ℕ)) (cs : List Linear) (covers lines : ℕ) (closed : Bool) (refused : Option Refused) (piece : List ℕ) (why : ProofWhy) → refused ≡ None
    → judge_next s us lines (given_of cs covers) piece ≡ Err why → progress_of cs covers lines closed (Some (refusal_at (lines + 1) why))
    ≡ take_line s us (progress_of cs covers lines closed refused) piece
takes_refusal s us cs covers lines closed refused piece why none e =
    sym (taken s us cs covers lines closed refused piece none ∙ ap (judged (progress_of cs covers lines closed refused)) e)

-- what was judged over equal constraints
pub judged_same : (s : SpecValue) (us : List (List ℕ)) (lines covers : ℕ) (piece : List ℕ) (cs ds : List Linear) (t u : Taken) → ds ≡ cs → t ≡ u
    → judge_next s us lines (given_of ds covers) piece ≡ Ok (stand_of (given_of ds covers) t) → judge_next s us lines (given_of cs covers) piece ≡ Ok (stand_of (given_of cs covers) u)
judged_same s us lines covers piece cs ds t u same is e =
    subst (λ (xs : List Linear). judge_next s us lines (given_of xs covers) piece ≡ Ok (stand_of (given_of xs covers) u)) same
    (subst (λ (v : Taken). judge_next s us lines (given_of ds covers) piece ≡ Ok (stand_of (given_of ds covers) v)) is e)

pub refused_same : (s : SpecValue) (us : List (List ℕ)) (lines covers : ℕ) (piece : List ℕ) (cs ds : List Linear) (f : Halt) (why : ProofWhy) → ds ≡ cs → f ≡ halts.Why why
    → Halts (judge_next s us lines (given_of ds covers) piece) f → judge_next s us lines (given_of cs covers) piece ≡ Err why
refused_same s us lines covers piece cs ds f why same is h =
    let at : judge_next s us lines (given_of ds covers) piece ≡ Err why = subst (λ (g : Halt). Halts (judge_next s us lines (given_of ds covers) piece) g) is h in
    subst (λ (xs : List Linear). judge_next s us lines (given_of xs covers) piece ≡ Err why) same at

-- what a cover of numbers is refused for
pub cover_refused : (s : SpecValue) (us : List (List ℕ)) (o : Option (List ℕ)) (v w : List ℕ) (f : Halt) → o ≡ Some v → w ≡ v → Halts (judge_numbers s us w) f → Halts (judge_cover s us o) f
cover_refused s us o v w f is same h =
    subst (λ (p : Option (List ℕ)). Halts (judge_cover s us p) f) (sym is) (subst (λ (x : List ℕ). Halts (judge_numbers s us x) f) same h)

-- ---- a derived line
