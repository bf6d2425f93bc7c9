-- A file is accepted exactly where it is the text of lines that refute.
use Rattle.std.proofs.Common.{◌≡◌, ℕ, ◌+◌, Bool, true, false, cond, eqb, List, [], ◌∷◌, ◌++◌, Option, Some, None, Result, Ok, Err, refl, sym, ap, ◌∙◌, subst, arith, ◌⊎◌, inl, inr}
use Rattle.std.specs.Prelude.{All, option_and_then}
use Rattle.std.specs.List.{concat, AllByRecursion}
use Rattle.std.specs.Str.{bytes_eq}
use Rattle.std.proofs.lemmas.Bool.{ne_eqb}
use Rattle.std.proofs.lemmas.Slice.Eq.{bytes_eq-Decides}
use Rattle.std.proofs.lemmas.List.Elements.{All-head, All-tail, All-cons, All-nil, All-push, recursion_from_All}
use Rattle.pb_rules.specs.declared.Op.{Op}
use Rattle.pb_rules.specs.Linear.{Linear}
use Rattle.pb_rules.specs.Operations.{line_gives}
use Rattle.pb_rules.specs.Frames.{Line, derived, Given, base_of, context_of, with_derived, given_from}
use Rattle.pb_rules.proofs.Given.{first_line, given-push}
use Rattle.proof_words.proofs.Legal.{lines_are}
use Rattle.spec_model.specs.Spec.{SpecValue}
use Rattle.spec_model.proofs.Joined.{All-left}
use Rattle.encode_model.specs.Block.{cover_frame}
use Rattle.spelled_lines.specs.Lines.{pieces}
use Rattle.front_model.specs.declared.refusals.ProofWhy.{ProofWhy}
use Rattle.front_model.specs.declared.refusals.ProofWhy.TheVariants.{BadStep, NoContradiction}
use Rattle.front_model.specs.declared.refusals.Refused.{Refused}
use Rattle.front_model.specs.declared.refusals.Verdict.{Verdict}
use Rattle.front_model.specs.declared.refusals.Verdict.TheVariants as verdicts
use Rattle.front_model.specs.Fronts.{vectors_of}
use Rattle.proof_log.specs.Text.{header, proof_text}
use Rattle.front_model.specs.Proofs.{MayStand, IsClash, Proves}
use Rattle.proof_log.specs.Files.{each_said, line_in, lines_in}
use Rattle.front_model.specs.Judging.{Stand, judge_piece, judge_header, Progress, begun, refusal_at, judged, take_line, take_lines, verdict_of}
use Rattle.front_model.specs.Laws.{JudgedExactly, IsPiece, BeginsReached, ReachesOn, RefusalStays, ReachedIsFront}
use Rattle.front_model.proofs.Exact.{accepted_is_front}
use Rattle.proof_log.proofs.Words.{first_said, said_cons}
use Rattle.proof_log.proofs.Pieces.{Cut, pieces_join, pieces_cut}
use Rattle.front_model.proofs.Pieces.{cut_each}
use Rattle.proof_log.proofs.Reading.{file_cut, texts_join, read_again}
use Rattle.front_model.proofs.Lines.{IsJudged, line_of_piece, piece_judged, legal_judged, clash_judged}

-- ---- after the first line

abbrev going : ℕ → Given → Bool → Progress
going n g b = record { lines = n; given = g; closed = b; refused = None }

abbrev stopped : ℕ → Given → Bool → Refused → Progress
stopped n g b r = record { lines = n; given = g; closed = b; refused = Some r }

abbrev accepted : Verdict
accepted = verdicts.Accepted

next_not_zero : (n : ℕ) → eqb (n + 1) 0 ≡ false
next_not_zero n = ne_eqb (n + 1) 0 (λ e. absurd (omega (arith, e)))

-- a refusal stays
stays : (s : SpecValue) (us ps : List (List ℕ)) (n : ℕ) (g : Given) (b : Bool) (r : Refused) → take_lines s us (stopped n g b r) ps ≡ stopped n g b r
stays s us [] n g b r = refl
stays s us (p ∷ ps) n g b r = stays s us ps n g b r

pub refusal_stays : RefusalStays
refusal_stays s us ps p r e =
    let is : p ≡ stopped p.lines p.given p.closed r = ap (λ (o : Option Refused). record { lines = p.lines; given = p.given; closed = p.closed; refused = o }) e in
    ap (λ (q : Progress). take_lines s us q ps) is ∙ (stays s us ps p.lines p.given p.closed r ∙ sym is)

-- pieces that say lines up to one that derives a clash
pub record Closing (s : SpecValue) (us : List (List ℕ)) (g : Given) (ps : List (List ℕ)) : Type 0 where
  pub lines : List Line
  pub said : each_said line_in ps ≡ Some lines
  pub covers : All (MayStand s us) lines
  pub early : List Line
  pub last : List Op
  pub whole : lines ≡ early ++ derived last ∷ []
  pub before : Given
  pub legal : given_from (cover_frame s) g early ≡ Some before
  pub clash : Linear
  pub gives : line_gives (context_of before) last ≡ Ok clash
  pub clashes : IsClash clash

abbrev Ended : SpecValue → List (List ℕ) → Given → Bool → List (List ℕ) → Type 0
Ended s us g b ps = ((ps ≡ []) × (b ≡ true)) ⊎ Closing s us g ps

next_taken : (s : SpecValue) (us : List (List ℕ)) (n : ℕ) (g : Given) (b : Bool) (p : List ℕ) → eqb n 0 ≡ false → take_line s us (going n g b) p ≡ judged (going n g b) (judge_piece s us g p)
next_taken s us n g b p z = ap (λ (x : Bool). judged (going n g b) (cond x (judge_header g p) (judge_piece s us g p))) z

closing_step : (s : SpecValue) (us : List (List ℕ)) (g : Given) (stand : Stand) (p : List ℕ) (ps : List (List ℕ)) → IsJudged s us g stand p → Ended s us stand.given stand.closed ps
    → Closing s us g (p ∷ ps)
closing_step s us g stand p ps x (inl e) =
    let c = x.legal.closes e.1 in
    let none : each_said line_in ps ≡ Some [] = ap (λ (qs : List (List ℕ)). each_said line_in qs) e.0 in
    record {
      lines = x.line ∷ [];
      said = said_cons line_in p ps x.line [] x.said none;
      covers = All-cons (MayStand s us) x.line [] x.legal.stands (All-nil (MayStand s us));
      early = [];
      last = c.ops;
      whole = ap (λ (l : Line). l ∷ []) c.is;
      before = g;
      legal = refl;
      clash = c.clash;
      gives = c.gives;
      clashes = c.clashes;
    }
closing_step s us g stand p ps x (inr c) = record {
  lines = x.line ∷ c.lines;
  said = said_cons line_in p ps x.line c.lines x.said c.said;
  covers = All-cons (MayStand s us) x.line c.lines x.legal.stands c.covers;
  early = x.line ∷ c.early;
  last = c.last;
  whole = ap (λ (ls : List Line). x.line ∷ ls) c.whole;
  before = c.before;
  legal = ap (option_and_then (λ (h : Given). given_from (cover_frame s) h c.early)) x.legal.gives ∙ c.legal;
  clash = c.clash;
  gives = c.gives;
  clashes = c.clashes;
}

closed_end : (n : ℕ) (b : Bool) → cond b accepted (verdicts.Refused (refusal_at (n + 1) NoContradiction)) ≡ accepted → b ≡ true
closed_end n true e = refl
closed_end n false e = absurd cc

forth : (s : SpecValue) (us ps : List (List ℕ)) (n : ℕ) (g : Given) (b : Bool) → eqb n 0 ≡ false → verdict_of (take_lines s us (going n g b) ps) ≡ accepted → Ended s us g b ps
forth s us [] n g b z e =
    inl (refl, closed_end n b (sym (ap (λ (x : Bool). cond x (verdicts.Refused (refusal_at 1 BadStep)) (cond b accepted (verdicts.Refused (refusal_at (n + 1) NoContradiction)))) z) ∙ e))
forth s us (p ∷ ps) n g b z e = go (λ m k d. forth s us ps m k d) (judge_piece s us g p) refl (sym (ap (λ (x : Progress). verdict_of (take_lines s us x ps)) (next_taken s us n g b p z)) ∙ e)
  where
    go : ((m : ℕ) (k : Given) (d : Bool) → eqb m 0 ≡ false → verdict_of (take_lines s us (going m k d) ps) ≡ accepted → Ended s us k d ps) → (o : Result Stand ProofWhy) → judge_piece s us g p ≡ o
        → verdict_of (take_lines s us (judged (going n g b) o) ps) ≡ accepted → Ended s us g b (p ∷ ps)
    go ih (Ok stand) q f = inr (closing_step s us g stand p ps (line_of_piece s us g stand p q) (ih (n + 1) stand.given stand.closed (next_not_zero n) f))
    go ih (Err why) q f =
        let r : Refused = refusal_at (n + 1) why in
        let h : verdicts.Refused r ≡ accepted = sym (ap verdict_of (stays s us ps n g b r)) ∙ f in
        absurd cc

-- ---- the whole file

-- pieces that are accepted: the first line, and pieces that close
record IsAccepted (s : SpecValue) (us ps : List (List ℕ)) : Type 0 where
  more : List (List ℕ)
  is : ps ≡ header ∷ more
  closing : Closing s us (base_of (cover_frame s)) more

accepted_so : (s : SpecValue) (us ps : List (List ℕ)) → verdict_of (take_lines s us (begun s) ps) ≡ accepted → IsAccepted s us ps
accepted_so s us [] e = absurd (let f : verdicts.Refused (refusal_at 1 BadStep) ≡ accepted = e in cc)
accepted_so s us (p ∷ ps) e = go (bytes_eq p header) refl e
  where
    go : (b : Bool) → bytes_eq p header ≡ b → verdict_of (take_lines s us (judged (begun s) (cond b (Ok (record { given = base_of (cover_frame s); closed = false })) (Err BadStep))) ps) ≡ accepted
        → IsAccepted s us (p ∷ ps)
    go false q f =
        let r : Refused = refusal_at 1 BadStep in
        let w : verdicts.Refused r ≡ accepted = sym (ap verdict_of (stays s us ps 0 (base_of (cover_frame s)) false r)) ∙ f in
        absurd cc
    go true q f =
        elim (forth s us ps 1 (base_of (cover_frame s)) false refl f) [
          | inl x ↦ absurd (let c : false ≡ true = x.1 in cc)
          | inr c ↦ record { more = ps; is = ap (λ (w : List ℕ). w ∷ ps) ((bytes_eq-Decides p header).0 q); closing = c }
        ]

pub proves_of : (s : SpecValue) (us : List (List ℕ)) (text : List ℕ) (ps : List (List ℕ)) → concat ps ≡ text → AllByRecursion Cut ps → verdict_of (take_lines s us (begun s) ps) ≡ accepted
    → Proves s us text
proves_of s us text ps t h e =
    let x = accepted_so s us ps e in
    let c = x.closing in
    let each : AllByRecursion Cut (header ∷ x.more) = subst (AllByRecursion Cut) x.is h in
    record {
      lines = c.lines;
      is = sym t ∙ (ap concat x.is ∙ ap (λ (w : List ℕ). header ++ w) (texts_join x.more c.lines each.1 c.said));
      refute = record { covers = c.covers; early = c.early; last = c.last; whole = c.whole; before = c.before; legal = c.legal; clash = c.clash; gives = c.gives; clashes = c.clashes };
    }

-- ---- and back

taken : (s : SpecValue) (us ps : List (List ℕ)) (n : ℕ) (g : Given) (b : Bool) (p : List ℕ) (stand : Stand) → eqb n 0 ≡ false → judge_piece s us g p ≡ Ok stand
    → take_lines s us (going n g b) (p ∷ ps) ≡ take_lines s us (going (n + 1) stand.given stand.closed) ps
taken s us ps n g b p stand z e = ap (λ (x : Progress). take_lines s us x ps) (next_taken s us n g b p z ∙ ap (judged (going n g b)) e)

back : (s : SpecValue) (us : List (List ℕ)) (early : List Line) (last : List Op) (ps : List (List ℕ)) (n : ℕ) (g before : Given) (b : Bool) (clash : Linear) → eqb n 0 ≡ false
    → each_said line_in ps ≡ Some (early ++ derived last ∷ []) → All (MayStand s us) early
    → given_from (cover_frame s) g early ≡ Some before → line_gives (context_of before) last ≡ Ok clash → IsClash clash → verdict_of (take_lines s us (going n g b) ps) ≡ accepted
back s us early last [] n g before b clash z said may e gives clashes = absurd (some_line early cc)
  where
    some_line : (early : List Line) → [] ≡ early ++ derived last ∷ [] → ⊥
    some_line [] f = absurd cc
    some_line (l ∷ early) f = absurd cc
back s us [] last (p ∷ ps) n g before b clash z said may e gives clashes =
    let x = first_said line_in p ps (derived last ∷ []) said in
    let first : x.first ≡ derived last = let f = x.is in cc in
    let rest : x.more ≡ [] = let f = x.is in cc in
    let is : before ≡ g = let f : Some g ≡ Some before = e in cc in
    let here : line_in p ≡ Some (derived last) = x.said ∙ ap (λ (l : Line). Some l) first in
    let none : each_said line_in ps ≡ Some [] = x.others ∙ ap (λ (ls : List Line). Some ls) rest in
    let gives_here : line_gives (context_of g) last ≡ Ok clash = subst (λ (h : Given). line_gives (context_of h) last ≡ Ok clash) is gives in
    let stand : Stand = record { given = with_derived g clash; closed = true } in
    ap verdict_of (taken s us ps n g b p stand z (piece_judged s us g p (derived last) here ∙ clash_judged s us g last clash gives_here clashes)) ∙ at_end ps none
  where
    at_end : (ps : List (List ℕ)) → each_said line_in ps ≡ Some [] → verdict_of (take_lines s us (going (n + 1) (with_derived g clash) true) ps) ≡ accepted
    at_end [] f = ap (λ (x : Bool). cond x (verdicts.Refused (refusal_at 1 BadStep)) accepted) (next_not_zero n)
    at_end (q ∷ qs) f = absurd (let y = first_said line_in q qs [] f in let w = y.is in cc)
back s us (l ∷ early) last (p ∷ ps) n g before b clash z said may e gives clashes =
    let x = first_said line_in p ps (l ∷ (early ++ derived last ∷ [])) said in
    let first : x.first ≡ l = let f = x.is in cc in
    let rest : x.more ≡ early ++ derived last ∷ [] = let f = x.is in cc in
    let here : line_in p ≡ Some l = x.said ∙ ap (λ (k : Line). Some k) first in
    let others : each_said line_in ps ≡ Some (early ++ derived last ∷ []) = x.others ∙ ap (λ (ls : List Line). Some ls) rest in
    let m = first_line (cover_frame s) g before l early e in
    let y = legal_judged s us g m.0 l (All-head (MayStand s us) l early may) m.1 in
    let stand : Stand = record { given = m.0; closed = y.0 } in
    ap verdict_of (taken s us ps n g b p stand z (piece_judged s us g p l here ∙ y.1))
    ∙ back s us early last ps (n + 1) m.0 before y.0 clash (next_not_zero n) others (All-tail (MayStand s us) l early may) m.2 gives clashes

of_proves : (s : SpecValue) (us : List (List ℕ)) (text : List ℕ) → Proves s us text → verdict_of (take_lines s us (begun s) (pieces text)) ≡ accepted
of_proves s us text x =
    let r = x.refute in
    let f = cover_frame s in
    let ls : List Line = r.early ++ derived r.last ∷ [] in
    let may : All (MayStand s us) ls = subst (λ (ks : List Line). All (MayStand s us) ks) r.whole r.covers in
    let early : All (MayStand s us) r.early = All-left (MayStand s us) r.early (derived r.last ∷ []) may in
    let legal = given-push f (base_of f) r.before r.early r.last r.clash r.legal r.gives in
    let cut = file_cut text ls (ap (λ (t : List ℕ). lines_in t) (x.is ∙ ap proof_text r.whole) ∙ read_again ls (lines_are f (base_of f) (with_derived r.before r.clash) ls legal)) in
    ap (λ (ps : List (List ℕ)). verdict_of (take_lines s us (begun s) ps)) cut.cut ∙ back s us r.early r.last cut.more 1 (base_of f) r.before false r.clash refl cut.said early r.legal r.gives
    r.clashes

pub judged_exactly : JudgedExactly
judged_exactly s us text = (proves_of s us text (pieces text) (pieces_join text) (pieces_cut text), of_proves s us text)

-- ---- pieces taken so far

take_more : (s : SpecValue) (us ps : List (List ℕ)) (p : Progress) (piece : List ℕ) → take_lines s us p (ps ++ piece ∷ []) ≡ take_line s us (take_lines s us p ps) piece
take_more s us [] p piece = refl
take_more s us (q ∷ ps) p piece = take_more s us ps (take_line s us p q) piece

-- a checker begins where no piece was read
pub begins_reached : BeginsReached
begins_reached s us = record { pieces = []; each = All-nil IsPiece; is = refl }

-- one piece more reaches what is judged of it
pub reaches_on : ReachesOn
reaches_on s us p piece r h = record {
  pieces = r.pieces ++ piece ∷ [];
  each = All-push IsPiece r.pieces piece r.each h;
  is = take_more s us r.pieces (begun s) piece ∙ ap (λ (q : Progress). take_line s us q piece) r.is;
}

-- where the pieces are accepted, the claim is the front of its specification
pub reached_is_front : ReachedIsFront
reached_is_front s front p wf claim r e =
    let us = vectors_of front in
    let proof = proves_of s us (concat r.pieces) r.pieces refl (cut_each r.pieces (recursion_from_All IsPiece r.pieces r.each)) (ap verdict_of r.is ∙ e) in
    accepted_is_front s front (concat r.pieces) wf (record { claim = claim; proof = proof })
