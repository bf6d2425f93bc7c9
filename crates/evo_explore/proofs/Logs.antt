-- What a log shows it shows when it has gone on; and a log has too few derived lines for the greatest budget.
use Rattle.std.proofs.Common.{◌≡◌, ℕ, suc, ◌^◌, ◌<◌, ◌≤◌, ◌++◌, Bool, true, cond, List, [], ◌∷◌, length, All, refl, sym, ap, ◌∙◌, subst, arith, append_assoc, append-nil}
use Rattle.std.specs.List.{count_by}
use Rattle.std.proofs.lemmas.List.Elements.{All-cons}
use Rattle.pb_rules.specs.Linear.{Linear}
use Rattle.pb_rules.specs.Frames.{Line, Frame, base_of, derived_by, derived_from, derived_count, is_derived}
use Rattle.pb_rules.proofs.Closed.{closed_front}
use Rattle.pb_rules.proofs.Given.{derived-append}
use Rattle.proof_log.specs.Log.{LogValue}
use Rattle.spec_model.specs.Spec.{SpecValue, Bits, bits_of}
use Rattle.spec_model.specs.Genotypes.{GeneValue}
use Rattle.spec_model.proofs.Counts.{count-append, count-cons}
use Rattle.encode_model.specs.Encoding.{encoding}
use Rattle.ordered_solver.specs.Answers.{GoesOnDerived, new_lines}
use Rattle.sat_decoder.specs.Decoder.{IsFrameOf}
use Rattle.sat_decoder.specs.Decoding.{ShowsFirstDesign}
use Rattle.front_archive.specs.declared.member.Member.{Member}
use Rattle.evo_explore.specs.Run.{Decodes, AreDecodings, no_lines}
use Rattle.evo_explore.specs.Laws.{IsShownBy, DecodingsStayShown}

-- ---- what stays shown

-- decodings add lines to a log
lines_after : (s : SpecValue) (entries : List Member) (old new : LogValue) → AreDecodings s entries old new → (more : List Line) × (new.lines ≡ old.lines ++ more)
lines_after s [] old new e = ([], ap (λ (v : LogValue). v.lines) (sym e) ∙ sym (append-nil old.lines))
lines_after s (m ∷ ms) old new p =
    let rest = lines_after s ms p.0 new p.2 in
    let first : p.0.lines ≡ old.lines ++ new_lines old p.0 = ap (λ (v : LogValue). v.lines) p.1.goes_on.kept in
    (new_lines old p.0 ++ rest.0, rest.1 ∙ (ap (λ (ls : List Line). ls ++ rest.0) first ∙ append_assoc old.lines (new_lines old p.0) rest.0))

-- more constraints show what some of them show
shown_by_more : (cs ds : List Linear) (genes : List GeneValue) (x : Bits) → ShowsFirstDesign cs genes x → ShowsFirstDesign (cs ++ ds) genes x
shown_by_more cs ds genes x h v l differs p closed same = h v l differs p (closed_front cs ds p closed) same

shown_later : (s : SpecValue) (m : Member) (old next new : LogValue) (more : List Line) → Decodes s m old next → new.lines ≡ next.lines ++ more → (f : Frame) → IsFrameOf s f → IsShownBy s f new m
shown_later s m old next new more d is f g =
    let shown = d.shown f g in
    let lines : derived_by f new.lines ≡ derived_by f next.lines ++ derived_from f shown.after more =
    ap (derived_by f) is ∙ derived-append f (base_of f) shown.after next.lines more shown.legal_after in
    let all : encoding s ++ derived_by f new.lines ≡ (encoding s ++ derived_by f next.lines) ++ derived_from f shown.after more =
    ap (λ (cs : List Linear). encoding s ++ cs) lines ∙ sym (append_assoc (encoding s) (derived_by f next.lines) (derived_from f shown.after more)) in
    subst (λ (cs : List Linear). ShowsFirstDesign cs m.genotype (bits_of m.design)) (sym all)
    (shown_by_more (encoding s ++ derived_by f next.lines) (derived_from f shown.after more) m.genotype (bits_of m.design) shown.lines.shows)

all_shown : (s : SpecValue) (entries : List Member) (old new : LogValue) → AreDecodings s entries old new → (f : Frame) → IsFrameOf s f → All (IsShownBy s f new) entries
all_shown s [] old new e f g = λ k d l. absurd (omega (arith, l))
all_shown s (m ∷ ms) old new p f g =
    let rest = lines_after s ms p.0 new p.2 in
    All-cons (IsShownBy s f new) m ms (shown_later s m old p.0 new rest.0 p.1 rest.1 f g) (all_shown s ms p.0 new p.2 f g)

pub decodings_stay_shown : DecodingsStayShown
decodings_stay_shown s entries log p f g = all_shown s entries (no_lines s) log p f g

-- ---- how many lines

-- each derived line counts
pub all_count : (ls : List Line) → All (λ l. is_derived l ≡ true) ls → count_by is_derived ls ≡ length ls
all_count [] h = refl
all_count (l ∷ ls) h =
    let first : is_derived l ≡ true = h 0 l (omega arith) in
    let rest = all_count ls (λ k d m. h (suc k) d (omega (arith, m))) in
    let one : cond {A = ℕ} (is_derived l) 1 0 ≡ 1 = ap (λ (b : Bool). cond {A = ℕ} b 1 0) first in
    let more = count-cons is_derived l ls in
    omega (arith, more, rest, one)

-- so many new lines are more than a log has
pub budget_unreached : (old new : LogValue) (n : ℕ) → GoesOnDerived old new → length (new_lines old new) ≡ n → 2 ^ 63 ≤ n → derived_count new.lines < 2 ^ 63 → ⊥
budget_unreached old new n goes e large small =
    let lines : new.lines ≡ old.lines ++ new_lines old new = ap (λ (v : LogValue). v.lines) goes.kept in
    let counted = ap derived_count lines ∙ count-append is_derived old.lines (new_lines old new) in
    let all = all_count (new_lines old new) goes.derived_each in
    omega (arith, counted, all, e, large, small)
