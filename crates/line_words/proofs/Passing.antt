-- Lines without fault and word that are passed one by one, and a line that is refused again.
use Rattle.std.proofs.Common.{◌≡◌, ℕ, ◌+◌, List, [], ◌∷◌, ◌++◌, length, true, refl, sym, ap, subst, ◌∙◌, arith, append_assoc, Some, None}
use Rattle.std.proofs.lemmas.List.{length-append}
use Rattle.line_words.specs.Text.{content, words}
use Rattle.line_words.specs.Rules.{line_fault}
use Rattle.line_words.specs.Front.{has_word}
use Rattle.line_words.specs.Left.{Left, Numbered, IsEmptyLine, AllEmpty, Passes, Gives, StopsAt, Refuses}
use Rattle.line_words.specs.declared.refusals.Why.{Why}
use Rattle.line_words.specs.declared.refusals.Refusal1.{Refusal1}
use Rattle.line_words.proofs.Spans.{words_from_some_word}
use Rattle.line_words.proofs.Whys.{some, none, some_is}

AllEmpty-push : (ls : List (List ℕ)) (l : List ℕ) → AllEmpty ls → IsEmptyLine l → AllEmpty (ls ++ l ∷ [])
AllEmpty-push [] l h e = (e, tt)
AllEmpty-push (k ∷ ls) l h e = (h.0, AllEmpty-push ls l h.1 e)

-- one more line is passed
pub passes_one : (old now : Left) (line : List ℕ) (more : List (List ℕ)) (number : ℕ) → Passes old now → now.lines ≡ line ∷ more → number ≡ now.number + 1
    → line_fault line ≡ None → words line ≡ [] → Passes old (record { number = number; lines = more })
passes_one old now line more number p e n fine empty = record {
  passed = p.passed ++ line ∷ [];
  empty = AllEmpty-push p.passed line p.empty (record { fine = fine; no_word = empty });
  lines_are = p.lines_are ∙ ap (λ (ls : List (List ℕ)). p.passed ++ ls) e ∙ sym (append_assoc p.passed (line ∷ []) more);
  number_is = omega (arith, n, p.number_is, length-append p.passed (line ∷ []));
}

head_is : (x y : List ℕ) (xs ys : List (List ℕ)) → x ∷ xs ≡ y ∷ ys → x ≡ y
head_is x y xs ys e = cc

-- a line that is refused isn't passed
unpassed : (passed rest : List (List ℕ)) (line : List ℕ) (more : List (List ℕ)) (why : Why) → AllEmpty passed → line ∷ more ≡ passed ++ rest → line_fault line ≡ some why → passed ≡ []
unpassed [] rest line more why h e broken = refl
unpassed (l ∷ ls) rest line more why h e broken =
    let is : line ≡ l = head_is line l more (ls ++ rest) e in
    absurd (let c : some why ≡ none = sym broken ∙ ap line_fault is ∙ h.0.fine in cc)

-- nothing is passed where the first line is refused
stays : (old new : Left) (refusal : Refusal1) → StopsAt old refusal → Passes old new → old ≡ new
stays old new refusal s p =
    let nothing : p.passed ≡ [] = unpassed p.passed new.lines s.line s.more refusal.why p.empty (sym s.lines_are ∙ p.lines_are) s.broken in
    let lines : old.lines ≡ new.lines = p.lines_are ∙ ap (λ (ls : List (List ℕ)). ls ++ new.lines) nothing in
    let number : new.number ≡ old.number = omega (arith, p.number_is, ap length nothing) in
    ap (λ (n : ℕ). record { number = n; lines = old.lines }) (sym number) ∙ ap (λ (ls : List (List ℕ)). record { number = new.number; lines = ls }) lines

pub again_end : (old new : Left) (refusal : Refusal1) → StopsAt old refusal → Passes old new → new.lines ≡ [] → ⊥
again_end old new refusal s p e =
    let same = stays old new refusal s p in
    let c : s.line ∷ s.more ≡ [] = sym s.lines_are ∙ ap (λ (l : Left). l.lines) same ∙ e in
    cc

pub again_line : (old new : Left) (refusal : Refusal1) (found : Numbered) → StopsAt old refusal → Gives old new found → ⊥
again_line old new refusal found s g =
    let same = stays old (record { number = found.number; lines = g.line ∷ new.lines }) refusal s g.passes in
    let is : s.line ≡ g.line = head_is s.line g.line s.more new.lines (sym s.lines_are ∙ ap (λ (l : Left). l.lines) same) in
    let c : some refusal.why ≡ none = sym s.broken ∙ ap line_fault is ∙ g.fine in
    cc

pub again_refused : (old new : Left) (refusal found : Refusal1) → StopsAt old refusal → Refuses old new found → (found ≡ refusal) × (new ≡ old)
again_refused old new refusal found s r =
    let same = stays old new refusal s r.passes in
    let t = r.stops in
    let is : s.line ≡ t.line = head_is s.line t.line s.more t.more (sym s.lines_are ∙ ap (λ (l : Left). l.lines) same ∙ t.lines_are) in
    let why : found.why ≡ refusal.why = some_is found.why refusal.why (sym t.broken ∙ ap line_fault (sym is) ∙ s.broken) in
    let line : found.line ≡ refusal.line = t.number_is ∙ ap (λ (l : Left). l.number) (sym same) ∙ sym s.number_is in
    (ap (λ (n : ℕ). record { line = n; why = found.why }) line ∙ ap (λ (w : Why). record { line = refusal.line; why = w }) why, sym same)

-- ---- what is met at the next line

-- a line with a word
pub gives_one : (old now : Left) (line : List ℕ) (more : List (List ℕ)) (found : Numbered) → Passes old now → now.lines ≡ line ∷ more → line_fault line ≡ None
    → found.content ≡ content line → found.number ≡ now.number → has_word (content line) ≡ true → Gives old (record { number = found.number + 1; lines = more }) found
gives_one old now line more found p e fine content_is number_is word = record {
  line = line;
  passes = subst (Passes old) (ap (λ (ls : List (List ℕ)). record { number = now.number; lines = ls }) e ∙ ap (λ (n : ℕ). record { number = n; lines = line ∷ more }) (sym number_is)) p;
  fine = fine;
  content_is = content_is;
  some_word = words_from_some_word found.content 0 (ap has_word content_is ∙ word);
  number_is = refl;
}

-- a line that is refused
pub refuses_one : (old now : Left) (line : List ℕ) (more : List (List ℕ)) (why : Why) → Passes old now → now.lines ≡ line ∷ more → line_fault line ≡ Some why
    → Refuses old now (record { line = now.number; why = why })
refuses_one old now line more why p e broken = record {
  passes = p;
  stops = record { line = line; more = more; lines_are = e; broken = broken; number_is = refl };
}
