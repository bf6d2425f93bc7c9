-- A front is written piece by piece.
use Rattle.std.proofs.Common.{◌≡◌, ℕ, ◌+◌, ◌<◌, ◌++◌, ◌∷◌, [], List, length, take, Bool, get_or, map, sym, ap, subst, ◌∙◌, append_assoc, arith, All}
use Rattle.std.proofs.lemmas.List.{take_more, map_more, get_or-map, length-map, length-take, append-nil}
use Rattle.std.specs.List.{join_with_byte}
use Rattle.line_words.specs.Rules.{Words}
use Rattle.spelled_lines.proofs.Joining.{joined_more}
use Rattle.spec_model.specs.Spec.{SpecValue}
use Rattle.result_text.specs.Answers.{EntryValue, as_seen}
use Rattle.result_text.specs.Fronts.{entry_text, entries_text}
use Rattle.result_text.specs.declared.entries.Entry.{Entry}

-- one more name is written
pub name_more : (first old now next : List ℕ) (names : Words) (j : ℕ) → now ≡ old ++ join_with_byte 32 (first ∷ take j names) → next ≡ now ++ 32 ∷ get_or names j [] → j < length names
    → next ≡ old ++ join_with_byte 32 (first ∷ take (j + 1) names)
name_more first old now next names j so_far push lt =
    joined_more first old now next (take j names) (get_or names j []) so_far push
    ∙ ap (λ (ws : Words). old ++ join_with_byte 32 (first ∷ ws)) (sym (take_more names j [] lt))

-- one more entry at the end
pub entries-push : (s : SpecValue) (i : ℕ) (es : List EntryValue) (e : EntryValue) → entries_text s i (es ++ e ∷ []) ≡ entries_text s i es ++ entry_text s (i + length es) e
entries-push s i [] e =
    let same : i ≡ i + length {A = EntryValue} [] = omega arith in
    append-nil (entry_text s i e) ∙ ap (λ (n : ℕ). entry_text s n e) same
entries-push s i (x ∷ es) e =
    let same : i + 1 + length es ≡ i + length (x ∷ es) = omega arith in
    ap (λ (t : List ℕ). entry_text s i x ++ t) (entries-push s (i + 1) es e ∙ ap (λ (n : ℕ). entries_text s (i + 1) es ++ entry_text s n e) same)
    ∙ sym (append_assoc (entry_text s i x) (entries_text s (i + 1) es) (entry_text s (i + length (x ∷ es)) e))

-- one more entry is written
pub entry_more : (s : SpecValue) (old now next : List ℕ) (entries : List Entry) (i : ℕ) (e : Entry) → now ≡ old ++ entries_text s 1 (map as_seen (take i entries))
    → next ≡ now ++ entry_text s (i + 1) (as_seen e)
    → e ≡ get_or entries i e → i < length entries → next ≡ old ++ entries_text s 1 (map as_seen (take (i + 1) entries))
entry_more s old now next entries i e so_far push is lt =
    let front = map as_seen (take i entries) in
    let number : 1 + length front ≡ i + 1 = omega (arith, length-map (take i entries) as_seen, length-take i entries, lt) in
    let more : map as_seen (take (i + 1) entries) ≡ front ++ as_seen e ∷ [] = map_more as_seen entries i e lt ∙ ap (λ (x : Entry). front ++ as_seen x ∷ []) (sym is) in
    push ∙ ap (λ (t : List ℕ). t ++ entry_text s (i + 1) (as_seen e)) so_far ∙ append_assoc old (entries_text s 1 front) (entry_text s (i + 1) (as_seen e))
    ∙ ap (λ (t : List ℕ). old ++ t) (sym (ap (entries_text s 1) more ∙ entries-push s 1 front (as_seen e) ∙ ap (λ (n : ℕ). entries_text s 1 front ++ entry_text s n (as_seen e)) number))

-- what holds of entries as they are seen
pub All-unseen : (P : List Bool → Type 0) (entries : List Entry) (seen : List EntryValue) → map as_seen entries ≡ seen → All (λ e. P e.design) seen → All (λ e. P e.design) entries
All-unseen P entries seen is h = λ k d lt.
    let same : get_or seen k (as_seen d) ≡ as_seen (get_or entries k d) = ap (λ (es : List EntryValue). get_or es k (as_seen d)) (sym is) ∙ get_or-map as_seen entries k d (as_seen d) lt in
    let there : k < length seen = omega (arith, lt, length-map entries as_seen, ap length is) in
    subst (λ (e : EntryValue). P e.design) same (h k (as_seen d) there)
