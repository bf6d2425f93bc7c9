-- Words and members that are written one after another.
use Rattle.std.proofs.Common.{◌≡◌, ◌∙◌, ◌+◌, ◌<◌, ◌≤◌, ℕ, List, [], ◌∷◌, ◌++◌, length, take, map, get_or, sym, ap, arith, append_assoc}
use Rattle.std.specs.List.{join_with_byte}
use Rattle.std.proofs.lemmas.List.{take_all, take_more, map_more, length-map, length-take, append-nil}
use Rattle.std.proofs.lemmas.Grind.{flat_map-append}
use Rattle.line_words.specs.Rules.{Words}
use Rattle.spelled_lines.specs.Lines.{spelled}
use Rattle.spec_model.specs.Spec.{SpecValue}
use Rattle.result_text.specs.Fronts.{entry_text, entries_text}
use Rattle.result_text.proofs.FrontPrinting.{entries-push}
use Rattle.front_archive.specs.declared.member.Member.{Member}
use Rattle.explore_run.specs.Words.{after_space, spaced}
use Rattle.explore_run.specs.Saying.{entry_of}

spaced-push : (front : Words) (w : List ℕ) → spaced (front ++ w ∷ []) ≡ spaced front ++ 32 ∷ w
spaced-push front w = flat_map-append after_space front (w ∷ []) ∙ ap (λ (t : List ℕ). spaced front ++ t) (append-nil (32 ∷ w))

-- one more word
pub word_more : (old now next : List ℕ) (words : Words) (j : ℕ) → now ≡ old ++ spaced (take j words) → next ≡ now ++ 32 ∷ get_or words j [] → j < length words
    → next ≡ old ++ spaced (take (j + 1) words)
word_more old now next words j so_far push lt =
    push ∙ (ap (λ (t : List ℕ). t ++ 32 ∷ get_or words j []) so_far ∙ (append_assoc old (spaced (take j words)) (32 ∷ get_or words j [])
    ∙ ap (λ (t : List ℕ). old ++ t) (sym (ap spaced (take_more words j [] lt) ∙ spaced-push (take j words) (get_or words j [])))))

-- all of them
pub words_whole : (old now : List ℕ) (words : Words) (j : ℕ) → length words ≤ j → now ≡ old ++ spaced (take j words) → now ≡ old ++ spaced words
words_whole old now words j le so_far = so_far ∙ ap (λ (ws : Words). old ++ spaced ws) (take_all j words le)

joined : (w : List ℕ) (ws : Words) → join_with_byte 32 (w ∷ ws) ≡ w ++ spaced ws
joined w [] = sym (append-nil w)
joined w (v ∷ ws) = ap (λ (t : List ℕ). w ++ 32 ∷ t) (joined v ws)

-- a line of a first word and of two lists of words
pub line_of : (old w : List ℕ) (vs ws : Words) → ((((old ++ w) ++ spaced vs) ++ spaced ws) ++ 10 ∷ []) ≡ old ++ spelled (w ∷ (vs ++ ws))
line_of old w vs ws =
    let both : w ++ (spaced vs ++ spaced ws) ≡ join_with_byte 32 (w ∷ (vs ++ ws)) = sym (joined w (vs ++ ws) ∙ ap (λ (t : List ℕ). w ++ t) (flat_map-append after_space vs ws)) in
    let near : ((old ++ w) ++ spaced vs) ++ spaced ws ≡ old ++ join_with_byte 32 (w ∷ (vs ++ ws)) =
    append_assoc (old ++ w) (spaced vs) (spaced ws) ∙ (append_assoc old w (spaced vs ++ spaced ws) ∙ ap (λ (t : List ℕ). old ++ t) both) in
    ap (λ (t : List ℕ). t ++ 10 ∷ []) near ∙ append_assoc old (join_with_byte 32 (w ∷ (vs ++ ws))) (10 ∷ [])

-- one more member
pub member_more : (s : SpecValue) (old now next : List ℕ) (members : List Member) (i : ℕ) (m : Member) → now ≡ old ++ entries_text s 1 (map entry_of (take i members))
    → next ≡ now ++ entry_text s (i + 1) (entry_of m)
    → m ≡ get_or members i m → i < length members → next ≡ old ++ entries_text s 1 (map entry_of (take (i + 1) members))
member_more s old now next members i m so_far push is lt =
    let front = map entry_of (take i members) in
    let number : 1 + length front ≡ i + 1 = omega (arith, length-map (take i members) entry_of, length-take i members, lt) in
    let more : map entry_of (take (i + 1) members) ≡ front ++ entry_of m ∷ [] = map_more entry_of members i m lt ∙ ap (λ (x : Member). front ++ entry_of x ∷ []) (sym is) in
    push ∙ ap (λ (t : List ℕ). t ++ entry_text s (i + 1) (entry_of m)) so_far ∙ append_assoc old (entries_text s 1 front) (entry_text s (i + 1) (entry_of m))
    ∙ ap (λ (t : List ℕ). old ++ t) (sym (ap (entries_text s 1) more ∙ entries-push s 1 front (entry_of m) ∙ ap (λ (n : ℕ). entries_text s 1 front ++ entry_text s n (entry_of m)) number))
