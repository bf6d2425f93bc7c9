use Rattle.std.proofs.Common.{◌≡◌, ℕ, ◌+◌, ◌^◌, ◌<◌, ◌≤◌, Bool, true, false, not, List, [], ◌∷◌, ◌++◌, length, drop, sym, ap, ◌∙◌, arith, zero, suc, length-append}
use Rattle.std.proofs.lemmas.List.{take-append-drop, map-append, length-map}
use native.Mathlib.Nat.{pow-suc}
use Rattle.trail_state.specs.Trail.{Entry, is_decision, level_of, upto_level}
use Rattle.trail_state.proofs.Levels.{upto_level_splits}
use Rattle.ordered_solver.specs.Marks.{word, marks}
use Rattle.ordered_solver.specs.Trails.{GoesOnFrom}

pub word-lt : (n : ℕ) (ms : List Bool) → word n ms < 2 ^ n
word-lt zero ms = omega arith
word-lt (suc n) [] = let h = word-lt n [] in rw pow-suc (omega arith)
word-lt (suc n) (true ∷ ms) = let h = word-lt n ms in rw pow-suc (omega arith)
word-lt (suc n) (false ∷ ms) = let h = word-lt n ms in rw pow-suc (omega arith)

-- appending never lowers the word
pub word-append : (n : ℕ) (ms ns : List Bool) → word n ms ≤ word n (ms ++ ns)
word-append zero ms ns = omega arith
word-append (suc n) [] ns = omega arith
word-append (suc n) (m ∷ ms) ns = let h = word-append n ms ns in omega arith

-- a jump back to before a decision, and a forced literal in its place, raise the word
pub word_jump : (n : ℕ) (kept dropped : List Bool) → length kept < n → word n (kept ++ false ∷ dropped) < word n (kept ++ true ∷ [])
word_jump zero kept dropped h = absurd (omega arith)
word_jump (suc n) [] dropped h = let a = word-lt n dropped in omega arith
word_jump (suc n) (m ∷ kept) dropped h = let a = word_jump n kept dropped (omega arith) in omega arith

-- going on never lowers the word of a trail
pub word_goes_on : (v : ℕ) (a b : List Entry) → GoesOnFrom a b → word v (marks a) ≤ word v (marks b)
word_goes_on v a b g =
    let f : Entry → Bool = λ e. not (is_decision e) in
    let whole : b ≡ a ++ drop (length a) b = sym (take-append-drop (length a) b) ∙ ap (λ (es : List Entry). es ++ drop (length a) b) g.kept in
    let m : marks b ≡ marks a ++ marks (drop (length a) b) = ap marks whole ∙ map-append f a (drop (length a) b) in
    rw m (word-append v (marks a) (marks (drop (length a) b)))

-- the trail after a jump back and the push of a forced literal has a greater word
pub word_learn : (v n : ℕ) (es : List Entry) (e : Entry) → n < level_of es → length es ≤ v → is_decision e ≡ false → word v (marks es) < word v (marks (upto_level n es ++ e ∷ []))
word_learn v n es e h l q =
    let s = upto_level_splits n es h in
    let kept : List Entry = upto_level n es in
    let f : Entry → Bool = λ g. not (is_decision g) in
    let es-is : es ≡ kept ++ s.decision ∷ s.rest = s.parts in
    let a : marks es ≡ marks kept ++ false ∷ marks s.rest = ap marks es-is ∙ map-append f kept (s.decision ∷ s.rest) ∙ ap (λ b. marks kept ++ not b ∷ marks s.rest) s.decided in
    let b : marks (kept ++ e ∷ []) ≡ marks kept ++ true ∷ [] = map-append f kept (e ∷ []) ∙ ap (λ b. marks kept ++ not b ∷ []) q in
    let len : length es ≡ length kept + length (s.decision ∷ s.rest) = ap length es-is ∙ length-append kept (s.decision ∷ s.rest) in
    let len' : length (marks kept) ≡ length kept = length-map kept f in
    let j = word_jump v (marks kept) (marks s.rest) (omega arith) in
    rw (a, b) j
