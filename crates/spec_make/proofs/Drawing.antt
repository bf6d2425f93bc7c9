-- Lines that take the next words of a stream, one after another.
use Rattle.std.proofs.Common.{◌≡◌, ℕ, ◌+◌, ◌*◌, List, [], ◌∷◌, ◌++◌, length, ap, ap₂, sym, ◌∙◌, arith, zero, suc, subst, append_assoc, append-nil}
use Rattle.std.specs.List.{flat_map, range_with_len}
use Rattle.std.proofs.Math.Nat.{mul-add}
use Rattle.std.proofs.lemmas.List.{length-append, map-id}
use Rattle.std.proofs.lemmas.List.FromFn.{map-range_with_len_more}
use Rattle.std.proofs.lemmas.List.Concat.{flat_map-append}
use Rattle.line_words.specs.Rules.{Words}
use Rattle.spelled_lines.specs.Lines.{spelled}
use Rattle.genotype.specs.Draws.{draw, after_words}
use Rattle.spec_make.specs.Streams.{Stream, stream_of, later, taking}
use Rattle.spec_make.specs.Made.{option_words, map_words}

pub range_more : (a n j : ℕ) → a + n ≡ j → range_with_len a (n + 1) ≡ range_with_len a n ++ j ∷ []
range_more a n j same =
    sym (map-id (range_with_len a (n + 1))) ∙ map-range_with_len_more (λ k. k) a n j same ∙ ap (λ l. l ++ j ∷ []) (map-id (range_with_len a n))

-- ---- states after so many words

pub after_add : {S : Type 0} (after : S → S) (m n : ℕ) (s : S) → after_words after n (after_words after m s) ≡ after_words after (m + n) s
after_add after zero n s = let e : n ≡ zero + n = omega arith in ap (λ k. after_words after k s) e
after_add after (suc m) n s =
    after_add after m n (after s)
    ∙ (let e : suc (m + n) ≡ suc m + n = omega arith in ap (λ k. after_words after k s) e)

pub later_zero : (words : Stream) → later 0 words ≡ words
later_zero words = λ i k. ap words (same k) i
  where
    same : (k : ℕ) → 0 + k ≡ k
    same k = omega arith

pub later_later : (m n : ℕ) (words : Stream) → later n (later m words) ≡ later (m + n) words
later_later m n words = λ i k. ap words (same k) i
  where
    same : (k : ℕ) → m + (n + k) ≡ m + n + k
    same k = omega arith

-- the words from a later state are the later words
pub stream_later : {S : Type 0} (gives : S → ℕ) (after : S → S) (m : ℕ) (s : S) → stream_of gives after (after_words after m s) ≡ later m (stream_of gives after s)
stream_later gives after m s = λ i k. ap gives (after_add after m k s) i

-- ---- items one after another

pub taking-append : {X : Type 0} (n : ℕ) (lines : Stream → X → List Words) (words : Stream) (xs ys : List X)
    → taking n lines words (xs ++ ys) ≡ taking n lines words xs ++ taking n lines (later (n * length xs) words) ys
taking-append n lines words [] ys =
    let none : n * 0 ≡ 0 = omega arith in
    ap (λ w. taking n lines w ys) (sym (ap (λ m. later m words) none ∙ later_zero words))
taking-append n lines words (x ∷ xs) ys =
    let more : n + n * length xs ≡ n * suc (length xs) = omega arith in
    ap (λ l. lines words x ++ l) (taking-append n lines (later n words) xs ys
    ∙ ap (λ w. taking n lines (later n words) xs ++ taking n lines w ys) (later_later n (n * length xs) words ∙ ap (λ m. later m words) more))
    ∙ sym (append_assoc (lines words x) (taking n lines (later n words) xs) (taking n lines (later (n * suc (length xs)) words) ys))

-- a text and a state after the lines of some items were put, of which each takes n words
pub record Written {S X : Type 0} (gives : S → ℕ) (after : S → S) (n : ℕ) (lines : Stream → X → List Words) (first : S) (old : List ℕ) (xs : List X) (text : List ℕ) (s : S) : Type 0 where
  pub put : text ≡ old ++ flat_map spelled (taking n lines (stream_of gives after first) xs)
  pub drawn : s ≡ after_words after (n * length xs) first

pub written_none : {S X : Type 0} (gives : S → ℕ) (after : S → S) (n : ℕ) (lines : Stream → X → List Words) (first : S) (old : List ℕ) → Written gives after n lines first old [] old first
written_none gives after n lines first old =
    let none : 0 ≡ n * 0 = omega arith in
    record { put = sym (append-nil old); drawn = ap (λ k. after_words after k first) none }

pub written_more : {S X : Type 0} (gives : S → ℕ) (after : S → S) (n : ℕ) (lines : Stream → X → List Words) (first : S) (old : List ℕ) (xs ys : List X) (text next : List ℕ) (s t : S)
    → Written gives after n lines first old xs text s
    → next ≡ text ++ flat_map spelled (taking n lines (stream_of gives after s) ys)
    → t ≡ after_words after (n * length ys) s
    → Written gives after n lines first old (xs ++ ys) next t
written_more gives after n lines first old xs ys text next s t so put drawn =
    let words = stream_of gives after first in
    let long : n * length xs + n * length ys ≡ n * length (xs ++ ys) = sym (ap (λ m. n * m) (length-append xs ys) ∙ mul-add n (length xs) (length ys)) in
    let place = ap (stream_of gives after) so.drawn ∙ stream_later gives after (n * length xs) first in record {
      put = put
          ∙ ap₂ (λ l w. l ++ flat_map spelled (taking n lines w ys)) so.put place
          ∙ append_assoc old (flat_map spelled (taking n lines words xs)) (flat_map spelled (taking n lines (later (n * length xs) words) ys))
          ∙ ap (λ l. old ++ l) (sym (flat_map-append spelled (taking n lines words xs) (taking n lines (later (n * length xs) words) ys))
          ∙ ap (flat_map spelled) (sym (taking-append n lines words xs ys)));
      drawn = drawn ∙ ap (after_words after (n * length ys)) so.drawn ∙ after_add after (n * length xs) (n * length ys) first ∙ ap (λ k. after_words after k first) long;
    }

pub written_next : {S X : Type 0} (gives : S → ℕ) (after : S → S) (n : ℕ) (lines : Stream → X → List Words) (first : S) (old : List ℕ) (xs : List X) (x : X) (text next : List ℕ) (s t : S)
    → Written gives after n lines first old xs text s
    → next ≡ text ++ flat_map spelled (lines (stream_of gives after s) x)
    → t ≡ after_words after n s
    → Written gives after n lines first old (xs ++ x ∷ []) next t
written_next gives after n lines first old xs x text next s t so put drawn =
    let one : n ≡ n * 1 = omega arith in
    written_more gives after n lines first old xs (x ∷ []) text next s t so
    (put ∙ ap (λ l. text ++ flat_map spelled l) (sym (append-nil (lines (stream_of gives after s) x))))
    (drawn ∙ ap (λ k. after_words after k s) one)

pub singly_drawn : {S : Type 0} (after : S → S) (n : ℕ) (first s : S) → s ≡ after_words after n first → s ≡ after_words after (1 * n) first
singly_drawn after n first s drawn =
    let all : n ≡ 1 * n = omega arith in
    drawn ∙ ap (λ k. after_words after k first) all

-- the state after items that take a word each
pub drawn_singly : {S : Type 0} (after : S → S) (n m : ℕ) (first s : S) → n ≡ m → s ≡ after_words after (1 * n) first → s ≡ after_words after m first
drawn_singly after n m first s same drawn =
    let all : 1 * n ≡ m = omega arith in
    drawn ∙ ap (λ k. after_words after k first) all

-- all items were put
pub written_all : {S X : Type 0} (gives : S → ℕ) (after : S → S) (n : ℕ) (lines : Stream → X → List Words) (first : S) (old : List ℕ) (xs ys : List X) (text : List ℕ) (s : S) → xs ≡ ys
    → Written gives after n lines first old xs text s → Written gives after n lines first old ys text s
written_all gives after n lines first old xs ys text s same so = subst (λ zs. Written gives after n lines first old zs text s) same so

-- ---- lines one after another, whatever they are drawn from

pub line_more : (old text next : List ℕ) (ls : List Words) (l : Words) → text ≡ old ++ flat_map spelled ls → next ≡ text ++ spelled l → next ≡ old ++ flat_map spelled (ls ++ l ∷ [])
line_more old text next ls l so put =
    put ∙ ap (λ t. t ++ spelled l) so
    ∙ append_assoc old (flat_map spelled ls) (spelled l)
    ∙ ap (λ t. old ++ t) (ap (λ t. flat_map spelled ls ++ t) (sym (append-nil (spelled l))) ∙ sym (flat_map-append spelled ls (l ∷ [])))

pub lines_more : (text next : List ℕ) (ls ms : List Words) → text ≡ flat_map spelled ls → next ≡ text ++ flat_map spelled ms → next ≡ flat_map spelled (ls ++ ms)
lines_more text next ls ms so put = put ∙ ap (λ t. t ++ flat_map spelled ms) so ∙ sym (flat_map-append spelled ls ms)

pub three_lines : (old a b c : List ℕ) (x y z : Words) → a ≡ old ++ spelled x → b ≡ a ++ spelled y → c ≡ b ++ spelled z → c ≡ old ++ flat_map spelled (x ∷ y ∷ z ∷ [])
three_lines old a b c x y z first second third =
    let none : old ≡ old ++ flat_map spelled [] = sym (append-nil old) in
    let one = line_more old old a [] x none first in
    let two = line_more old a b (x ∷ []) y one second in
    line_more old b c (x ∷ y ∷ []) z two third

-- an option whose words come after the first k
pub option_later : {S : Type 0} (gives : S → ℕ) (after : S → S) (k t : ℕ) (start s : S) (said r : ℕ) (text next : List ℕ)
    → s ≡ after_words after k start
    → said ≡ r
    → next ≡ text ++ spelled (option_words (stream_of gives after s) 0 t said)
    → next ≡ text ++ spelled (option_words (stream_of gives after start) k t r)
option_later gives after k t start s said r text next at same put =
    let zero_more : k + 0 ≡ k = omega arith in
    let place = ap (stream_of gives after) at ∙ stream_later gives after k start in
    put ∙ ap₂ (λ w x. text ++ spelled (option_words w 0 t x)) place same
    ∙ ap (λ j. text ++ spelled (map_words t r (1 + draw (stream_of gives after start) 20 j) (1 + draw (stream_of gives after start) 50 (k + 1)))) zero_more
