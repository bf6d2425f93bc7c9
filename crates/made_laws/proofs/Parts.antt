-- The lines of all resources, links, tasks, messages and options, one part after another.
use Rattle.std.proofs.Common.{◌≡◌, ℕ, suc, zero, ◌+◌, ◌*◌, ◌%◌, ◌<◌, ◌≤◌, ◌^◌, Bool, true, false, ◌&&◌, List, [], ◌∷◌, length, map, refl, ap, arith, subst}
use Rattle.std.specs.Prelude.{nat_lt}
use Rattle.std.specs.List.{list_all, range_with_len, enumerate_from}
use Rattle.std.proofs.lemmas.Bool.{and_parts, ltb-true}
use Rattle.std.proofs.Math.Nat.{div-lt_iff_lt-mul, mod-lt}
use Rattle.line_words.specs.Rules.{Words}
use Rattle.genotype.specs.Draws.{draw}
use Rattle.spec_make.specs.Streams.{Stream, later, taking}
use Rattle.spec_make.specs.Mesh.{resources_of, goes_to_two}
use Rattle.spec_make.specs.Made.{resource_lines, task_words, message_lines, map_lines, option_words}
use Rattle.made_laws.specs.Unbroken.{AreOf32Bits}
use Rattle.made_laws.proofs.Steps.{Goes, goes_on, one_step}
use Rattle.made_laws.proofs.Lines.{having, resource_step, task_step, message_step, option_step}

-- ---- draws

pub later_words : (n : ℕ) (words : Stream) → AreOf32Bits words → AreOf32Bits (later n words)
later_words n words h k = h (n + k)

scaled : (w q : ℕ) → w < 2 ^ 32 → 0 < q → w * q < q * 2 ^ 32
scaled w q low some = grind (arith)

pub drawn : (words : Stream) (q k : ℕ) → AreOf32Bits words → 0 < q → draw words q k < q
drawn words q k h some =
    let iff = div-lt_iff_lt-mul {k = 2 ^ 32} {x = words k * q} {y = q} (omega arith) in
    iff.1 (scaled (words k) q (h k) some)

-- ---- resources

pub resources_go : (words : Stream) (i n : ℕ) → AreOf32Bits words → i + n ≤ 25 → Goes (having i 0 false) (taking 1 resource_lines words (range_with_len i n)) (having (i + n) 0 false)
resources_go words i zero h few = let same : i ≡ i + 0 = omega arith in ap (λ k. having k 0 false) same
resources_go words i (suc n) h few =
    let low = drawn words 90 0 h (omega arith) in
    let same : i + 1 + n ≡ i + suc n = omega arith in
    let more = resources_go (later 1 words) (i + 1) n (later_words 1 words h) (omega (arith, few)) in (
      having (i + 1) 0 false,
      resource_step i 0 (10 + draw words 90 0) false (omega (arith, few)) (omega (arith, low)),
      subst (λ k. Goes (having (i + 1) 0 false) (taking 1 resource_lines (later 1 words) (range_with_len (i + 1) n)) (having k 0 false)) same more,
    )

-- ---- links

-- whatever joins two resources, and whatever its lines are
pub links_go : {E : Type 0} (lines : Stream → ℕ × E → List Words) (good : E → Bool) (r : ℕ)
    → ((words : Stream) (e : ℕ) (x : E) → AreOf32Bits words → e < 40 → good x ≡ true → Goes (having r e false) (lines words (e, x)) (having r (e + 1) false))
    → (words : Stream) (e : ℕ) (xs : List E)
    → AreOf32Bits words
    → e + length xs ≤ 40
    → list_all good xs ≡ true
    → Goes (having r e false) (taking 1 lines words (enumerate_from e xs)) (having r (e + length xs) false)
links_go lines good r one words e [] h few all = let same : e ≡ e + 0 = omega arith in ap (λ k. having r k false) same
links_go lines good r one words e (x ∷ xs) h few all =
    let parts = and_parts (good x) (list_all good xs) all in
    let same : e + 1 + length xs ≡ e + suc (length xs) = omega arith in
    let more = links_go lines good r one (later 1 words) (e + 1) xs (later_words 1 words h) (omega (arith, few)) parts.1 in
    goes_on (having r e false) (having r (e + 1) false) (having r (e + suc (length xs)) false) (lines words (e, x)) (taking 1 lines (later 1 words) (enumerate_from (e + 1) xs))
    (one words e x h (omega (arith, few)) parts.0)
    (subst (λ k. Goes (having r (e + 1) false) (taking 1 lines (later 1 words) (enumerate_from (e + 1) xs)) (having r k false)) same more)

-- ---- tasks

pub tasks_go : (r l i n : ℕ) → i + n ≤ 100 → Goes (having r l false) (map task_words (range_with_len i n)) (having r l false)
tasks_go r l i zero few = refl
tasks_go r l i (suc n) few = (having r l false, task_step r l i (omega (arith, few)), tasks_go r l (i + 1) n (omega (arith, few)))

-- ---- messages

-- a task that a message may be named for: one before it sends the message
abbrev pub may_receive : ℕ → Bool
may_receive i = nat_lt 0 i && nat_lt i 50

pub messages_go : (r l tasks : ℕ) (words : Stream) (xs : List ℕ) → AreOf32Bits words → list_all may_receive xs ≡ true
    → Goes (having r l false) (taking 1 (message_lines tasks) words xs) (having r l false)
messages_go r l tasks words [] h all = refl
messages_go r l tasks words (i ∷ xs) h all =
    let parts = and_parts (may_receive i) (list_all may_receive xs) all in
    let bounds = and_parts (nat_lt 0 i) (nat_lt i 50) parts.0 in
    let some = ltb-true 0 i bounds.0 in
    let few = ltb-true i 50 bounds.1 in
    let sender = drawn words i 0 h some in (
      having r l false,
      message_step r l (goes_to_two tasks i) i (draw words i 0) (omega (arith, few)) (omega (arith, few, sender)),
      messages_go r l tasks (later 1 words) xs (later_words 1 words h) parts.1,
    )

-- ---- options

one_option : (n l : ℕ) (timed : Bool) (words : Stream) (k t r : ℕ) → AreOf32Bits words → n < 26 → r < n → t < 100 → Goes (having n l timed) (option_words words k t r ∷ []) (having n l true)
one_option n l timed words k t r h few lt task =
    let time = drawn words 20 k h (omega arith) in
    let energy = drawn words 50 (k + 1) h (omega arith) in
    one_step (having n l timed) (having n l true) (option_words words k t r)
    (option_step n l timed t r (1 + draw words 20 k) (1 + draw words 50 (k + 1)) few lt task (omega (arith, time)) (omega (arith, energy)))

options_of_task : (side l : ℕ) (timed : Bool) (words : Stream) (t : ℕ) → AreOf32Bits words → 0 < resources_of side → resources_of side < 26 → t < 100
    → Goes (having (resources_of side) l timed) (map_lines side words t) (having (resources_of side) l true)
options_of_task side l timed words t h some few task =
    let n = resources_of side in
    let first = draw words n 0 in
    let a = one_option n l timed words 1 t first h few (drawn words n 0 h some) task in
    let b = one_option n l true words 3 t ((first + 1) % n) h few (mod-lt (first + 1) some) task in
    let c = one_option n l true words 5 t ((first + side) % n) h few (mod-lt (first + side) some) task in
    goes_on (having n l timed) (having n l true) (having n l true) (option_words words 1 t first ∷ []) (option_words words 3 t ((first + 1) % n) ∷ option_words words 5 t ((first + side) % n) ∷ []) a
    (goes_on (having n l true) (having n l true) (having n l true) (option_words words 3 t ((first + 1) % n) ∷ []) (option_words words 5 t ((first + side) % n) ∷ []) b c)

-- the first line that has a time makes the difference
more_options : (side l : ℕ) (words : Stream) (i n : ℕ) → AreOf32Bits words → 0 < resources_of side → resources_of side < 26 → i + n ≤ 100
    → Goes (having (resources_of side) l true) (taking 7 (map_lines side) words (range_with_len i n)) (having (resources_of side) l true)
more_options side l words i zero h some few task = refl
more_options side l words i (suc n) h some few task =
    goes_on _ _ _ (map_lines side words i) (taking 7 (map_lines side) (later 7 words) (range_with_len (i + 1) n))
    (options_of_task side l true words i h some few (omega (arith, task)))
    (more_options side l (later 7 words) (i + 1) n (later_words 7 words h) some few (omega (arith, task)))

pub options_go : (side l : ℕ) (words : Stream) (n : ℕ) → AreOf32Bits words → 0 < resources_of side → resources_of side < 26 → 0 < n → n ≤ 100
    → Goes (having (resources_of side) l false) (taking 7 (map_lines side) words (range_with_len 0 n)) (having (resources_of side) l true)
options_go side l words zero h some few tasks task = absurd (omega (arith, tasks))
options_go side l words (suc n) h some few tasks task =
    goes_on _ _ _ (map_lines side words 0) (taking 7 (map_lines side) (later 7 words) (range_with_len (0 + 1) n))
    (options_of_task side l false words 0 h some few (omega arith))
    (more_options side l (later 7 words) (0 + 1) n (later_words 7 words h) some few (omega (arith, task)))
