-- The lines of all resources, links, tasks, messages and options are joined, one part after another.
use Rattle.std.proofs.Common.{◌≡◌, ℕ, suc, zero, ◌+◌, ◌-◌, ◌*◌, ◌%◌, ◌<◌, ◌≤◌, Bool, true, false, cond, List, [], ◌∷◌, length, map, filter, None, Some, subst, arith, All, ◌==◌}
use Rattle.std.specs.Prelude.{nat_lt, codes}
use Rattle.std.specs.List.{range_with_len, enumerate_from}
use Rattle.std.proofs.lemmas.Bool.{and_parts, ltb-true}
use Rattle.std.proofs.Math.Nat.{mod-lt}
use Rattle.line_words.specs.Rules.{Words}
use Rattle.genotype.specs.Draws.{draw}
use Rattle.arch_reader.specs.declared.statement.Statement.TheVariants.{Hops, Task}
use Rattle.spec_join.specs.Joining.{Joining}
use Rattle.spec_join.specs.Effects.{effect}
use Rattle.spec_join.proofs.Breaking.{none_plain}
use Rattle.spec_make.specs.Streams.{Stream, later, taking}
use Rattle.spec_make.specs.Mesh.{resources_of, tasks_of, has_message, goes_to_two, messages_of}
use Rattle.spec_make.specs.Made.{resource_name, link_name, task_name, resource_lines, traffic_words, task_words, task_lines, message_lines, option_words, map_lines}
use Rattle.made_laws.specs.Unbroken.{AreOf32Bits}
use Rattle.made_laws.proofs.Lines.{amount, weight, resource_of, resource_formed, link_between, link_of, link_formed, traffic_of, traffic_formed, hops_formed, task_formed, message_of, message_formed, receiving, option_of, option_formed}
use Rattle.made_laws.proofs.Parts.{later_words, drawn}
use Rattle.made_laws.proofs.Made.{Made, resource_made, link_made, traffic_made, hops_made, task_made, none_sent, message_made, option_made}
use Rattle.made_laws.proofs.Accepted.{resource_fine, link_fine, traffic_fine, hops_fine, task_fine, message_forward, message_fine, IsOther, free_before, free_after, option_fine}
use Rattle.made_laws.proofs.Carried.{Joins, Carries, carries_on}

-- ---- resources

pub resources_carry : (words : Stream) (i n r : ℕ) → i + n ≡ r → AreOf32Bits words → (s : Joining) → Made i 0 0 0 0 0 s
    → Carries s (taking 1 resource_lines words (range_with_len i n)) (Made r 0 0 0 0 0)
resources_carry words i zero r e h s made = let same : i ≡ r = omega (arith, e) in subst (λ k. Made k 0 0 0 0 0 s) same made
resources_carry words i (suc n) r e h s made =
    let cost = 10 + draw words 90 0 in
    let low = drawn words 90 0 h (omega arith) in
    let st = resource_of i cost in (
      st,
      record { form = resource_formed i cost (omega (arith, low)); none = none_plain s st (resource_fine s (resource_name i) (weight (codes "cost") cost ∷ [])) },
      resources_carry (later 1 words) (i + 1) n r (omega (arith, e)) (later_words 1 words h) (effect s st) (resource_made i 0 0 0 0 0 s (weight (codes "cost") cost ∷ []) made),
    )

-- ---- links

-- a link and what it carries
pub link_carries : (r : ℕ) (words : Stream) (e a b : ℕ) → AreOf32Bits words → (s : Joining) → Made r e 0 0 0 0 s
    → Carries s (link_between e a b (1 + draw words 9 0) ∷ traffic_words e ∷ []) (Made r (e + 1) 0 0 0 0)
link_carries r words e a b h s made =
    let cost = 1 + draw words 9 0 in
    let low = drawn words 9 0 h (omega arith) in
    let weights = weight (codes "cost") cost ∷ [] in
    let link = link_of e a b cost in
    let traffic = traffic_of e in
    let linked = link_made r e 0 0 0 0 s (link_name e) (resource_name a) (resource_name b) weights made in (
      link,
      record { form = link_formed e a b cost (omega (arith, low)); none = none_plain s link (link_fine s (link_name e) (resource_name a) (resource_name b) true weights) },
      (
        traffic,
        record { form = traffic_formed e; none = none_plain (effect s link) traffic (traffic_fine (effect s link) (link_name e) (weight (codes "energy") 1 ∷ [])) },
        traffic_made r (e + 1) 0 0 0 0 (effect s link) e linked,
      ),
    )

-- whatever joins two resources, and whatever its lines are
pub links_carry : {E : Type 0} (lines : Stream → ℕ × E → List Words) (r : ℕ)
    → ((words : Stream) (e : ℕ) (x : E) → AreOf32Bits words → (s : Joining) → Made r e 0 0 0 0 s → Carries s (lines words (e, x)) (Made r (e + 1) 0 0 0 0))
    → (words : Stream) (e : ℕ) (xs : List E) (l : ℕ)
    → e + length xs ≡ l
    → AreOf32Bits words
    → (s : Joining)
    → Made r e 0 0 0 0 s
    → Carries s (taking 1 lines words (enumerate_from e xs)) (Made r l 0 0 0 0)
links_carry lines r one words e [] l so h s made = let same : e ≡ l = omega (arith, so) in subst (λ k. Made r k 0 0 0 0 s) same made
links_carry lines r one words e (x ∷ xs) l so h s made =
    carries_on s (lines words (e, x)) (taking 1 lines (later 1 words) (enumerate_from (e + 1) xs)) (Made r (e + 1) 0 0 0 0) (Made r l 0 0 0 0) (one words e x h s made)
    (λ u begun. links_carry lines r one (later 1 words) (e + 1) xs l (omega (arith, so)) (later_words 1 words h) u begun)

-- ---- tasks

some_tasks_carry : (r l i n t : ℕ) → i + n ≡ t → t ≤ 100 → (s : Joining) → Made r l i 0 0 0 s → Carries s (map task_words (range_with_len i n)) (Made r l t 0 0 0)
some_tasks_carry r l i zero t e few s made = let same : i ≡ t = omega (arith, e) in subst (λ k. Made r l k 0 0 0 s) same made
some_tasks_carry r l i (suc n) t e few s made =
    let st = Task (task_name i) in (
      st,
      record { form = task_formed i; none = none_plain s st (task_fine r l i 0 0 0 s (omega (arith, e, few)) made) },
      some_tasks_carry r l (i + 1) n t (omega (arith, e)) few (effect s st) (task_made r l i 0 0 0 s made),
    )

pub tasks_carry : (r l side : ℕ) → side ≤ 5 → tasks_of side ≤ 100 → (s : Joining) → Made r l 0 0 0 0 s → Carries s (task_lines side) (Made r l (tasks_of side) 0 0 0)
tasks_carry r l side few tasks s made =
    let st = Hops None (2 * side) in (
      st,
      record { form = hops_formed (2 * side) (omega (arith, few)); none = none_plain s st (hops_fine s (2 * side)) },
      some_tasks_carry r l 0 (tasks_of side) (tasks_of side) (omega arith) tasks (effect s st) (hops_made r l 0 0 0 0 s (2 * side) made),
    )

-- ---- messages

two_within : (t i : ℕ) → goes_to_two t i ≡ true → i + 1 < t
two_within t i h = ltb-true (i + 1) t (and_parts (i % 3 == 1) (nat_lt (i + 1) t) h).1

-- a message for task i, if there is one, and then those that follow
message_carries : (r l t : ℕ) (words : Stream) (i : ℕ) (xs : List ℕ) (b : Bool) → i < t → t ≤ 100 → 0 < i → AreOf32Bits words
    → ((next : Stream) → AreOf32Bits next → (u : Joining) → Made r l t (i + 1) 0 0 u → Carries u (taking 1 (message_lines t) next xs) (Made r l t t 0 0))
    → (s : Joining) → Made r l t i 0 0 s
    → Carries s (taking 1 (message_lines t) words (cond b (i ∷ xs) xs)) (Made r l t t 0 0)
message_carries r l t words i xs false lt few some h more s made = more words h s (none_sent r l t i 0 0 s made)
message_carries r l t words i xs true lt few some h more s made =
    let two = goes_to_two t i in
    let sender = draw words i 0 in
    let low = drawn words i 0 h some in
    let st = message_of two i sender in
    let forward = message_forward two r l t i 0 0 i sender s few lt (two_within t i) low made in (
      st,
      record { form = message_formed two i sender; none = none_plain s st (message_fine two r l t 0 0 i sender s few lt (two_within t i) low made) },
      more (later 1 words) (later_words 1 words h) (effect s st) (message_made r l t i 0 0 s (task_name sender) (receiving two i) forward made),
    )

messages_from : (r l t : ℕ) (words : Stream) (i n : ℕ) → i + n ≡ t → t ≤ 100 → 0 < i → AreOf32Bits words → (s : Joining) → Made r l t i 0 0 s
    → Carries s (taking 1 (message_lines t) words (filter has_message (range_with_len i n))) (Made r l t t 0 0)
messages_from r l t words i zero e few some h s made = let same : i ≡ t = omega (arith, e) in subst (λ k. Made r l t k 0 0 s) same made
messages_from r l t words i (suc n) e few some h s made =
    message_carries r l t words i (filter has_message (range_with_len (i + 1) n)) (has_message i) (omega (arith, e)) few some h
    (λ next g u begun. messages_from r l t next (i + 1) n (omega (arith, e)) few (omega arith) g u begun) s made

pub messages_carry : (r l t : ℕ) (words : Stream) → 0 < t → t ≤ 100 → AreOf32Bits words → (s : Joining) → Made r l t 0 0 0 s
    → Carries s (taking 1 (message_lines t) words (messages_of t)) (Made r l t t 0 0)
messages_carry r l t words some few h s made =
    messages_from r l t words 1 (t - 1) (omega (arith, some)) few (omega arith) h s
    (let one : 0 + 1 ≡ 1 = omega arith in subst (λ k. Made r l t k 0 0 s) one (none_sent r l t 0 0 0 s made))

-- ---- options

-- the resources on which a task may run are there, and are three
pub record AreApart (n first second third : ℕ) : Type 0 where
  pub second_there : second < n
  pub third_there : third < n
  pub first_second : first ≡ second → ⊥
  pub first_third : first ≡ third → ⊥
  pub second_third : second ≡ third → ⊥

apart_2 : (a : ℕ) → a < 4 → AreApart 4 a ((a + 1) % 4) ((a + 2) % 4)
apart_2 a lt = record {
  second_there = mod-lt (a + 1) (omega arith);
  third_there = mod-lt (a + 2) (omega arith);
  first_second = λ e. omega (arith, e, lt);
  first_third = λ e. omega (arith, e, lt);
  second_third = λ e. omega (arith, e, lt);
}

apart_3 : (a : ℕ) → a < 9 → AreApart 9 a ((a + 1) % 9) ((a + 3) % 9)
apart_3 a lt = record {
  second_there = mod-lt (a + 1) (omega arith);
  third_there = mod-lt (a + 3) (omega arith);
  first_second = λ e. omega (arith, e, lt);
  first_third = λ e. omega (arith, e, lt);
  second_third = λ e. omega (arith, e, lt);
}

apart_4 : (a : ℕ) → a < 16 → AreApart 16 a ((a + 1) % 16) ((a + 4) % 16)
apart_4 a lt = record {
  second_there = mod-lt (a + 1) (omega arith);
  third_there = mod-lt (a + 4) (omega arith);
  first_second = λ e. omega (arith, e, lt);
  first_third = λ e. omega (arith, e, lt);
  second_third = λ e. omega (arith, e, lt);
}

apart_5 : (a : ℕ) → a < 25 → AreApart 25 a ((a + 1) % 25) ((a + 5) % 25)
apart_5 a lt = record {
  second_there = mod-lt (a + 1) (omega arith);
  third_there = mod-lt (a + 5) (omega arith);
  first_second = λ e. omega (arith, e, lt);
  first_third = λ e. omega (arith, e, lt);
  second_third = λ e. omega (arith, e, lt);
}

apart : (side a : ℕ) → 2 ≤ side → side ≤ 5 → a < resources_of side → AreApart (resources_of side) a ((a + 1) % resources_of side) ((a + side) % resources_of side)
apart zero a some few lt = absurd (omega (arith, some))
apart (suc zero) a some few lt = absurd (omega (arith, some))
apart (suc (suc zero)) a some few lt = apart_2 a lt
apart (suc (suc (suc zero))) a some few lt = apart_3 a lt
apart (suc (suc (suc (suc zero)))) a some few lt = apart_4 a lt
apart (suc (suc (suc (suc (suc zero))))) a some few lt = apart_5 a lt
apart (suc (suc (suc (suc (suc (suc n)))))) a some few lt = absurd (omega (arith, few))

-- one option, of a task that has none on this resource
one_joins : (r l t m k c q x : ℕ) (words : Stream) (i : ℕ) (s : Joining) → AreOf32Bits words → q < t → t ≤ 100 → x < r → r ≤ 100 → c < 1000 → Made r l t m k c s → All (IsOther q x) s.plan.options
    → Joins s (option_words words i q x) (option_of q x (1 + draw words 20 i) (1 + draw words 50 (i + 1)))
one_joins r l t m k c q x words i s h lt few on some room made free =
    let time = 1 + draw words 20 i in
    let energy = 1 + draw words 50 (i + 1) in
    let short = drawn words 20 i h (omega arith) in
    let low = drawn words 50 (i + 1) h (omega arith) in
    record {
      form = option_formed q x time energy (omega (arith, short)) (omega (arith, low));
      none = none_plain s (option_of q x time energy) (option_fine r l t m k c q x s (Some (amount time)) (weight (codes "energy") energy ∷ []) lt few on some room made free);
    }

-- the options of one task
task_carries : (side l t m q c : ℕ) (words : Stream) (s : Joining) → 2 ≤ side → side ≤ 5 → resources_of side ≤ 100 → 0 < resources_of side → AreOf32Bits words → q < t → t ≤ 100 → c + 3 < 1000
    → Made (resources_of side) l t m q c s
    → Carries s (map_lines side words q) (Made (resources_of side) l t m (q + 1) (c + 3))
task_carries side l t m q c words s some few r_few r_some h lt t_few room made =
    let r = resources_of side in
    let a = draw words r 0 in
    let b = (a + 1) % r in
    let d = (a + side) % r in
    let a_there = drawn words r 0 h r_some in
    let differ = apart side a some few a_there in
    let first = option_of q a (1 + draw words 20 1) (1 + draw words 50 (1 + 1)) in
    let second = option_of q b (1 + draw words 20 3) (1 + draw words 50 (3 + 1)) in
    let third = option_of q d (1 + draw words 20 5) (1 + draw words 50 (5 + 1)) in
    let s1 = effect s first in
    let s2 = effect s1 second in
    let time1 = Some (amount (1 + draw words 20 1)) in
    let time2 = Some (amount (1 + draw words 20 3)) in
    let time3 = Some (amount (1 + draw words 20 5)) in
    let ws1 = weight (codes "energy") (1 + draw words 50 (1 + 1)) ∷ [] in
    let ws2 = weight (codes "energy") (1 + draw words 50 (3 + 1)) ∷ [] in
    let ws3 = weight (codes "energy") (1 + draw words 50 (5 + 1)) ∷ [] in
    let free_a = free_before q a s.plan.options made.mapped.before in
    let free_b = free_after r l t m q c q a b s time1 ws1 a_there r_few differ.first_second made (free_before q b s.plan.options made.mapped.before) in
    let made1 = option_made r l t m q c q s (resource_name a) time1 ws1 lt t_few (omega arith) made in
    let free_d = free_after r l t m q c q a d s time1 ws1 a_there r_few differ.first_third made (free_before q d s.plan.options made.mapped.before) in
    let free_d2 = free_after r l t m (q + 1) (c + 1) q b d s1 time2 ws2 differ.second_there r_few differ.second_third made1 free_d in
    let made2 = option_made r l t m (q + 1) (c + 1) q s1 (resource_name b) time2 ws2 lt t_few (omega arith) made1 in
    let made3 = option_made r l t m (q + 1) (c + 1 + 1) q s2 (resource_name d) time3 ws3 lt t_few (omega arith) made2 in
    let three : c + 1 + 1 + 1 ≡ c + 3 = omega arith in (
      first,
      one_joins r l t m q c q a words 1 s h lt t_few a_there r_few (omega (arith, room)) made free_a,
      (
        second,
        one_joins r l t m (q + 1) (c + 1) q b words 3 s1 h lt t_few differ.second_there r_few (omega (arith, room)) made1 free_b,
        (
          third,
          one_joins r l t m (q + 1) (c + 1 + 1) q d words 5 s2 h lt t_few differ.third_there r_few (omega (arith, room)) made2 free_d2,
          subst (λ n. Made r l t m (q + 1) n (effect s2 third)) three made3,
        ),
      ),
    )

pub options_carry : (side l t m : ℕ) (words : Stream) (q n : ℕ) → q + n ≡ t → 2 ≤ side → side ≤ 5 → resources_of side ≤ 100 → 0 < resources_of side → t ≤ 100 → AreOf32Bits words
    → (s : Joining) → Made (resources_of side) l t m q (3 * q) s
    → Carries s (taking 7 (map_lines side) words (range_with_len q n)) (Made (resources_of side) l t m t (3 * t))
options_carry side l t m words q zero e some few r_few r_some t_few h s made = let same : q ≡ t = omega (arith, e) in subst (λ k. Made (resources_of side) l t m k (3 * k) s) same made
options_carry side l t m words q (suc n) e some few r_few r_some t_few h s made =
    let r = resources_of side in
    let three : 3 * q + 3 ≡ 3 * (q + 1) = omega arith in
    carries_on s (map_lines side words q) (taking 7 (map_lines side) (later 7 words) (range_with_len (q + 1) n)) (Made r l t m (q + 1) (3 * q + 3)) (Made r l t m t (3 * t))
    (task_carries side l t m q (3 * q) words s some few r_few r_some h (omega (arith, e)) t_few (omega (arith, e, t_few)) made)
    (λ u begun. options_carry side l t m (later 7 words) (q + 1) n (omega (arith, e)) some few r_few r_some t_few (later_words 7 words h) u (subst (λ c. Made r l t m (q + 1) c u) three begun))
