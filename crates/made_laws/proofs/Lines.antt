-- Each kind of made line has its form, breaks no rule, and declares what it says.
use Rattle.std.proofs.Common.{◌≡◌, ℕ, ◌+◌, ◌*◌, ◌<◌, ◌≤◌, Bool, true, false, List, [], ◌∷◌, ◌++◌, Some, None, refl, ap, ◌∙◌, arith, append-nil}
use Rattle.std.specs.Prelude.{ℤ, decimal, codes, if◌then◌else◌}
use Rattle.line_words.specs.Rules.{Words, first_broken}
use Rattle.file_bricks.specs.Numbers.{decimal_in}
use Rattle.file_bricks.proofs.Written.{whole_of-decimal}
use Rattle.arch_reader.specs.Shapes.{form_of, keyword_of, resource_form, link_form, traffic_form, task_form, message_form, map_form, hops_form, plain}
use Rattle.arch_reader.specs.Numbers.{amounts}
use Rattle.arch_reader.specs.Seen.{after}
use Rattle.arch_reader.specs.Tests.{tests, has_bad_shape, has_bad_number, has_unknown_name, has_repeated_name, has_big_number}
use Rattle.arch_reader.specs.declared.statement.Statement.{Statement}
use Rattle.arch_reader.specs.declared.statement.Statement.TheVariants.{Resource, Link, Traffic, Task, Message, Map, Hops}
use Rattle.arch_reader.specs.declared.statement.KeyAmount.{KeyAmount}
use Rattle.arch_reader.specs.declared.seen.Objective.{Objective as Declared}
use Rattle.arch_reader.specs.declared.seen.Seen.{Seen}
use Rattle.std.specs.Str.{bytes_eq}
use Rattle.spec_make.specs.Made.{resource_name, link_name, task_name, message_name, resource_words, traffic_words, hops_words, task_words, map_words}
use Rattle.made_laws.proofs.Short.{IsShortLine}
use Rattle.made_laws.proofs.Small.{number}
use Rattle.made_laws.proofs.Names.{resources, links, resources_more, links_more, short_decimal, short_cost, short_energy, short_time, good_resource, good_link, good_task, good_message, new_resource, new_link, known_resource, known_link}
use Rattle.made_laws.proofs.Steps.{Step}

-- ---- what is declared

abbrev pub declared : List ℕ → Declared
declared name = record { name = name; scale = 0; floor = false }

abbrev pub objectives : List Declared
objectives = declared (codes "cost") ∷ declared (codes "energy") ∷ []

-- two objectives, so many resources and links, and whether a line had a time
abbrev pub with_names : List (List ℕ) → List (List ℕ) → Bool → Seen
with_names rs ls timed = record { objectives = objectives; resources = rs; links = ls; clock = None; is_timed = timed }

abbrev pub having : ℕ → ℕ → Bool → Seen
having r l timed = with_names (resources r) (links l) timed

same_names : (rs rs' ls ls' : List (List ℕ)) (timed : Bool) → rs ≡ rs' → ls ≡ ls' → with_names rs ls timed ≡ with_names rs' ls' timed
same_names rs rs' ls ls' timed e f = ap (λ x. with_names x ls timed) e ∙ ap (λ x. with_names rs' x timed) f

abbrev pub amount : ℕ → ℤ
amount n = decimal_in (decimal n)

abbrev pub weight : List ℕ → ℕ → KeyAmount
weight key n = record { key = key; amount = amount n }

-- ---- resources

abbrev pub resource_of : ℕ → ℕ → Statement
resource_of i cost = Resource (resource_name i) (weight (codes "cost") cost ∷ [])

pub resource_formed : (i cost : ℕ) → cost < 100 → form_of (resource_words i cost) ≡ Some (plain (resource_of i cost))
unfolding form_of keyword_of resource_form amounts
resource_formed i cost lt = rw ((number cost lt).read) refl

resource_fine : (i l cost : ℕ) (timed : Bool) → i < 25 → cost < 100 → first_broken (tests (having i l timed) (Some (plain (resource_of i cost)))) ≡ None
unfolding tests has_bad_shape has_bad_number has_unknown_name has_repeated_name has_big_number
resource_fine i l cost timed few lt =
    let n = number cost lt in
    let new = new_resource i few in
    let good = good_resource i (omega (arith, few)) in
    rw (n.positive, n.whole, n.low, new.undeclared, new.few, good.few) refl

resource_then : (i l cost : ℕ) (timed : Bool) → after (having i l timed) (resource_of i cost) ≡ having (i + 1) l timed
resource_then i l cost true = same_names _ _ _ _ true (resources_more i) (append-nil (links l))
resource_then i l cost false = same_names _ _ _ _ false (resources_more i) (append-nil (links l))

pub resource_step : (i l cost : ℕ) (timed : Bool) → i < 25 → cost < 100 → Step (having i l timed) (resource_words i cost) (having (i + 1) l timed)
resource_step i l cost timed few lt =
    let good = good_resource i (omega (arith, few)) in
    let short = short_cost cost lt in
    record {
      statement = resource_of i cost;
      line = record { words = rw (good.short, short) refl; some = omega arith; few = omega arith };
      form = resource_formed i cost lt;
      fine = resource_fine i l cost timed few lt;
      declared = resource_then i l cost timed;
    }

-- what declares no name leaves what is declared
same_then : (r l : ℕ) (timed : Bool) → with_names (resources r ++ []) (links l ++ []) timed ≡ having r l timed
same_then r l timed = same_names _ _ _ _ timed (append-nil (resources r)) (append-nil (links l))

-- ---- links

abbrev pub link_between : ℕ → ℕ → ℕ → ℕ → Words
link_between e a b cost = codes "link" ∷ link_name e ∷ resource_name a ∷ codes "--" ∷ resource_name b ∷ (codes "cost" ++ 61 ∷ decimal cost) ∷ []

abbrev pub link_of : ℕ → ℕ → ℕ → ℕ → Statement
link_of e a b cost = Link (link_name e) (resource_name a) (resource_name b) true (weight (codes "cost") cost ∷ [])

pub link_formed : (e a b cost : ℕ) → cost < 100 → form_of (link_between e a b cost) ≡ Some (plain (link_of e a b cost))
unfolding form_of keyword_of link_form amounts
link_formed e a b cost lt = rw ((number cost lt).read) refl

-- two resources that are there and aren't the same
pub record AreJoined (r a b : ℕ) : Type 0 where
  pub few : r < 26
  pub first : a < r
  pub second : b < r
  pub two : bytes_eq (resource_name a) (resource_name b) ≡ false

link_fine : (r e a b cost : ℕ) → AreJoined r a b → e < 40 → cost < 100 → first_broken (tests (having r e false) (Some (plain (link_of e a b cost)))) ≡ None
unfolding tests has_bad_shape has_bad_number has_unknown_name has_repeated_name has_big_number
link_fine r e a b cost joined few lt =
    let n = number cost lt in
    let new = new_link e few in
    let good = good_link e (omega (arith, few)) in
    let first = known_resource r a joined.few joined.first in
    let second = known_resource r b joined.few joined.second in
    rw (n.positive, n.whole, n.low, first, second, new.undeclared, new.few, good.few, joined.two) refl

link_then : (r e a b cost : ℕ) → after (having r e false) (link_of e a b cost) ≡ having r (e + 1) false
link_then r e a b cost = same_names _ _ _ _ false (append-nil (resources r)) (links_more e)

pub link_step : (r e a b cost : ℕ) → AreJoined r a b → e < 40 → cost < 100 → Step (having r e false) (link_between e a b cost) (having r (e + 1) false)
link_step r e a b cost joined few lt =
    let good = good_link e (omega (arith, few)) in
    let first = good_resource a (omega (arith, joined.few, joined.first)) in
    let second = good_resource b (omega (arith, joined.few, joined.second)) in
    let short = short_cost cost lt in
    record {
      statement = link_of e a b cost;
      line = record { words = rw (good.short, first.short, second.short, short) refl; some = omega arith; few = omega arith };
      form = link_formed e a b cost lt;
      fine = link_fine r e a b cost joined few lt;
      declared = link_then r e a b cost;
    }

-- ---- traffic

abbrev pub traffic_of : ℕ → Statement
traffic_of e = Traffic (link_name e) (weight (codes "energy") 1 ∷ [])

pub traffic_formed : (e : ℕ) → form_of (traffic_words e) ≡ Some (plain (traffic_of e))
unfolding form_of keyword_of traffic_form amounts
traffic_formed e = let n = number 1 (omega arith) in rw (n.read) refl

traffic_fine : (r e : ℕ) → e < 40 → first_broken (tests (having r (e + 1) false) (Some (plain (traffic_of e)))) ≡ None
unfolding tests has_bad_shape has_bad_number has_unknown_name has_repeated_name has_big_number
traffic_fine r e few =
    let n = number 1 (omega arith) in
    let known = known_link e few in
    rw (n.positive, n.whole, n.low, known) refl

pub traffic_step : (r e : ℕ) → e < 40 → Step (having r (e + 1) false) (traffic_words e) (having r (e + 1) false)
traffic_step r e few =
    let good = good_link e (omega (arith, few)) in
    let short = short_energy 1 (omega arith) in
    record {
      statement = traffic_of e;
      line = record { words = rw (good.short, short) refl; some = omega arith; few = omega arith };
      form = traffic_formed e;
      fine = traffic_fine r e few;
      declared = same_then r (e + 1) false;
    }

-- ---- tasks

pub hops_formed : (n : ℕ) → n < 100 → form_of (codes "hops" ∷ decimal n ∷ []) ≡ Some (plain (Hops None n))
unfolding form_of keyword_of hops_form
hops_formed n lt = let whole = whole_of-decimal n (omega (arith, lt)) in rw whole refl

hops_fine : (r l n : ℕ) → first_broken (tests (having r l false) (Some (plain (Hops None n)))) ≡ None
unfolding tests has_bad_shape has_bad_number has_unknown_name has_repeated_name has_big_number
hops_fine r l n = refl

pub hops_step : (r l side : ℕ) → side ≤ 5 → Step (having r l false) (hops_words side) (having r l false)
hops_step r l side few =
    let short = short_decimal (2 * side) (omega (arith, few)) in
    record {
      statement = Hops None (2 * side);
      line = record { words = rw short refl; some = omega arith; few = omega arith };
      form = hops_formed (2 * side) (omega (arith, few));
      fine = hops_fine r l (2 * side);
      declared = same_then r l false;
    }

pub task_formed : (i : ℕ) → form_of (task_words i) ≡ Some (plain (Task (task_name i)))
unfolding form_of keyword_of task_form
task_formed i = refl

task_fine : (r l i : ℕ) → i < 100 → first_broken (tests (having r l false) (Some (plain (Task (task_name i))))) ≡ None
unfolding tests has_bad_shape has_bad_number has_unknown_name has_repeated_name has_big_number
task_fine r l i lt = let good = good_task i lt in rw (good.few) refl

pub task_step : (r l i : ℕ) → i < 100 → Step (having r l false) (task_words i) (having r l false)
task_step r l i lt =
    let good = good_task i lt in
    record {
      statement = Task (task_name i);
      line = record { words = rw (good.short) refl; some = omega arith; few = omega arith };
      form = task_formed i;
      fine = task_fine r l i lt;
      declared = same_then r l false;
    }

-- ---- messages

-- to one task or two
abbrev pub receiving : Bool → ℕ → Words
receiving two i = task_name i ∷ (if two then task_name (i + 1) ∷ [] else [])

abbrev pub message_with : Bool → ℕ → ℕ → Words
message_with two i sender = codes "message" ∷ message_name i ∷ task_name sender ∷ codes "->" ∷ receiving two i

abbrev pub message_of : Bool → ℕ → ℕ → Statement
message_of two i sender = Message (message_name i) (task_name sender) (receiving two i)

pub message_formed : (two : Bool) (i sender : ℕ) → form_of (message_with two i sender) ≡ Some (plain (message_of two i sender))
unfolding form_of keyword_of message_form
message_formed true i sender = refl
message_formed false i sender = refl

message_fine : (r l : ℕ) (two : Bool) (i sender : ℕ) → i < 100 → first_broken (tests (having r l false) (Some (plain (message_of two i sender)))) ≡ None
unfolding tests has_bad_shape has_bad_number has_unknown_name has_repeated_name has_big_number
message_fine r l two i sender lt = let good = good_message i lt in rw (good.few) refl

message_line : (two : Bool) (i sender : ℕ) → i + 1 < 100 → sender < 100 → IsShortLine (message_with two i sender)
message_line true i sender lt low =
    let good = good_message i (omega (arith, lt)) in
    let from = good_task sender low in
    let next = good_task (i + 1) lt in
    record { words = rw (good.short, from.short, next.short) refl; some = omega arith; few = omega arith }
message_line false i sender lt low =
    let good = good_message i (omega (arith, lt)) in
    let from = good_task sender low in
    record { words = rw (good.short, from.short) refl; some = omega arith; few = omega arith }

pub message_step : (r l : ℕ) (two : Bool) (i sender : ℕ) → i + 1 < 100 → sender < 100 → Step (having r l false) (message_with two i sender) (having r l false)
message_step r l two i sender lt low = record {
  statement = message_of two i sender;
  line = message_line two i sender lt low;
  form = message_formed two i sender;
  fine = message_fine r l two i sender (omega (arith, lt));
  declared = same_then r l false;
}

-- ---- options

abbrev pub option_of : ℕ → ℕ → ℕ → ℕ → Statement
option_of t r time energy = Map (task_name t) (resource_name r) (Some (amount time)) (weight (codes "energy") energy ∷ [])

pub option_formed : (t r time energy : ℕ) → time < 100 → energy < 100 → form_of (map_words t r time energy) ≡ Some (plain (option_of t r time energy))
unfolding form_of keyword_of map_form amounts
option_formed t r time energy lt low =
    let n = number time lt in
    let m = number energy low in
    rw (n.read, m.read) refl

option_fine : (n l : ℕ) (timed : Bool) (t r time energy : ℕ) → n < 26 → r < n → time < 100 → energy < 100 → first_broken (tests (having n l timed) (Some (plain (option_of t r time energy)))) ≡ None
unfolding tests has_bad_shape has_bad_number has_unknown_name has_repeated_name has_big_number
option_fine n l timed t r time energy few lt small low =
    let a = number time small in
    let b = number energy low in
    let known = known_resource n r few lt in
    rw (a.positive, a.low, b.positive, b.whole, b.low, known) refl

option_then : (n l : ℕ) (timed : Bool) (t r time energy : ℕ) → after (having n l timed) (option_of t r time energy) ≡ having n l true
option_then n l true t r time energy = same_then n l true
option_then n l false t r time energy = same_then n l true

pub option_step : (n l : ℕ) (timed : Bool) (t r time energy : ℕ) → n < 26 → r < n → t < 100 → time < 100 → energy < 100 → Step (having n l timed) (map_words t r time energy) (having n l true)
option_step n l timed t r time energy few lt task small low =
    let on = good_resource r (omega (arith, few, lt)) in
    let for = good_task t task in
    let takes = short_time time small in
    let costs = short_energy energy low in
    record {
      statement = option_of t r time energy;
      line = record { words = rw (for.short, on.short, takes, costs) refl; some = omega arith; few = omega arith };
      form = option_formed t r time energy small low;
      fine = option_fine n l timed t r time energy few lt small low;
      declared = option_then n l timed t r time energy;
    }
