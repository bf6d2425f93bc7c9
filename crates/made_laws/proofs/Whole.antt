-- All lines of a made specification, on a mesh of each side.
use Rattle.std.proofs.Common.{◌≡◌, ℕ, suc, zero, ◌+◌, ◌<◌, ◌≤◌, Bool, true, false, not, ◌&&◌, List, [], ◌∷◌, ◌++◌, length, None, refl, arith, subst}
use Rattle.std.specs.Prelude.{nat_lt, nat_le, codes}
use Rattle.std.specs.List.{list_all, enumerate_from, flat_map}
use Rattle.std.specs.Fmt.{digits}
use Rattle.std.specs.Str.{bytes_eq}
use Rattle.std.proofs.lemmas.Bool.{and_parts, ltb-true, leb-true, not-true}
use Rattle.std.proofs.Math.Nat.{zero-add}
use Rattle.line_words.specs.Limits.{most_file_bytes}
use Rattle.line_words.specs.Rules.{Words}
use Rattle.spelled_lines.specs.Lines.{spelled}
use Rattle.file_bricks.specs.Headed.{after_header, end_after_header}
use Rattle.genotype.specs.Draws.{draw}
use Rattle.spec_model.specs.Spec.{below}
use Rattle.arch_reader.specs.Shapes.{form_of, keyword_of, objective_form, settings_of}
use Rattle.arch_reader.specs.Arch.{is_header, later as later_tests, at_end, arch_rules}
use Rattle.arch_reader.specs.Tests.{tests, has_bad_shape, has_bad_number, has_unknown_name, has_repeated_name, has_big_number}
use Rattle.arch_reader.specs.declared.seen.Seen.{Seen}
use Rattle.arch_reader.specs.declared.statement.Statement.TheVariants.{Objective}
use Rattle.arch_reader.proofs.Testing.{in_order}
use Rattle.spec_make.specs.Streams.{Stream, later, taking}
use Rattle.spec_make.specs.Mesh.{resources_of, tasks_of, all_ends, messages_of}
use Rattle.spec_make.specs.Made.{resource_name, resource_lines, link_lines, traffic_words, task_lines, message_lines, map_lines, made_lines}
use Rattle.made_laws.specs.Reading.{BreakNone, IsReadBack}
use Rattle.made_laws.specs.Unbroken.{AreOf32Bits, arch_tests}
use Rattle.made_laws.proofs.Spelled.{spelled_is_read}
use Rattle.made_laws.proofs.Short.{AreShortLines, IsShortLine, line_of_short, text_length}
use Rattle.made_laws.proofs.Steps.{Step, Goes, goes_on, one_step, break_none, short_lines}
use Rattle.made_laws.proofs.Lines.{having, declared, AreJoined, link_between, link_step, traffic_step, hops_step}
use Rattle.made_laws.proofs.Parts.{later_words, drawn, resources_go, links_go, tasks_go, may_receive, messages_go, options_go}

-- ---- the mesh

-- a test of each item
abbrev all_of : {X : Type 0} → List X → (X → Bool) → Bool
all_of xs p = list_all p xs

abbrev are_joined : ℕ → ℕ → ℕ → Bool
are_joined r a b = nat_lt r 26 && (nat_lt a r && (nat_lt b r && not (bytes_eq (resource_name a) (resource_name b))))

joined_of : (r a b : ℕ) → are_joined r a b ≡ true → AreJoined r a b
joined_of r a b h =
    let same = bytes_eq (resource_name a) (resource_name b) in
    let one = and_parts (nat_lt r 26) (nat_lt a r && (nat_lt b r && not same)) h in
    let two = and_parts (nat_lt a r) (nat_lt b r && not same) one.1 in
    let three = and_parts (nat_lt b r) (not same) two.1 in
    record { few = ltb-true r 26 one.0; first = ltb-true a r two.0; second = ltb-true b r three.0; two = not-true same three.1 }

-- what a mesh has
pub record IsMesh (side : ℕ) : Type 0 where
  pub some_resources : 0 < resources_of side
  pub few_resources : resources_of side ≤ 25
  pub few_links : length (all_ends side) ≤ 40
  pub joined : all_of (all_ends side) (λ j. are_joined (resources_of side) j.first j.second) ≡ true
  pub some_tasks : 0 < tasks_of side
  pub few_tasks : tasks_of side ≤ 46
  pub messages : list_all may_receive (messages_of (tasks_of side)) ≡ true

mesh_2 : IsMesh 2
unfolding digits
mesh_2 = record { some_resources = omega arith; few_resources = omega arith; few_links = omega arith; joined = refl; some_tasks = omega arith; few_tasks = omega arith; messages = refl }

mesh_3 : IsMesh 3
unfolding digits
mesh_3 = record { some_resources = omega arith; few_resources = omega arith; few_links = omega arith; joined = refl; some_tasks = omega arith; few_tasks = omega arith; messages = refl }

mesh_4 : IsMesh 4
unfolding digits
mesh_4 = record { some_resources = omega arith; few_resources = omega arith; few_links = omega arith; joined = refl; some_tasks = omega arith; few_tasks = omega arith; messages = refl }

mesh_5 : IsMesh 5
unfolding digits
mesh_5 = record { some_resources = omega arith; few_resources = omega arith; few_links = omega arith; joined = refl; some_tasks = omega arith; few_tasks = omega arith; messages = refl }

pub mesh : (side : ℕ) → 2 ≤ side → side ≤ 5 → IsMesh side
mesh zero some few = absurd (omega (arith, some))
mesh (suc zero) some few = absurd (omega (arith, some))
mesh (suc (suc zero)) some few = mesh_2
mesh (suc (suc (suc zero))) some few = mesh_3
mesh (suc (suc (suc (suc zero)))) some few = mesh_4
mesh (suc (suc (suc (suc (suc zero))))) some few = mesh_5
mesh (suc (suc (suc (suc (suc (suc n)))))) some few = absurd (omega (arith, few))

-- ---- all lines after the header

abbrev pub nothing : Seen
nothing = record { objectives = []; resources = []; links = []; clock = None; is_timed = false }

abbrev cost_alone : Seen
cost_alone = record { objectives = declared (codes "cost") ∷ []; resources = []; links = []; clock = None; is_timed = false }

cost_step : Step nothing (codes "objective" ∷ codes "cost" ∷ []) cost_alone
unfolding form_of keyword_of objective_form settings_of tests has_bad_shape has_bad_number has_unknown_name has_repeated_name has_big_number
cost_step = record { statement = Objective (codes "cost") None false; line = record { words = refl; some = omega arith; few = omega arith }; form = refl; fine = refl; declared = refl }

energy_step : Step cost_alone (codes "objective" ∷ codes "energy" ∷ []) (having 0 0 false)
unfolding form_of keyword_of objective_form settings_of tests has_bad_shape has_bad_number has_unknown_name has_repeated_name has_big_number
energy_step = record { statement = Objective (codes "energy") None false; line = record { words = refl; some = omega arith; few = omega arith }; form = refl; fine = refl; declared = refl }

link_pair : (r : ℕ) (words : Stream) (e a b : ℕ) → AreOf32Bits words → e < 40 → are_joined r a b ≡ true
    → Goes (having r e false) (link_between e a b (1 + draw words 9 0) ∷ traffic_words e ∷ []) (having r (e + 1) false)
link_pair r words e a b h few joined =
    let cost = drawn words 9 0 h (omega arith) in (
      having r (e + 1) false,
      link_step r e a b (1 + draw words 9 0) (joined_of r a b joined) few (omega (arith, cost)),
      one_step (having r (e + 1) false) (having r (e + 1) false) (traffic_words e) (traffic_step r e few),
    )

-- all parts after the objectives
abbrev pub parts_of : ℕ → Stream → List Words
parts_of side words =
    let joined = all_ends side in
    let messages = messages_of (tasks_of side) in
    let links_from = resources_of side in
    let messages_from = links_from + length joined in
    let maps_from = messages_from + length messages in
    taking 1 resource_lines words (below (resources_of side))
    ++ taking 1 link_lines (later links_from words) (enumerate_from 0 joined)
    ++ task_lines side
    ++ taking 1 (message_lines (tasks_of side)) (later messages_from words) messages
    ++ taking 7 (map_lines side) (later maps_from words) (below (tasks_of side))

resources_part : (side : ℕ) (words : Stream) → IsMesh side → AreOf32Bits words → Goes (having 0 0 false) (taking 1 resource_lines words (below (resources_of side)))
    (having (resources_of side) 0 false)
resources_part side words m h =
    subst (λ k. Goes (having 0 0 false) (taking 1 resource_lines words (below (resources_of side))) (having k 0 false)) (zero-add (resources_of side))
    (resources_go words 0 (resources_of side) h (omega (arith, m.few_resources)))

links_part : (side : ℕ) (words : Stream) → IsMesh side → AreOf32Bits words
    → Goes (having (resources_of side) 0 false) (taking 1 link_lines words (enumerate_from 0 (all_ends side))) (having (resources_of side) (length (all_ends side)) false)
links_part side words m h =
    let r = resources_of side in
    subst (λ k. Goes (having r 0 false) (taking 1 link_lines words (enumerate_from 0 (all_ends side))) (having r k false)) (zero-add (length (all_ends side)))
    (links_go link_lines (λ j. are_joined r j.first j.second) r (λ ws e j so few good. link_pair r ws e j.first j.second so few good) words 0 (all_ends side) h (omega (arith, m.few_links)) m.joined)

tasks_part : (side r l : ℕ) → side ≤ 5 → IsMesh side → Goes (having r l false) (task_lines side) (having r l false)
tasks_part side r l few m = (having r l false, hops_step r l side few, tasks_go r l 0 (tasks_of side) (omega (arith, m.few_tasks)))

maps_part : (side l : ℕ) (words : Stream) → IsMesh side → AreOf32Bits words → Goes (having (resources_of side) l false) (taking 7 (map_lines side) words (below (tasks_of side)))
    (having (resources_of side) l true)
maps_part side l words m h = options_go side l words (tasks_of side) h m.some_resources (omega (arith, m.few_resources)) m.some_tasks (omega (arith, m.few_tasks))

parts_go : (side : ℕ) (words : Stream) → side ≤ 5 → IsMesh side → AreOf32Bits words → Goes (having 0 0 false) (parts_of side words) (having (resources_of side) (length (all_ends side)) true)
parts_go side words few m h =
    let messages = messages_of (tasks_of side) in
    let r = resources_of side in
    let l = length (all_ends side) in
    let start = having 0 0 false in
    let linked = having r l false in
    let end = having r l true in
    let messages_words = later (r + l) words in
    let maps_words = later (r + l + length messages) words in
    let a = taking 1 resource_lines words (below r) in
    let b = taking 1 link_lines (later r words) (enumerate_from 0 (all_ends side)) in
    let c = task_lines side in
    let d = taking 1 (message_lines (tasks_of side)) messages_words messages in
    let e = taking 7 (map_lines side) maps_words (below (tasks_of side)) in
    let resources = resources_part side words m h in
    let links = goes_on start (having r 0 false) linked a b resources (links_part side (later r words) m (later_words r words h)) in
    let tasks = goes_on start linked linked (a ++ b) c links (tasks_part side r l few m) in
    let sent = goes_on start linked linked (a ++ b ++ c) d tasks (messages_go r l (tasks_of side) messages_words messages (later_words (r + l) words h) m.messages) in
    goes_on start linked end (a ++ b ++ c ++ d) e sent (maps_part side l maps_words m (later_words (r + l + length messages) words h))

-- the objectives before them
abbrev pub later_lines : ℕ → Stream → List Words
later_lines side words = (codes "objective" ∷ codes "cost" ∷ []) ∷ (codes "objective" ∷ codes "energy" ∷ []) ∷ parts_of side words

abbrev pub at_last : ℕ → Seen
at_last side = having (resources_of side) (length (all_ends side)) true

pub later_go : (side : ℕ) (words : Stream) → side ≤ 5 → IsMesh side → AreOf32Bits words → Goes nothing (later_lines side words) (at_last side)
later_go side words few m h = (cost_alone, cost_step, (having 0 0 false, energy_step, parts_go side words few m h))

-- ---- the whole file

abbrev header : Words
header = codes "arch" ∷ codes "1" ∷ []

header_line : IsShortLine header
header_line = record { words = refl; some = omega arith; few = omega arith }

pub lines_break_none : (side : ℕ) (words : Stream) → 2 ≤ side → side ≤ 5 → AreOf32Bits words → BreakNone arch_tests 1 [] (made_lines side words)
lines_break_none side words some few h =
    let goes = later_go side words few (mesh side some few) h in
    (line_of_short header header_line, (refl, break_none (record { number = 1; words = header }) 2 [] nothing (at_last side) (later_lines side words) refl goes))

few_lines_in : (side : ℕ) (words : Stream) → 2 ≤ side → side ≤ 5 → nat_le (length (made_lines side words)) 400 ≡ true
few_lines_in zero words some few = absurd (omega (arith, some))
few_lines_in (suc zero) words some few = absurd (omega (arith, some))
few_lines_in (suc (suc zero)) words some few = refl
few_lines_in (suc (suc (suc zero))) words some few = refl
few_lines_in (suc (suc (suc (suc zero)))) words some few = refl
few_lines_in (suc (suc (suc (suc (suc zero))))) words some few = refl
few_lines_in (suc (suc (suc (suc (suc (suc n)))))) words some few = absurd (omega (arith, few))

pub short_text : (side : ℕ) (words : Stream) → 2 ≤ side → side ≤ 5 → AreOf32Bits words → length (flat_map spelled (made_lines side words)) ≤ most_file_bytes
short_text side words some few h =
    let goes = later_go side words few (mesh side some few) h in
    let lines_short : AreShortLines (made_lines side words) = (header_line, short_lines nothing (at_last side) (later_lines side words) goes) in
    let long = text_length (made_lines side words) lines_short in
    let count = leb-true (length (made_lines side words)) 400 (few_lines_in side words some few) in
    omega (arith, long, count)

pub read_back : (side : ℕ) (words : Stream) → 2 ≤ side → side ≤ 5 → AreOf32Bits words → IsReadBack arch_rules (made_lines side words)
read_back side words some few h = spelled_is_read (after_header is_header later_tests) (end_after_header at_end) (made_lines side words) in_order (lines_break_none side words some few h) refl
