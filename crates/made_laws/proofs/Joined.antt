-- What the text of each number states is joined to no task graphs, and is refused nowhere.
use Rattle.std.proofs.Common.{◌≡◌, ℕ, ◌+◌, ◌*◌, ◌≤◌, Bool, true, false, List, [], ◌∷◌, ◌++◌, length, None, Some, Ok, Err, Result, refl, sym, ap, ◌∙◌, subst, arith, ⊎_elim}
use Rattle.std.specs.Prelude.{codes}
use Rattle.std.specs.List.{enumerate_from}
use Rattle.std.proofs.lemmas.List.Elements.{All-nil}
use Rattle.line_words.specs.Text.{lines}
use Rattle.line_words.specs.Rules.{statements, HasNoFault}
use Rattle.line_words.specs.Reads.{Reads}
use Rattle.line_words.specs.declared.refusals.FileTag.TheVariants as files
use Rattle.line_words.proofs.FirstLine.{lines-nil}
use Rattle.line_words.specs.declared.refusals.ReadFault.{ReadFault}
use Rattle.line_words.specs.declared.refusals.ReadFault.TheVariants.{Refused, NoMemory}
use Rattle.spec_model.specs.Spec.{SpecValue, below}
use Rattle.arch_reader.specs.Shapes.{form_of, keyword_of, objective_form, settings_of, plain}
use Rattle.arch_reader.specs.Seen.{seen}
use Rattle.arch_reader.specs.Arch.{ArchValue, arch_rules, lines_in, arch_stated, lines_of, statements_in}
use Rattle.tgff_reader.specs.Tgff.{tgff_rules, graphs_stated}
use Rattle.arch_reader.specs.declared.seen.Seen.{Seen}
use Rattle.arch_reader.specs.declared.statement.Statement.TheVariants.{Objective}
use Rattle.spec_join.specs.Joining.{Joining, start}
use Rattle.spec_join.specs.Reading.{after_all, JoinReads}
use Rattle.spec_join.proofs.Breaking.{none_plain}
use Rattle.spec_make.specs.Streams.{Stream, later, taking}
use Rattle.spec_make.specs.Mesh.{side_of, resources_of, tasks_of, all_ends, messages_of}
use Rattle.spec_make.specs.Made.{resource_lines, link_lines, task_lines, message_lines, map_lines, words_of_seed, made_text}
use Rattle.made_laws.specs.Reading.{numbered}
use Rattle.made_laws.specs.Unbroken.{AreOf32Bits}
use Rattle.made_laws.specs.Joined.{no_graphs, made_statements, AreAccepted, IsNoRefusal, NoBytesAreNoGraphs, MadeTextIsRead, MadeTextIsAccepted, MadeTextIsJoined}
use Rattle.made_laws.proofs.Steps.{seen_after}
use Rattle.made_laws.proofs.Lines.{having}
use Rattle.made_laws.proofs.Parts.{later_words}
use Rattle.made_laws.proofs.Whole.{IsMesh, mesh, parts_of, nothing, later_lines, at_last as all_seen, later_go}
use Rattle.made_laws.proofs.Numbers.{words_small, some_side, few_side, made_read}
use Rattle.made_laws.proofs.Forward.{IsForward}
use Rattle.made_laws.proofs.Made.{Made, IsLow, IsNamedBelow, IsOfTaskBelow}
use Rattle.made_laws.proofs.Accepted.{objective_fine}
use Rattle.made_laws.proofs.Carried.{Carries, carries_on, none_of, at_last, none_in_file, made_of_file}
use Rattle.made_laws.proofs.Carrying.{resources_carry, link_carries, links_carry, tasks_carry, messages_carry, options_carry}
use Rattle.made_laws.proofs.Ended.{none_at_end}

-- ---- the objectives

cost_formed : form_of (codes "objective" ∷ codes "cost" ∷ []) ≡ Some (plain (Objective (codes "cost") None false))
unfolding form_of keyword_of objective_form settings_of
cost_formed = refl

energy_formed : form_of (codes "objective" ∷ codes "energy" ∷ []) ≡ Some (plain (Objective (codes "energy") None false))
unfolding form_of keyword_of objective_form settings_of
energy_formed = refl

-- before the first line there is nothing but the objectives
start_made : (r l : ℕ) (timed : Bool) → Made 0 0 0 0 0 0 (start no_graphs (having r l timed))
start_made r l timed = record {
  scales = refl;
  mesh = record { named = refl; few_links = omega arith; few_arcs = omega arith; low = All-nil IsLow };
  tasks = refl;
  sent = record { named = All-nil (IsNamedBelow 0); few = omega arith; forward = All-nil IsForward };
  mapped = record { before = All-nil (IsOfTaskBelow 0); few = omega arith };
}

-- ---- all parts

-- what all lines make, on a mesh of a side
abbrev MadeAll : ℕ → Joining → Type 0
MadeAll side s = Made (resources_of side) (length (all_ends side)) (tasks_of side) (tasks_of side) (tasks_of side) (3 * tasks_of side) s

parts_carry : (side : ℕ) (words : Stream) → 2 ≤ side → side ≤ 5 → IsMesh side → AreOf32Bits words → (s : Joining) → Made 0 0 0 0 0 0 s → Carries s (parts_of side words) (MadeAll side)
parts_carry side words some few m h s made =
    let messages = messages_of (tasks_of side) in
    let r = resources_of side in
    let l = length (all_ends side) in
    let t = tasks_of side in
    let links_words = later r words in
    let messages_words = later (r + l) words in
    let maps_words = later (r + l + length messages) words in
    let a = taking 1 resource_lines words (below r) in
    let b = taking 1 link_lines links_words (enumerate_from 0 (all_ends side)) in
    let c = task_lines side in
    let d = taking 1 (message_lines t) messages_words messages in
    let e = taking 7 (map_lines side) maps_words (below t) in
    let with_resources : Joining → Type 0 = Made r 0 0 0 0 0 in
    let with_links : Joining → Type 0 = Made r l 0 0 0 0 in
    let with_tasks : Joining → Type 0 = Made r l t 0 0 0 in
    let with_messages : Joining → Type 0 = Made r l t t 0 0 in
    let few_t : t ≤ 100 = omega (arith, m.few_tasks) in
    let resources = resources_carry words 0 r r (omega arith) h s made in
    let links = carries_on s a b with_resources with_links resources
    (λ u g. links_carry link_lines r (λ ws i j so v k. link_carries r ws i j.first j.second so v k) links_words 0 (all_ends side) l (omega arith) (later_words r words h) u g) in
    let tasks = carries_on s (a ++ b) c with_links with_tasks links (λ u g. tasks_carry r l side few few_t u g) in
    let sent = carries_on s (a ++ b ++ c) d with_tasks with_messages tasks (λ u g. messages_carry r l t messages_words m.some_tasks few_t (later_words (r + l) words h) u g) in
    carries_on s (a ++ b ++ c ++ d) e with_messages (MadeAll side) sent
    (λ u g. options_carry side l t t maps_words 0 t (omega arith) some few (omega (arith, m.few_resources)) m.some_resources few_t (later_words (r + l + length messages) words h) u g)

-- ---- all statements

lines_accepted : (side : ℕ) (words : Stream) → 2 ≤ side → side ≤ 5 → AreOf32Bits words → AreAccepted no_graphs (lines_of (numbered 2 (later_lines side words)))
lines_accepted side words some few h =
    let m = mesh side some few in
    let ls = lines_of (numbered 2 (later_lines side words)) in
    let declared = seen_after 2 [] nothing (all_seen side) (later_lines side words) refl (later_go side words few m h) in
    let s = start no_graphs (seen (statements_in ls)) in
    let made = subst (λ (x : Seen). Made 0 0 0 0 0 0 (start no_graphs x)) (sym declared) (start_made (resources_of side) (length (all_ends side)) true) in
    let cost = Objective (codes "cost") None false in
    let energy = Objective (codes "energy") None false in
    let carried : Carries s (later_lines side words) (MadeAll side) = (
      cost,
      record { form = cost_formed; none = none_plain s cost (objective_fine s (codes "cost") None false) },
      (energy, record { form = energy_formed; none = none_plain s energy (objective_fine s (codes "energy") None false) }, parts_carry side words some few m h s made),
    ) in
    let few_messages : tasks_of side ≤ 50 = omega (arith, m.few_tasks) in
    let few_options : 3 * tasks_of side ≤ 150 = omega (arith, m.few_tasks) in
    let t = tasks_of side in
    let all = subst (MadeAll side) (made_of_file no_graphs ls) (at_last s 2 (later_lines side words) (MadeAll side) carried) in
    record {
      none = none_in_file no_graphs ls (none_of s 2 (later_lines side words) (MadeAll side) carried);
      none_at_end = none_at_end (resources_of side) (length (all_ends side)) t t t (3 * t) (after_all no_graphs ls) m.few_resources m.few_links few_messages few_options all;
    }

pub made_accepted : MadeTextIsAccepted
made_accepted number =
    let side = side_of number in
    let words = words_of_seed number in
    let read = made_read number in
    let same : made_statements number ≡ lines_of (numbered 2 (later_lines side words)) = ap arch_stated read.stated in
    subst (AreAccepted no_graphs) (sym same) (lines_accepted side words (some_side number) (few_side number) (words_small number))

-- ---- what reading and joining answer

pub no_bytes : NoBytesAreNoGraphs
no_bytes tgff reads = reads.1 ∙ ap (λ (ls : List (List ℕ)). graphs_stated (statements tgff_rules ls)) lines-nil

not_refused : (number : ℕ) (reading : Result ArchValue ReadFault) → HasNoFault arch_rules (lines (made_text number))
    → Reads files.Arch arch_rules lines_in arch_stated (lines (made_text number)) reading
    → IsNoRefusal reading
not_refused number (Ok file) whole reads = tt
not_refused number (Err NoMemory) whole reads = tt
not_refused number (Err (Refused r)) whole reads = whole r.line r.why reads.1.holds

pub made_is_read : MadeTextIsRead
made_is_read number reading reads = not_refused number reading (made_read number).unbroken reads

no_refusal : (file : ArchValue) (answer : Result SpecValue ReadFault) → AreAccepted no_graphs file.lines → JoinReads no_graphs file answer → IsNoRefusal answer
no_refusal file (Ok spec) h reads = tt
no_refusal file (Err NoMemory) h reads = tt
no_refusal file (Err (Refused r)) h reads = ⊎_elim (λ at. h.none at.place r.why at.within at.here.holds) (λ end. h.none_at_end r.why end.here.holds) reads.1

pub made_joined : MadeTextIsJoined
made_joined number file answer read reads = no_refusal file answer (subst (AreAccepted no_graphs) (sym read.1) (made_accepted number)) reads
