-- What a plan keeps of what stood before the graphs, and how much the graphs add.
use Rattle.std.proofs.Common.{◌≡◌, ℕ, ◌+◌, List, [], ◌∷◌, length, map, refl, arith, length-append}
use Rattle.std.proofs.lemmas.List.{length-map}
use Rattle.spec_model.specs.Spec.{SpecValue}
use Rattle.tgff_reader.specs.declared.file.Graph.{Graph}
use Rattle.graph_plan.specs.Graphs.{task_in, planned_message, with_graph, with_graphs, kind_of_task, kind_of_arc, kinds_of_tasks, kinds_of_arcs, task_kinds, message_kinds}

-- the graphs change neither objectives nor resources nor links
pub record GraphsKeep (old new : SpecValue) : Type 0 where
  pub objectives : new.objectives ≡ old.objectives
  pub resources : new.resources ≡ old.resources
  pub links : new.links ≡ old.links

pub graphs_keep : (clock : ℕ) (p : SpecValue) (gs : List Graph) → GraphsKeep p (with_graphs clock p gs)
graphs_keep clock p [] = record { objectives = refl; resources = refl; links = refl }
graphs_keep clock p (g ∷ gs) =
    let r = graphs_keep clock (with_graph clock p g) gs in
    record { objectives = r.objectives; resources = r.resources; links = r.links }

-- each task of the graphs has a type
pub as_many_tasks : (clock : ℕ) (p : SpecValue) (gs : List Graph) → length (with_graphs clock p gs).tasks ≡ length p.tasks + length (task_kinds gs)
as_many_tasks clock p [] = omega arith
as_many_tasks clock p (g ∷ gs) =
    let r = as_many_tasks clock (with_graph clock p g) gs in
    let a = length-append p.tasks (map (task_in g.index) g.tasks) in
    let b = length-map g.tasks (task_in g.index) in
    let c = length-map g.tasks kind_of_task in
    let d = length-append (kinds_of_tasks g) (task_kinds gs) in
    omega (arith, r, a, b, c, d)

-- and so has each message
pub as_many_messages : (clock : ℕ) (p : SpecValue) (gs : List Graph) → length (with_graphs clock p gs).messages ≡ length p.messages + length (message_kinds gs)
as_many_messages clock p [] = omega arith
as_many_messages clock p (g ∷ gs) =
    let r = as_many_messages clock (with_graph clock p g) gs in
    let a = length-append p.messages (map (planned_message (length p.tasks)) g.arcs) in
    let b = length-map g.arcs (planned_message (length p.tasks)) in
    let c = length-map g.arcs kind_of_arc in
    let d = length-append (kinds_of_arcs g) (message_kinds gs) in
    omega (arith, r, a, b, c, d)
