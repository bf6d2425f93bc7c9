-- What the statements make, beside what they declare.
use Rattle.std.proofs.Common.{◌≡◌, ℕ, List, [], ◌∷◌, ◌++◌, map, fold, take, drop, Option, None, Some, refl, sym, ap, ◌∙◌, append_assoc}
use Rattle.std.specs.List.{flat_map}
use Rattle.std.specs.Option.{option_or}
use Rattle.std.proofs.lemmas.List.{append-nil, take-append-drop}
use Rattle.std.proofs.lemmas.Grind.{flat_map-append}
use Rattle.spec_model.specs.Spec.{Name}
use Rattle.arch_reader.specs.declared.statement.KeyColumn.{KeyColumn}
use Rattle.tgff_reader.specs.Facts.{TgffValue}
use Rattle.tgff_reader.specs.declared.file.Table.{Table as TgffTable}
use Rattle.table_cells.specs.Rows.{table_called}
use Rattle.arch_reader.specs.Seen.{scale_or_0, objectives_in, resources_in, links_in, clock_in, clock_of, seen}
use Rattle.arch_reader.specs.declared.seen.Objective.{Objective as Declared}
use Rattle.arch_reader.specs.declared.seen.Seen.{Seen}
use Rattle.arch_reader.specs.declared.statement.Statement.{Statement}
use Rattle.arch_reader.specs.declared.statement.Statement.TheVariants.{Objective, Clock, Resource, Link, Traffic, Task, Message, Merge, Map, Table, Quantity, QuantityTable, Hops, Delay, Deadline}
use Rattle.arch_reader.proofs.Declared.{or_none}
use Rattle.spec_join.specs.Joining.{Joining, start, plan_with, objective_name, objective_scale}
use Rattle.spec_join.specs.Tables.{with_table}
use Rattle.spec_join.specs.Quantities.{with_quantity_table}
use Rattle.spec_join.specs.Effects.{effect, with_plan}
use Rattle.spec_join.specs.Reading.{after}
use Rattle.spec_join.proofs.Front.{graphs_keep}

-- what a statement makes has what it declares, and the objectives as they were
pub record Keeps (s t : Joining) (st : Statement) : Type 0 where
  pub objectives : t.plan.objectives ≡ s.plan.objectives
  pub scales : t.scales ≡ s.scales
  pub resources : t.plan.resources ≡ s.plan.resources ++ resources_in st
  pub links : t.plan.links ≡ s.plan.links ++ links_in st
  pub clock : t.clock ≡ option_or s.clock (clock_in st)

or_assoc : (a b c : Option ℕ) → option_or (option_or a b) c ≡ option_or a (option_or b c)
or_assoc None b c = refl
or_assoc (Some n) b c = refl

-- a statement that declares nothing
silent : (s t : Joining) (st : Statement) → t.plan.objectives ≡ s.plan.objectives → t.scales ≡ s.scales → t.plan.resources ≡ s.plan.resources → t.plan.links ≡ s.plan.links → t.clock ≡ s.clock
    → resources_in st ≡ [] → links_in st ≡ [] → clock_in st ≡ None → Keeps s t st
silent s t st o c r l k er el ek = record {
  objectives = o;
  scales = c;
  resources = r ∙ sym (append-nil s.plan.resources) ∙ ap (λ (xs : List Name). s.plan.resources ++ xs) (sym er);
  links = l ∙ sym (append-nil s.plan.links) ∙ ap (λ (xs : List Name). s.plan.links ++ xs) (sym el);
  clock = k ∙ sym (or_none s.clock) ∙ ap (option_or s.clock) (sym ek);
}

-- a table line declares nothing
table_keeps : (s : Joining) (t : Option TgffTable) (name : Name) (index : ℕ) (resource : Name) (keys places : List KeyColumn)
    → Keeps s (with_plan s (with_table s t resource keys places)) (Table name index resource keys places)
table_keeps s None name index resource keys places = silent s _ (Table name index resource keys places) refl refl refl refl refl refl refl refl
table_keeps s (Some t) name index resource keys places = silent s _ (Table name index resource keys places) refl refl refl refl refl refl refl refl

quantities_keep : (s : Joining) (t : Option TgffTable) (name : Name) (index column : ℕ) (rows : Option ℕ)
    → Keeps s (with_plan s (with_quantity_table s t column rows)) (QuantityTable name index column rows)
quantities_keep s None name index column rows = silent s _ (QuantityTable name index column rows) refl refl refl refl refl refl refl refl
quantities_keep s (Some t) name index column rows = silent s _ (QuantityTable name index column rows) refl refl refl refl refl refl refl refl

pub keeps : (s : Joining) (st : Statement) → Keeps s (effect s st) st
keeps s (Objective name scale floor) = silent s _ (Objective name scale floor) refl refl refl refl refl refl refl refl
keeps s (Clock scale floor) = record { objectives = refl; scales = refl; resources = sym (append-nil s.plan.resources); links = sym (append-nil s.plan.links); clock = refl }
keeps s (Resource name weights) = record { objectives = refl; scales = refl; resources = refl; links = sym (append-nil s.plan.links); clock = sym (or_none s.clock) }
keeps s (Link name a b two_way weights) = record { objectives = refl; scales = refl; resources = sym (append-nil s.plan.resources); links = refl; clock = sym (or_none s.clock) }
keeps s (Traffic link weights) = silent s _ (Traffic link weights) refl refl refl refl refl refl refl refl
keeps s (Task name) = silent s _ (Task name) refl refl refl refl refl refl refl refl
keeps s (Message name sender receivers) = silent s _ (Message name sender receivers) refl refl refl refl refl refl refl refl
keeps s (Merge name messages) = silent s _ (Merge name messages) refl refl refl refl refl refl refl refl
keeps s (Map task resource time weights) = silent s _ (Map task resource time weights) refl refl refl refl refl refl refl refl
keeps s (Table name index resource keys weights_at) = table_keeps s (table_called s.tables name index) name index resource keys weights_at
keeps s (Quantity message amount) = silent s _ (Quantity message amount) refl refl refl refl refl refl refl refl
keeps s (QuantityTable name index column rows) = quantities_keep s (table_called s.tables name index) name index column rows
keeps s (Hops None limit) = silent s _ (Hops None limit) refl refl refl refl refl refl refl refl
keeps s (Hops (Some message) limit) = silent s _ (Hops (Some message) limit) refl refl refl refl refl refl refl refl
keeps s (Delay None amount) = silent s _ (Delay None amount) refl refl refl refl refl refl refl refl
keeps s (Delay (Some message) amount) = silent s _ (Delay (Some message) amount) refl refl refl refl refl refl refl refl
keeps s (Deadline task at) = silent s _ (Deadline task at) refl refl refl refl refl refl refl refl

-- the same of many statements
pub record KeepsAll (s t : Joining) (sts : List Statement) : Type 0 where
  pub objectives : t.plan.objectives ≡ s.plan.objectives
  pub scales : t.scales ≡ s.scales
  pub resources : t.plan.resources ≡ s.plan.resources ++ flat_map resources_in sts
  pub links : t.plan.links ≡ s.plan.links ++ flat_map links_in sts
  pub clock : t.clock ≡ option_or s.clock (clock_of sts)

keeps_all : (s : Joining) (sts : List Statement) → KeepsAll s (fold effect s sts) sts
keeps_all s [] = record { objectives = refl; scales = refl; resources = sym (append-nil s.plan.resources); links = sym (append-nil s.plan.links); clock = sym (or_none s.clock) }
keeps_all s (st ∷ sts) =
    let k = keeps s st in
    let r = keeps_all (effect s st) sts in
    record {
      objectives = r.objectives ∙ k.objectives;
      scales = r.scales ∙ k.scales;
      resources = r.resources ∙ ap (λ (xs : List Name). xs ++ flat_map resources_in sts) k.resources ∙ append_assoc s.plan.resources (resources_in st) (flat_map resources_in sts);
      links = r.links ∙ ap (λ (xs : List Name). xs ++ flat_map links_in sts) k.links ∙ append_assoc s.plan.links (links_in st) (flat_map links_in sts);
      clock = r.clock ∙ ap (λ (o : Option ℕ). option_or o (clock_of sts)) k.clock ∙ or_assoc s.clock (clock_in st) (clock_of sts);
    }

-- what was made has what was declared; of the objectives also those that are declared later
pub record IsTied (was : Seen) (s : Joining) : Type 0 where
  pub later : List Declared
  pub objectives : s.plan.objectives ≡ map objective_name (was.objectives ++ later)
  pub scales : s.scales ≡ map objective_scale (was.objectives ++ later)
  pub resources : s.plan.resources ≡ was.resources
  pub links : s.plan.links ≡ was.links
  pub clock : s.clock ≡ was.clock

halves : (sts : List Statement) (k : ℕ) → (seen sts).objectives ≡ (seen (take k sts)).objectives ++ (seen (drop k sts)).objectives
halves sts k = ap (flat_map objectives_in) (sym (take-append-drop k sts)) ∙ flat_map-append objectives_in (take k sts) (drop k sts)

pub tied : (tgff : TgffValue) (sts : List Statement) (k : ℕ) → IsTied (seen (take k sts)) (after tgff sts k)
tied tgff sts k =
    let r = keeps_all (start tgff (seen sts)) (take k sts) in
    let g = graphs_keep (scale_or_0 (seen sts).clock) (plan_with (map objective_name (seen sts).objectives)) tgff.graphs in
    record {
      later = (seen (drop k sts)).objectives;
      objectives = r.objectives ∙ g.objectives ∙ ap (map objective_name) (halves sts k);
      scales = r.scales ∙ ap (map objective_scale) (halves sts k);
      resources = r.resources ∙ ap (λ (ns : List Name). ns ++ flat_map resources_in (take k sts)) g.resources;
      links = r.links ∙ ap (λ (ns : List Name). ns ++ flat_map links_in (take k sts)) g.links;
      clock = r.clock;
    }
