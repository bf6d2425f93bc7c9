-- The tools that a command is handed: what is seen of them, and what a command leaves of that.
use Rattle.std.specs.Prelude.{◌≡◌, ℕ, List, [], map, slice_index_or}
use Rattle.spec_model.specs.Spec.{SpecValue, Bits}
use Rattle.evo_explore.specs.Counts.{picked}

-- the tags of tools in their order, how often each was called, and what each measures of a design
pub record ToolsValue : Type 0 where
  pub tags : List (List ℕ)
  pub calls : List ℕ
  pub values : SpecValue → Bits → List ℕ

-- the tags at chosen places, in their order
abbrev pub tags_at : List (List ℕ) → List ℕ → List (List ℕ)
tags_at tags chosen = map (λ p. slice_index_or tags p []) chosen

-- what the tools at chosen places measure of a design
abbrev pub measured_by : ToolsValue → List ℕ → SpecValue → Bits → List ℕ
measured_by tools chosen s f = picked (tools.values s f) chosen

-- the tools are as before but for their calls, of which Called holds
pub record Keeps (Called : List ℕ → List ℕ → Type 0) (old new : ToolsValue) : Type 0 where
  pub tags : new.tags ≡ old.tags
  pub values : (s : SpecValue) (f : Bits) → new.values s f ≡ old.values s f
  pub calls : Called old.calls new.calls
