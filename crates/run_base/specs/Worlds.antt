-- What a command finds outside: the contents of the files that its line names.
use Rattle.std.specs.Prelude.{◌≡◌, ℕ, List, Option, Some, None, Result, if◌then◌else◌}
use Rattle.desk_io.specs.Files.{Files, content}
use Rattle.line_words.specs.declared.refusals.ReadFault.{ReadFault}
use Rattle.spec_model.specs.Spec.{SpecValue}
use Rattle.spec_model.specs.Genotypes.{GeneValue}
use Rattle.run_words.specs.Names.{is_dash}
use Rattle.run_base.specs.After.{After}
use Rattle.run_base.specs.Loading.{IsLoaded, IsLoadedIfNamed}
use Rattle.run_base.specs.Reading.{ReadsSpec, ReadsGenotype}
use Rattle.run_base.specs.declared.inputs.Names.{Names}
use Rattle.run_base.specs.declared.inputs.Inputs.{Inputs}

-- the words of the files that a command reads whole
pub record NamesValue : Type 0 where
  pub tgff : List ℕ
  pub arch : List ℕ
  pub third : List ℕ

-- what names say
abbrev pub names_value : Names → NamesValue
names_value names = record { tgff = names.tgff.now; arch = names.arch.now; third = names.third.now }

-- the contents of the files; one that isn't named has none
pub record World : Type 0 where
  pub tgff : Option (List ℕ)
  pub arch : List ℕ
  pub third : Option (List ℕ)

-- the content of a file, if one is named
abbrev pub content_if_named : Files → List ℕ → Option (List ℕ)
content_if_named all name = if is_dash name then None else Some (content all name)

-- the contents of the named files
abbrev pub world_of : Files → NamesValue → World
world_of all names = record { tgff = content_if_named all names.tgff; arch = content all names.arch; third = content_if_named all names.third }

-- what was loaded of each file is its content
pub record AreLoaded (inputs : Inputs) (world : World) : Type 0 where
  pub tgff : IsLoadedIfNamed inputs.tgff world.tgff
  pub arch : IsLoaded inputs.arch world.arch
  pub third : IsLoadedIfNamed inputs.third world.third

-- the contents are those of the named files, where these are told
abbrev pub IsWorldOf : Option Files → NamesValue → World → Type 0
IsWorldOf None names world = Unit {0}
IsWorldOf (Some all) names world = world ≡ world_of all names

-- these inputs were loaded of the named files
pub record AreLoadedFrom (files : Option Files) (names : NamesValue) (inputs : Inputs) : Type 0 where
  pub world : World
  pub found : IsWorldOf files names world
  pub loaded : AreLoaded inputs world

-- the refusals of the specification come first, and then what follows of the specification
abbrev pub AfterSpec : {Y : Type 0} → World → (SpecValue → Result Y ReadFault → Type 0) → Result Y ReadFault → Type 0
AfterSpec world Rest result = After (ReadsSpec world.tgff world.arch) Rest result

-- the refusals of the genotype file come first, and then what follows of the genes
abbrev pub AfterGenotype : {Y : Type 0} → World → SpecValue → (List GeneValue → Result Y ReadFault → Type 0) → Result Y ReadFault → Type 0
AfterGenotype world s Rest result = After (ReadsGenotype s world.third) Rest result
