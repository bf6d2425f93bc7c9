-- What every gene of a genotype keeps to.
use Rattle.std.specs.Prelude.{◌<◌, ◌^◌}
use Rattle.spec_model.specs.Genotypes.{GeneValue}

-- a priority of 32 bits
abbrev pub HasPriority : GeneValue → Type 0
HasPriority g = g.priority < 2 ^ 32
