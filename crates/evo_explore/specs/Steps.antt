-- What one round does.
use Rattle.std.specs.Prelude.{◌≡◌, ℕ, ◌++◌, Bool, true, false, Option, Some, None, List, [], ◌∷◌, length}
use Rattle.spec_model.specs.Spec.{SpecValue, Bits, bits_of, design_variables}
use Rattle.spec_model.specs.Genotypes.{IsFirstValid}
use Rattle.proof_log.specs.Log.{LogValue}
use Rattle.sat_decoder.specs.declared.decoded.Decoded.{Decoded}
use Rattle.sat_decoder.specs.declared.decoded.Decoded.TheVariants.{First, Nothing}
use Rattle.front_archive.specs.declared.member.Member.{Member}
use Rattle.front_archive.specs.Members.{covers}
use Rattle.front_archive.specs.Best.{best}
use Rattle.evo_explore.specs.Breeding.{next_genes, after_next}
use Rattle.evo_explore.specs.Counts.{RoseBy}
use Rattle.evo_explore.specs.Run.{whole_vector, Decodes, Refutes}
use Rattle.evo_explore.specs.declared.run.Found.{Found}

-- the decoder's answer with a design, or without
abbrev pub answer_of : Option (List Bool) → Decoded
answer_of (Some design) = First design
answer_of None = Nothing

-- a member joins the history and the best members
pub record Joins {S : Type 0} (s : SpecValue) (gives : S → ℕ) (after : S → S) (measured : Bits → List ℕ) (words next : S) (old new : LogValue) (before now : Found) : Type 0 where
  pub member : Member
  pub genes : member.genotype ≡ next_genes gives after (design_variables s) before.archive.members words
  pub words_are : next ≡ after_next gives after (design_variables s) before.archive.members words
  pub one_each : length member.design ≡ design_variables s
  pub first : IsFirstValid s member.genotype (bits_of member.design)
  pub vector : member.vector ≡ whole_vector s measured (bits_of member.design)
  pub decodes : Decodes s member old new
  pub history : now.history ≡ before.history ++ member.vector ∷ []
  pub best_are : (entries : List Member) → before.archive.members ≡ best covers entries → now.archive.members ≡ best covers (entries ++ member ∷ [])

-- no design is valid, and nothing joins
pub record Stops {S : Type 0} (s : SpecValue) (gives : S → ℕ) (after : S → S) (words next : S) (old new : LogValue) (before now : Found) : Type 0 where
  pub refuted : Refutes s old new
  pub words_are : next ≡ after_next gives after (design_variables s) before.archive.members words
  pub history : now.history ≡ before.history
  pub members : now.archive.members ≡ before.archive.members

-- what a round says: a design joined, or none is valid
abbrev pub RoundSays : {S : Type 0} → SpecValue → (S → ℕ) → (S → S) → (Bits → List ℕ) → S → S → LogValue → LogValue → Found → Found → Bool → Type 0
RoundSays s gives after measured words next old new before now true = Joins s gives after measured words next old new before now
RoundSays s gives after measured words next old new before now false = Stops s gives after words next old new before now

-- how a round leaves the counts of the tools: each chosen place counted once for each time that it is chosen, or none counted
abbrev pub CountsSay : List ℕ → List ℕ → List ℕ → Bool → Type 0
CountsSay chosen old new true = RoseBy 1 chosen old new
CountsSay chosen old new false = new ≡ old
