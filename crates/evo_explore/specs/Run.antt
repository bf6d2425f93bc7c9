-- The run of an exploration, round by round: what is decoded, measured and kept, and what its log shows.
use Rattle.std.specs.Prelude.{◌≡◌, ℕ, ◌+◌, ◌<◌, ◌++◌, List, [], ◌∷◌, length, map}
use Rattle.spec_model.specs.Spec.{SpecValue, Bits, bits_of, design_variables}
use Rattle.spec_model.specs.Vectors.{vector_of}
use Rattle.spec_model.specs.Genotypes.{GeneValue, IsFirstValid, HasNoValid}
use Rattle.encode_model.specs.Encoding.{encoding}
use Rattle.proof_log.specs.Log.{LogValue}
use Rattle.ordered_solver.specs.Answers.{GoesOnDerived}
use Rattle.sat_decoder.specs.Decoding.{IsShown}
use Rattle.sat_decoder.specs.declared.decoded.Decoded.TheVariants.{First, Nothing}
use Rattle.front_archive.specs.declared.member.Member.{Member}
use Rattle.front_archive.specs.Members.{covers}
use Rattle.front_archive.specs.Best.{best}
use Rattle.evo_explore.specs.Breeding.{next_genes, after_next}
use Rattle.evo_explore.specs.declared.run.Run.{Run}
use Rattle.evo_explore.specs.declared.run.End.{End}
use Rattle.evo_explore.specs.declared.run.End.TheVariants.{Done, Infeasible}

-- the vector of a design: its objectives, then what is measured of it
abbrev pub whole_vector : SpecValue → (Bits → List ℕ) → Bits → List ℕ
whole_vector s measured f = vector_of s f ++ measured f

-- a round after some others, from a state of the words: the first valid design in the order of the next genotype
pub record IsRound {S : Type 0} (s : SpecValue) (gives : S → ℕ) (after : S → S) (measured : Bits → List ℕ) (before : List Member) (words : S) (member : Member) : Type 0 where
  pub genes : member.genotype ≡ next_genes gives after (design_variables s) (best covers before) words
  pub one_each : length member.design ≡ design_variables s
  pub first : IsFirstValid s member.genotype (bits_of member.design)
  pub vector : member.vector ≡ whole_vector s measured (bits_of member.design)

-- the state of the words after it
abbrev pub after_round : {S : Type 0} → SpecValue → (S → ℕ) → (S → S) → List Member → S → S
after_round s gives after before words = after_next gives after (design_variables s) (best covers before) words

-- rounds after some others, from a state of the words to another
abbrev pub AreRounds : {S : Type 0} → SpecValue → (S → ℕ) → (S → S) → (Bits → List ℕ) → List Member → List Member → S → S → Type 0
AreRounds s gives after measured before [] start words = start ≡ words
AreRounds s gives after measured before (m ∷ ms) start words =
    IsRound s gives after measured before start m
    × AreRounds s gives after measured (before ++ m ∷ []) ms (after_round s gives after before start) words

-- a decoding takes a log on to another, which shows its design to be the first
pub record Decodes (s : SpecValue) (member : Member) (old new : LogValue) : Type 0 where
  pub goes_on : GoesOnDerived old new
  pub shown : IsShown s member.genotype old new (First member.design)

-- the decodings of rounds take a log on, one after another
abbrev pub AreDecodings : SpecValue → List Member → LogValue → LogValue → Type 0
AreDecodings s [] old new = old ≡ new
AreDecodings s (m ∷ ms) old new = (next : LogValue) × Decodes s m old next × AreDecodings s ms next new

-- a decoding that refutes the encoding: no design is valid
pub record Refutes (s : SpecValue) (old new : LogValue) : Type 0 where
  pub none_valid : HasNoValid s
  pub goes_on : GoesOnDerived old new
  pub genes : List GeneValue
  pub shown : IsShown s genes old new Nothing

-- a log of a specification without lines
abbrev pub no_lines : SpecValue → LogValue
no_lines s = record { first = length (encoding s) + 1; lines = [] }

abbrev pub vector_in : Member → List ℕ
vector_in member = member.vector

-- what so many rounds found: the vectors by round, and the best of all entries
pub record IsFound {S : Type 0} (s : SpecValue) (gives : S → ℕ) (after : S → S) (measured : Bits → List ℕ) (start words : S) (log : LogValue) (history : List (List ℕ)) (members : List Member)
    (rounds : ℕ) : Type 0 where
  pub entries : List Member
  pub rounds_are : AreRounds s gives after measured [] entries start words
  pub decodings_are : AreDecodings s entries (no_lines s) log
  pub history_is : history ≡ map vector_in entries
  pub best_are : members ≡ best covers entries
  pub count : length entries ≡ rounds

-- a run of at least one round that found in the first one that no design is valid
pub record FoundNone {S : Type 0} (s : SpecValue) (gives : S → ℕ) (after : S → S) (start words : S) (log : LogValue) (history : List (List ℕ)) (members : List Member) (rounds : ℕ) : Type 0 where
  pub some_round : 0 < rounds
  pub refuted : Refutes s (no_lines s) log
  pub no_history : history ≡ []
  pub no_members : members ≡ []
  pub words_are : words ≡ after_round s gives after [] start

-- how a run of so many rounds ends: after all of them, or in its first round, since no design is valid
abbrev pub EndsBy : {S : Type 0} → SpecValue → (S → ℕ) → (S → S) → (Bits → List ℕ) → S → S → Run → ℕ → End → Type 0
EndsBy s gives after measured start words run rounds Done = IsFound s gives after measured start words run.log run.history run.archive.members rounds
EndsBy s gives after measured start words run rounds Infeasible = FoundNone s gives after start words run.log run.history run.archive.members rounds

-- a run of so many rounds, from a state of the words to another
abbrev pub IsRunOf : {S : Type 0} → SpecValue → (S → ℕ) → (S → S) → (Bits → List ℕ) → S → S → ℕ → Run → Type 0
IsRunOf s gives after measured start words rounds run = EndsBy s gives after measured start words run rounds run.end

-- rounds in which no design can be found: there is at least one, and no design is valid
pub record FindsNone (s : SpecValue) (rounds : ℕ) : Type 0 where
  pub some_round : 0 < rounds
  pub none_valid : HasNoValid s
