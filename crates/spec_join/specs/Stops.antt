-- How joining stops at a statement: at the first of its conditions that holds, or where memory runs out.
use Rattle.std.specs.Prelude.{◌≡◌, ℕ, ◌<◌, List, length}
use Rattle.names.specs.Names.{IsNumberOf}
use Rattle.spec_model.specs.Spec.{Name, SpecValue}
use Rattle.spec_graph.specs.declared.faults.BuildFault.{BuildFault}
use Rattle.spec_graph.specs.declared.faults.BuildFault.TheVariants as builds
use Rattle.line_words.specs.declared.refusals.Why.{Why}
use Rattle.line_words.specs.declared.refusals.Why.TheVariants.{BadStatement, UnknownName, RepeatedName, SelfLink, TooBig, Cyclic, Limit}
use Rattle.line_words.specs.declared.refusals.What.{What}
use Rattle.line_words.specs.declared.refusals.Stop.{Stop}
use Rattle.line_words.specs.declared.refusals.Stop.TheVariants.{Broken, NoMemory}
use Rattle.arch_reader.specs.declared.statement.Statement.{Statement}
use Rattle.arch_reader.specs.declared.statement.Statement.TheVariants.{Table, QuantityTable}
use Rattle.line_words.specs.declared.refusals.FileTag.TheVariants.{Arch}
use Rattle.line_words.specs.declared.refusals.ReadFault.{ReadFault}
use Rattle.line_words.specs.declared.refusals.ReadFault.TheVariants as faults
use Rattle.arch_reader.specs.declared.statement.ArchLine.{ArchLine}
use Rattle.tgff_reader.specs.Facts.{TgffValue}
use Rattle.table_cells.specs.Least.{IsLeast}
use Rattle.spec_join.specs.Joining.{Joining}
use Rattle.spec_join.specs.Reading.{IsRefusedAt}
use Rattle.spec_join.specs.Refusals.{IsBad, IsUnknown, IsRepeated, IsCyclic, IsPast, StatementBreaks, BreaksEnd}

-- why joining stops where the builder refuses a call
abbrev pub stop_for : BuildFault → Stop
stop_for builds.Repeated = Broken RepeatedName
stop_for builds.SelfLink = Broken SelfLink
stop_for builds.Cyclic = Broken Cyclic
stop_for builds.TooBig = Broken TooBig
stop_for (builds.Limit what) = Broken (Limit what)
stop_for builds.NoMemory = NoMemory

-- the first of a statement's conditions that holds
abbrev pub IsFirst : Joining → Statement → Why → Type 0
IsFirst s st BadStatement = IsBad s st
IsFirst s st UnknownName = (¬ IsBad s st) × IsUnknown s st
IsFirst s st RepeatedName = (¬ IsBad s st) × (¬ IsUnknown s st) × IsRepeated s st
IsFirst s st Cyclic = (¬ IsBad s st) × (¬ IsUnknown s st) × (¬ IsRepeated s st) × IsCyclic s st
IsFirst s st (Limit what) = (¬ IsBad s st) × (¬ IsUnknown s st) × (¬ IsRepeated s st) × (¬ IsCyclic s st) × IsPast s st what
IsFirst s st _ = ⊥

-- a statement stops joining; memory may run out at any
abbrev pub Refuses : Joining → Statement → Stop → Type 0
Refuses s (Table name index resource keys weights_at) (Broken why) = IsLeast (StatementBreaks s (Table name index resource keys weights_at)) why
Refuses s (QuantityTable name index column rows) (Broken why) = IsLeast (StatementBreaks s (QuantityTable name index column rows)) why
Refuses s st (Broken why) = IsFirst s st why
Refuses s st NoMemory = Unit {0}

-- none of a statement's conditions holds
pub record IsAccepted (s : Joining) (st : Statement) : Type 0 where
  pub good : ¬ IsBad s st
  pub known : ¬ IsUnknown s st
  pub once : ¬ IsRepeated s st
  pub free : ¬ IsCyclic s st
  pub room : (what : What) → ¬ IsPast s st what

-- a statement is accepted
abbrev pub Accepts : Joining → Statement → Type 0
Accepts s (Table name index resource keys weights_at) = (why : Why) → StatementBreaks s (Table name index resource keys weights_at) why → ⊥
Accepts s (QuantityTable name index column rows) = (why : Why) → StatementBreaks s (QuantityTable name index column rows) why → ⊥
Accepts s st = IsAccepted s st

-- the number of a message that is there
pub record IsMessageNumber (p : SpecValue) (name : Name) (m : ℕ) : Type 0 where
  pub number : IsNumberOf p.message_names name m
  pub within : m < length p.messages

-- a name isn't known, where that is so
abbrev pub IsUnknownStop : Type 0 → Stop → Type 0
IsUnknownStop IsSo (Broken why) = (why ≡ UnknownName) × IsSo
IsUnknownStop IsSo NoMemory = Unit {0}

-- the end of a plan stops joining
abbrev pub RefusesEnd : SpecValue → Stop → Type 0
RefusesEnd p (Broken why) = IsLeast (BreaksEnd p) why
RefusesEnd p NoMemory = Unit {0}

-- the end of a plan is accepted
abbrev pub AcceptsEnd : SpecValue → Type 0
AcceptsEnd p = (why : Why) → BreaksEnd p why → ⊥

-- joining stops at one of the lines
abbrev pub IsRefused : TgffValue → List ArchLine → ReadFault → Type 0
IsRefused tgff lines (faults.Refused r) = (r.file ≡ Arch) × IsRefusedAt tgff lines r.line r.why
IsRefused tgff lines faults.NoMemory = Unit {0}
