-- What a call answers that judges a part of a proof.
use Rattle.std.specs.Prelude.{◌≡◌, ℕ, List, length, All, Vec, Result, Ok, Err}
use Rattle.std.specs.Global.{Global}
use Rattle.pb_rules.specs.Linear.{Linear}
use Rattle.pb_rules.specs.Operations.{Context, Fault, unknown, zero_divisor, too_large, no_step}
use Rattle.pb_rules.specs.Frames.{under, any_mentions}
use Rattle.front_model.specs.declared.refusals.ProofWhy.{ProofWhy}
use Rattle.front_model.specs.declared.refusals.ProofWhy.TheVariants as whys
use Rattle.cutting_planes.specs.declared.RuleFault.{RuleFault}
use Rattle.cutting_planes.specs.declared.RuleFault.TheVariants as rules
use Rattle.proof_checker.specs.declared.faults.StepFault.{StepFault}
use Rattle.proof_checker.specs.declared.faults.StepFault.TheVariants as steps
use Rattle.proof_checker.specs.declared.faults.Halt.{Halt}
use Rattle.proof_checker.specs.declared.faults.Halt.TheVariants as halts

-- ---- operations

-- what operations are judged by after these constraints were given
abbrev pub context_over : List Linear → Context
context_over cs = record { live = under cs; knows = any_mentions cs }

-- a rule's refusal as an operation's
abbrev pub step_fault_of : RuleFault → StepFault
step_fault_of (rules.TooLarge n) = steps.TooLarge n
step_fault_of rules.NoMemory = steps.NoMemory

-- the fault is the one that is judged; want of memory is free
abbrev pub StepHalts : {X : Type 0} → Result X Fault → StepFault → Type 0
StepHalts judged (steps.Unknown n) = judged ≡ Err (unknown n)
StepHalts judged steps.ZeroDivisor = judged ≡ Err zero_divisor
StepHalts judged (steps.TooLarge n) = judged ≡ Err (too_large n)
StepHalts judged steps.NoStep = judged ≡ Err no_step
StepHalts judged steps.NoMemory = Unit {0}

-- what is judged is answered
abbrev pub StepGives : {X : Type 0} → Result X Fault → Result X StepFault → Type 0
StepGives judged (Ok x) = judged ≡ Ok x
StepGives judged (Err fault) = StepHalts judged fault

-- what is judged is left
abbrev pub StepLeaves : {X T : Type 0} → Result X Fault → X → Result T StepFault → Type 0
StepLeaves judged left (Ok t) = judged ≡ Ok left
StepLeaves judged left (Err fault) = StepHalts judged fault

-- ---- lines

-- what a line is refused for where an operation has a fault
abbrev pub halt_of : StepFault → Halt
halt_of (steps.Unknown n) = halts.Why (whys.UnknownId n)
halt_of steps.ZeroDivisor = halts.Why whys.ZeroDivisor
halt_of (steps.TooLarge n) = halts.Why (whys.TooLarge n)
halt_of steps.NoStep = halts.Why whys.BadStep
halt_of steps.NoMemory = halts.NoMemory

-- the fault is the one that is judged; want of memory is free
abbrev pub Halts : {X : Type 0} → Result X ProofWhy → Halt → Type 0
Halts judged (halts.Why why) = judged ≡ Err why
Halts judged halts.NoMemory = Unit {0}

-- what is judged of a list of numbers is answered
abbrev pub GivesList : Result (List ℕ) ProofWhy → Result (Vec ℕ Global) Halt → Type 0
GivesList judged (Ok v) = judged ≡ Ok v.items
GivesList judged (Err halt) = Halts judged halt

-- each list has so many numbers
abbrev pub AllLong : ℕ → List (List ℕ) → Type 0
AllLong n us = All (λ u. length u ≡ n) us

-- what is judged is left
abbrev pub Leaves : {X T : Type 0} → Result X ProofWhy → X → Result T Halt → Type 0
Leaves judged left (Ok t) = judged ≡ Ok left
Leaves judged left (Err halt) = Halts judged halt
