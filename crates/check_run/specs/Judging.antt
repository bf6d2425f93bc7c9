-- What a front that was read comes to with the bytes of a proof file.
use Rattle.std.specs.Prelude.{◌≡◌, ℕ, ◌⊎◌, List, [], length}
use Rattle.spec_model.specs.Spec.{SpecValue}
use Rattle.spelled_lines.specs.Lines.{pieces}
use Rattle.result_text.specs.Fronts.{FrontValue}
use Rattle.front_model.specs.Fronts.{vectors_of, IsClaim, IsFrontOf}
use Rattle.front_model.specs.Proofs.{Accepts}
use Rattle.front_model.specs.Faults.{IsFirstFault}
use Rattle.front_model.specs.Judging.{begun, take_lines, verdict_of}
use Rattle.front_model.specs.declared.refusals.FrontRefused.{FrontRefused}
use Rattle.front_model.specs.declared.refusals.Refused.{Refused}
use Rattle.front_model.specs.declared.refusals.Verdict.{Verdict}
use Rattle.front_model.specs.declared.refusals.Verdict.TheVariants as verdicts
use Rattle.run_base.specs.declared.outcome.Ending.TheVariants.{Done, No}
use Rattle.run_base.specs.declared.outcome.Outcome.{Outcome}
use Rattle.check_run.specs.Texts.{accepted_text, front_refused_text, proof_refused_text}

-- what is said at the end of a proof whose lines are judged one by one
abbrev pub verdict_on : SpecValue → FrontValue → List ℕ → Verdict
verdict_on s front proof = verdict_of (take_lines s (vectors_of front) (begun s) (pieces proof))

-- the front and the proof are accepted together; so the front is that of the specification
pub record IsAccepted (s : SpecValue) (front : FrontValue) (proof text : List ℕ) : Type 0 where
  pub accepts : Accepts s front proof
  pub exact : IsFrontOf s front
  pub says : text ≡ accepted_text (length front.entries)

-- the front has a fault, and its first one is said; the proof is not looked at
pub record IsFrontRefused (s : SpecValue) (front : FrontValue) (text : List ℕ) : Type 0 where
  pub refused : FrontRefused
  pub first : IsFirstFault s front refused
  pub says : text ≡ front_refused_text refused

-- the front may be checked against, and the proof's first fault is said
pub record IsProofRefused (s : SpecValue) (front : FrontValue) (proof text : List ℕ) : Type 0 where
  pub claim : IsClaim s front
  pub refused : Refused
  pub first : verdict_on s front proof ≡ verdicts.Refused refused
  pub says : text ≡ proof_refused_text refused

-- they are not accepted together, and the first fault is said
pub record IsRefused (s : SpecValue) (front : FrontValue) (proof text : List ℕ) : Type 0 where
  pub fails : ¬ Accepts s front proof
  pub fault : IsFrontRefused s front text ⊎ IsProofRefused s front proof text

-- a front is accepted with a proof, or the first fault of both is said; no file is written
pub record Judges (s : SpecValue) (front : FrontValue) (proof : List ℕ) (outcome : Outcome) : Type 0 where
  pub ends : ((outcome.ending ≡ Done) × IsAccepted s front proof outcome.text.items) ⊎ ((outcome.ending ≡ No) × IsRefused s front proof outcome.text.items)
  pub none_written : outcome.writes ≡ []
