-- A front text is read exactly where it is printed, and as what was printed.
use Rattle.std.proofs.Common.{◌≡◌, ℕ, ◌<◌, ◌^◌, List, length, Result, Ok, Err, refl, sym, ap, subst, ◌∙◌, All}
use Rattle.std.specs.Prelude.{IfOk}
use Rattle.line_words.specs.Rules.{HasNoFault, statements}
use Rattle.line_words.specs.Reads.{Reads}
use Rattle.line_words.specs.declared.refusals.FileTag.TheVariants as files
use Rattle.line_words.specs.declared.refusals.ReadFault.{ReadFault}
use Rattle.line_words.specs.declared.refusals.ReadFault.TheVariants as faults
use Rattle.names.specs.Names.{IsName}
use Rattle.spelled_lines.specs.Lines.{pieces}
use Rattle.spec_model.specs.Spec.{SpecValue}
use Rattle.spec_model.specs.WellFormed.{IsWellFormed}
use Rattle.result_text.specs.Printed.{HasNames}
use Rattle.result_text.specs.Fronts.{FrontValue, IsFrontText, front_of}
use Rattle.result_text.specs.FrontLines.{front_rules, front_in}
use Rattle.result_text.specs.FrontAnswers.{GivesFront}
use Rattle.result_text.specs.declared.fronts.Front.{Front}
use Rattle.spelled_lines.proofs.Over.{accepted, is_read}
use Rattle.result_text.proofs.FrontGoing.{front_in_order}
use Rattle.result_text.proofs.FrontReread.{front_reread}
use Rattle.result_text.proofs.FrontAccepting.{front_whole}

-- ---- what is accepted is a printed text

-- what breaks no rule is the text of the front that it states
text_of_fine : (s : SpecValue) → IsWellFormed s → (bytes : List ℕ) → HasNoFault (front_rules s) (pieces bytes) → IsFrontText s bytes (front_in s (statements (front_rules s) (pieces bytes)))
text_of_fine s w bytes fine = accepted (front_rules s) (pieces bytes) (λ st. IsFrontText s bytes (front_in s st)) (front_in_order s) (front_whole s w bytes) fine

pub front_printed : (s : SpecValue) → IsWellFormed s → (bytes : List ℕ) (found : Result Front ReadFault) → Reads files.Front (front_rules s) front_of (front_in s) (pieces bytes) found
    → IfOk found (λ front. IsFrontText s bytes (front_of front))
front_printed s w bytes (Ok front) r = subst (IsFrontText s bytes) (sym r.1) (text_of_fine s w bytes r.0)
front_printed s w bytes (Err (faults.Refused fault)) r = tt
front_printed s w bytes (Err faults.NoMemory) r = tt

-- ---- what is printed is accepted, and read as what was printed

-- a text breaks no rule, and states this front
record IsRead (s : SpecValue) (bytes : List ℕ) (front : FrontValue) : Type 0 where
  fine : HasNoFault (front_rules s) (pieces bytes)
  value : front_in s (statements (front_rules s) (pieces bytes)) ≡ front

text_read : (s : SpecValue) → IsWellFormed s → HasNames s → All IsName s.objectives → (bytes : List ℕ) (front : FrontValue) → length bytes < 2 ^ 63 → IsFrontText s bytes front → IsRead s bytes front
text_read s w h names bytes front small is =
    let r = front_reread s w h names bytes front small is in
    let out = is_read (front_rules s) (pieces bytes) r.all (front_in_order s) r.reads in
    record { fine = out.1; value = ap (front_in s) (sym out.0) ∙ r.value }

pub front_back : (s : SpecValue) → IsWellFormed s → HasNames s → All IsName s.objectives → (bytes : List ℕ) (found : Result Front ReadFault) → length bytes < 2 ^ 63
    → Reads files.Front (front_rules s) front_of (front_in s) (pieces bytes) found → (front : FrontValue) → IsFrontText s bytes front → GivesFront front found
front_back s w h names bytes (Ok found) small r front is = r.1 ∙ (text_read s w h names bytes front small is).value
front_back s w h names bytes (Err (faults.Refused fault)) small r front is = absurd ((text_read s w h names bytes front small is).fine fault.line fault.why r.1.holds)
front_back s w h names bytes (Err faults.NoMemory) small r front is = refl
