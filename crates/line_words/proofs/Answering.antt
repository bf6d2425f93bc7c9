-- From what reading from left to right gives to what a reader answers.
use Rattle.std.proofs.Common.{◌≡◌, ℕ, List, [], Option, Some, Result, Ok, Err, refl, sym, ap, subst, ◌∙◌}
use Rattle.line_words.specs.Refused.{fault_at}
use Rattle.line_words.specs.Rules.{Rules, Statement, AreInOrder}
use Rattle.line_words.specs.Run.{Reading, run}
use Rattle.line_words.specs.Reads.{Reads, Agrees, Stops}
use Rattle.line_words.specs.declared.refusals.Why.{Why}
use Rattle.line_words.specs.declared.refusals.FileTag.{FileTag}
use Rattle.line_words.specs.declared.refusals.Refusal1.{Refusal1}
use Rattle.line_words.specs.declared.refusals.Refusal.{Refusal}
use Rattle.line_words.specs.declared.refusals.Stop.{Stop}
use Rattle.line_words.specs.declared.refusals.Stop.TheVariants as stops
use Rattle.line_words.specs.declared.refusals.ReadFault.{ReadFault}
use Rattle.line_words.specs.declared.refusals.ReadFault.TheVariants as faults
use Rattle.line_words.proofs.Least.{Outcome, run_is}

read_outcome : (rules : Rules) (lines : List (List ℕ)) (r : Reading) → AreInOrder rules → run rules 1 [] lines ≡ r → Outcome rules lines r
read_outcome rules lines r o e = subst (Outcome rules lines) e (run_is rules lines o)

-- What agrees with reading from left to right is what the file is.
pub agrees_reads : {X E : Type 0} (file : FileTag) (rules : Rules) (view : X → E) (value : List Statement → E) (lines : List (List ℕ)) (r : Result X ReadFault)
    → AreInOrder rules → Agrees file view value (run rules 1 [] lines) r → Reads file rules view value lines r
agrees_reads file rules view value lines (Ok x) o a =
    let out = read_outcome rules lines (Ok a.0) o a.1 in
    (out.1, a.2 ∙ ap value out.0)
agrees_reads file rules view value lines (Err (faults.Refused r)) o a =
    (a.0, read_outcome rules lines (Err (record { line = r.line; why = r.why })) o a.1)
agrees_reads file rules view value lines (Err faults.NoMemory) o a = tt

-- a reader that stops at a statement
pub stopped : {X E : Type 0} (file : FileTag) (view : X → E) (value : List Statement → E) (total : Reading) (line : ℕ) (broken : Option Why) (stop : Stop) (fault : ReadFault)
    → fault ≡ fault_at file line stop → Stops stop broken → ((why : Why) → broken ≡ Some why → total ≡ Err (record { line = line; why = why })) → Agrees file view value total (Err fault)
stopped {X} file view value total line broken stop fault e s refused =
    subst (λ (f : ReadFault). Agrees {X = X} file view value total (Err f)) (sym e) (at_stop file view value total line broken stop s refused)
  where
    at_stop : {X E : Type 0} (file : FileTag) (view : X → E) (value : List Statement → E) (total : Reading) (line : ℕ) (broken : Option Why) (stop : Stop)
        → Stops stop broken → ((why : Why) → broken ≡ Some why → total ≡ Err (record { line = line; why = why })) → Agrees file view value total (Err (fault_at file line stop))
    at_stop file view value total line broken (stops.Broken why) s refused = (refl, refused why s)
    at_stop file view value total line broken stops.NoMemory s refused = tt

abbrev out : Refusal1 → Reading
out r = Err r

-- a reader that stops at a line that is refused alone
pub refused_as : {X E : Type 0} (file : FileTag) (view : X → E) (value : List Statement → E) (total : Reading) (alone : Refusal1) (fault : Refusal)
    → fault ≡ record { file = file; line = alone.line; why = alone.why } → total ≡ Err alone → Agrees file view value total (Err (faults.Refused fault))
refused_as file view value total alone fault e refused =
    (ap (λ (r : Refusal). r.file) e, refused ∙ ap (λ (r : Refusal). out (record { line = r.line; why = r.why })) (sym e))
