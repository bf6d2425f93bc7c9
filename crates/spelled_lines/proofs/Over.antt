-- What holds of a text that breaks no rule, from what each line adds to it.
use Rattle.std.proofs.Common.{◌≡◌, ℕ, zero, suc, ◌+◌, ◌≤◌, true, List, [], ◌∷◌, ◌++◌, length, take, drop, Option, Some, None, Ok, Err, refl, sym, ap, subst, ◌∙◌, append_assoc, arith, inl, inr}
use Rattle.std.specs.List.{position_or_len}
use Rattle.std.proofs.lemmas.Bool.{cases_lt}
use Rattle.std.proofs.lemmas.List.{append-nil, take-append-drop, length-drop}
use Rattle.line_words.specs.Front.{is_lf}
use Rattle.line_words.specs.Rules.{Rules, Statement, AreInOrder, HasNoFault, first_broken, tests_after, at_number, statements}
use Rattle.line_words.specs.Run.{Reading, run, unless_broken}
use Rattle.line_words.specs.declared.refusals.Why.{Why}
use Rattle.line_words.proofs.Least.{Outcome, run-nil, run-cons, run_is}
use Rattle.spelled_lines.specs.Lines.{pieces, body_of, lacks_lf}
use Rattle.spelled_lines.proofs.FirstPiece.{pieces-nil, pieces_first, pieces_last}
use Rattle.spelled_lines.proofs.Ended.{piece_ended, no_lf}

abbrev ok : List Statement → Reading
ok all = Ok all

ok_is : (xs ys : List Statement) → ok xs ≡ ok ys → xs ≡ ys
ok_is xs ys e = cc

unless_ok : (number : ℕ) (b : Option Why) (more : Reading) (all : List Statement) → unless_broken number b more ≡ ok all → (b ≡ None) × (more ≡ ok all)
unless_ok number None more all e = (refl, e)
unless_ok number (Some why) more all e = absurd cc

-- ---- a reader's ways on

-- a line that breaks no rule is taken
pub taken : (rules : Rules) (number : ℕ) (done : List Statement) (piece : List ℕ) (more now : List (List ℕ)) (total : Reading) → run rules number done now ≡ total → now ≡ piece ∷ more
    → first_broken (tests_after rules done piece) ≡ None → run rules (number + 1) (done ++ at_number number (rules.stated piece)) more ≡ total
taken rules number done piece more now total so_far lines fine =
    let rest = run rules (number + 1) (done ++ at_number number (rules.stated piece)) more in
    sym (run-cons rules number done piece more ∙ ap (λ (b : Option Why). unless_broken number b rest) fine) ∙ ap (run rules number done) (sym lines) ∙ so_far

-- a line that breaks a rule is the text's refusal
pub refused : (rules : Rules) (number : ℕ) (done : List Statement) (piece : List ℕ) (more now : List (List ℕ)) (total : Reading) (why : Why) → run rules number done now ≡ total → now ≡ piece ∷ more
    → first_broken (tests_after rules done piece) ≡ Some why → total ≡ Err (record { line = number; why = why })
refused rules number done piece more now total why so_far lines broken =
    let rest = run rules (number + 1) (done ++ at_number number (rules.stated piece)) more in
    sym so_far ∙ ap (run rules number done) lines ∙ run-cons rules number done piece more ∙ ap (λ (b : Option Why). unless_broken number b rest) broken

-- ---- what was read

-- a line that is read breaks no rule, and the lines after it are read
pub read_line : (rules : Rules) (number : ℕ) (done : List Statement) (piece : List ℕ) (more : List (List ℕ)) (all : List Statement) → run rules number done (piece ∷ more) ≡ Ok all
    → (first_broken (tests_after rules done piece) ≡ None) × (run rules (number + 1) (done ++ at_number number (rules.stated piece)) more ≡ Ok all)
read_line rules number done piece more all e =
    unless_ok number (first_broken (tests_after rules done piece)) (run rules (number + 1) (done ++ at_number number (rules.stated piece)) more) all (sym (run-cons rules number done piece more) ∙ e)

-- the end of what is read breaks no rule
pub read_end : (rules : Rules) (number : ℕ) (done all : List Statement) → run rules number done [] ≡ Ok all → (first_broken (rules.end done) ≡ None) × (done ≡ all)
read_end rules number done all e =
    let end = unless_ok number (first_broken (rules.end done)) (ok done) all (sym (run-nil rules number done) ∙ e) in
    (end.0, ok_is done all end.1)

-- what reading gives has no fault, and is what the text states
pub is_read : (rules : Rules) (lines : List (List ℕ)) (all : List Statement) → AreInOrder rules → run rules 1 [] lines ≡ Ok all → (all ≡ statements rules lines) × HasNoFault rules lines
is_read rules lines all order e = subst (Outcome rules lines) e (run_is rules lines order)

-- what holds wherever reading gives statements holds of what a text without fault states
pub accepted : (rules : Rules) (lines : List (List ℕ)) (P : List Statement → Type 0) → AreInOrder rules → ((all : List Statement) → run rules 1 [] lines ≡ Ok all → P all) → HasNoFault rules lines
    → P (statements rules lines)
accepted rules lines P order each fine = go (run rules 1 [] lines) refl (run_is rules lines order)
  where
    go : (r : Reading) → run rules 1 [] lines ≡ r → Outcome rules lines r → P (statements rules lines)
    go (Ok all) e out = subst P out.0 (each all e)
    go (Err r) e out = absurd (fine r.line r.why out.holds)

-- what is kept over lines that break no rule: `Kept done text` where the lines of `text` state `done`
pub record IsKept (rules : Rules) (Kept : List Statement → List ℕ → Type 0) : Type 0 where
  pub start : Kept [] []
  pub more : (done : List Statement) (text piece : List ℕ) (number : ℕ) → Kept done text → first_broken (tests_after rules done piece) ≡ None → piece ≡ body_of piece ++ 10 ∷ []
      → Kept (done ++ at_number number (rules.stated piece)) (text ++ piece)
  pub ended : (done : List Statement) (piece : List ℕ) → lacks_lf piece ≡ true → first_broken (tests_after rules done piece) ≡ None → ⊥

-- it holds of the whole text, whose end breaks no rule
pub record IsWhole (rules : Rules) (Kept : List Statement → List ℕ → Type 0) (all : List Statement) (text : List ℕ) : Type 0 where
  pub kept : Kept all text
  pub closed : first_broken (rules.end all) ≡ None

whole_from : (rules : Rules) (Kept : List Statement → List ℕ → Type 0) → IsKept rules Kept → (fuel : ℕ) (bytes : List ℕ) (number : ℕ) (done : List Statement) (text : List ℕ) (all : List Statement)
    → length bytes ≤ fuel → Kept done text → run rules number done (pieces bytes) ≡ Ok all → IsWhole rules Kept all (text ++ bytes)
whole_from rules Kept k fuel [] number done text all le h e =
    let end = read_end rules number done all (ap (run rules number done) (sym pieces-nil) ∙ e) in
    subst (λ (x : List Statement). IsWhole rules Kept x (text ++ [])) end.1 (record { kept = subst (Kept done) (sym (append-nil text)) h; closed = end.0 })
whole_from rules Kept k zero (b ∷ bs) number done text all le h e = absurd (omega (arith, le))
whole_from rules Kept k (suc fuel) (b ∷ bs) number done text all le h e =
    elim (cases_lt (position_or_len is_lf (b ∷ bs)) (length (b ∷ bs))) [
      | inl lt ↦
          let bytes = b ∷ bs in
          let n = position_or_len is_lf bytes in
          let piece = take (n + 1) bytes in
          let rest = drop (n + 1) bytes in
          let step = read_line rules number done piece (pieces rest) all (ap (run rules number done) (sym (pieces_first bytes lt)) ∙ e) in
          let next = k.more done text piece number h step.0 (piece_ended bytes lt) in
          let shorter : length rest ≤ fuel = omega (arith, le, length-drop (n + 1) bytes) in
          let tail = whole_from rules Kept k fuel rest (number + 1) (done ++ at_number number (rules.stated piece)) (text ++ piece) all shorter next step.1 in
          subst (IsWhole rules Kept all) (append_assoc text piece rest ∙ ap (λ (x : List ℕ). text ++ x) (take-append-drop (n + 1) bytes)) tail
      | inr ge ↦
          let bytes = b ∷ bs in
          let step = read_line rules number done bytes (pieces []) all (ap (run rules number done) (sym (pieces_last bytes (omega arith) ge)) ∙ e) in
          let lacks : lacks_lf bytes ≡ true = rw (no_lf bytes ge) refl in
          absurd (k.ended done bytes lacks step.0)
    ]

-- a run without a refusal has kept what its rules keep, over all bytes
pub whole : (rules : Rules) (Kept : List Statement → List ℕ → Type 0) → IsKept rules Kept → (bytes : List ℕ) (all : List Statement) → run rules 1 [] (pieces bytes) ≡ Ok all
    → IsWhole rules Kept all bytes
whole rules Kept k bytes all e = whole_from rules Kept k (length bytes) bytes 1 [] [] all (omega arith) k.start e
