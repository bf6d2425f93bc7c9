-- Words, numbers and entries that are taken one by one.
use Rattle.std.proofs.Common.{◌≡◌, ℕ, zero, suc, ◌+◌, ◌<◌, Bool, true, List, [], ◌∷◌, ◌++◌, length, map, take, get_or, Option, Some, None, Result, refl, sym, ap, ◌∙◌, subst, arith, Bor}
use Rattle.std.specs.Prelude.{All, ◌||◌}
use Rattle.std.specs.List.{list_any}
use Rattle.std.proofs.lemmas.List.{take_more, map_push, get_or-map, length-map}
use Rattle.std.proofs.lemmas.List.Folds.{list_any_at}
use Rattle.line_words.specs.Rules.{Words, said}
use Rattle.pb_rules.specs.Operations.{Fault, and_then}
use Rattle.proof_words.specs.Words.{numeral_number}
use Rattle.spelled_lines.specs.Lines.{is_empty}
use Rattle.result_text.specs.Answers.{EntryValue, as_seen}
use Rattle.result_text.specs.declared.entries.Entry.{Entry}
use Rattle.spelled_lines.proofs.Saying.{any_said}
use Rattle.proof_log.specs.Files.{onto_said, with_said}
use Rattle.front_model.specs.Judging.{numbers_of, is_at_most}
use Rattle.spec_model.specs.Spec.{SpecValue}
use Rattle.result_text.specs.Fronts.{IsShaped}
use Rattle.proof_checker.specs.Checkers.{vectors_in}
use Rattle.proof_checker.specs.Answers.{StepHalts}
use Rattle.proof_checker.specs.declared.faults.StepFault.{StepFault}
use Rattle.proof_checker.specs.declared.faults.StepFault.TheVariants as steps

abbrev Lent : Type 0
Lent = Bor (List ℕ)

-- a fault stays one, whatever would follow
pub halts_on : {X Y : Type 0} (f : X → Result Y Fault) (o : Result X Fault) (fault : StepFault) → StepHalts o fault → StepHalts (and_then f o) fault
halts_on f o (steps.Unknown n) h = ap (and_then f) h
halts_on f o steps.ZeroDivisor h = ap (and_then f) h
halts_on f o (steps.TooLarge n) h = ap (and_then f) h
halts_on f o steps.NoStep h = ap (and_then f) h
halts_on f o steps.NoMemory h = tt

pub some_empty : (ws : List Lent) (i : ℕ) (d : Lent) → i < length ws → is_empty (get_or ws i d).now ≡ true → true ≡ list_any is_empty (said ws)
some_empty ws i d l e = sym (any_said is_empty ws ∙ list_any_at (λ (w : Lent). is_empty w.now) ws i d l e)

-- ---- numbers

numbers_more : (ws : Words) (ns : List ℕ) (w : List ℕ) (n : ℕ) → numbers_of ws ≡ Some ns → numeral_number w ≡ Some n → numbers_of (ws ++ w ∷ []) ≡ Some (ns ++ n ∷ [])
numbers_more [] ns w n e q =
    let none : [] ≡ ns = cc in
    ap (λ (o : Option ℕ). with_said o (Some [])) q ∙ ap (λ (ms : List ℕ). Some (ms ++ n ∷ [])) none
numbers_more (v ∷ ws) ns w n e q = go (λ ms b. numbers_more ws ms w n b q) (numeral_number v) (numbers_of ws) refl e
  where
    go : ((ms : List ℕ) → numbers_of ws ≡ Some ms → numbers_of (ws ++ w ∷ []) ≡ Some (ms ++ n ∷ [])) → (o : Option ℕ) (p : Option (List ℕ)) → numbers_of ws ≡ p → with_said o p ≡ Some ns
        → with_said o (numbers_of (ws ++ w ∷ [])) ≡ Some (ns ++ n ∷ [])
    go ih None p b e = absurd cc
    go ih (Some m) None b e = absurd cc
    go ih (Some m) (Some ms) b e =
        let is : m ∷ ms ≡ ns = cc in
        ap (onto_said m) (ih ms b) ∙ ap (λ (ks : List ℕ). Some (ks ++ n ∷ [])) is

pub number_taken : (ws : List Lent) (i : ℕ) (d : Lent) (ns next : List ℕ) (n : ℕ) → i < length ws → numbers_of (said (take i ws)) ≡ Some ns → numeral_number (get_or ws i d).now ≡ Some n
    → next ≡ ns ++ n ∷ []
    → numbers_of (said (take (i + 1) ws)) ≡ Some next
number_taken ws i d ns next n l e q last =
    ap (λ (vs : List Lent). numbers_of (said vs)) (take_more ws i d l) ∙ ap numbers_of (map_push (λ (v : Lent). v.now) (take i ws) (get_or ws i d))
    ∙ (numbers_more (said (take i ws)) ns (get_or ws i d).now n e q ∙ ap (λ (ms : List ℕ). Some ms) (sym last))

pub number_missing : (ws : List Lent) (i : ℕ) (d : Lent) → i < length ws → numeral_number (get_or ws i d).now ≡ None → numbers_of (said ws) ≡ None
number_missing [] i d l q = absurd (omega arith)
number_missing (v ∷ ws) zero d l q = ap (λ (o : Option ℕ). with_said o (numbers_of (said ws))) q
number_missing (v ∷ ws) (suc i) d l q = ap (with_said (numeral_number v.now)) (number_missing ws i d (omega arith) q) ∙ go (numeral_number v.now)
  where
    go : (o : Option ℕ) → with_said o None ≡ None
    go None = refl
    go (Some n) = refl

-- ---- entries

any_entries : (p : List ℕ → Bool) (es : List Entry) → list_any p (vectors_in es) ≡ list_any (λ (e : Entry). p e.vector) es
any_entries p [] = refl
any_entries p (e ∷ es) = ap (λ (b : Bool). p e.vector || b) (any_entries p es)

pub entry_below : (es : List Entry) (v : List ℕ) (i : ℕ) (e : Entry) (us : List (List ℕ)) → us ≡ vectors_in es → i < length es → e ≡ get_or es i e → is_at_most v e.vector ≡ true
    → true ≡ list_any (is_at_most v) us
entry_below es v i e us same l is h =
    let here : is_at_most v (get_or es i e).vector ≡ true = subst (λ (x : Entry). is_at_most v x.vector ≡ true) is h in
    sym (ap (list_any (is_at_most v)) same ∙ (any_entries (is_at_most v) es ∙ list_any_at (λ (x : Entry). is_at_most v x.vector) es i e l here))

-- an entry of a front that is shaped
pub item_shaped : (s : SpecValue) (entries : List EntryValue) (es : List Entry) (i : ℕ) (e : Entry) → map as_seen es ≡ entries → All (IsShaped s) entries → i < length entries → e ≡ get_or es i e
    → IsShaped s (as_seen e)
item_shaped s entries es i e same h l is =
    let within : i < length es = omega (arith, l, ap length same, length-map es as_seen) in
    let there : get_or entries i (as_seen e) ≡ as_seen e = ap (λ (xs : List EntryValue). get_or xs i (as_seen e)) (sym same) ∙ (get_or-map as_seen es i e (as_seen e) within ∙ ap as_seen (sym is)) in
    subst (IsShaped s) there (h i (as_seen e) l)
