-- A front text that breaks no rule is the text of the front that it states.
use Rattle.std.proofs.Common.{◌≡◌, ℕ, ◌+◌, Bool, true, false, not, List, [], ◌∷◌, ◌++◌, length, None, Ok, refl, sym, ap, subst, ◌∙◌, append_assoc, arith, ◌⊎◌, inl, inr, All}
use Rattle.std.specs.Prelude.{codes, decimal, ◌||◌, ◌==◌, is_some, is_none, Option, Some}
use Rattle.std.specs.List.{list_any}
use Rattle.std.specs.Str.{bytes_eq}
use Rattle.std.proofs.lemmas.Bool.{cases_Bool, eqb-true, or_parts, not-false}
use Rattle.std.proofs.lemmas.List.{append-nil}
use Rattle.std.proofs.lemmas.List.Elements.{All-push}
use Rattle.std.proofs.lemmas.Slice.Eq.{bytes_eq-Decides}
use Rattle.line_words.specs.Rules.{Words, Test, Statement, first_broken}
use Rattle.line_words.specs.Run.{run}
use Rattle.line_words.specs.declared.refusals.Why.TheVariants.{BadByte, NoHeader, BadStatement, BadNumber, UnknownName, Unclosed, TooBig, NotInOrder}
use Rattle.spelled_lines.specs.Lines.{pieces, is_bad, lacks_lf, is_empty, body_of, words_of, spelled}
use Rattle.spelled_lines.proofs.Ended.{ended_spelled}
use Rattle.spelled_lines.proofs.Over.{IsKept, whole}
use Rattle.spec_model.specs.Spec.{SpecValue}
use Rattle.spec_model.specs.WellFormed.{IsWellFormed}
use Rattle.result_text.specs.Stating.{starts_with, misshapen, no_number, too_big, number_in}
use Rattle.result_text.specs.Statements.{Stated, nothing, with_line, words_tests}
use Rattle.result_text.specs.Answers.{entry_in}
use Rattle.result_text.specs.Fronts.{IsShaped, IsFrontText, header_words, objectives_words, entry_words, end_words, entry_text, entries_text, front_text}
use Rattle.result_text.specs.FrontLines.{FrontStated, front_nothing, is_loose, byte_tests, header_tests, objectives_tests, number_tests, between_tests, tests_in, next_number, after_words, after_between, next_in, is_closed, is_header, front_rules, front_in}
use Rattle.result_text.specs.declared.places.Place.{Place}
use Rattle.result_text.specs.declared.places.Place.TheVariants.{Header, Objectives, Between, Inside, Closed}
use Rattle.result_text.proofs.Rewriting.{none_of, cons_same, misshapen_not, numerals}
use Rattle.result_text.proofs.Accepting.{IsSpelt, spelt_more, start}
use Rattle.result_text.proofs.Exactly.{text_of_spelt}
use Rattle.result_text.proofs.FrontGoing.{front_after, front_line_at, front_with_lines-push}
use Rattle.result_text.proofs.FrontPrinting.{entries-push}

-- ---- the text so far

-- the first two lines
abbrev head_text : SpecValue → List ℕ
head_text s = spelled header_words ++ spelled (objectives_words s)

abbrev TextIn : SpecValue → FrontStated → List ℕ → Place → Type 0
TextIn s stated text Header = (text ≡ []) × (stated.entries ≡ []) × (stated.current ≡ nothing s)
TextIn s stated text Objectives = (text ≡ spelled header_words) × (stated.entries ≡ []) × (stated.current ≡ nothing s)
TextIn s stated text Between = (text ≡ head_text s ++ entries_text s 1 stated.entries) × (stated.current ≡ nothing s)
TextIn s stated text Inside =
    (part : List ℕ) × (text ≡ (head_text s ++ entries_text s 1 stated.entries ++ spelled (entry_words (next_number stated))) ++ part) × IsSpelt s stated.current part
TextIn s stated text Closed = text ≡ head_text s ++ entries_text s 1 stated.entries ++ spelled (end_words stated.complete)

-- what was stated is written by the text
record IsFrontSpelt (s : SpecValue) (stated : FrontStated) (text : List ℕ) : Type 0 where
  shaped : All (IsShaped s) stated.entries
  is : TextIn s stated text stated.place

-- ---- lines between entries

-- the line above an entry
record IsEntryLine (next : ℕ) (ws : Words) : Type 0 where
  begins : starts_with (codes "entry") ws ≡ true
  words : ws ≡ entry_words next

-- the last line
record IsEndLine (ws : Words) : Type 0 where
  ends : starts_with (codes "entry") ws ≡ false
  words : ws ≡ end_words (starts_with (codes "complete") ws)

number_back : (next : ℕ) (k w : List ℕ) → bytes_eq k (codes "entry") ≡ true → first_broken (number_tests next w) ≡ None → IsEntryLine next (k ∷ w ∷ [])
number_back next k w t e =
    let a = none_of (BadNumber, no_number w) ((TooBig, too_big w) ∷ (NotInOrder, not (number_in w == next)) ∷ []) e in
    let b = none_of (TooBig, too_big w) ((NotInOrder, not (number_in w == next)) ∷ []) a.1 in
    let d = none_of (NotInOrder, not (number_in w == next)) [] b.1 in
    let number : number_in w ≡ next = eqb-true (number_in w) next (not-false _ d.0) in
    let word = numerals (w ∷ []) (rw a.0 refl) (rw b.0 refl) in
    record {
      begins = t;
      words = cons_same k (codes "entry") (w ∷ []) (decimal next ∷ []) ((bytes_eq-Decides k (codes "entry")).0 t) (word.words ∙ ap (λ (n : ℕ). decimal n ∷ []) number);
    }

end_back : (k : List ℕ) → not (bytes_eq k (codes "complete") || bytes_eq k (codes "open")) ≡ false → IsEndLine (k ∷ [])
end_back k e =
    elim (cases_Bool (bytes_eq k (codes "complete"))) [
      | inl t ↦
          let is = (bytes_eq-Decides k (codes "complete")).0 t in
          record { ends = ap (λ (x : List ℕ). bytes_eq x (codes "entry")) is; words = rw t (ap (λ (x : List ℕ). x ∷ []) is) }
      | inr f ↦
          let is = (bytes_eq-Decides k (codes "open")).0 (sym (ap (λ (b : Bool). b || bytes_eq k (codes "open")) f) ∙ not-false _ e) in
          record { ends = ap (λ (x : List ℕ). bytes_eq x (codes "entry")) is; words = rw f (ap (λ (x : List ℕ). x ∷ []) is) }
    ]

between_back : (next : ℕ) (ws : Words) → first_broken (between_tests next ws) ≡ None → IsEntryLine next ws ⊎ IsEndLine ws
between_back next [] e = absurd (misshapen_not e)
between_back next (k ∷ []) e = inr (end_back k (none_of (BadStatement, not (bytes_eq k (codes "complete") || bytes_eq k (codes "open"))) [] e).0)
between_back next (k ∷ w ∷ []) e =
    elim (cases_Bool (bytes_eq k (codes "entry"))) [
      | inl t ↦ let tests : between_tests next (k ∷ w ∷ []) ≡ number_tests next w = rw t refl in inl (number_back next k w t (sym (ap first_broken tests) ∙ e))
      | inr f ↦ absurd (let tests : between_tests next (k ∷ w ∷ []) ≡ misshapen = rw f refl in misshapen_not (sym (ap first_broken tests) ∙ e))
    ]
between_back next (k ∷ w ∷ x ∷ more) e = absurd (misshapen_not e)

-- ---- a line more, by its place

-- what is shown of a line
abbrev Adds : SpecValue → FrontStated → List ℕ → List ℕ → Place → Type 0
Adds s stated text piece place = IsFrontSpelt s (next_in s stated (words_of piece) place) (text ++ piece)

header_adds : (s : SpecValue) (stated : FrontStated) (text piece : List ℕ) → All (IsShaped s) stated.entries → TextIn s stated text Header → first_broken (header_tests piece) ≡ None
    → piece ≡ body_of piece ++ 10 ∷ []
    → Adds s stated text piece Header
header_adds s stated text piece shaped h e ended =
    let a = none_of (NoHeader, not (bytes_eq (body_of piece) (codes "front 1"))) ((BadStatement, lacks_lf piece) ∷ []) e in
    let is = (bytes_eq-Decides (body_of piece) (codes "front 1")).0 (not-false _ a.0) in
    let line : piece ≡ spelled header_words = ended ∙ ap (λ (t : List ℕ). t ++ 10 ∷ []) is in
    record { shaped = shaped; is = (ap (λ (t : List ℕ). t ++ piece) h.0 ∙ line, h.1, h.2) }

objectives_adds : (s : SpecValue) (stated : FrontStated) (text piece : List ℕ) → All (IsShaped s) stated.entries → TextIn s stated text Objectives → first_broken (objectives_tests s piece) ≡ None
    → Adds s stated text piece Objectives
objectives_adds s stated text piece shaped h e =
    let a = none_of (BadStatement, is_loose piece || not (starts_with (codes "objectives") (words_of piece))) ((UnknownName, not (bytes_eq piece (spelled (objectives_words s)))) ∷ []) e in
    let b = none_of (UnknownName, not (bytes_eq piece (spelled (objectives_words s)))) [] a.1 in
    let line = (bytes_eq-Decides piece (spelled (objectives_words s))).0 (not-false _ b.0) in
    let no_entries : entries_text s 1 stated.entries ≡ [] = ap (entries_text s 1) h.1 in
    let written : text ++ piece ≡ head_text s = ap (λ (t : List ℕ). t ++ piece) h.0 ∙ ap (λ (t : List ℕ). spelled header_words ++ t) line in
    record { shaped = shaped; is = (written ∙ sym (append-nil (head_text s)) ∙ ap (λ (t : List ℕ). head_text s ++ t) (sym no_entries), h.2) }

between_adds : (s : SpecValue) (stated : FrontStated) (text piece : List ℕ) → All (IsShaped s) stated.entries → TextIn s stated text Between → first_broken (tests_in s stated piece Between) ≡ None
    → piece ≡ body_of piece ++ 10 ∷ []
    → Adds s stated text piece Between
between_adds s stated text piece shaped h e ended =
    let ws = words_of piece in
    let entries = entries_text s 1 stated.entries in
    let a = none_of (BadStatement, is_loose piece) (between_tests (next_number stated) ws) e in
    let line : piece ≡ spelled ws = ended_spelled piece ended in
    let written : text ++ piece ≡ head_text s ++ entries ++ spelled ws = ap (λ (t : List ℕ). t ++ piece) h.0 ∙ ap (λ (t : List ℕ). head_text s ++ entries ++ t) line in
    elim (between_back (next_number stated) ws a.1) [
      | inl entry ↦
          let whole_line = ap (λ (x : Words). head_text s ++ entries ++ spelled x) entry.words in
          let state : after_between stated ws ≡ record stated { place = Inside } = rw entry.begins refl in
          subst (λ (x : FrontStated). IsFrontSpelt s x (text ++ piece)) (sym state) (record {
            shaped = shaped;
            is = ([], written ∙ whole_line ∙ sym (append-nil (head_text s ++ entries ++ spelled (entry_words (next_number stated)))), subst (λ (x : Stated). IsSpelt s x []) (sym h.1) (start s));
          })
      | inr last ↦
          let whole_line = ap (λ (x : Words). head_text s ++ entries ++ spelled x) last.words in
          let state : after_between stated ws ≡ record stated { place = Closed; complete = starts_with (codes "complete") ws } = rw last.ends refl in
          subst (λ (x : FrontStated). IsFrontSpelt s x (text ++ piece)) (sym state) (record { shaped = shaped; is = written ∙ whole_line })
    ]

some_is_not_none : {X : Type 0} (x : Option X) → is_some x ≡ true → is_none x ≡ false
some_is_not_none None e = absurd (let c : false ≡ true = e in cc)
some_is_not_none (Some x) e = refl

inside_adds : (s : SpecValue) → IsWellFormed s → (stated : FrontStated) (text piece : List ℕ) → All (IsShaped s) stated.entries → stated.place ≡ Inside → TextIn s stated text Inside
    → list_any is_bad piece ≡ false → first_broken (tests_in s stated piece Inside) ≡ None → piece ≡ body_of piece ++ 10 ∷ [] → Adds s stated text piece Inside
inside_adds s w stated text piece shaped here h good e ended =
    let ws = words_of piece in
    let now = with_line s stated.current ws in
    let front = head_text s ++ entries_text s 1 stated.entries ++ spelled (entry_words (next_number stated)) in
    let a = none_of (BadStatement, lacks_lf piece) (words_tests s stated.current ws) e in
    let part = h.0 ++ piece in
    let spelt = spelt_more s w stated.current h.0 piece h.2 (rw (good, a.0) a.1) (ended_spelled piece ended) in
    let written : text ++ piece ≡ front ++ part = ap (λ (t : List ℕ). t ++ piece) h.1 ∙ append_assoc front h.0 piece in
    elim (cases_Bool (is_some now.vector)) [
      | inl t ↦
          let entry = entry_in now in
          let is = text_of_spelt s now part spelt (some_is_not_none now.vector t) in
          let entries = entries_text s 1 stated.entries in
          let number : next_number stated ≡ 1 + length stated.entries = omega arith in
          let line = spelled (entry_words (next_number stated)) in
          let whole_entry : line ++ part ≡ entry_text s (1 + length stated.entries) entry =
          ap (λ (t : List ℕ). line ++ t) is.text ∙ ap (λ (n : ℕ). entry_text s n entry) number in
          let longer : text ++ piece ≡ head_text s ++ entries_text s 1 (stated.entries ++ entry ∷ []) =
          written ∙ append_assoc (head_text s ++ entries) line part ∙ ap (λ (t : List ℕ). head_text s ++ entries ++ t) whole_entry
          ∙ append_assoc (head_text s) entries (entry_text s (1 + length stated.entries) entry) ∙ ap (λ (t : List ℕ). head_text s ++ t) (sym (entries-push s 1 stated.entries entry)) in
          let state : after_words s stated now ≡ record { place = Between; entries = stated.entries ++ entry ∷ []; current = nothing s; complete = stated.complete } = rw t refl in
          subst (λ (x : FrontStated). IsFrontSpelt s x (text ++ piece)) (sym state) (record {
            shaped = All-push (IsShaped s) stated.entries entry shaped (record { bits = is.bits; one_each = is.one_each; small = is.small });
            is = (longer, refl);
          })
      | inr f ↦
          let next : FrontStated = record stated { current = now } in
          let state : after_words s stated now ≡ next = rw f refl in
          subst (λ (x : FrontStated). IsFrontSpelt s x (text ++ piece)) (sym state) (record { shaped = shaped; is = subst (TextIn s next (text ++ piece)) (sym here) (part, written, spelt) })
    ]

adds : (s : SpecValue) → IsWellFormed s → (stated : FrontStated) (text piece : List ℕ) (place : Place) → stated.place ≡ place → All (IsShaped s) stated.entries → TextIn s stated text place
    → list_any is_bad piece ≡ false → first_broken (tests_in s stated piece place) ≡ None → piece ≡ body_of piece ++ 10 ∷ [] → Adds s stated text piece place
adds s w stated text piece Header here shaped h good e ended = header_adds s stated text piece shaped h e ended
adds s w stated text piece Objectives here shaped h good e ended = objectives_adds s stated text piece shaped h e
adds s w stated text piece Between here shaped h good e ended = between_adds s stated text piece shaped h e ended
adds s w stated text piece Inside here shaped h good e ended = inside_adds s w stated text piece shaped here h good e ended
adds s w stated text piece Closed here shaped h good e ended = absurd (misshapen_not e)

-- a line without LF breaks a rule
not_ended : (s : SpecValue) (stated : FrontStated) (piece : List ℕ) (place : Place) → lacks_lf piece ≡ true → first_broken (tests_in s stated piece place) ≡ None → ⊥
not_ended s stated piece Header lacks e =
    let a = none_of (NoHeader, not (bytes_eq (body_of piece) (codes "front 1"))) ((BadStatement, lacks_lf piece) ∷ []) e in
    let b = none_of (BadStatement, lacks_lf piece) [] a.1 in
    let c : true ≡ false = sym lacks ∙ b.0 in cc
not_ended s stated piece Objectives lacks e =
    let a = none_of (BadStatement, is_loose piece || not (starts_with (codes "objectives") (words_of piece))) ((UnknownName, not (bytes_eq piece (spelled (objectives_words s)))) ∷ []) e in
    let b = or_parts (is_loose piece) (not (starts_with (codes "objectives") (words_of piece))) a.0 in
    let d = or_parts (lacks_lf piece) (list_any is_empty (words_of piece)) b.0 in
    let c : true ≡ false = sym lacks ∙ d.0 in cc
not_ended s stated piece Between lacks e =
    let a = none_of (BadStatement, is_loose piece) (between_tests (next_number stated) (words_of piece)) e in
    let d = or_parts (lacks_lf piece) (list_any is_empty (words_of piece)) a.0 in
    let c : true ≡ false = sym lacks ∙ d.0 in cc
not_ended s stated piece Inside lacks e =
    let a = none_of (BadStatement, lacks_lf piece) (words_tests s stated.current (words_of piece)) e in
    let c : true ≡ false = sym lacks ∙ a.0 in cc
not_ended s stated piece Closed lacks e = misshapen_not e

-- ---- the whole text

abbrev Kept : SpecValue → List Statement → List ℕ → Type 0
Kept s done text = IsFrontSpelt s (front_after s done) text

byte_fine : (piece : List ℕ) (later : List Test) → first_broken (byte_tests piece ++ later) ≡ None → (list_any is_bad piece ≡ false) × (first_broken later ≡ None)
byte_fine piece later e = none_of (BadByte, list_any is_bad piece) later e

front_kept : (s : SpecValue) → IsWellFormed s → IsKept (front_rules s) (Kept s)
front_kept s w = record {
  start = record { shaped = λ k d lt. absurd (omega (arith, lt)); is = (refl, refl, refl) };
  more = λ done text piece number h fine ended.
      let stated = front_after s done in
      let p = byte_fine piece (tests_in s stated piece stated.place) fine in
      subst (λ (x : FrontStated). IsFrontSpelt s x (text ++ piece)) (sym (front_with_lines-push s (front_nothing s) done (front_line_at number piece) piece refl))
      (adds s w stated text piece stated.place refl h.shaped h.is p.0 p.1 ended);
  ended = λ done piece lacks fine.
      let stated = front_after s done in
      not_ended s stated piece stated.place lacks (byte_fine piece (tests_in s stated piece stated.place) fine).1;
}

closed_text : (s : SpecValue) (stated : FrontStated) (text : List ℕ) (place : Place) → not (is_closed place) ≡ false → TextIn s stated text place
    → text ≡ front_text s (record { entries = stated.entries; complete = stated.complete })
closed_text s stated text Header e h = absurd (let c : true ≡ false = e in cc)
closed_text s stated text Objectives e h = absurd (let c : true ≡ false = e in cc)
closed_text s stated text Between e h = absurd (let c : true ≡ false = e in cc)
closed_text s stated text Inside e h = absurd (let c : true ≡ false = e in cc)
closed_text s stated text Closed e h = h

pub front_whole : (s : SpecValue) → IsWellFormed s → (bytes : List ℕ) (all : List Statement) → run (front_rules s) 1 [] (pieces bytes) ≡ Ok all → IsFrontText s bytes (front_in s all)
front_whole s w bytes all e =
    let h = whole (front_rules s) (Kept s) (front_kept s w) bytes all e in
    let stated = front_after s all in
    let a = none_of (NoHeader, is_header stated.place) ((Unclosed, not (is_closed stated.place)) ∷ []) h.closed in
    let b = none_of (Unclosed, not (is_closed stated.place)) [] a.1 in
    record { entries = h.kept.shaped; text = closed_text s stated bytes stated.place b.0 h.kept.is }
