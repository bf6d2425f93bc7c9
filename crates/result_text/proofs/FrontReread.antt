-- The text of a front is read as it.
use Rattle.std.proofs.Common.{◌≡◌, ℕ, ◌+◌, ◌<◌, ◌≤◌, ◌^◌, Bool, true, false, ltb, List, [], ◌∷◌, ◌++◌, length, Option, Some, None, Ok, refl, sym, ap, subst, ◌∙◌, append_assoc, arith, inl, inr, All}
use Rattle.std.specs.Prelude.{codes, decimal, ◌||◌, is_some, is_none, if◌then◌else◌}
use Rattle.std.specs.List.{list_any, AllByRecursion, join_with_byte}
use Rattle.std.proofs.lemmas.Bool.{cases_Bool, or_parts, eq-eqb}
use Rattle.std.proofs.lemmas.List.{append-nil, length-append}
use Rattle.std.proofs.lemmas.List.Elements.{recursion_from_All}
use Rattle.std.proofs.lemmas.Slice.Eq.{bytes_eq-Decides}
use Rattle.line_words.specs.Rules.{Words, Test, Statement, first_broken}
use Rattle.line_words.specs.Run.{Reading, run, unless_broken}
use Rattle.line_words.specs.declared.refusals.Why.TheVariants.{BadStatement, Unclosed, NotInOrder}
use Rattle.line_words.proofs.Least.{run-nil}
use Rattle.line_words.proofs.Plain.{plain_whole_of-decimal}
use Rattle.names.specs.Names.{IsName}
use Rattle.spelled_lines.specs.Lines.{pieces, is_empty, words_of, spelled}
use Rattle.spelled_lines.proofs.FirstPiece.{pieces-nil, pieces-append}
use Rattle.spelled_lines.proofs.Spelled.{AreWords, IsSpelled, spelled_is, none_empty}
use Rattle.spelled_lines.proofs.Over.{read_line, read_end}
use Rattle.spec_model.specs.Spec.{SpecValue, Name, bits_of, design_variables}
use Rattle.spec_model.specs.WellFormed.{IsWellFormed}
use Rattle.result_text.specs.Spelling.{items_text, vector_words, implementation_text}
use Rattle.result_text.specs.Stating.{is_vector, vector_tests, item_tests, item_variable, later_words}
use Rattle.result_text.specs.Statements.{Stated, nothing, with_line, words_tests, result_rules}
use Rattle.result_text.specs.Answers.{EntryValue, entry_in, entry_of}
use Rattle.result_text.specs.Printed.{HasNames}
use Rattle.result_text.specs.Fronts.{FrontValue, IsShaped, IsFrontText, header_words, objectives_words, entry_words, end_words, entry_text, entries_text}
use Rattle.result_text.specs.FrontLines.{FrontStated, front_nothing, front_tests, tests_in, after_words, next_in, front_with_line, end_tests_in, front_rules, front_in}
use Rattle.result_text.specs.declared.places.Place.{Place}
use Rattle.result_text.specs.declared.places.Place.TheVariants.{Objectives, Between, Inside, Closed}
use Rattle.result_text.proofs.Going.{after, line_at, with_lines-push}
use Rattle.result_text.proofs.Parsing.{decimal_word, word_of}
use Rattle.result_text.proofs.Reread.{reread}
use Rattle.result_text.proofs.Rewriting.{none_of}
use Rattle.result_text.proofs.Accepting.{fine_alone}
use Rattle.result_text.proofs.FrontGoing.{front_after, front_line_at, front_line_tests, front_with_lines-push, front_goes_on}

-- ---- lines that are read

-- the lines of a text are read, and state this
record IsReached (s : SpecValue) (text : List ℕ) (stated : FrontStated) : Type 0 where
  number : ℕ
  done : List Statement
  reads : (more : List ℕ) → run (front_rules s) 1 [] (pieces (text ++ more)) ≡ run (front_rules s) number done (pieces more)
  state : front_after s done ≡ stated

reached_as : (s : SpecValue) (text text' : List ℕ) (stated stated' : FrontStated) → text ≡ text' → stated ≡ stated' → IsReached s text stated → IsReached s text' stated'
reached_as s text text' stated stated' e f r = subst (λ (t : List ℕ). IsReached s t stated') e (subst (IsReached s text) f r)

-- a spelled line more
line_more : (s : SpecValue) (text : List ℕ) (stated next : FrontStated) (ws : Words) → IsReached s text stated → IsSpelled ws → first_broken (front_line_tests s stated (spelled ws)) ≡ None
    → next_in s stated ws stated.place ≡ next → IsReached s (text ++ spelled ws) next
line_more s text stated next ws r p fine is = record {
  number = r.number + 1;
  done = r.done ++ front_line_at r.number (spelled ws) ∷ [];
  reads = λ more.
      ap (λ (t : List ℕ). run (front_rules s) 1 [] (pieces t)) (append_assoc text (spelled ws) more)
      ∙ r.reads (spelled ws ++ more)
      ∙ sym (front_goes_on s r.number r.done stated (spelled ws) (pieces more) (pieces (spelled ws ++ more)) _ refl (p.first more) (sym r.state) fine);
  state = front_with_lines-push s (front_nothing s) r.done (front_line_at r.number (spelled ws)) (spelled ws) refl
      ∙ ap (λ (x : FrontStated). front_with_line s x (spelled ws)) r.state
      ∙ ap (λ (x : Words). next_in s stated x stated.place) p.words ∙ is;
}

-- ---- the lines of an entry

-- nothing follows the line of a vector
last_line : (s : SpecValue) (number : ℕ) (done all : List Statement) (ps : List (List ℕ)) → run (result_rules s) number done ps ≡ Ok all → is_some (after s done).vector ≡ true → (ps ≡ [])
    × (done ≡ all)
last_line s number done all [] e t = (refl, (read_end (result_rules s) number done all e).1)
last_line s number done all (p ∷ ps) e t =
    let ws = words_of p in
    let step = read_line (result_rules s) number done p ps all e in
    let later = (fine_alone p (words_tests s (after s done) ws) step.0).later in
    let rest : List Test = if is_vector ws then vector_tests s (later_words ws) else (item_tests s ws ++ (NotInOrder, ltb (item_variable s ws) (after s done).least) ∷ []) in
    let first = none_of (BadStatement, is_some (after s done).vector || list_any is_empty ws) rest later in
    absurd (let c : true ≡ false = sym t ∙ (or_parts (is_some (after s done).vector) (list_any is_empty ws) first.0).0 in cc)

-- lines are read within a front, and the entry is done
record IsRun (s : SpecValue) (number : ℕ) (done : List Statement) (ps : List (List ℕ)) (next : FrontStated) : Type 0 where
  last : ℕ
  all : List Statement
  reads : (rest : List (List ℕ)) → run (front_rules s) number done (ps ++ rest) ≡ run (front_rules s) last all rest
  state : front_after s all ≡ next

-- the state once an entry is done
abbrev with_entry : SpecValue → FrontStated → EntryValue → FrontStated
with_entry s stated e = record { place = Between; entries = stated.entries ++ e ∷ []; current = nothing s; complete = stated.complete }

no_vector : {X : Type 0} (x : Option X) → is_some x ≡ false → is_none x ≡ true
no_vector None e = refl
no_vector (Some x) e = absurd (let c : true ≡ false = e in cc)

-- what an implementation's reader takes is taken within an entry
within : (s : SpecValue) (ps : List (List ℕ)) (n : ℕ) (before all : List Statement) → run (result_rules s) n before ps ≡ Ok all → is_some (after s before).vector ≡ false
    → (number : ℕ) (done : List Statement) (stated : FrontStated) → front_after s done ≡ stated → stated.place ≡ Inside → stated.current ≡ after s before
    → IsRun s number done ps (with_entry s stated (entry_of s all))
within s [] n before all e none number done stated is here current =
    let end = read_end (result_rules s) n before all e in
    let open_end = none_of (Unclosed, is_none (after s before).vector) [] end.0 in
    absurd (let c : true ≡ false = sym (no_vector (after s before).vector none) ∙ open_end.0 in cc)
within s (p ∷ ps) n before all e none number done stated is here current =
    let ws = words_of p in
    let step = read_line (result_rules s) n before p ps all e in
    let fine = fine_alone p (words_tests s (after s before) ws) step.0 in
    let words : first_broken (words_tests s stated.current ws) ≡ None = ap (λ (x : Stated). first_broken (words_tests s x ws)) current ∙ fine.later in
    let inside : first_broken (tests_in s stated p Inside) ≡ None = rw fine.ended words in
    let placed : first_broken (front_tests s stated p) ≡ None = ap (λ (x : Place). first_broken (tests_in s stated p x)) here ∙ inside in
    let taken : first_broken (front_line_tests s stated p) ≡ None = rw fine.good placed in
    let line = front_line_at number p in
    let now = with_line s (after s before) ws in
    let now_is : after s (before ++ line_at n p ∷ []) ≡ now = with_lines-push s (nothing s) before (line_at n p) in
    let state : front_after s (done ++ line ∷ []) ≡ after_words s stated now =
    front_with_lines-push s (front_nothing s) done line p refl ∙ ap (λ (x : FrontStated). front_with_line s x p) is ∙ ap (next_in s stated ws) here
    ∙ ap (λ (x : Stated). after_words s stated (with_line s x ws)) current in
    let goes : (rest : List (List ℕ)) → run (front_rules s) number done (p ∷ (ps ++ rest)) ≡ run (front_rules s) (number + 1) (done ++ line ∷ []) (ps ++ rest) =
    λ rest. sym (front_goes_on s number done stated p (ps ++ rest) (p ∷ (ps ++ rest)) _ refl refl (sym is) taken) in
    elim (cases_Bool (is_some now.vector)) [
      | inl t ↦
          let ended = last_line s (n + 1) (before ++ line_at n p ∷ []) all ps step.1 (ap (λ (x : Stated). is_some x.vector) now_is ∙ t) in
          let value : entry_in now ≡ entry_of s all = ap entry_in (sym now_is) ∙ ap (entry_of s) ended.1 in
          let closed : after_words s stated now ≡ with_entry s stated (entry_in now) = rw t refl in
          record {
            last = number + 1;
            all = done ++ line ∷ [];
            reads = λ rest. goes rest ∙ ap (λ (x : List (List ℕ)). run (front_rules s) (number + 1) (done ++ line ∷ []) (x ++ rest)) ended.0;
            state = state ∙ closed ∙ ap (with_entry s stated) value;
          }
      | inr f ↦
          let next : FrontStated = record stated { current = now } in
          let open_entry : after_words s stated now ≡ next = rw f refl in
          let r = within s ps (n + 1) (before ++ line_at n p ∷ []) all step.1 (ap (λ (x : Stated). is_some x.vector) now_is ∙ f) (number + 1) (done ++ line ∷ []) next (state ∙ open_entry) here
          (sym now_is) in
          record { last = r.last; all = r.all; reads = λ rest. goes rest ∙ r.reads rest; state = r.state }
    ]

-- the pieces of an implementation, and of more
pieces-implementation : (s : SpecValue) (e : EntryValue) (more : List ℕ) → pieces (implementation_text s (bits_of e.design) e.vector ++ more)
    ≡ pieces (implementation_text s (bits_of e.design) e.vector) ++ pieces more
pieces-implementation s e more =
    let items = items_text s (bits_of e.design) (design_variables s) in
    let body = items ++ join_with_byte 32 (vector_words e.vector) in
    let text : implementation_text s (bits_of e.design) e.vector ≡ body ++ 10 ∷ [] = sym (append_assoc items (join_with_byte 32 (vector_words e.vector)) (10 ∷ [])) in
    ap (λ (t : List ℕ). pieces (t ++ more)) text ∙ ap pieces (append_assoc body (10 ∷ []) more) ∙ pieces-append body more ∙ ap (λ (t : List ℕ). pieces t ++ pieces more) (sym text)

-- an implementation more
entry_more : (s : SpecValue) → IsWellFormed s → HasNames s → (text : List ℕ) (stated : FrontStated) (e : EntryValue) → IsReached s text stated → stated.place ≡ Inside → stated.current ≡ nothing s
    → IsShaped s e
    → IsReached s (text ++ implementation_text s (bits_of e.design) e.vector) (with_entry s stated e)
entry_more s w h text stated e r here current shaped =
    let own = implementation_text s (bits_of e.design) e.vector in
    let read = reread s w h e.design e.vector shaped.bits shaped.one_each (recursion_from_All (λ n. n < 2 ^ 63) e.vector shaped.small) in
    let q = within s (pieces own) 1 [] read.all read.reads refl r.number r.done stated r.state here current in
    record {
      number = q.last;
      done = q.all;
      reads = λ more.
          ap (λ (t : List ℕ). run (front_rules s) 1 [] (pieces t)) (append_assoc text own more) ∙ r.reads (own ++ more)
          ∙ ap (run (front_rules s) r.number r.done) (pieces-implementation s e more) ∙ q.reads (pieces more);
      state = q.state ∙ ap (with_entry s stated) read.value;
    }

-- ---- the entries

-- between entries, after these
abbrev between : SpecValue → List EntryValue → FrontStated
between s es = record { place = Between; entries = es; current = nothing s; complete = false }

abbrev inside : SpecValue → List EntryValue → FrontStated
inside s es = record { place = Inside; entries = es; current = nothing s; complete = false }

entry_word : AreWords (codes "entry" ∷ [])
entry_word = (record { some = omega arith; bytes = refl }, tt)

number_taken : (s : SpecValue) (es : List EntryValue) → length es + 1 < 2 ^ 63 → (p : IsSpelled (entry_words (length es + 1))) → list_any is_empty (entry_words (length es + 1)) ≡ false
    → first_broken (front_line_tests s (between s es) (spelled (entry_words (length es + 1)))) ≡ None
number_taken s es lt p none = rw (p.good, p.ended, p.words, none, plain_whole_of-decimal (length es + 1) lt, eq-eqb (length es + 1) (length es + 1) refl) refl

number_read : (s : SpecValue) (text : List ℕ) (es : List EntryValue) → IsReached s text (between s es) → length es + 1 < 2 ^ 63
    → IsReached s (text ++ spelled (entry_words (length es + 1))) (inside s es)
number_read s text es r lt =
    let n = length es + 1 in
    let words : AreWords (entry_words n) = (entry_word.0, (decimal_word n lt, tt)) in
    let p = spelled_is (codes "entry") (decimal n ∷ []) words in
    line_more s text (between s es) (inside s es) (entry_words n) r p (number_taken s es lt p (none_empty (entry_words n) words)) refl

entries_read : (s : SpecValue) → IsWellFormed s → HasNames s → (es before : List EntryValue) (text : List ℕ) → IsReached s text (between s before) → AllByRecursion (IsShaped s) es
    → length before + length es < 2 ^ 63
    → IsReached s (text ++ entries_text s (length before + 1) es) (between s (before ++ es))
entries_read s w h [] before text r shaped lt = reached_as s text (text ++ []) (between s before) (between s (before ++ [])) (sym (append-nil text)) (ap (between s) (sym (append-nil before))) r
entries_read s w h (e ∷ es) before text r shaped lt =
    let n = length before + 1 in
    let line = spelled (entry_words n) in
    let own = implementation_text s (bits_of e.design) e.vector in
    let first = number_read s text before r (omega (arith, lt)) in
    let second = entry_more s w h (text ++ line) (inside s before) e first refl refl shaped.0 in
    let longer : length (before ++ e ∷ []) ≡ n = length-append before (e ∷ []) ∙ omega arith in
    let third = entries_read s w h es (before ++ e ∷ []) ((text ++ line) ++ own) second shaped.1 (omega (arith, lt, longer)) in
    let rest = entries_text s (n + 1) es in
    let whole_text : ((text ++ line) ++ own) ++ entries_text s (length (before ++ e ∷ []) + 1) es ≡ text ++ ((line ++ own) ++ rest) =
    ap (λ (k : ℕ). ((text ++ line) ++ own) ++ entries_text s (k + 1) es) longer ∙ ap (λ (t : List ℕ). t ++ rest) (append_assoc text line own) ∙ append_assoc text (line ++ own) rest in
    reached_as s _ _ _ _ whole_text (ap (between s) (append_assoc before (e ∷ []) es)) third

-- ---- the first two lines and the last one

names_are : (names : List Name) → AllByRecursion IsName names → AreWords names
names_are [] h = tt
names_are (n ∷ names) h = (word_of n h.0, names_are names h.1)

head_read : (s : SpecValue) → All IsName s.objectives → IsReached s (spelled header_words ++ spelled (objectives_words s)) (between s [])
head_read s names =
    let none : IsReached s [] (front_nothing s) = record { number = 1; done = []; reads = λ more. refl; state = refl } in
    let hp = spelled_is (codes "front") (codes "1" ∷ []) (record { some = omega arith; bytes = refl }, (record { some = omega arith; bytes = refl }, tt)) in
    let second : FrontStated = record { place = Objectives; entries = []; current = nothing s; complete = false } in
    let header = line_more s [] (front_nothing s) second header_words none hp refl refl in
    let words : AreWords (objectives_words s) = (record { some = omega arith; bytes = refl }, names_are s.objectives (recursion_from_All IsName s.objectives names)) in
    let p = spelled_is (codes "objectives") s.objectives words in
    let empty = none_empty (objectives_words s) words in
    let fine : first_broken (front_line_tests s second (spelled (objectives_words s))) ≡ None =
    rw (p.good, p.ended, p.words, empty, (bytes_eq-Decides (spelled (objectives_words s)) (spelled (objectives_words s))).1 refl) refl in
    line_more s (spelled header_words) second (between s []) (objectives_words s) header p fine refl

-- a front is closed
abbrev closed : SpecValue → FrontValue → FrontStated
closed s front = record { place = Closed; entries = front.entries; current = nothing s; complete = front.complete }

end_read : (s : SpecValue) (es : List EntryValue) (text : List ℕ) (complete : Bool) → IsReached s text (between s es)
    → IsReached s (text ++ spelled (end_words complete)) (closed s (record { entries = es; complete = complete }))
end_read s es text true r =
    let words : AreWords (end_words true) = (record { some = omega arith; bytes = refl }, tt) in
    let p = spelled_is (codes "complete") [] words in
    line_more s text (between s es) (closed s (record { entries = es; complete = true })) (end_words true) r p refl refl
end_read s es text false r =
    let words : AreWords (end_words false) = (record { some = omega arith; bytes = refl }, tt) in
    let p = spelled_is (codes "open") [] words in
    line_more s text (between s es) (closed s (record { entries = es; complete = false })) (end_words false) r p refl refl

-- ---- the whole text

-- an entry has a byte at least
many : (s : SpecValue) (i : ℕ) (es : List EntryValue) → length es ≤ length (entries_text s i es)
many s i [] = omega arith
many s i (e ∷ es) =
    let first = join_with_byte 32 (entry_words i) in
    let own = implementation_text s (bits_of e.design) e.vector in
    let rest = entries_text s (i + 1) es in
    omega (arith, many s (i + 1) es, length-append (entry_text s i e) rest, length-append (spelled (entry_words i)) own, length-append first (10 ∷ []))

-- reading a front's text gives statements that state it
pub record IsFrontRead (s : SpecValue) (bytes : List ℕ) (front : FrontValue) : Type 0 where
  pub all : List Statement
  pub reads : run (front_rules s) 1 [] (pieces bytes) ≡ Ok all
  pub value : front_in s all ≡ front

abbrev ok : List Statement → Reading
ok all = Ok all

abbrev front_value : List EntryValue → Bool → FrontValue
front_value entries complete = record { entries = entries; complete = complete }

pub front_reread : (s : SpecValue) → IsWellFormed s → HasNames s → All IsName s.objectives → (bytes : List ℕ) (front : FrontValue) → length bytes < 2 ^ 63 → IsFrontText s bytes front
    → IsFrontRead s bytes front
front_reread s w h names bytes front small is =
    let head = spelled header_words ++ spelled (objectives_words s) in
    let entries = entries_text s 1 front.entries in
    let last = spelled (end_words front.complete) in
    let whole_text : bytes ≡ (head ++ entries) ++ last =
    is.text in
    let few : length front.entries < 2 ^ 63 = omega (arith, small, many s 1 front.entries, ap length whole_text, length-append (head ++ entries) last, length-append head entries) in
    let r = entries_read s w h front.entries [] head (head_read s names) (recursion_from_All (IsShaped s) front.entries is.entries) (omega (arith, few)) in
    let c = end_read s front.entries (head ++ entries) front.complete r in
    let end : run (front_rules s) c.number c.done [] ≡ ok c.done = run-nil (front_rules s) c.number c.done
    ∙ ap (λ (x : FrontStated). unless_broken c.number (first_broken (end_tests_in x.place)) (ok c.done)) c.state in
    record {
      all = c.done;
      reads =
          ap (λ (t : List ℕ). run (front_rules s) 1 [] (pieces t)) (whole_text ∙ sym (append-nil ((head ++ entries) ++ last))) ∙ c.reads [] ∙ ap (run (front_rules s) c.number c.done) pieces-nil ∙ end;
      value = ap (λ (x : FrontStated). front_value x.entries x.complete) c.state;
    }
