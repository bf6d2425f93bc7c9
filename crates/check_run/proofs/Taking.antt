-- A proof file that is taken in parts: how far it leads.
use Rattle.std.proofs.Common.{◌≡◌, ℕ, ◌+◌, ◌<◌, ◌≤◌, List, [], ◌∷◌, ◌++◌, length, take, drop, Option, Some, None, Err, IfSome, refl, sym, ap, ◌∙◌, arith}
use Rattle.std.specs.List.{list_any}
use Rattle.std.proofs.Math.Seq.{take-add}
use Rattle.std.proofs.lemmas.List.{append_assoc, append-nil, take-append-drop, take_all}
use Rattle.line_words.specs.Front.{is_lf}
use Rattle.desk_io.specs.Files.{Files, content}
use Rattle.spelled_lines.specs.Lines.{pieces}
use Rattle.spelled_lines.proofs.FirstPiece.{pieces-nil}
use Rattle.front_model.specs.Fronts.{vectors_of}
use Rattle.front_model.specs.Judging.{Progress, take_lines, verdict_if, verdict_of}
use Rattle.front_model.specs.Laws.{RefusalStays}
use Rattle.front_model.specs.declared.refusals.Refused.{Refused}
use Rattle.front_model.specs.declared.refusals.Verdict.{Verdict}
use Rattle.front_model.specs.declared.refusals.Verdict.TheVariants as verdicts
use Rattle.proof_checker.specs.Checkers.{CheckerValue, with_line, Takes}
use Rattle.proof_checker.specs.declared.faults.LineFault.{LineFault}
use Rattle.proof_checker.specs.declared.faults.LineFault.TheVariants as lines
use Rattle.check_run.specs.Checking.{OfContent}
use Rattle.check_run.specs.Taking.{HasNoLf, IsCut, led, left_to, TakesOn, RefusesIn, TakesBytes, TakesPart, IsReadTo}
use Rattle.check_run.specs.declared.proof_lines.ProofLines.{ProofLines}
use Rattle.check_run.proofs.Lines.{no_lf_joined, pieces_line, pieces_alone}

-- ---- a line

-- the last part of a line, with its LF
abbrev pub ended : List ℕ → List ℕ
ended body = body ++ 10 ∷ []

ended_more : (body more : List ℕ) → ended body ++ more ≡ body ++ 10 ∷ more
ended_more body more = append_assoc body (10 ∷ []) more

-- a line leads as far as the checker that has taken it
led_line : (c : CheckerValue) (body more : List ℕ) → HasNoLf body → led c (body ++ 10 ∷ more) ≡ led (with_line c (ended body)) more
led_line c body more h = ap (take_lines c.spec (vectors_of c.front) c.progress) (pieces_line body more h)

-- the same of a line of which the first part is held
held_line : (old : ProofLines) (body more : List ℕ) → HasNoLf old.held.items → HasNoLf body → left_to old (ended body ++ more) ≡ led (with_line old.checker (old.held.items ++ ended body)) more
held_line old body more first last =
    let held : List ℕ = old.held.items in
    let text : held ++ (ended body ++ more) ≡ (held ++ body) ++ 10 ∷ more = ap (λ (t : List ℕ). held ++ t) (ended_more body more) ∙ sym (append_assoc held body (10 ∷ more)) in
    let line : ended (held ++ body) ≡ held ++ ended body = append_assoc held body (10 ∷ []) in
    ap (led old.checker) text ∙ led_line old.checker (held ++ body) more (no_lf_joined held body first last)
    ∙ ap (λ (l : List ℕ). led (with_line old.checker l) more) line

pub line_taken : (old new : ProofLines) (body : List ℕ) → HasNoLf old.held.items → HasNoLf body → new.held.items ≡ [] → new.checker ≡ with_line old.checker (old.held.items ++ ended body)
    → TakesOn old new (ended body)
line_taken old new body first last empty is = record {
  held = ap (list_any is_lf) empty;
  goes_on = λ more.
      ap (λ (t : List ℕ). led new.checker (t ++ more)) empty ∙ ap (λ (c : CheckerValue). led c more) is
      ∙ sym (held_line old body more first last);
}

pub line_refused : (old : ProofLines) (body : List ℕ) (c : CheckerValue) (r : Refused) → RefusalStays → HasNoLf old.held.items → HasNoLf body
    → c ≡ with_line old.checker (old.held.items ++ ended body) → c.progress.refused ≡ Some r → RefusesIn old (ended body) r
line_refused old body c r stays first last is refused more =
    let now = ap (λ (p : Progress). p.refused) (stays c.spec (vectors_of c.front) (pieces more) c.progress r refused) ∙ refused in
    ap (λ (p : Progress). p.refused) (held_line old body more first last ∙ ap (λ (d : CheckerValue). led d more) (sym is)) ∙ now

pub fault_taken : (T : Type 0) (old new : ProofLines) (body : List ℕ) (c : CheckerValue) (fault : LineFault) → RefusalStays → HasNoLf old.held.items → HasNoLf body
    → Takes {T = T} old.checker (old.held.items ++ ended body) c (Err fault) → TakesBytes {T = T} old new (ended body) (Err fault)
fault_taken T old new body c (lines.Refused r) stays first last takes = line_refused old body c r stays first last takes.0 takes.1
fault_taken T old new body c lines.NoMemory stays first last takes = tt

-- ---- lines one after another

-- the rest leads as far as all bytes do
abbrev pub Follows : ProofLines → ProofLines → List ℕ → List ℕ → Type 0
Follows old now bytes rest = (more : List ℕ) → left_to now (rest ++ more) ≡ left_to old (bytes ++ more)

cut_more : (rest body after more : List ℕ) → IsCut rest body after → ended body ++ (after ++ more) ≡ rest ++ more
cut_more rest body after more cut = ended_more body (after ++ more) ∙ sym (ap (λ (t : List ℕ). t ++ more) cut.whole ∙ append_assoc body (10 ∷ after) more)

pub refused_on : (old now : ProofLines) (bytes rest body after : List ℕ) (r : Refused) → IsCut rest body after → RefusesIn now (ended body) r → Follows old now bytes rest → RefusesIn old bytes r
refused_on old now bytes rest body after r cut refused follows more =
    ap (λ (p : Progress). p.refused) (sym (ap (left_to now) (cut_more rest body after more cut) ∙ follows more)) ∙ refused (after ++ more)

pub fault_on : (T : Type 0) (old now next : ProofLines) (bytes rest body after : List ℕ) (fault : LineFault) → IsCut rest body after → TakesBytes {T = T} now next (ended body) (Err fault)
    → Follows old now bytes rest → TakesBytes {T = T} old next bytes (Err fault)
fault_on T old now next bytes rest body after (lines.Refused r) cut takes follows = refused_on old now bytes rest body after r cut takes follows
fault_on T old now next bytes rest body after lines.NoMemory cut takes follows = tt

-- ---- the end

pub ends_empty : (reader : ProofLines) → reader.held.items ≡ [] → left_to reader [] ≡ reader.checker.progress
ends_empty reader empty = ap (λ (t : List ℕ). led reader.checker (t ++ [])) empty ∙ ap (take_lines reader.checker.spec (vectors_of reader.checker.front) reader.checker.progress) pieces-nil

pub ends_line : (reader : ProofLines) → 0 < length reader.held.items → HasNoLf reader.held.items → left_to reader [] ≡ (with_line reader.checker reader.held.items).progress
ends_line reader some clean =
    ap (led reader.checker) (append-nil reader.held.items)
    ∙ ap (take_lines reader.checker.spec (vectors_of reader.checker.front) reader.checker.progress) (pieces_alone reader.held.items some clean)

pub refused_verdict : (p : Progress) (r : Refused) → p.refused ≡ Some r → verdict_of p ≡ verdicts.Refused r
refused_verdict p r e = ap (verdict_if p) e
    -- ---- the file

parts_found : (files : Option Files) (name : List ℕ) (at count : ℕ) (bytes more : List ℕ) → IfSome files (λ all. bytes ≡ take at (content all name))
    → IfSome files (λ all. more ≡ take count (drop at (content all name))) → IfSome files (λ all. bytes ++ more ≡ take (at + count) (content all name))
parts_found None name at count bytes more first second = tt
parts_found (Some all) name at count bytes more first second = rw (first, second) (sym (take-add at count (content all name)))

pub reads_on : (files : Option Files) (name : List ℕ) (at count : ℕ) (c : CheckerValue) (now next : ProofLines) → IsReadTo files name at c now → TakesPart files name at count now next None
    → IsReadTo files name (at + count) c next
reads_on files name at count c now next read part = record {
  bytes = read.bytes ++ part.bytes;
  found = parts_found files name at count read.bytes part.bytes read.found part.found;
  held = part.takes.held;
  leads = λ more. part.takes.goes_on more ∙ (read.leads (part.bytes ++ more) ∙ ap (led c) (sym (append_assoc read.bytes part.bytes more)));
}

-- first bytes of a content, and what follows them
rest_of : (files : Option Files) (name : List ℕ) (at : ℕ) (bytes : List ℕ) (P : List ℕ → Type 0) → IfSome files (λ all. bytes ≡ take at (content all name)) → ((more : List ℕ) → P (bytes ++ more))
    → OfContent files name P
rest_of None name at bytes P found holds = record { bytes = bytes ++ []; found = tt; holds = holds [] }
rest_of (Some all) name at bytes P found holds =
    let whole = content all name in
    record {
      bytes = bytes ++ drop at whole;
      found = ap (λ (t : List ℕ). t ++ drop at whole) found ∙ take-append-drop at whole;
      holds = holds (drop at whole);
    }

pub refused_within : (files : Option Files) (name : List ℕ) (at count : ℕ) (c : CheckerValue) (now next : ProofLines) (r : Refused) → IsReadTo files name at c now
    → TakesPart files name at count now next (Some r) → OfContent files name (λ proof. verdicts.Refused r ≡ verdict_of (led c proof))
refused_within files name at count c now next r read part =
    rest_of files name (at + count) (read.bytes ++ part.bytes) (λ proof. verdicts.Refused r ≡ verdict_of (led c proof))
    (parts_found files name at count read.bytes part.bytes read.found part.found)
    (λ more.
    let same : led c ((read.bytes ++ part.bytes) ++ more) ≡ left_to now (part.bytes ++ more) = ap (led c) (append_assoc read.bytes part.bytes more) ∙ sym (read.leads (part.bytes ++ more)) in
    sym (refused_verdict (led c ((read.bytes ++ part.bytes) ++ more)) r (ap (λ (p : Progress). p.refused) same ∙ part.takes more)))

-- the whole content was read
whole_of : (files : Option Files) (name : List ℕ) (at : ℕ) (bytes : List ℕ) (P : List ℕ → Type 0) → IfSome files (λ all. length (content all name) ≤ at)
    → IfSome files (λ all. bytes ≡ take at (content all name)) → P bytes → OfContent files name P
whole_of None name at bytes P end found holds = record { bytes = bytes; found = tt; holds = holds }
whole_of (Some all) name at bytes P end found holds = record { bytes = bytes; found = found ∙ take_all at (content all name) end; holds = holds }

pub ends_whole : (files : Option Files) (name : List ℕ) (at : ℕ) (c : CheckerValue) (now : ProofLines) (v : Verdict) → IfSome files (λ all. length (content all name) ≤ at)
    → IsReadTo files name at c now → v ≡ verdict_of (left_to now []) → OfContent files name (λ proof. v ≡ verdict_of (led c proof))
ends_whole files name at c now v end read is =
    whole_of files name at read.bytes (λ proof. v ≡ verdict_of (led c proof)) end read.found
    (is ∙ ap verdict_of (read.leads [] ∙ ap (led c) (append-nil read.bytes)))

-- nothing of a content follows its end
pub at_end : (files : Option Files) (name : List ℕ) (at len : ℕ) → len ≤ at → IfSome files (λ all. len ≡ length (content all name)) → IfSome files (λ all. length (content all name) ≤ at)
at_end None name at len done long = tt
at_end (Some all) name at len done long = omega (arith, done, long)
