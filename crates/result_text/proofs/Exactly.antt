-- A text is read exactly where it is printed, and as what was printed.
use Rattle.std.proofs.Common.{◌≡◌, ℕ, ◌<◌, ◌^◌, true, false, List, ◌++◌, length, Option, Some, None, Result, Ok, Err, refl, sym, ap, subst, ◌∙◌, All}
use Rattle.std.specs.Prelude.{IfOk, is_none}
use Rattle.std.proofs.lemmas.List.Elements.{All-from_recursion, recursion_from_All}
use Rattle.line_words.specs.Rules.{Statement, HasNoFault, statements}
use Rattle.line_words.specs.Reads.{Reads}
use Rattle.line_words.specs.declared.refusals.FileTag.TheVariants.{Front}
use Rattle.line_words.specs.declared.refusals.ReadFault.{ReadFault}
use Rattle.line_words.specs.declared.refusals.ReadFault.TheVariants as faults
use Rattle.spec_model.specs.Spec.{SpecValue, bits_of, design_variables}
use Rattle.spec_model.specs.WellFormed.{IsWellFormed}
use Rattle.spelled_lines.specs.Lines.{spelled, pieces}
use Rattle.result_text.specs.Spelling.{items_text, vector_words, implementation_text}
use Rattle.result_text.specs.Statements.{Stated, result_rules}
use Rattle.result_text.specs.Answers.{EntryValue, as_seen, entry_in, entry_of, numbers_or_none}
use Rattle.result_text.specs.Printed.{IsTextOf, GivesBack, HasNames}
use Rattle.result_text.specs.declared.entries.Entry.{Entry}
use Rattle.spelled_lines.proofs.Over.{accepted, is_read}
use Rattle.result_text.proofs.Accepting.{vector_text, IsVectorIn, IsSpelt, IsWholeText, none_from, whole_text}
use Rattle.result_text.proofs.Going.{after, in_order}
use Rattle.result_text.proofs.Reread.{reread}

-- ---- what is accepted is a printed text

has_vector : (s : SpecValue) (bytes design_text : List ℕ) (vector : Option (List ℕ)) → is_none vector ≡ false → IsVectorIn s vector → bytes ≡ design_text ++ vector_text vector
    → (length (numbers_or_none vector) ≡ length s.objectives) × All (λ n. n < 2 ^ 63) (numbers_or_none vector) × (bytes ≡ design_text ++ spelled (vector_words (numbers_or_none vector)))
has_vector s bytes design_text None closed h is = absurd (let c : true ≡ false = closed in cc)
has_vector s bytes design_text (Some numbers) closed h is = (h.0, All-from_recursion (λ n. n < 2 ^ 63) numbers h.1, is)

-- what spells a design with a vector is their text
pub text_of_spelt : (s : SpecValue) (stated : Stated) (bytes : List ℕ) → IsSpelt s stated bytes → is_none stated.vector ≡ false → IsTextOf s bytes (entry_in stated)
text_of_spelt s stated bytes spelt closed =
    let f = bits_of stated.design in
    let items : items_text s f stated.least ≡ items_text s f (design_variables s) = sym (none_from s f stated.least (design_variables s) spelt.low (λ k ge lt. spelt.later k ge)) in
    let v = has_vector s bytes (items_text s f stated.least) stated.vector closed spelt.vector spelt.is in
    record {
      bits = spelt.len;
      one_each = v.0;
      small = v.1;
      text = v.2 ∙ ap (λ (t : List ℕ). t ++ spelled (vector_words (numbers_or_none stated.vector))) items;
    }

text_of_whole : (s : SpecValue) (all : List Statement) (bytes : List ℕ) → IsWholeText s all bytes → IsTextOf s bytes (entry_of s all)
text_of_whole s all bytes h = text_of_spelt s (after s all) bytes h.spelt h.closed

-- what breaks no rule is the text of what it states
text_of_fine : (s : SpecValue) → IsWellFormed s → (bytes : List ℕ) → HasNoFault (result_rules s) (pieces bytes) → IsTextOf s bytes (entry_of s (statements (result_rules s) (pieces bytes)))
text_of_fine s w bytes fine =
    accepted (result_rules s) (pieces bytes) (λ st. IsTextOf s bytes (entry_of s st)) (in_order s) (λ all e. text_of_whole s all bytes (whole_text s w bytes all e)) fine

pub printed : (s : SpecValue) → IsWellFormed s → (bytes : List ℕ) (found : Result Entry ReadFault) → Reads Front (result_rules s) as_seen (entry_of s) (pieces bytes) found
    → IfOk found (λ e. IsTextOf s bytes (as_seen e))
printed s w bytes (Ok e) r = subst (IsTextOf s bytes) (sym r.1) (text_of_fine s w bytes r.0)
printed s w bytes (Err (faults.Refused fault)) r = tt
printed s w bytes (Err faults.NoMemory) r = tt

-- ---- what is printed is accepted, and read as what was printed

-- a text breaks no rule, and states this entry
pub record IsRead (s : SpecValue) (bytes : List ℕ) (e : EntryValue) : Type 0 where
  pub fine : HasNoFault (result_rules s) (pieces bytes)
  pub value : entry_of s (statements (result_rules s) (pieces bytes)) ≡ e

pub text_read : (s : SpecValue) → IsWellFormed s → HasNames s → (bytes : List ℕ) (e : EntryValue) → IsTextOf s bytes e → IsRead s bytes e
text_read s w h bytes e is =
    let text = implementation_text s (bits_of e.design) e.vector in
    let r = reread s w h e.design e.vector is.bits is.one_each (recursion_from_All (λ n. n < 2 ^ 63) e.vector is.small) in
    let out = is_read (result_rules s) (pieces text) r.all (in_order s) r.reads in
    subst (λ (b : List ℕ). IsRead s b e) (sym is.text) (record { fine = out.1; value = ap (entry_of s) (sym out.0) ∙ r.value })

pub back : (s : SpecValue) → IsWellFormed s → HasNames s → (bytes : List ℕ) (found : Result Entry ReadFault) → Reads Front (result_rules s) as_seen (entry_of s) (pieces bytes) found
    → (e : EntryValue) → IsTextOf s bytes e → GivesBack e found
back s w h bytes (Ok found) r e is = r.1 ∙ (text_read s w h bytes e is).value
back s w h bytes (Err (faults.Refused fault)) r e is = absurd ((text_read s w h bytes e is).fine fault.line fault.why r.1.holds)
back s w h bytes (Err faults.NoMemory) r e is = refl
