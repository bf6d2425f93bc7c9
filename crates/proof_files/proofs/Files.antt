-- What is written, and what it is worth.
use Rattle.std.proofs.Common.{◌≡◌, [], ℕ, List, Option, Some, None, refl, arith}
use Rattle.std.proofs.lemmas.List.Elements.{All-nil}
use Rattle.desk_io.specs.Files.{Files}
use Rattle.pb_rules.specs.Frames.{Line}
use Rattle.proof_log.specs.Log.{LogValue}
use Rattle.proof_log.specs.Text.{proof_text}
use Rattle.proof_log.specs.Files.{LegalReadBack}
use Rattle.proof_log.proofs.Legal.{of_lines}
use Rattle.spec_model.specs.Spec.{SpecValue}
use Rattle.result_text.specs.Fronts.{front_text, IsShaped}
use Rattle.front_model.specs.Fronts.{IsClaim, IsEntry}
use Rattle.front_model.specs.Proofs.{AcceptsTexts, Refute}
use Rattle.file_writes.specs.Writes.{WritesIfNamed}
use Rattle.proof_files.specs.Proving.{LinesRefute, RefuteAll, Refutes, no_entries}
use Rattle.proof_files.specs.Writing.{files_of}
use Rattle.encode_model.specs.Block.{cover_frame}

-- what is written where a file may be named
pub written : (proof : Option (List ℕ)) (log : LogValue) (writes : Files) (P : List ℕ → Type 0) → writes ≡ files_of proof log → P (proof_text log.lines) → WritesIfNamed proof P writes
written None log writes P e h = e
written (Some name) log writes P e h = record { bytes = proof_text log.lines; only = e; holds = h }

-- the front without entries may be checked against
no_claim : (s : SpecValue) → IsClaim s no_entries
no_claim s = record {
  entries = All-nil (IsEntry s);
  rising = λ i j d l m. absurd (omega (arith, m));
  apart = λ i j d l m n. absurd (omega (arith, l));
  complete = refl;
}

accepted : (s : SpecValue) (ls : List Line) → Refute s [] ls → AcceptsTexts s (front_text s no_entries) (proof_text ls)
accepted s ls h = record {
  front = no_entries;
  text = record { entries = All-nil (IsShaped s); text = refl };
  accepted = record { claim = no_claim s; proof = record { lines = ls; is = refl; refute = h } };
}

-- the file of lines that refute
pub refutes_file : LegalReadBack → (s : SpecValue) (budget : Option ℕ) (ls : List Line) → RefuteAll s budget ls → Refutes s budget (proof_text ls)
refutes_file back s budget ls h = record { accepted = accepted s ls h.refute; lines = of_lines back (LinesRefute s budget) (cover_frame s) ls h.lines.legal h.lines }
