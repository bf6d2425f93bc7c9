-- What a search comes to as an outcome.
use Rattle.std.proofs.Common.{◌≡◌, ◌∙◌, ℕ, List, Option, Some, refl, inl, inr}
use Rattle.proof_log.specs.Log.{LogValue}
use Rattle.proof_log.specs.Files.{LegalReadBack}
use Rattle.proof_log.proofs.Legal.{of_lines}
use Rattle.spec_model.specs.Spec.{SpecValue}
use Rattle.spec_model.specs.Genotypes.{GeneValue}
use Rattle.sat_decoder.specs.declared.decoded.Decoded.{Decoded}
use Rattle.sat_decoder.specs.declared.decoded.Decoded.TheVariants.{First, Nothing, Budget}
use Rattle.run_base.specs.declared.outcome.Outcome.{Outcome}
use Rattle.proof_files.specs.Proving.{LinesShowFirst, LinesUseUp}
use Rattle.proof_files.specs.Writing.{files_of}
use Rattle.proof_files.proofs.Files.{refutes_file, written}
use Rattle.dse_run.specs.Decoding.{EvidenceValue, Finds}
use Rattle.dse_run.specs.Searching.{IsSearched, ending_of, answer_text}
use Rattle.encode_model.specs.Block.{cover_frame}

pub finds : LegalReadBack → (wanted : EvidenceValue) (s : SpecValue) (genes : List GeneValue) (decoded : Decoded) (log : LogValue) (outcome : Outcome)
    → IsSearched s genes wanted.budget decoded log → outcome.ending ≡ ending_of decoded → outcome.text.items ≡ answer_text s wanted.budget decoded → outcome.writes ≡ files_of wanted.proof log
    → Finds wanted s genes outcome
finds back wanted s genes (First design) log outcome h ending text writes = inl (record {
  ending = ending;
  design = design;
  says = record { sized = h.says.one_each; first = h.says.first; says = text };
  proof = written wanted.proof log outcome.writes _ writes (of_lines back (LinesShowFirst s genes design wanted.budget) (cover_frame s) log.lines h.lines.legal h.lines);
})
finds back wanted s genes Nothing log outcome h ending text writes = inr (inl (record {
  ending = ending;
  none = h.says;
  says = text;
  proof = written wanted.proof log outcome.writes _ writes (refutes_file back s wanted.budget log.lines h.lines);
}))
finds back wanted s genes Budget log outcome h ending text writes = inr (inr (record {
  ending = ending;
  budget = h.lines.most;
  given = h.lines.given;
  few = h.lines.few;
  says = text ∙ said wanted.budget h.lines.most h.lines.given;
  proof = written wanted.proof log outcome.writes _ writes (of_lines back (LinesUseUp s h.lines.most) (cover_frame s) log.lines (h.lines.lines.honest.honest.after, h.lines.lines.honest.honest.legal)
      h.lines.lines);
}))
  where
    said : (budget : Option ℕ) (n : ℕ) → budget ≡ Some n → answer_text s budget Budget ≡ answer_text s (Some n) Budget
    said budget n e = rw e refl
