-- Legal lines and the file that they become.
use Rattle.std.proofs.Common.{List}
use Rattle.pb_rules.specs.Frames.{Line, Frame}
use Rattle.proof_log.specs.Text.{proof_text}
use Rattle.proof_log.specs.Files.{OfFile, LegalReadBack, AreLegal}

-- legal lines are those of their file
pub of_lines : LegalReadBack → (P : List Line → Type 0) (f : Frame) (ls : List Line) → AreLegal f ls → P ls → OfFile P (proof_text ls)
of_lines back P f ls legal h = record { lines = ls; read = back f legal.0 ls legal.1; holds = h }
