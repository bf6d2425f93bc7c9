-- Architecture files that are told apart by what they hold.
use Rattle.std.proofs.Common.{◌≡◌, ◌∙◌, ℕ, List, ap}
use Rattle.arch_reader.specs.Arch.{ArchValue}
use Rattle.arch_reader.specs.declared.statement.ArchLine.{ArchLine}

-- the file of some statements and an end line
abbrev made : List ArchLine → ℕ → ArchValue
made ls n = record { lines = ls; end_line = n }

-- a file is told by its statements and its end line
pub same_file : (a b : ArchValue) → a.lines ≡ b.lines → a.end_line ≡ b.end_line → a ≡ b
same_file a b e f = ap (λ (ls : List ArchLine). made ls a.end_line) e ∙ ap (made b.lines) f
