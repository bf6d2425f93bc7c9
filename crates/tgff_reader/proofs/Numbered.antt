-- The index of a block.
use Rattle.std.proofs.Common.{◌<◌, ◌^◌, inl, inr, ℕ, ltb, length, Result, arith}
use Rattle.std.proofs.lemmas.Bool.{cases_Bool}
use Rattle.line_words.specs.Rules.{Words}
use Rattle.line_words.specs.declared.numbers.NumberFault.{NumberFault}
use Rattle.file_bricks.specs.Words.{word_at}
use Rattle.file_bricks.specs.Numbers.{read_or}
use Rattle.file_bricks.proofs.Numbered.{whole_small}
use Rattle.tgff_reader.specs.Lines.{block_index}

abbrev read : Result ℕ NumberFault → ℕ
read r = read_or 0 r

pub index_small : (ws : Words) → read (block_index ws) < 2 ^ 63
index_small ws =
    elim (cases_Bool (ltb 2 (length ws))) [
      | inl t ↦ rw t (whole_small (word_at ws 1))
      | inr f ↦ rw f (omega arith)
    ]
