-- The lines of a file that are left to read.
use Rattle.std.specs.Prelude.{◌≡◌, ℕ, ◌+◌, ◌<◌, List, [], ◌∷◌, ◌++◌, length, Some, None}
use Rattle.line_words.specs.Text.{content, words, words_in}
use Rattle.line_words.specs.Rules.{line_fault}
use Rattle.line_words.specs.declared.refusals.Refusal1.{Refusal1}

-- the lines from a number on
pub record Left : Type 0 where
  pub number : ℕ
  pub lines : List (List ℕ)

-- a line without its comment, and its number
pub record Numbered : Type 0 where
  pub number : ℕ
  pub content : List ℕ

-- a line without fault and without a word
pub record IsEmptyLine (line : List ℕ) : Type 0 where
  pub fine : line_fault line ≡ None
  pub no_word : words line ≡ []

-- lines that are all so
abbrev pub AllEmpty : List (List ℕ) → Type 0
AllEmpty [] = Unit {0}
AllEmpty (l ∷ ls) = IsEmptyLine l × AllEmpty ls

-- what is left once some lines without fault and word are passed
pub record Passes (old new : Left) : Type 0 where
  pub passed : List (List ℕ)
  pub empty : AllEmpty passed
  pub lines_are : old.lines ≡ passed ++ new.lines
  pub number_is : new.number ≡ old.number + length passed

-- the next line that has a word is found, and is without fault
pub record Gives (old new : Left) (found : Numbered) : Type 0 where
  pub line : List ℕ
  pub passes : Passes old (record { number = found.number; lines = line ∷ new.lines })
  pub fine : line_fault line ≡ None
  pub content_is : found.content ≡ content line
  pub some_word : 0 < length (words_in found.content)
  pub number_is : new.number ≡ found.number + 1

-- the first line that is left is refused
pub record StopsAt (left : Left) (refusal : Refusal1) : Type 0 where
  pub line : List ℕ
  pub more : List (List ℕ)
  pub lines_are : left.lines ≡ line ∷ more
  pub broken : line_fault line ≡ Some refusal.why
  pub number_is : refusal.line ≡ left.number

-- some lines without fault and word are passed, and the one after them is refused and stays
pub record Refuses (old new : Left) (refusal : Refusal1) : Type 0 where
  pub passes : Passes old new
  pub stops : StopsAt new refusal
