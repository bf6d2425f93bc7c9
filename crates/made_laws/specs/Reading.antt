-- Lines that are spelled, and then read by the rules of a file that may have comments.
use Rattle.std.specs.Prelude.{◌≡◌, ℕ, ◌+◌, ◌≤◌, List, [], ◌∷◌, ◌++◌, length, None}
use Rattle.std.specs.List.{flat_map}
use Rattle.line_words.specs.Text.{lines}
use Rattle.line_words.specs.Limits.{most_line_bytes}
use Rattle.line_words.specs.Rules.{Words, Statement, Test, Rules, first_broken, text_rules, statements, HasNoFault, AreInOrder}
use Rattle.file_bricks.specs.Words.{IsWord}
use Rattle.spelled_lines.specs.Lines.{spelled}

abbrev pub AreWords : Words → Type 0
AreWords [] = Unit {0}
AreWords (w ∷ ws) = IsWord w × AreWords ws

-- words of one line: each is one, and they aren't too long together
pub record MakeLine (w : List ℕ) (ws : Words) : Type 0 where
  pub first : IsWord w
  pub others : AreWords ws
  pub short : length (spelled (w ∷ ws)) ≤ most_line_bytes

-- at least one word
abbrev pub IsLine : Words → Type 0
IsLine [] = ⊥
IsLine (w ∷ ws) = MakeLine w ws

-- lines as statements, from a number on
abbrev pub numbered : ℕ → List Words → List Statement
numbered number [] = []
numbered number (ws ∷ ls) = record { number = number; words = ws } ∷ numbered (number + 1) ls

-- each line breaks no rule after the lines before it
abbrev pub BreakNone : (List Statement → Words → List Test) → ℕ → List Statement → List Words → Type 0
BreakNone statement number before [] = Unit {0}
BreakNone statement number before (ws ∷ ls) =
    IsLine ws
    × ((first_broken (statement before ws) ≡ None)
    × BreakNone statement (number + 1) (before ++ record { number = number; words = ws } ∷ []) ls)

-- what is spelled is read: the statements are the lines' words, and no rule is broken
pub record IsReadBack (rules : Rules) (ls : List Words) : Type 0 where
  pub stated : statements rules (lines (flat_map spelled ls)) ≡ numbered 1 ls
  pub unbroken : HasNoFault rules (lines (flat_map spelled ls))

abbrev pub SpelledIsRead : Type 0
SpelledIsRead =
    (statement : List Statement → Words → List Test) (end : List Statement → List Test) (ls : List Words)
    → AreInOrder (text_rules statement end)
    → BreakNone statement 1 [] ls
    → first_broken (end (numbered 1 ls)) ≡ None
    → IsReadBack (text_rules statement end) ls
