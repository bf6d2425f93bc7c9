-- Files that begin with a header, whose words the rules of what follows are given: so they may ask for its version.
use Rattle.std.specs.Prelude.{List, [], ◌∷◌, Bool, true, not}
use Rattle.line_words.specs.Rules.{Words, Statement, Test, Rules, text_rules}
use Rattle.line_words.specs.declared.refusals.Why.TheVariants.{NoHeader}

-- the first statement is to be the header; the others have rules of their own, after the header and the statements before them
abbrev pub after_header : (Words → Bool) → (Words → List Statement → Words → List Test) → List Statement → Words → List Test
after_header is_header later [] ws = (NoHeader, not (is_header ws)) ∷ []
after_header is_header later (header ∷ before) ws = later header.words before ws

-- a file with no statement has no header; another one's end has rules of its own, after the header and all statements
abbrev pub end_after_header : (Words → List Statement → List Test) → List Statement → List Test
end_after_header end [] = (NoHeader, true) ∷ []
end_after_header end (header ∷ before) = end header.words before

-- the rules of a file that may have comments and begins with a header
abbrev pub headed_rules : (Words → Bool) → (Words → List Statement → Words → List Test) → (Words → List Statement → List Test) → Rules
headed_rules is_header later end = text_rules (after_header is_header later) (end_after_header end)
