-- Files that begin with a header: their rules stand in their order, and the first statement is the header or refused.
use Rattle.std.proofs.Common.{◌≡◌, Bool, true, false, List, [], ◌∷◌, Some, None, refl, arith}
use Rattle.line_words.specs.Refused.{rank}
use Rattle.line_words.specs.Rules.{Words, Statement, Test, IsRanked, AreInOrder, first_broken}
use Rattle.line_words.specs.declared.refusals.Why.TheVariants.{NoHeader}
use Rattle.line_words.proofs.Steps.{in_order}
use Rattle.file_bricks.specs.Headed.{after_header, end_after_header, headed_rules}

abbrev Later : Type 0
Later = Words → List Statement → Words → List Test

abbrev End : Type 0
End = Words → List Statement → List Test

statement_ranked : (is_header : Words → Bool) (later : Later) → ((header : Words) (before : List Statement) (ws : Words) → IsRanked (rank NoHeader) (later header before ws))
    → (before : List Statement) (ws : Words) → IsRanked (rank NoHeader) (after_header is_header later before ws)
statement_ranked is_header later s [] ws = (omega arith, tt)
statement_ranked is_header later s (h ∷ before) ws = s h.words before ws

end_ranked : (end : End) → ((header : Words) (before : List Statement) → IsRanked (rank NoHeader) (end header before)) → (before : List Statement)
    → IsRanked (rank NoHeader) (end_after_header end before)
end_ranked end e [] = (omega arith, tt)
end_ranked end e (h ∷ before) = e h.words before

-- the rules stand in their order where those of what follows the header do
pub in_order_headed : (is_header : Words → Bool) (later : Later) (end : End)
    → ((header : Words) (before : List Statement) (ws : Words) → IsRanked (rank NoHeader) (later header before ws))
    → ((header : Words) (before : List Statement) → IsRanked (rank NoHeader) (end header before))
    → AreInOrder (headed_rules is_header later end)
in_order_headed is_header later end s e = in_order (after_header is_header later) (end_after_header end) (statement_ranked is_header later s) (end_ranked end e)

-- a wrong header is refused,
pub header_wrong : (is_header : Words → Bool) (later : Later) (ws : Words) → is_header ws ≡ false → first_broken (after_header is_header later [] ws) ≡ Some NoHeader
header_wrong is_header later ws e = rw e refl

-- and a right one isn't
pub header_right : (is_header : Words → Bool) (later : Later) (ws : Words) → is_header ws ≡ true → first_broken (after_header is_header later [] ws) ≡ None
header_right is_header later ws e = rw e refl
