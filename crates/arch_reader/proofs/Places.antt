-- What is kept of a file that was read, at each place of its statements.
use Rattle.std.proofs.Common.{◌≡◌, ℕ, suc, zero, ◌+◌, ◌<◌, List, [], ◌∷◌, ◌++◌, length, take, get_or, sym, ap, subst, ◌∙◌, append_assoc, arith}
use Rattle.std.proofs.lemmas.List.{append-nil, take_more, map_push}
use Rattle.arch_reader.specs.Seen.{seen, after}
use Rattle.arch_reader.specs.Arch.{statement_of, statements_in, Passes, AllPass}
use Rattle.arch_reader.specs.declared.statement.Statement.{Statement}
use Rattle.arch_reader.specs.declared.statement.ArchLine.{ArchLine}
use Rattle.arch_reader.proofs.Declared.{seen-push}

-- the statements before a place
abbrev pub before_place : List ArchLine → ℕ → List Statement
before_place ls k = statements_in (take k ls)

-- the statement at a place passes after those before it, and after some statements before them all
passes_after : (before : List Statement) (ls : List ArchLine) (k : ℕ) (d : ArchLine) → AllPass before ls → k < length ls → Passes (before ++ before_place ls k) (get_or ls k d).statement
passes_after before [] k d a lt = absurd (omega (arith, lt))
passes_after before (l ∷ ls) zero d a lt = subst (λ (b : List Statement). Passes b l.statement) (sym (append-nil before)) a.0
passes_after before (l ∷ ls) (suc k) d a lt =
    subst (λ (b : List Statement). Passes b (get_or ls k d).statement) (append_assoc before (l.statement ∷ []) (before_place ls k))
    (passes_after (before ++ l.statement ∷ []) ls k d a.1 (omega (arith, lt)))

-- the statement at a place of a file passes after those before it
pub passes_at : (ls : List ArchLine) (k : ℕ) (d : ArchLine) → AllPass [] ls → k < length ls → Passes (before_place ls k) (get_or ls k d).statement
passes_at ls k d a lt = passes_after [] ls k d a lt

-- the statements up to a place are those before it, and the one there
pub before_place_more : (ls : List ArchLine) (k : ℕ) (d : ArchLine) → k < length ls → before_place ls (k + 1) ≡ before_place ls k ++ (get_or ls k d).statement ∷ []
before_place_more ls k d lt = ap statements_in (take_more ls k d lt) ∙ map_push statement_of (take k ls) (get_or ls k d)

-- what is declared up to a place
pub seen_at_more : (ls : List ArchLine) (k : ℕ) (d : ArchLine) → k < length ls → seen (before_place ls (k + 1)) ≡ after (seen (before_place ls k)) (get_or ls k d).statement
seen_at_more ls k d lt = ap seen (before_place_more ls k d lt) ∙ seen-push (before_place ls k) (get_or ls k d).statement
