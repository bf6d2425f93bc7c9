-- The loop over the files that are written.
use Rattle.std.proofs.Common.{◌≡◌, ◌∙◌, ◌++◌, ◌∷◌, ◌+◌, ◌<◌, [], ℕ, List, Option, None, suc, ap, arith, drop, get_or, length, map, subst, sym, take}
use Rattle.std.proofs.lemmas.List.{map_push, map-append, take-append-drop, take_more}
use Rattle.std.proofs.Math.Seq.{drop-cons}
use Rattle.desk_io.specs.Files.{Files, HasDistinctNames, file_at}
use Rattle.file_writes.specs.Writes.{AreWritten, ArePartlyWritten, Becomes, KeepsOrBecomesPart, Leaves, Rewrites, file_of}
use Rattle.file_writes.specs.declared.writes.Write.{Write}
use Rattle.file_writes.proofs.Rewriting.{leaves_and}
use Rattle.file_writes.proofs.Written.{next_new, step, cut}

-- the files before a place, the one at it, and the others
cut_at : (ws : List Write) (k : ℕ) (w : Write) → k < length ws → map file_of ws ≡ map file_of (take k ws) ++ file_of (get_or ws k w) ∷ map file_of (drop (k + 1) ws)
cut_at ws k w lt =
    let e : suc k ≡ k + 1 = omega arith in
    let split : ws ≡ take k ws ++ get_or ws k w ∷ drop (k + 1) ws = sym (take-append-drop k ws) ∙ ap (λ (xs : List Write). take k ws ++ xs)
    (drop-cons ws k w lt ∙ ap (λ (n : ℕ). get_or ws k w ∷ drop n ws) e) in
    ap (map file_of) split ∙ map-append file_of (take k ws) (get_or ws k w ∷ drop (k + 1) ws)

-- the name at a place is none of those before
new_at : (ws : List Write) (k : ℕ) (w : Write) → k < length ws → HasDistinctNames (map file_of ws) → file_at (map file_of (take k ws)) (file_of (get_or ws k w)).0 ≡ None
new_at ws k w lt d = next_new (map file_of (take k ws)) (file_of (get_or ws k w)) (map file_of (drop (k + 1) ws)) (subst HasDistinctNames (cut_at ws k w lt) d)

pub writes_on : (start now new : Option Files) (ws : List Write) (k : ℕ) (w : Write) → k < length ws → HasDistinctNames (map file_of ws) → Leaves start now (AreWritten (map file_of (take k ws)))
    → Leaves now new (Rewrites (file_of (get_or ws k w)).0 (Becomes (file_of (get_or ws k w)).1)) → Leaves start new (AreWritten (map file_of (take (k + 1) ws)))
writes_on start now new ws k w lt d h r =
    let done : Files = map file_of (take k ws) in
    let file = file_of (get_or ws k w) in
    let e : map file_of (take (k + 1) ws) ≡ done ++ file ∷ [] = ap (map file_of) (take_more ws k w lt) ∙ map_push file_of (take k ws) (get_or ws k w) in
    subst (λ (fs : Files). Leaves start new (AreWritten fs)) (sym e)
    (leaves_and start now new (AreWritten done) (Rewrites file.0 (Becomes file.1)) (AreWritten (done ++ file ∷ [])) (λ x y z p q. step done file x y z (new_at ws k w lt d) p q) h r)

pub writes_cut : (start now new : Option Files) (ws : List Write) (k : ℕ) (w : Write) → k < length ws → HasDistinctNames (map file_of ws) → Leaves start now (AreWritten (map file_of (take k ws)))
    → Leaves now new (Rewrites (file_of (get_or ws k w)).0 (KeepsOrBecomesPart (file_of (get_or ws k w)).1)) → Leaves start new (ArePartlyWritten (map file_of ws))
writes_cut start now new ws k w lt d h r =
    let done : Files = map file_of (take k ws) in
    let file = file_of (get_or ws k w) in
    let rest : Files = map file_of (drop (k + 1) ws) in
    subst (λ (fs : Files). Leaves start new (ArePartlyWritten fs)) (sym (cut_at ws k w lt))
    (leaves_and start now new (AreWritten done) (Rewrites file.0 (KeepsOrBecomesPart file.1)) (ArePartlyWritten (done ++ file ∷ rest))
    (λ x y z p q. cut done file rest x y z (new_at ws k w lt d) p q) h r)
