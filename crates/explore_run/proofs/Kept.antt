-- What a command leaves of tools, where it calls none; and what is kept from the entries of a history to the best of them.
use Rattle.std.proofs.Common.{◌≡◌, ◌+◌, ◌++◌, ℕ, suc, Bool, true, false, cond, List, [], ◌∷◌, All, refl, arith, length}
use Rattle.std.proofs.lemmas.List.Elements.{All-nil, All-cons}
use Rattle.spec_model.specs.Spec.{SpecValue, Bits, design_variables}
use Rattle.front_archive.specs.declared.member.Member.{Member}
use Rattle.front_archive.specs.Best.{best, best_from, is_beaten}
use Rattle.evo_explore.specs.Counts.{RoseAtMost}
use Rattle.evo_explore.specs.Run.{AreRounds, after_round}
use Rattle.evo_explore.proofs.Rounds.{none_rose}
use Rattle.explore_run.specs.Tools.{ToolsValue, Keeps}

pub same_tools : (n : ℕ) (chosen : List ℕ) (tools : ToolsValue) → Keeps (RoseAtMost n chosen) tools tools
same_tools n chosen tools = record { tags = refl; values = λ s f. refl; calls = none_rose n chosen tools.calls }

-- ---- the best entries

kept : {X : Type 0} (P : X → Type 0) (b : Bool) (x : X) (xs : List X) → P x → All P xs → All P (cond b xs (x ∷ xs))
kept P true x xs p h = h
kept P false x xs p h = All-cons P x xs p h

best_from_all : {X : Type 0} (P : X → Type 0) (covers : X → X → Bool) (all earlier xs : List X) → All P xs → All P (best_from covers all earlier xs)
best_from_all P covers all earlier [] h = All-nil P
best_from_all P covers all earlier (x ∷ xs) h =
    kept P (is_beaten covers all earlier x) x (best_from covers all (earlier ++ x ∷ []) xs) (h 0 x (omega arith))
    (best_from_all P covers all (earlier ++ x ∷ []) xs (λ k d l. h (suc k) d (omega (arith, l))))

-- what holds of all entries holds of the best
pub best_all : {X : Type 0} (P : X → Type 0) (covers : X → X → Bool) (xs : List X) → All P xs → All P (best covers xs)
best_all P covers xs h = best_from_all P covers xs [] xs h

-- each round's design has a bit for each design variable
abbrev pub IsSized : SpecValue → Member → Type 0
IsSized s m = length m.design ≡ design_variables s

pub rounds_sized : {S : Type 0} (s : SpecValue) (gives : S → ℕ) (after : S → S) (measured : Bits → List ℕ) (before entries : List Member) (start last : S)
    → AreRounds s gives after measured before entries start last → All (IsSized s) entries
rounds_sized s gives after measured before [] start last h = All-nil (IsSized s)
rounds_sized s gives after measured before (m ∷ ms) start last h =
    All-cons (IsSized s) m ms h.0.one_each (rounds_sized s gives after measured (before ++ m ∷ []) ms (after_round s gives after before start) last h.1)
