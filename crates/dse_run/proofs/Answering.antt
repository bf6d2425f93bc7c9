-- What an answer says of the words, and what is left where it was given.
use Rattle.std.proofs.Common.{◌≡◌, ◌&&◌, ◌∙◌, ℕ, List, Option, Some, None, IsSomeAnd, IsTrue, Result, Ok, Err, ap, inl, inr, is_some, refl, sym, subst}
use Rattle.desk_io.specs.Files.{Files}
use Rattle.line_words.specs.declared.refusals.ReadFault.{ReadFault}
use Rattle.line_words.specs.declared.refusals.ReadFault.TheVariants as faults
use Rattle.run_words.specs.Fit.{IsFit}
use Rattle.run_words.specs.Values.{RequestValue, decode, explore, front, check, make}
use Rattle.run_base.specs.After.{After, GoesOn}
use Rattle.run_base.specs.Worlds.{World, NamesValue, AreLoaded}
use Rattle.run_base.specs.declared.inputs.Inputs.{Inputs}
use Rattle.run_base.specs.declared.outcome.Ending.{Ending}
use Rattle.run_base.specs.declared.outcome.Ending.TheVariants as endings
use Rattle.run_base.specs.declared.outcome.Outcome.{Outcome}
use Rattle.explore_run.specs.Tools.{ToolsValue}
use Rattle.explore_run.specs.Exploring.{Finds as FindsArchive}
use Rattle.explore_run.specs.Exploring.{ExplorationValue}
use Rattle.front_run.specs.Fronting.{WantedFrontValue}
use Rattle.front_run.specs.Fronting.{Finds as FindsFront}
use Rattle.make_run.specs.Making.{Says}
use Rattle.dse_run.specs.Commands.{AreLoadedFor, ComesTo, HasBudget, exploration_of, names_of, wanted_of}
use Rattle.dse_run.specs.Decoding.{EvidenceValue, Finds}
use Rattle.dse_run.specs.Run.{AnswersRequest, AnswersTo, EndsBy, ReplyValue, status_of}
use Rattle.dse_run.specs.declared.status.Status.TheVariants.{Usage, Budget}

-- ---- what is answered

-- what a request comes to over what was loaded is what is answered
pub answered : (asked : RequestValue) (tools : ToolsValue) (calls : List ℕ) (files now_files : Option Files) (names : NamesValue) (inputs : Inputs) (tried : Result Outcome ReadFault)
    (reply : ReplyValue) → names ≡ names_of asked → AreLoadedFor files asked inputs → now_files ≡ files
    → ((world : World) → AreLoaded inputs world → ComesTo asked tools calls now_files world tried) → EndsBy names tried reply → AnswersRequest asked tools calls files reply
answered asked tools calls files now_files names inputs tried reply names_is loaded files_is comes ends = record {
  world = loaded.world;
  found = loaded.found;
  result = tried;
  comes = subst (λ (f : Option Files). ComesTo asked tools calls f loaded.world tried) files_is (comes loaded.world loaded.loaded);
  ends = subst (λ (n : NamesValue). EndsBy n tried reply) names_is ends;
}

-- ---- what is left

-- ---- usage

not_usage : (e : Ending) → status_of e ≡ Usage → ⊥
not_usage endings.Done e = absurd (cc)
not_usage endings.No e = absurd (cc)
not_usage endings.Budget e = absurd (cc)

request_not_usage : (asked : RequestValue) (reply : ReplyValue) (result : Result Outcome ReadFault) → EndsBy (names_of asked) result reply → reply.status ≡ Usage → ⊥
request_not_usage asked reply (Ok outcome) e u = not_usage outcome.ending (sym (ap (λ (r : ReplyValue). r.status) e) ∙ u)
request_not_usage asked reply (Err (faults.Refused r)) e u = let q = sym (ap (λ (r : ReplyValue). r.status) e) ∙ u in absurd (cc)
request_not_usage asked reply (Err faults.NoMemory) e u = e

-- A law for callers: an answer has the status of a mistake in the words only where they ask for nothing.
pub usage_of_none : (asked : Option RequestValue) (tools : ToolsValue) (calls : List ℕ) (files : Option Files) (reply : ReplyValue) → AnswersTo asked tools calls files reply → reply.status ≡ Usage
    → asked ≡ None
usage_of_none None tools calls files reply h u = refl
usage_of_none (Some asked) tools calls files reply h u = absurd (request_not_usage asked reply h.result h.ends u)

-- A law for callers: where the words ask for nothing, the answer has the status that says so.
pub none_is_usage : (asked : Option RequestValue) (tools : ToolsValue) (calls : List ℕ) (files : Option Files) (reply : ReplyValue) → AnswersTo asked tools calls files reply → asked ≡ None
    → reply.status ≡ Usage
none_is_usage None tools calls files reply h n = ap (λ (r : ReplyValue). r.status) h
none_is_usage (Some asked) tools calls files reply h n = absurd (cc)

-- ---- the budget

-- what follows of a reading that an outcome came of
goes_ok : {X Y P : Type 0} (Rest : X → Result Y ReadFault → Type 0) (y : Y) (r : Result X ReadFault) → ((x : X) → Rest x (Ok y) → P) → GoesOn r Rest (Ok y) → P
goes_ok Rest y (Ok x) f k = f x k
goes_ok Rest y (Err e) f k = absurd (cc)

after_ok : {X Y P : Type 0} (Reads : Result X ReadFault → Type 0) (Rest : X → Result Y ReadFault → Type 0) (y : Y) → ((x : X) → Rest x (Ok y) → P) → After Reads Rest (Ok y) → P
after_ok Reads Rest y f h = goes_ok Rest y h.reading f h.rest

-- a budget that is given stands beside a proof
beside : (b : Option ℕ) (p : Option (List ℕ)) (n : ℕ) → b ≡ Some n → (p ≡ None → b ≡ None) → IsTrue (is_some b && is_some p)
beside b None n given alone = let q = sym given ∙ alone refl in absurd (cc)
beside b (Some name) n given alone = rw given refl

finds_budget : (wanted : EvidenceValue) (outcome : Outcome) → outcome.ending ≡ endings.Budget → (wanted.proof ≡ None → wanted.budget ≡ None) → (s : _) (genes : _) → Finds wanted s genes outcome
    → IsTrue (is_some wanted.budget && is_some wanted.proof)
finds_budget wanted outcome e alone s genes (inl h) = let q = sym h.ending ∙ e in absurd (cc)
finds_budget wanted outcome e alone s genes (inr (inl h)) = let q = sym h.ending ∙ e in absurd (cc)
finds_budget wanted outcome e alone s genes (inr (inr h)) = beside wanted.budget wanted.proof h.budget h.given alone

fronts_budget : (wanted : WantedFrontValue) (outcome : Outcome) → outcome.ending ≡ endings.Budget → (s : _) → FindsFront wanted s outcome → IsTrue (is_some wanted.budget)
fronts_budget wanted outcome e s (inl h) = let q = sym h.ending ∙ e in absurd (cc)
fronts_budget wanted outcome e s (inr h) = rw h.given refl

-- no exploration ends by a budget
explores_budget : (wanted : ExplorationValue) (tools : ToolsValue) (calls : List ℕ) (outcome : Outcome) → outcome.ending ≡ endings.Budget → (s : _) → FindsArchive wanted tools calls s outcome → ⊥
explores_budget wanted tools calls outcome e s (inl h) = let q = sym h.ending ∙ e in absurd (cc)
explores_budget wanted tools calls outcome e s (inr h) = let q = sym h.ending ∙ e in absurd (cc)

-- nothing that is made ends by a budget
makes_budget : (number : ℕ) (rounds : Option ℕ) (s : _) (e : Ending) (text : _) → Says number rounds s e text → e ≡ endings.Budget → ⊥
makes_budget number None s e text h b = let q = sym h.0 ∙ b in absurd (cc)
makes_budget number (Some rounds) s e text (inl h) b = let q = sym h.ending_is ∙ b in absurd (cc)
makes_budget number (Some rounds) s e text (inr h) b = let q = sym h.ending_is ∙ b in absurd (cc)

ends_by_budget : (e : Ending) → status_of e ≡ Budget → e ≡ endings.Budget
ends_by_budget endings.Done e = absurd (cc)
ends_by_budget endings.No e = absurd (cc)
ends_by_budget endings.Budget e = refl

comes_to_budget : (n : ℕ) (asked : RequestValue) (tools : ToolsValue) (calls : List ℕ) (files : Option Files) (world : World) (outcome : Outcome) → IsFit n asked → outcome.ending ≡ endings.Budget
    → ComesTo asked tools calls files world (Ok outcome) → HasBudget asked
comes_to_budget n (decode d) tools calls files world outcome fit e h =
    after_ok _ _ outcome (λ s k. after_ok _ _ outcome (λ genes found. finds_budget (record { budget = d.budget; proof = d.proof }) outcome e fit.alone s genes found) k) h
comes_to_budget n (explore x) tools calls files world outcome fit e h = after_ok _ _ outcome (λ s found. explores_budget (exploration_of x) tools calls outcome e s found) h
comes_to_budget n (front f) tools calls files world outcome fit e h = after_ok _ _ outcome (λ s found. fronts_budget (wanted_of f) outcome e s found) h
comes_to_budget n (check c) tools calls files world outcome fit e h =
    after_ok _ _ outcome (λ s k. after_ok _ _ outcome (λ front judged. elim judged.ends [ inl x ↦ (let q = sym x.0 ∙ e in absurd (cc)) | inr x ↦ (let q = sym x.0 ∙ e in absurd (cc)) ]) k) h.holds
comes_to_budget n (make m) tools calls files world outcome fit e h = makes_budget m.number m.rounds h.spec outcome.ending outcome.text.items h.says e

request_budget : (n : ℕ) (asked : RequestValue) (tools : ToolsValue) (calls : List ℕ) (files : Option Files) (reply : ReplyValue) (world : World) (result : Result Outcome ReadFault)
    → IsFit n asked → ComesTo asked tools calls files world result → EndsBy (names_of asked) result reply → reply.status ≡ Budget → HasBudget asked
request_budget n asked tools calls files reply world (Ok outcome) fit comes e b =
    comes_to_budget n asked tools calls files world outcome fit (ends_by_budget outcome.ending (sym (ap (λ (r : ReplyValue). r.status) e) ∙ b)) comes
request_budget n asked tools calls files reply world (Err (faults.Refused r)) fit comes e b = let q = sym (ap (λ (r : ReplyValue). r.status) e) ∙ b in absurd (cc)
request_budget n asked tools calls files reply world (Err faults.NoMemory) fit comes e b = absurd e

pub budget_asked : (n : ℕ) (asked : Option RequestValue) (tools : ToolsValue) (calls : List ℕ) (files : Option Files) (reply : ReplyValue) → ((a : RequestValue) → asked ≡ Some a → IsFit n a)
    → AnswersTo asked tools calls files reply → reply.status ≡ Budget → IsSomeAnd asked HasBudget
budget_asked n None tools calls files reply fit h b = let q = sym (ap (λ (r : ReplyValue). r.status) h) ∙ b in absurd (cc)
budget_asked n (Some asked) tools calls files reply fit h b = request_budget n asked tools calls files reply h.world h.result (fit asked refl) h.comes h.ends b
