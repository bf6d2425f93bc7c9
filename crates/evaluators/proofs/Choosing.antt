-- The option of a task that is chosen, option by option.
use Rattle.std.proofs.Common.{◌≡◌, ℕ, ◌+◌, ◌<◌, Bool, true, false, nat_eq, List, [], ◌∷◌, length, map, Option, None, refl, sym, ap, ap₂, ◌∙◌, subst, arith}
use Rattle.std.specs.Prelude.{unwrap_or, ◌||◌}
use Rattle.std.specs.List.{find, list_any}
use Rattle.std.proofs.lemmas.Bool.{eqb-true, eq-eqb}
use Rattle.spec_model.specs.Spec.{SpecValue, Bits, those, option_at, message_at}
use Rattle.spec_model.specs.Rules.{IsOn, BoundOnce, of_task, options_of}
use Rattle.spec_model.specs.Schedule.{chosen_option, resource_of, goes_to}
use Rattle.spec_graph.specs.declared.numbers.TaskNo.{TaskNo}
use Rattle.spec_graph.specs.Lists.{task_number}
use Rattle.impl_rules.proofs.Receivers.{has_number}
use Rattle.evaluators.proofs.Finding.{find-those_here, find-those_none, count_by-none}
use Rattle.plain_lists.proofs.Numbers.{eqb_comm}

-- no chosen option of the task is below o, and o is one
pub chosen_here : (s : SpecValue) (f : Bits) (t o : ℕ) → find f (those (of_task s t) o) ≡ None → o < length s.options → (option_at s o).task ≡ t → f o ≡ true → o ≡ chosen_option s f t
unfolding chosen_option of_task
chosen_here s f t o none l task chosen = sym (ap (λ (x : Option ℕ). unwrap_or x 0) (find-those_here f (of_task s t) o (length s.options) none (eq-eqb (option_at s o).task t task) chosen l))

pub on_here : (s : SpecValue) (f : Bits) (t o : ℕ) → find f (those (of_task s t) o) ≡ None → o < length s.options → (option_at s o).task ≡ t → f o ≡ true → IsOn s f t (resource_of s f t)
on_here s f t o none l task chosen =
    subst (λ (k : ℕ). IsOn s f t (option_at s k).resource) (chosen_here s f t o none l task chosen) (record { choice = o; in_range = l; chosen = chosen; of_task = task; on_resource = refl })

pub not_chosen : (s : SpecValue) (f : Bits) (t o : ℕ) → find f (those (of_task s t) o) ≡ None → f o ≡ false → find f (those (of_task s t) (o + 1)) ≡ None
not_chosen s f t o none off = find-those_none f (of_task s t) o none (λ p. off)

pub of_other : (s : SpecValue) (f : Bits) (t o : ℕ) → find f (those (of_task s t) o) ≡ None → ¬ ((option_at s o).task ≡ t) → find f (those (of_task s t) (o + 1)) ≡ None
unfolding of_task
of_other s f t o none other = find-those_none f (of_task s t) o none (λ p. absurd (other (eqb-true (option_at s o).task t p)))

-- a task that is bound once has a chosen option
pub some_chosen : (s : SpecValue) (f : Bits) (t o : ℕ) → o ≡ length s.options → find f (those (of_task s t) o) ≡ None → BoundOnce s f t → ⊥
some_chosen s f t o e none once =
    let all : find f (options_of s t) ≡ None = subst (λ (k : ℕ). find f (those (of_task s t) k) ≡ None) e none in
    omega (arith, once, count_by-none f (options_of s t) all)

-- ---- receivers

any_back : (t : ℕ) (ts : List TaskNo) → list_any (has_number t) ts ≡ list_any (nat_eq t) (map task_number ts)
any_back t [] = refl
any_back t (x ∷ ts) = ap₂ (λ (a b : Bool). a || b) (eqb_comm x.0 t) (any_back t ts)

pub goes_by : (s : SpecValue) (t m : ℕ) (ts : List TaskNo) (answer : Bool) → map task_number ts ≡ (message_at s m).receivers → answer ≡ list_any (has_number t) ts → answer ≡ goes_to s t m
unfolding goes_to
goes_by s t m ts answer e is = is ∙ (any_back t ts ∙ ap (list_any (nat_eq t)) e)
