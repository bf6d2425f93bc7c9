-- Names of resources and links: which are declared, once so many of them are.
use Rattle.std.proofs.Common.{◌≡◌, ℕ, ◌+◌, ◌<◌, Bool, true, false, not, ◌&&◌, List, [], ◌∷◌, ◌++◌, length, map, refl, sym, arith}
use Rattle.std.specs.Prelude.{nat_le, decimal, codes}
use Rattle.std.specs.List.{list_all}
use Rattle.std.specs.Fmt.{digits}
use Rattle.std.proofs.lemmas.Bool.{and_parts, not-true}
use Rattle.std.proofs.lemmas.List.FromFn.{map-range_with_len_more}
use Rattle.spec_model.specs.Spec.{below}
use Rattle.arch_reader.specs.Words.{is_arrow}
use Rattle.arch_reader.specs.Tests.{is_declared, is_long_name}
use Rattle.spec_make.specs.Made.{resource_name, link_name, task_name, message_name, setting}
use Rattle.made_laws.proofs.Short.{is_short_word}
use Rattle.made_laws.proofs.Small.{passed}

-- ---- words

abbrev time_word : ℕ → List ℕ
time_word n = setting (codes "time") n

abbrev cost_word : ℕ → List ℕ
cost_word n = setting (codes "cost") n

abbrev energy_word : ℕ → List ℕ
energy_word n = setting (codes "energy") n

decimals_short : list_all (λ n. is_short_word (decimal n)) (below 100) ≡ true
unfolding digits
decimals_short = refl

costs_short : list_all (λ n. is_short_word (cost_word n)) (below 100) ≡ true
unfolding digits
costs_short = refl

energies_short : list_all (λ n. is_short_word (energy_word n)) (below 100) ≡ true
unfolding digits
energies_short = refl

times_short : list_all (λ n. is_short_word (time_word n)) (below 100) ≡ true
unfolding digits
times_short = refl

pub short_decimal : (n : ℕ) → n < 100 → is_short_word (decimal n) ≡ true
short_decimal n lt = passed (λ k. is_short_word (decimal k)) 100 n decimals_short lt

pub short_cost : (n : ℕ) → n < 100 → is_short_word (cost_word n) ≡ true
short_cost n lt = passed (λ k. is_short_word (cost_word k)) 100 n costs_short lt

pub short_energy : (n : ℕ) → n < 100 → is_short_word (energy_word n) ≡ true
short_energy n lt = passed (λ k. is_short_word (energy_word k)) 100 n energies_short lt

pub short_time : (n : ℕ) → n < 100 → is_short_word (time_word n) ≡ true
short_time n lt = passed (λ k. is_short_word (time_word k)) 100 n times_short lt

-- ---- names

-- a name that may be declared
abbrev is_good_name : List ℕ → Bool
is_good_name w = is_short_word w && (not (is_arrow w) && not (is_long_name w))

resources_good : list_all (λ n. is_good_name (resource_name n)) (below 100) ≡ true
unfolding digits
resources_good = refl

links_good : list_all (λ n. is_good_name (link_name n)) (below 100) ≡ true
unfolding digits
links_good = refl

tasks_good : list_all (λ n. is_good_name (task_name n)) (below 100) ≡ true
unfolding digits
tasks_good = refl

messages_good : list_all (λ n. is_good_name (message_name n)) (below 100) ≡ true
unfolding digits
messages_good = refl

pub record IsGood (w : List ℕ) : Type 0 where
  pub short : is_short_word w ≡ true
  pub no_arrow : is_arrow w ≡ false
  pub few : is_long_name w ≡ false

good : (w : List ℕ) → is_good_name w ≡ true → IsGood w
good w h =
    let parts = and_parts (is_short_word w) (not (is_arrow w) && not (is_long_name w)) h in
    let more = and_parts (not (is_arrow w)) (not (is_long_name w)) parts.1 in
    record { short = parts.0; no_arrow = not-true (is_arrow w) more.0; few = not-true (is_long_name w) more.1 }

pub good_resource : (n : ℕ) → n < 100 → IsGood (resource_name n)
good_resource n lt = good (resource_name n) (passed (λ k. is_good_name (resource_name k)) 100 n resources_good lt)

pub good_link : (n : ℕ) → n < 100 → IsGood (link_name n)
good_link n lt = good (link_name n) (passed (λ k. is_good_name (link_name k)) 100 n links_good lt)

pub good_task : (n : ℕ) → n < 100 → IsGood (task_name n)
good_task n lt = good (task_name n) (passed (λ k. is_good_name (task_name k)) 100 n tasks_good lt)

pub good_message : (n : ℕ) → n < 100 → IsGood (message_name n)
good_message n lt = good (message_name n) (passed (λ k. is_good_name (message_name k)) 100 n messages_good lt)

-- ---- what is declared

abbrev pub resources : ℕ → List (List ℕ)
resources n = map resource_name (below n)

abbrev pub links : ℕ → List (List ℕ)
links n = map link_name (below n)

pub resources_more : (n : ℕ) → resources n ++ resource_name n ∷ [] ≡ resources (n + 1)
resources_more n =
    let same : 0 + n ≡ n = omega arith in
    sym (map-range_with_len_more resource_name 0 n n same)

pub links_more : (n : ℕ) → links n ++ link_name n ∷ [] ≡ links (n + 1)
links_more n =
    let same : 0 + n ≡ n = omega arith in
    sym (map-range_with_len_more link_name 0 n n same)

abbrev is_new_resource : ℕ → Bool
is_new_resource n = not (is_declared (resources n) (resource_name n)) && not (nat_le 256 (length (resources n)))

abbrev is_new_link : ℕ → Bool
is_new_link n = not (is_declared (links n) (link_name n)) && not (nat_le 1024 (length (links n)))

abbrev are_known_resources : ℕ → Bool
are_known_resources n = list_all (λ i. is_declared (resources n) (resource_name i)) (below n)

abbrev is_known_link : ℕ → Bool
is_known_link n = is_declared (links (n + 1)) (link_name n)

resources_new : list_all is_new_resource (below 25) ≡ true
unfolding digits
resources_new = refl

links_new : list_all is_new_link (below 40) ≡ true
unfolding digits
links_new = refl

resources_known : list_all are_known_resources (below 26) ≡ true
unfolding digits
resources_known = refl

links_known : list_all is_known_link (below 40) ≡ true
unfolding digits
links_known = refl

pub record IsNew (names : List (List ℕ)) (most : ℕ) (w : List ℕ) : Type 0 where
  pub undeclared : is_declared names w ≡ false
  pub few : nat_le most (length names) ≡ false

new : (names : List (List ℕ)) (most : ℕ) (w : List ℕ) → (not (is_declared names w) && not (nat_le most (length names))) ≡ true → IsNew names most w
new names most w h =
    let parts = and_parts (not (is_declared names w)) (not (nat_le most (length names))) h in
    record { undeclared = not-true (is_declared names w) parts.0; few = not-true (nat_le most (length names)) parts.1 }

pub new_resource : (n : ℕ) → n < 25 → IsNew (resources n) 256 (resource_name n)
new_resource n lt = new (resources n) 256 (resource_name n) (passed is_new_resource 25 n resources_new lt)

pub new_link : (n : ℕ) → n < 40 → IsNew (links n) 1024 (link_name n)
new_link n lt = new (links n) 1024 (link_name n) (passed is_new_link 40 n links_new lt)

pub known_resource : (n i : ℕ) → n < 26 → i < n → is_declared (resources n) (resource_name i) ≡ true
known_resource n i lt low = passed (λ k. is_declared (resources n) (resource_name k)) n i (passed are_known_resources 26 n resources_known lt) low

pub known_link : (n : ℕ) → n < 40 → is_declared (links (n + 1)) (link_name n) ≡ true
known_link n lt = passed is_known_link 40 n links_known lt
