-- The definitions on two specifications that were worked out by hand.
use Rattle.std.proofs.Common.{◌≡◌, ℕ, zero, suc, ◌+◌, ◌<◌, ◌≤◌, Bool, true, false, nat_eq, List, [], ◌∷◌, length, refl, sym, ◌∙◌, arith}
use Rattle.std.specs.List.{list_any}
use Rattle.std.proofs.lemmas.Bool.{false≢true}
use Rattle.spec_model.specs.Spec.{Message, Arc, Choice, choice, SpecValue, Bits, Name, empty_spec, arc_at, all_variables, design_variables}
use Rattle.spec_model.specs.Rules.{of_task, Uses, IsCrowded, IsStray, WalkBelow, goes_into, arc_bit, uses_into}
use Rattle.spec_model.specs.Vectors.{vector_at, vector_of, weights_of, arc_weight}
use Rattle.spec_model.specs.WellFormed.{size, message_size}
use Rattle.spec_model.specs.Walks.{walk_test}
use Rattle.spec_model.proofs.Decide.{walk_test_from}

abbrev pub arc : ℕ → ℕ → ℕ → Arc
arc l p q = record { link = l; tail = p; head = q }

abbrev pub option : ℕ → ℕ → Choice
option t r = choice t r 0

abbrev pub names : List ℕ → List Name
names [] = []
names (b ∷ bs) = (b ∷ []) ∷ names bs

abbrev message : ℕ → List ℕ → Message
message s ws = record { sender = s; receivers = ws; limit = 3; delay = 0; quantity = 1 }

-- a sender on a, receivers on b and c, and a hub between them: a, hub, b, c are resources 0 to 3
abbrev pub hub : SpecValue
hub = record empty_spec {
  tasks = names (115 ∷ (100 ∷ (101 ∷ [])));
  message_names = names (109 ∷ []);
  messages = message 0 (1 ∷ (2 ∷ [])) ∷ [];
  resources = names (97 ∷ (104 ∷ (98 ∷ (99 ∷ []))));
  links = names (97 ∷ (98 ∷ (99 ∷ [])));
  arcs = arc 0 0 1 ∷ (arc 0 1 0 ∷ (arc 1 1 2 ∷ (arc 1 2 1 ∷ (arc 2 1 3 ∷ (arc 2 3 1 ∷ [])))));
  options = option 0 0 ∷ (option 1 2 ∷ (option 2 3 ∷ []));
}

variables_hub : all_variables hub ≡ 36
unfolding all_variables
variables_hub = refl

design_hub : design_variables hub ≡ 16
design_hub = refl

size_hub : size hub ≡ 266
unfolding size message_size of_task
size_hub = refl

-- two parallel one-way links from a to b, and one between c and d: a, b, c, d are resources 0 to 3
abbrev pub parallel : SpecValue
parallel = record empty_spec {
  tasks = names (115 ∷ (119 ∷ []));
  message_names = names (109 ∷ []);
  messages = message 0 (1 ∷ []) ∷ [];
  resources = names (97 ∷ (98 ∷ (99 ∷ (100 ∷ []))));
  links = names (112 ∷ (113 ∷ (114 ∷ [])));
  arcs = arc 0 0 1 ∷ (arc 1 0 1 ∷ (arc 2 2 3 ∷ (arc 2 3 2 ∷ [])));
  options = option 0 0 ∷ (option 1 1 ∷ []);
}

abbrev pub of_list : List ℕ → Bits
of_list vs v = list_any (λ w. nat_eq w v) vs

-- both links used: two arcs go into b
pub both_links : IsCrowded parallel (of_list (0 ∷ (1 ∷ (2 ∷ (3 ∷ []))))) 0 1
unfolding goes_into arc_bit uses_into
both_links = record { in_range = omega arith; two = omega arith }

abbrev pub apart : Bits
apart = of_list (0 ∷ (1 ∷ (2 ∷ (4 ∷ (5 ∷ [])))))

no_walk_to_c : ¬ WalkBelow parallel apart 0 2 3
no_walk_to_c (zero, l, w) = false≢true (walk_test_from parallel apart 0 0 2 w)
no_walk_to_c (suc zero, l, w) = false≢true (walk_test_from parallel apart 0 1 2 w)
no_walk_to_c (suc (suc zero), l, w) = false≢true (walk_test_from parallel apart 0 2 2 w)
no_walk_to_c (suc (suc (suc n)), l, w) = absurd (omega (arith, l))

-- the arc from c, which nothing reaches
pub stray : IsStray parallel apart 0 2
stray = record { used = record { in_range = omega arith; bit = refl }; no_walk = no_walk_to_c }

-- one task on one of three resources, with two objectives
abbrev pub priced : SpecValue
priced = record empty_spec {
  tasks = names (116 ∷ []);
  resources = names (97 ∷ (98 ∷ (99 ∷ [])));
  options = option 0 0 ∷ (option 0 1 ∷ (option 0 2 ∷ []));
  objectives = names (99 ∷ (101 ∷ []));
  option_weights = (0 ∷ (5 ∷ [])) ∷ ((0 ∷ (2 ∷ [])) ∷ ((0 ∷ (5 ∷ [])) ∷ []));
  resource_weights = (1 ∷ (0 ∷ [])) ∷ ((4 ∷ (0 ∷ [])) ∷ ((4 ∷ (0 ∷ [])) ∷ []));
}

pub vector_priced : vector_of priced (of_list (1 ∷ (4 ∷ []))) ≡ 4 ∷ (2 ∷ [])
unfolding vector_at weights_of arc_weight
vector_priced = refl
