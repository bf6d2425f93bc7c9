-- The encodings of two small specifications and a block, worked out by hand: each family, and their order; and a line
-- that refutes one of them.
use Rattle.std.specs.Prelude.{◌≡◌, ℕ, Bool, true, false, List, [], ◌∷◌, refl}
use Rattle.pb_rules.specs.declared.Term.{Term}
use Rattle.pb_rules.specs.declared.Op.{Op}
use Rattle.pb_rules.specs.declared.Op.TheVariants.{Id, Add, Times}
use Rattle.pb_rules.specs.Linear.{Linear}
use Rattle.pb_rules.specs.Clauses.{contradiction}
use Rattle.pb_rules.specs.Frames.{derived, cover, derived_by}
use Rattle.spec_model.specs.Spec.{Message, SpecValue, empty_spec, base, all_variables}
use Rattle.spec_model.specs.Rules.{of_task, of_task_on, goes_into, leaves, of_link}
use Rattle.spec_model.specs.Vectors.{arc_weight, weights_of}
use Rattle.spec_model.proofs.Rows.{arc, names, option}
use Rattle.encode_model.specs.Encoding.{weighted, has_weight, at_least, encoding, step_after, step_at, carries, has_cause, for_receiver, on_resource, leads_to, option_covers, option_allocates, cover_allocates, cover_of, resource_has_use, arc_allocates, link_arcs, link_has_use}
use Rattle.encode_model.specs.Block.{total_weight, is_below, below_place, block_of, cover_frame}

-- a variable and its opposite, and a constraint
abbrev pub x : ℕ → Term
x v = record { coef = 1; lit = record { var = v; yes = true } }

abbrev pub not_x : ℕ → Term
not_x v = record { coef = 1; lit = record { var = v; yes = false } }

abbrev pub sum : List Term → ℕ → Linear
sum terms degree = record { terms = terms; degree = degree }

-- a sender on a and a receiver on b, with a one-way link between them
abbrev pub two_tasks : SpecValue
two_tasks = record empty_spec {
  tasks = names (115 ∷ (119 ∷ []));
  message_names = names (109 ∷ []);
  messages = record { sender = 0; receivers = 1 ∷ []; limit = 1; delay = 0; quantity = 1 } ∷ [];
  resources = names (97 ∷ (98 ∷ []));
  links = names (108 ∷ []);
  arcs = arc 0 0 1 ∷ [];
  options = option 0 0 ∷ (option 1 1 ∷ []);
}

-- the options are 0 and 1, the arc is 2, a and b are 3 and 4, the link is 5; the steps of a are 6 and 7, those of b are 8
-- and 9; their covers are 10 and 11
abbrev pub families : List Linear
families =
    -- one option a task
    sum (x 0 ∷ []) 1 ∷ sum (not_x 0 ∷ []) 0
    ∷ sum (x 1 ∷ []) 1 ∷ sum (not_x 1 ∷ []) 0
    -- the sender's start
    ∷ sum (not_x 0 ∷ x 6 ∷ []) 1 ∷ sum (x 0 ∷ not_x 6 ∷ []) 1
    ∷ sum (x 8 ∷ []) 0 ∷ sum (not_x 8 ∷ []) 1
    -- receivers covered
    ∷ sum (not_x 1 ∷ x 11 ∷ []) 1
    -- covered once
    ∷ sum (not_x 6 ∷ not_x 7 ∷ x 10 ∷ []) 2 ∷ sum (x 6 ∷ x 7 ∷ not_x 10 ∷ []) 1
    ∷ sum (not_x 8 ∷ not_x 9 ∷ x 11 ∷ []) 2 ∷ sum (x 8 ∷ x 9 ∷ not_x 11 ∷ []) 1
    -- one arc in
    ∷ sum (not_x 7 ∷ []) 1 ∷ sum (x 7 ∷ []) 0
    ∷ sum (x 2 ∷ not_x 9 ∷ []) 1 ∷ sum (not_x 2 ∷ x 9 ∷ []) 1
    -- arcs carry steps
    ∷ sum (not_x 2 ∷ not_x 6 ∷ x 9 ∷ []) 1
    ∷ sum (not_x 2 ∷ x 10 ∷ []) 1
    ∷ sum (not_x 2 ∷ not_x 7 ∷ []) 1
    -- steps have a cause
    ∷ sum (not_x 7 ∷ []) 1
    ∷ sum (x 6 ∷ not_x 9 ∷ []) 1
    -- no dangling branch
    ∷ sum (x 2 ∷ x 6 ∷ not_x 10 ∷ []) 1
    ∷ sum (x 1 ∷ x 8 ∷ not_x 11 ∷ []) 1
    -- allocation
    ∷ sum (not_x 0 ∷ x 3 ∷ []) 1 ∷ sum (not_x 1 ∷ x 4 ∷ []) 1
    ∷ sum (x 3 ∷ not_x 10 ∷ []) 1 ∷ sum (x 4 ∷ not_x 11 ∷ []) 1
    ∷ sum (x 0 ∷ not_x 3 ∷ x 10 ∷ []) 1 ∷ sum (x 1 ∷ not_x 4 ∷ x 11 ∷ []) 1
    ∷ sum (not_x 2 ∷ x 5 ∷ []) 1
    ∷ sum (x 2 ∷ not_x 5 ∷ []) 1
    ∷ []

encoding_two_tasks : encoding two_tasks ≡ families
unfolding encoding base at_least step_after step_at carries has_cause for_receiver on_resource leads_to option_covers option_allocates cover_allocates cover_of resource_has_use arc_allocates
    link_arcs link_has_use of_task of_task_on goes_into leaves of_link
encoding_two_tasks = refl

-- one task on one of two resources of cost 3: the options are 0 and 1, the resources 2 and 3
abbrev pub two_resources : SpecValue
two_resources = record empty_spec {
  tasks = names (116 ∷ []);
  resources = names (97 ∷ (98 ∷ []));
  options = option 0 0 ∷ (option 0 1 ∷ []);
  objectives = names (99 ∷ []);
  option_weights = (0 ∷ []) ∷ ((0 ∷ []) ∷ []);
  resource_weights = (3 ∷ []) ∷ ((3 ∷ []) ∷ []);
}

abbrev pub bindings : List Linear
bindings =
    sum (x 0 ∷ x 1 ∷ []) 1 ∷ sum (not_x 0 ∷ not_x 1 ∷ []) 1
    ∷ sum (not_x 0 ∷ x 2 ∷ []) 1 ∷ sum (not_x 1 ∷ x 3 ∷ []) 1
    ∷ sum (x 0 ∷ not_x 2 ∷ []) 1 ∷ sum (x 1 ∷ not_x 3 ∷ []) 1
    ∷ []

encoding_two_resources : encoding two_resources ≡ bindings
unfolding encoding at_least on_resource option_allocates resource_has_use of_task
encoding_two_resources = refl

-- the block of the first cover of cost 3
abbrev pub below_three : List Linear
below_three =
    sum (x 4 ∷ []) 1
    ∷ sum (record { coef = 3; lit = record { var = 2; yes = false } } ∷ record { coef = 3; lit = record { var = 3; yes = false } } ∷ record { coef = 4; lit = record { var = 4; yes = false } } ∷ []) 4
    ∷ []

block_two_resources : block_of two_resources 1 (3 ∷ []) ≡ below_three
unfolding block_of below_place is_below at_least weighted has_weight total_weight weights_of arc_weight all_variables
block_two_resources = refl

-- with this block there is no model: the line `p 1 3 + 4 + *3 8 + 7 *4 +` gives `0 >= 1`
abbrev pub no_cheaper : List Op
no_cheaper = Id 1 ∷ Id 3 ∷ Add ∷ Id 4 ∷ Add ∷ Times 3 ∷ Id 8 ∷ Add ∷ Id 7 ∷ Times 4 ∷ Add ∷ []

none_cheaper : derived_by (cover_frame two_resources) (cover (3 ∷ []) ∷ derived no_cheaper ∷ []) ≡ contradiction ∷ []
unfolding encoding on_resource option_allocates resource_has_use of_task block_of below_place is_below at_least weighted has_weight total_weight weights_of arc_weight all_variables
none_cheaper = refl
