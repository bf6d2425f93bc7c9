-- Proof files judged by the definitions, on specifications that were worked out by hand: each condition has a row that fails without it.
use Rattle.std.proofs.Common.{◌≡◌, ℕ, zero, suc, ◌<◌, Bool, true, false, List, [], ◌∷◌, ◌++◌, replicate, refl, ap, arith}
use Rattle.std.specs.Prelude.{codes, slice_index}
use Rattle.std.proofs.lemmas.Bool.{false≢true}
use Rattle.std.proofs.lemmas.List.Elements.{All-cons, All-nil}
use Rattle.line_words.specs.Numbers.{plain_whole_of, whole_of}
use Rattle.spec_model.specs.Spec.{SpecValue, Bits, bits_of, empty_spec, all_variables}
use Rattle.spec_model.specs.Rules.{of_task, IsValid}
use Rattle.spec_model.specs.Vectors.{vector_at, arc_weight, weights_of, IsAtMost}
use Rattle.spec_model.proofs.Rows.{names, priced}
use Rattle.encode_model.specs.Encoding.{weighted, has_weight, at_least, encoding, on_resource, option_allocates, resource_has_use}
use Rattle.encode_model.specs.Block.{total_weight, is_below, below_place, block_of}
use Rattle.encode_model.proofs.Written.{two_resources}
use Rattle.spelled_lines.specs.Lines.{pieces}
use Rattle.result_text.specs.Answers.{EntryValue}
use Rattle.result_text.specs.Fronts.{FrontValue}
use Rattle.front_model.specs.Fronts.{Rise, AreApart, IsEntry, IsClaim}
use Rattle.front_model.specs.Proofs.{Accepts}
use Rattle.front_model.proofs.Files.{judged_exactly}
use Rattle.front_model.specs.declared.refusals.ProofWhy.{ProofWhy}
use Rattle.front_model.specs.declared.refusals.ProofWhy.TheVariants.{BadStep, UnknownId, ZeroDivisor, TooLarge, CoverAboveWeight, CoverNotDominated, NoContradiction}
use Rattle.front_model.specs.declared.refusals.Verdict.{Verdict}
use Rattle.front_model.specs.declared.refusals.Verdict.TheVariants as verdicts
use Rattle.front_model.specs.Judging.{begun, take_lines, verdict_of, refusal_at}

-- lines, each with its LF
abbrev file : List (List ℕ) → List ℕ
file [] = []
file (l ∷ ls) = l ++ 10 ∷ file ls

-- a proof file of these lines after the first one
abbrev proof : List (List ℕ) → List ℕ
proof ls = file (codes "proof 1" ∷ ls)

-- what is said at the end of a text, over a front with these vectors
abbrev said : SpecValue → List (List ℕ) → List ℕ → Verdict
said s us text = verdict_of (take_lines s us (begun s) (pieces text))

abbrev accepted : Verdict
accepted = verdicts.Accepted

abbrev refused : ℕ → ProofWhy → Verdict
refused line why = verdicts.Refused (refusal_at line why)

-- one objective, and nothing that weighs: the only vector is (0)
abbrev costless : SpecValue
costless = record empty_spec { objectives = names (99 ∷ []) }

abbrev zero_front : List (List ℕ)
zero_front = (0 ∷ []) ∷ []

-- the front of the task on one of three resources, and the same without its second vector
abbrev both_vectors : List (List ℕ)
both_vectors = (1 ∷ 5 ∷ []) ∷ (4 ∷ 2 ∷ []) ∷ []

abbrev first_vector : List (List ℕ)
first_vector = (1 ∷ 5 ∷ []) ∷ []

abbrev three_front : List (List ℕ)
three_front = (3 ∷ []) ∷ []

-- ---- whole proofs

cover_and_sum : said costless zero_front (proof (codes "c 0" ∷ codes "p 1 2 +" ∷ [])) ≡ accepted
unfolding pieces encoding block_of below_place is_below at_least weighted has_weight total_weight weights_of arc_weight all_variables plain_whole_of whole_of
cover_and_sum = refl

none_cheaper : said two_resources three_front (proof (codes "c 3" ∷ codes "p 1 3 + 4 + *3 8 + 7 *4 +" ∷ [])) ≡ accepted
unfolding pieces encoding on_resource option_allocates resource_has_use of_task block_of below_place is_below at_least weighted has_weight total_weight weights_of arc_weight all_variables
    plain_whole_of whole_of
none_cheaper = refl

-- the division of `x0 + x1 >= 1` by 2 rounds up
rounds_up : said two_resources three_front (proof (codes "c 3" ∷ codes "p 1 /2 3 + 4 + *3 8 + 7 *4 +" ∷ [])) ≡ accepted
unfolding pieces encoding on_resource option_allocates resource_has_use of_task block_of below_place is_below at_least weighted has_weight total_weight weights_of arc_weight all_variables
    plain_whole_of whole_of
rounds_up = refl

-- ---- the form of a file

no_byte : said costless zero_front [] ≡ refused 1 BadStep
unfolding pieces
no_byte = refl

other_header : said costless zero_front (file (codes "proof 2" ∷ [])) ≡ refused 1 BadStep
unfolding pieces
other_header = refl

header_alone : said costless zero_front (proof []) ≡ refused 2 NoContradiction
unfolding pieces
header_alone = refl

no_last_end : said costless zero_front (proof (codes "c 0" ∷ []) ++ codes "p 1 2 +") ≡ refused 3 BadStep
unfolding pieces encoding block_of below_place is_below at_least weighted has_weight total_weight weights_of arc_weight all_variables plain_whole_of whole_of
no_last_end = refl

two_spaces : said costless zero_front (proof (codes "c  0" ∷ [])) ≡ refused 2 BadStep
unfolding pieces
two_spaces = refl

other_word : said costless zero_front (proof (codes "q 1" ∷ [])) ≡ refused 2 BadStep
unfolding pieces
other_word = refl

-- ---- the last line

cover_last : said costless zero_front (proof (codes "c 0" ∷ codes "p 1 2 +" ∷ codes "c 0" ∷ [])) ≡ refused 5 NoContradiction
unfolding pieces encoding block_of below_place is_below at_least weighted has_weight total_weight weights_of arc_weight all_variables plain_whole_of whole_of
cover_last = refl

terms_left : said costless zero_front (proof (codes "c 0" ∷ codes "p 1" ∷ [])) ≡ refused 4 NoContradiction
unfolding pieces encoding block_of below_place is_below at_least weighted has_weight total_weight weights_of arc_weight all_variables plain_whole_of whole_of
terms_left = refl

degree_zero : said priced both_vectors (proof (codes "p x0 ~x0 +" ∷ [])) ≡ refused 3 NoContradiction
unfolding pieces encoding on_resource option_allocates resource_has_use of_task at_least plain_whole_of whole_of
degree_zero = refl

-- ---- covers

covered_by_both : said priced both_vectors (proof (codes "c 4 5" ∷ codes "c 4 2" ∷ [])) ≡ refused 4 NoContradiction
unfolding pieces total_weight weights_of arc_weight plain_whole_of whole_of
covered_by_both = refl

not_dominated : said priced first_vector (proof (codes "c 4 5" ∷ codes "c 4 2" ∷ [])) ≡ refused 3 (CoverNotDominated (4 ∷ 2 ∷ []))
unfolding pieces total_weight weights_of arc_weight plain_whole_of whole_of
not_dominated = refl

above_weight : said priced both_vectors (proof (codes "c 10 2" ∷ [])) ≡ refused 2 (CoverAboveWeight 0)
unfolding pieces total_weight weights_of arc_weight plain_whole_of whole_of
above_weight = refl

other_count : said priced both_vectors (proof (codes "c 4" ∷ [])) ≡ refused 2 BadStep
unfolding pieces plain_whole_of whole_of
other_count = refl

leading_zero : said priced both_vectors (proof (codes "c 04 5" ∷ [])) ≡ refused 2 BadStep
unfolding pieces plain_whole_of
leading_zero = refl

-- ---- operations

unknown_id : said priced both_vectors (proof (codes "p 9" ∷ [])) ≡ refused 2 (UnknownId 9)
unfolding pieces encoding on_resource option_allocates resource_has_use of_task plain_whole_of whole_of
unknown_id = refl

unknown_variable : said priced both_vectors (proof (codes "p x6" ∷ [])) ≡ refused 2 (UnknownId 6)
unfolding pieces encoding on_resource option_allocates resource_has_use of_task at_least plain_whole_of whole_of
unknown_variable = refl

zero_divisor : said priced both_vectors (proof (codes "p 1 /0" ∷ [])) ≡ refused 2 ZeroDivisor
unfolding pieces encoding on_resource option_allocates resource_has_use of_task at_least plain_whole_of whole_of
zero_divisor = refl

too_large : said priced both_vectors (proof (codes "p 1 *9223372036854775807" ∷ [])) ≡ refused 2 (TooLarge 27670116110564327421)
unfolding pieces encoding on_resource option_allocates resource_has_use of_task at_least plain_whole_of whole_of
too_large = refl

divided : said priced both_vectors (proof (codes "p 1 /2" ∷ [])) ≡ refused 3 NoContradiction
unfolding pieces encoding on_resource option_allocates resource_has_use of_task at_least plain_whole_of whole_of
divided = refl

missing_operand : said priced both_vectors (proof (codes "p 1 +" ∷ [])) ≡ refused 2 BadStep
unfolding pieces encoding on_resource option_allocates resource_has_use of_task at_least plain_whole_of whole_of
missing_operand = refl

two_left : said priced both_vectors (proof (codes "p 1 2" ∷ [])) ≡ refused 2 BadStep
unfolding pieces encoding on_resource option_allocates resource_has_use of_task at_least plain_whole_of whole_of
two_left = refl

no_operation : said priced both_vectors (proof (codes "p" ∷ [])) ≡ refused 2 BadStep
unfolding pieces
no_operation = refl

-- the first fault from the left counts
first_fault : said priced both_vectors (proof (codes "p 9 y" ∷ [])) ≡ refused 2 (UnknownId 9)
unfolding pieces encoding on_resource option_allocates resource_has_use of_task plain_whole_of whole_of
first_fault = refl

-- ---- fronts

abbrev entry : List Bool → List ℕ → EntryValue
entry design vector = record { design = design; vector = vector }

-- the task is on the first resource, or on the second
abbrev on_first : List Bool
on_first = true ∷ false ∷ false ∷ true ∷ false ∷ false ∷ []

abbrev on_second : List Bool
on_second = false ∷ true ∷ false ∷ false ∷ true ∷ false ∷ []

-- not marked complete
not_complete : ¬ IsClaim priced (record { entries = entry on_first (1 ∷ 5 ∷ []) ∷ entry on_second (4 ∷ 2 ∷ []) ∷ []; complete = false })
not_complete h = false≢true h.complete

-- the greater vector first
not_before : (place : ℕ) → ((j : ℕ) → j < place → slice_index (4 ∷ 2 ∷ []) j ≡ slice_index (1 ∷ 5 ∷ []) j) → slice_index (4 ∷ 2 ∷ []) place < slice_index (1 ∷ 5 ∷ []) place → ⊥
not_before zero same less = omega (arith, less)
not_before (suc n) same less = omega (arith, same 0 (omega arith))

not_rising : ¬ Rise ((4 ∷ 2 ∷ []) ∷ (1 ∷ 5 ∷ []) ∷ [])
not_rising h =
    let b = h 0 1 [] (omega arith) (omega arith) in
    not_before b.place b.same b.less

-- a vector that another one is at most
below_other : IsAtMost (1 ∷ 5 ∷ []) (1 ∷ 6 ∷ [])
below_other zero = omega arith
below_other (suc zero) = omega arith
below_other (suc (suc j)) = omega arith

not_apart : ¬ AreApart ((1 ∷ 5 ∷ []) ∷ (1 ∷ 6 ∷ []) ∷ [])
not_apart h = h 0 1 [] (omega arith) (omega arith) (λ e. absurd (omega (arith, e))) below_other

-- another vector than the design's
other_vector : ¬ IsEntry priced (entry on_first (1 ∷ 6 ∷ []))
unfolding vector_at weights_of arc_weight
other_vector h =
    let e : 1 ∷ 5 ∷ [] ≡ 1 ∷ 6 ∷ [] = h.stated in
    absurd (omega (arith, ap (λ (v : List ℕ). slice_index v 1) e))

-- a design in which the task is on no resource
unbound : ¬ IsEntry priced (entry (replicate 6 false) (0 ∷ 0 ∷ []))
unfolding of_task
unbound h =
    let b : 0 ≡ 1 = h.valid.routed.bound_once 0 (omega arith) in
    absurd (omega (arith, b))

-- ---- a front and a proof that are accepted together

-- with nothing to choose the empty design is the only one, and its vector is (0)
abbrev nothing_chosen : FrontValue
nothing_chosen = record { entries = entry [] (0 ∷ []) ∷ []; complete = true }

abbrev no_bits : Bits
no_bits = bits_of []

none_below : {X : Type 0} (n : ℕ) → n < 0 → X
none_below n l = absurd (omega (arith, l))

valid_costless : IsValid costless no_bits
valid_costless = record {
  routed = record {
    bound_once = λ t l. none_below t l;
    no_arc_into_sender = λ m a l. none_below m l;
    one_arc_into = λ m r l. none_below m l;
    has_walk = λ m a l. none_below m l;
    no_dangling = λ m a l. none_below m l;
    resource_use = λ r l. none_below r l;
    link_use = λ r l. none_below r l;
  };
  reached = λ m w r l. none_below m l;
}

entry_costless : IsEntry costless (entry [] (0 ∷ []))
unfolding vector_at weights_of arc_weight
entry_costless = record { valid = valid_costless; stated = refl }

alone : (j : ℕ) → j < 1 → j ≡ 0
alone j l = omega (arith, l)

claim_costless : IsClaim costless nothing_chosen
claim_costless = record {
  entries = All-cons (IsEntry costless) (entry [] (0 ∷ [])) [] entry_costless (All-nil (IsEntry costless));
  rising = λ i j d l h. absurd (omega (arith, l, alone j h));
  apart = λ i j d h k n. absurd (n (omega (arith, alone i h, alone j k)));
  complete = refl;
}

both_accepted : Accepts costless nothing_chosen (proof (codes "c 0" ∷ codes "p 1 2 +" ∷ []))
both_accepted = record { claim = claim_costless; proof = (judged_exactly costless zero_front (proof (codes "c 0" ∷ codes "p 1 2 +" ∷ []))).0 cover_and_sum }
