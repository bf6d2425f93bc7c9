-- A small specification has few variables and few terms.
use Rattle.std.proofs.Common.{ℕ, ◌+◌, ◌*◌, ◌≤◌, ◌^◌, length, All, arith, mul-le-mul}
use Rattle.std.proofs.lemmas.List.Sums.{sum_by-le, length-filter, count_by-le-length}
use Rattle.std.proofs.lemmas.List.FromFn.{length-range_with_len}
use Rattle.spec_model.specs.Spec.{SpecValue, Message, below, further, all_variables}
use Rattle.spec_model.specs.Rules.{of_task}
use Rattle.spec_model.specs.WellFormed.{option_count, message_size, size}

-- a message to at most two tasks, over at most 24 links
pub record IsShortWay (m : Message) : Type 0 where
  pub hops : m.limit ≤ 24
  pub receivers : length m.receivers ≤ 2

-- so few of everything
pub record IsSmall (s : SpecValue) : Type 0 where
  pub resources : length s.resources ≤ 25
  pub links : length s.links ≤ 40
  pub arcs : length s.arcs ≤ 80
  pub options : length s.options ≤ 150
  pub messages : length s.messages ≤ 50
  pub ways : All IsShortWay s.messages

further_few : (s : SpecValue) → IsSmall s → (m : Message) → IsShortWay m → further s m ≤ 650
further_few s h m w = mul-le-mul {n₁ = length s.resources} {m₁ = m.limit + 2} {n₂ = 25} {m₂ = 26} h.resources (omega (arith, w.hops))

pub few_variables : (s : SpecValue) → IsSmall s → all_variables s ≤ 2 ^ 20
unfolding all_variables
few_variables s h =
    let sum = sum_by-le (further s) 650 s.messages (λ k d l. further_few s h _ (h.ways k d l)) in
    let arcs : length s.messages * length s.arcs ≤ 50 * 80 = mul-le-mul {n₁ = length s.messages} {m₁ = length s.arcs} {n₂ = 50} {m₂ = 80} h.messages h.arcs in
    omega (arith, sum, arcs, h.resources, h.links, h.options, h.messages)

options_few : (s : SpecValue) (t : ℕ) → IsSmall s → option_count s t ≤ 150
options_few s t h =
    let kept = length-filter (of_task s t) (below (length s.options)) in
    let few = count_by-le-length (of_task s t) (below (length s.options)) in
    omega (arith, kept, few, length-range_with_len 0 (length s.options), h.options)

terms_few : (s : SpecValue) → IsSmall s → (m : Message) → IsShortWay m → message_size s m ≤ 20000
unfolding message_size
terms_few s h m w =
    let on : length s.resources * (5 * m.limit + 11) ≤ 25 * 131 = mul-le-mul {n₁ = length s.resources} {m₁ = 5 * m.limit + 11} {n₂ = 25} {m₂ = 131} h.resources (omega (arith, w.hops)) in
    let over : length s.arcs * (4 * m.limit + 10) ≤ 80 * 106 = mul-le-mul {n₁ = length s.arcs} {m₁ = 4 * m.limit + 10} {n₂ = 80} {m₂ = 106} h.arcs (omega (arith, w.hops)) in
    let to = sum_by-le (option_count s) 150 m.receivers (λ k d l. options_few s _ h) in
    omega (arith, on, over, to, options_few s m.sender h, w.receivers)

pub few_terms : (s : SpecValue) → IsSmall s → size s ≤ 2 ^ 23
unfolding size
few_terms s h =
    let sum = sum_by-le (message_size s) 20000 s.messages (λ k d l. terms_few s h _ (h.ways k d l)) in
    omega (arith, sum, h.resources, h.links, h.options, h.messages)
