-- One variable more in the sum of a vector.
use Rattle.std.proofs.Common.{◌≡◌, ℕ, ◌+◌, ◌*◌, ◌≤◌, ◌^◌, Bool, true, false, cond, [], ap, ◌∙◌, arith}
use Rattle.std.specs.List.{sum_by}
use Rattle.spec_model.specs.Spec.{SpecValue, Bits, below}
use Rattle.spec_model.specs.Vectors.{weight, weight_if_true}
use Rattle.spec_model.proofs.Those.{sum_by-below_more}

-- what a loop over the variables has added up
abbrev pub IsSumBelow : SpecValue → Bits → ℕ → ℕ → ℕ → Type 0
IsSumBelow s f j v total = (total ≤ v * 2 ^ 40) × (total ≡ sum_by (weight_if_true s f j) (below v))

pub sum_more_true : (s : SpecValue) (f : Bits) (j v total next w : ℕ) → IsSumBelow s f j v total → f v ≡ true → w ≡ weight s j v → w ≤ 2 ^ 40 → next ≡ total + w → IsSumBelow s f j (v + 1) next
sum_more_true s f j v total next w before is weighs small e =
    let step = sum_by-below_more (weight_if_true s f j) v ∙ ap (λ (b : Bool). sum_by (weight_if_true s f j) (below v) + cond b (weight s j v) 0) is in
    (omega (arith, before.0, e, small), omega (arith, before.1, e, weighs, step))

pub sum_more_false : (s : SpecValue) (f : Bits) (j v total next : ℕ) → IsSumBelow s f j v total → f v ≡ false → next ≡ total → IsSumBelow s f j (v + 1) next
sum_more_false s f j v total next before is e =
    let step = sum_by-below_more (weight_if_true s f j) v ∙ ap (λ (b : Bool). sum_by (weight_if_true s f j) (below v) + cond b (weight s j v) 0) is in
    (omega (arith, before.0, e), omega (arith, before.1, e, step))
