-- The model of a design, as a list, and what stands at each variable.
use Rattle.std.proofs.Common.{◌≡◌, ℕ, zero, suc, ◌+◌, ◌*◌, ◌<◌, ◌≤◌, Bool, false, List, ◌++◌, length, get_or, sym, ap, ◌∙◌, subst, arith, add-one}
use Rattle.std.specs.Prelude.{map}
use Rattle.std.specs.List.{flat_map}
use Rattle.std.proofs.lemmas.List.{get_or_append_left, get_or-append-add, length-append}
use Rattle.std.proofs.lemmas.List.FromFn.{get_or-map-range_with_len, length-map-range_with_len}
use Rattle.std.proofs.lemmas.Nat.{mul-add-lt}
use Rattle.spec_model.specs.Spec.{SpecValue, Bits, bits_of, below, message_at, further, base, design_variables, step_var, covered_var}
use Rattle.spec_model.proofs.Pieces.{flat-suc, width, piece, piece_of_width}
use Rattle.spec_model.proofs.Numbers.{base-zero, base_more}
use Rattle.encode_laws.specs.ModelBits.{step_bit, cover_bit, step_row, message_bits, model_list}

length_row : (s : SpecValue) (f : Bits) (m r : ℕ) → length (step_row s f m r) ≡ (message_at s m).limit + 1
length_row s f m r = length-map-range_with_len (step_bit s f m r) 0 ((message_at s m).limit + 1)

length_bits : (s : SpecValue) (f : Bits) (m : ℕ) → length (message_bits s f m) ≡ further s (message_at s m)
length_bits s f m =
    length-append (flat_map (step_row s f m) (below (length s.resources))) (map (cover_bit s f m) (below (length s.resources)))
    ∙ omega (arith, width (step_row s f m) ((message_at s m).limit + 1) (length s.resources) (length_row s f m), length-map-range_with_len (cover_bit s f m) 0 (length s.resources))

-- the bits of a message begin at its base
begins : (s : SpecValue) (f : Bits) (m : ℕ) → m ≤ length s.messages → design_variables s + length (flat_map (message_bits s f) (below m)) ≡ base s m
begins s f zero h = omega (arith, base-zero s)
begins s f (suc m) h =
    let next : base s (suc m) ≡ base s m + further s (message_at s m) = subst (λ (k : ℕ). base s k ≡ base s m + further s (message_at s m)) (add-one m) (base_more s m h) in
    omega (arith, next, begins s f m (omega arith), ap length (flat-suc (message_bits s f) m), length-append (flat_map (message_bits s f) (below m)) (message_bits s f m), length_bits s f m)

-- what stands at place j of message m
place : (s : SpecValue) (f : Bits) (m j : ℕ) → m < length s.messages → j < further s (message_at s m) → bits_of (model_list s f) (base s m + j) ≡ get_or (message_bits s f m) j false
place s f m j hm hj =
    let design = map f (below (design_variables s)) in
    let rest = flat_map (message_bits s f) (below (length s.messages)) in
    let before = length (flat_map (message_bits s f) (below m)) in
    let at : base s m + j ≡ length design + (before + j) = omega (arith, begins s f m (omega arith), length-map-range_with_len f 0 (design_variables s)) in
    ap (λ (k : ℕ). get_or (design ++ rest) k false) at
    ∙ (get_or-append-add design rest (before + j) false
    ∙ piece (message_bits s f) (length s.messages) m j false hm (omega (arith, hj, length_bits s f m)))

-- all bits of a model
pub length_model : (s : SpecValue) (f : Bits) → length (model_list s f) ≡ base s (length s.messages)
length_model s f =
    length-append (map f (below (design_variables s))) (flat_map (message_bits s f) (below (length s.messages)))
    ∙ omega (arith, begins s f (length s.messages) (omega arith), length-map-range_with_len f 0 (design_variables s))

-- the variable of a step has the step's bit
pub step_reads : (s : SpecValue) (f : Bits) (m r t : ℕ) → m < length s.messages → r < length s.resources → t ≤ (message_at s m).limit → bits_of (model_list s f) (step_var s m r t) ≡ step_bit s f m r t
step_reads s f m r t hm hr ht =
    let w = (message_at s m).limit + 1 in
    let rows = flat_map (step_row s f m) (below (length s.resources)) in
    let in_rows : r * w + t < length s.resources * w = omega (arith, mul-add-lt r w t (length s.resources) hr (omega arith)) in
    let total = width (step_row s f m) w (length s.resources) (length_row s f m) in
    let e : step_var s m r t ≡ base s m + (r * w + t) = omega arith in
    ap (λ (k : ℕ). bits_of (model_list s f) k) e
    ∙ (place s f m (r * w + t) hm (omega (arith, in_rows))
    ∙ (get_or_append_left rows (map (cover_bit s f m) (below (length s.resources))) false (r * w + t) (omega (arith, in_rows, total))
    ∙ (piece_of_width (step_row s f m) w (length s.resources) r t false (length_row s f m) hr (omega arith)
    ∙ get_or-map-range_with_len (step_bit s f m r) 0 w t t false (omega arith) (omega arith))))

pub cover_reads : (s : SpecValue) (f : Bits) (m r : ℕ) → m < length s.messages → r < length s.resources → bits_of (model_list s f) (covered_var s m r) ≡ cover_bit s f m r
cover_reads s f m r hm hr =
    let w = (message_at s m).limit + 1 in
    let rows = flat_map (step_row s f m) (below (length s.resources)) in
    let total = width (step_row s f m) w (length s.resources) (length_row s f m) in
    let e : covered_var s m r ≡ base s m + (length rows + r) = omega (arith, total) in
    ap (λ (k : ℕ). bits_of (model_list s f) k) e
    ∙ (place s f m (length rows + r) hm (omega (arith, total))
    ∙ (get_or-append-add rows (map (cover_bit s f m) (below (length s.resources))) r false
    ∙ get_or-map-range_with_len (cover_bit s f m) 0 (length s.resources) r r false hr (omega arith)))

pub design_reads : (s : SpecValue) (f : Bits) (v : ℕ) → v < design_variables s → bits_of (model_list s f) v ≡ f v
design_reads s f v h =
    get_or_append_left (map f (below (design_variables s))) (flat_map (message_bits s f) (below (length s.messages))) false v (omega (arith, h, length-map-range_with_len f 0 (design_variables s)))
    ∙ get_or-map-range_with_len f 0 (design_variables s) v v false h (omega arith)
