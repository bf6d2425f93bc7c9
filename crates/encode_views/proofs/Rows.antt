-- Rows of reached resources, and the bits of a message.
use Rattle.std.proofs.Common.{◌≡◌, ℕ, zero, suc, ◌+◌, ◌<◌, ◌≤◌, Bool, true, false, cond, List, [], ◌∷◌, ◌++◌, length, get_or, take, set, nat_eq, refl, sym, ap, ◌∙◌, subst, arith, add-one, append_assoc}
use Rattle.std.specs.Prelude.{map, ◌&&◌, ◌||◌}
use Rattle.std.specs.List.{list_any, flat_map, sum_by}
use Rattle.std.proofs.lemmas.List.{map-append, take_all, ext_get_or}
use Rattle.std.proofs.Math.Seq.{take-append_seam}
use Rattle.std.proofs.lemmas.List.Folds.{list_any-append}
use Rattle.std.proofs.lemmas.List.FromFn.{get_or-map-range_with_len, length-map-range_with_len}
use Rattle.std.proofs.lemmas.Bool.{false≢true}
use Rattle.spec_model.specs.Spec.{SpecValue, Bits, bits_of, below, message_at, arc_at, option_at, arc_var, further, base, design_variables, all_variables}
use Rattle.spec_model.specs.WellFormed.{IsWellFormed}
use Rattle.spec_model.proofs.InRange.{arc_in}
use Rattle.spec_model.specs.Walks.{some_passes, walk_test, puts}
use Rattle.spec_model.proofs.Those.{map-below_more, flat_map-below_more}
use Rattle.encode_laws.specs.ModelBits.{step_bit, cover_bit, step_row, message_bits, model_list}
use Rattle.encode_laws.proofs.ModelBits.{length_model, design_reads}
use Rattle.encode_views.proofs.Marks.{IsMarked, marked, passed}
use Rattle.encode_views.specs.Reached.{is_chosen_for, leaves_from, reached_in, reached_row, comes_by, comes_from, next_row, bit_at, bits_at, is_in}

-- two functions that agree below n
maps_agree : {A : Type 0} (f g : ℕ → A) (n : ℕ) → ((i : ℕ) → i < n → f i ≡ g i) → map f (below n) ≡ map g (below n)
maps_agree f g zero h = refl
maps_agree {A = A} f g (suc n) h =
    subst (λ (k : ℕ). map f (below k) ≡ map g (below k)) (add-one n)
    (map-below_more f n ∙ (ap (λ (x : A). map f (below n) ++ x ∷ []) (h n (omega arith)) ∙ (ap (λ (xs : List A). xs ++ g n ∷ []) (maps_agree f g n (λ i l. h i (omega arith)))
    ∙ sym (map-below_more g n))))

flat_maps_agree : {A : Type 0} (f g : ℕ → List A) (n : ℕ) → ((i : ℕ) → i < n → f i ≡ g i) → flat_map f (below n) ≡ flat_map g (below n)
flat_maps_agree f g zero h = refl
flat_maps_agree {A = A} f g (suc n) h =
    subst (λ (k : ℕ). flat_map f (below k) ≡ flat_map g (below k)) (add-one n)
    (flat_map-below_more f n ∙ (ap (λ (x : List A). flat_map f (below n) ++ x) (h n (omega arith)) ∙ (ap (λ (xs : List A). xs ++ g n) (flat_maps_agree f g n (λ i l. h i (omega arith)))
    ∙ sym (flat_map-below_more g n))))

some_agree : (p q : ℕ → Bool) (n : ℕ) → ((i : ℕ) → i < n → p i ≡ q i) → some_passes p n ≡ some_passes q n
some_agree p q zero h = refl
some_agree p q (suc n) h =
    ap (λ (b : Bool). cond b true (some_passes p n)) (h n (omega arith)) ∙ ap (λ (b : Bool). cond (q n) true b) (some_agree p q n (λ i l. h i (omega arith)))

-- a function of each of a list of values
map_below : {A B : Type 0} (f : A → B) (g : ℕ → A) (h : ℕ → B) (n : ℕ) → ((i : ℕ) → i < n → f (g i) ≡ h i) → map f (map g (below n)) ≡ map h (below n)
map_below f g h zero e = refl
map_below {A = A} {B = B} f g h (suc n) e =
    subst (λ (k : ℕ). map f (map g (below k)) ≡ map h (below k)) (add-one n)
    (ap (λ (xs : List A). map f xs) (map-below_more g n) ∙ (map-append f (map g (below n)) (g n ∷ [])
    ∙ (ap (λ (x : B). map f (map g (below n)) ++ x ∷ []) (e n (omega arith)) ∙ (ap (λ (xs : List B). xs ++ h n ∷ []) (map_below f g h n (λ i l. e i (omega arith))) ∙ sym (map-below_more h n)))))

any_below : {A : Type 0} (p : A → Bool) (g : ℕ → A) (h : ℕ → Bool) (n : ℕ) → ((i : ℕ) → i < n → p (g i) ≡ h i) → list_any p (map g (below n)) ≡ some_passes h n
any_below p g h zero e = refl
any_below {A = A} p g h (suc n) e =
    subst (λ (k : ℕ). list_any p (map g (below k)) ≡ cond (h n) true (some_passes h n)) (add-one n)
    (ap (λ (xs : List A). list_any p xs) (map-below_more g n) ∙ (list_any-append p (map g (below n)) (g n ∷ [])
    ∙ (ap (λ (b : Bool). b || list_any p (g n ∷ [])) (any_below p g h n (λ i l. e i (omega arith)))
    ∙ (ap (λ (b : Bool). some_passes h n || (b || false)) (e n (omega arith)) ∙ either (some_passes h n) (h n)))))
  where
    either : (a b : Bool) → (a || (b || false)) ≡ cond b true a
    either true true = refl
    either true false = refl
    either false true = refl
    either false false = refl

-- the bit of a resource in the row of a step
bit_reads : (s : SpecValue) (f : Bits) (m r t : ℕ) → r < length s.resources → bit_at r (reached_row s f m t) ≡ step_bit s f m r t
bit_reads s f m r t l = get_or-map-range_with_len (reached_in s f m t) 0 (length s.resources) r r false l (omega arith)

regroup : (a b c d : Bool) → a ≡ d → ((a && b) && c) ≡ (b && (c && d))
regroup true true true d e = e
regroup true true false d e = refl
regroup true false c d e = refl
regroup false true true d e = e
regroup false true false d e = refl
regroup false false c d e = refl

chosen_there : (a b c : Bool) → (a && b) ≡ true → (b && (a && c)) ≡ c
chosen_there true true c e = refl
chosen_there true false c e = absurd (false≢true e)
chosen_there false b c e = absurd (false≢true e)

chosen_nowhere : (a b c : Bool) → (a && b) ≡ false → (b && (a && c)) ≡ false
chosen_nowhere true true c e = absurd (false≢true (sym e))
chosen_nowhere true false c e = refl
chosen_nowhere false true c e = refl
chosen_nowhere false false c e = refl

-- a scan of the options for those of a task
module _ (s : SpecValue) (f : Bits) (t o : ℕ) (row next : List Bool) (x : IsMarked (length s.resources) (puts s f t) o row) where
  pub start_more : (option_at s o).resource < length s.resources → is_chosen_for s f t o ≡ true → next ≡ set row (option_at s o).resource true → IsMarked (length s.resources) (puts s f t) (o + 1) next
  start_more h e is =
      marked (length s.resources) (puts s f t) o (option_at s o).resource row next x h (λ r. chosen_there (nat_eq (option_at s o).task t) (f o) (nat_eq (option_at s o).resource r) e) is

  pub start_same : is_chosen_for s f t o ≡ false → next ≡ row → IsMarked (length s.resources) (puts s f t) (o + 1) next
  start_same e is =
      subst (λ (xs : List Bool). IsMarked (length s.resources) (puts s f t) (o + 1) xs) (sym is)
      (passed (length s.resources) (puts s f t) o row x (λ r. chosen_nowhere (nat_eq (option_at s o).task t) (f o) (nat_eq (option_at s o).resource r) e))

-- a scan of the arcs for those from a row
module _ (s : SpecValue) (f : Bits) (m a : ℕ) (before row next : List Bool) (x : IsMarked (length s.resources) (comes_by s f m before) a row) where
  pub hop_more : (arc_at s a).head < length s.resources → leaves_from s f m before a ≡ true → next ≡ set row (arc_at s a).head true → IsMarked (length s.resources) (comes_by s f m before) (a + 1) next
  hop_more h e is =
      marked (length s.resources) (comes_by s f m before) a (arc_at s a).head row next x h (λ r. ap (λ (b : Bool). b && nat_eq (arc_at s a).head r) e) is

  pub hop_same : leaves_from s f m before a ≡ false → next ≡ row → IsMarked (length s.resources) (comes_by s f m before) (a + 1) next
  hop_same e is =
      subst (λ (xs : List Bool). IsMarked (length s.resources) (comes_by s f m before) (a + 1) xs) (sym is)
      (passed (length s.resources) (comes_by s f m before) a row x (λ r. ap (λ (b : Bool). b && nat_eq (arc_at s a).head r) e))

-- one hop more
pub onward_row : (s : SpecValue) (f : Bits) (m t : ℕ) → IsWellFormed s → next_row s f m (reached_row s f m t) ≡ reached_row s f m (t + 1)
unfolding step_bit
onward_row s f m t wf =
    subst (λ (k : ℕ). next_row s f m (reached_row s f m t) ≡ reached_row s f m k) (sym (add-one t))
    (maps_agree (comes_from s f m (reached_row s f m t)) (reached_in s f m (suc t)) (length s.resources)
    (λ r l. some_agree (comes_by s f m (reached_row s f m t) r) (λ a. f (arc_var s m a) && (nat_eq (arc_at s a).head r && walk_test s f m t (arc_at s a).tail)) (length s.arcs)
    (λ a la. regroup (get_or (reached_row s f m t) (arc_at s a).tail false) (f (arc_var s m a)) (nat_eq (arc_at s a).head r) (walk_test s f m t (arc_at s a).tail)
    (bit_reads s f m (arc_at s a).tail t (arc_in s a wf la).tail))))

-- the bits of a message, by its rows
pub bits_by_rows : (s : SpecValue) (f : Bits) (m : ℕ) (rows : List (List Bool)) → rows ≡ map (reached_row s f m) (below ((message_at s m).limit + 1))
    → flat_map (bits_at rows) (below (length s.resources)) ++ map (is_in rows) (below (length s.resources)) ≡ message_bits s f m
unfolding cover_bit
bits_by_rows s f m rows e =
    let k = (message_at s m).limit + 1 in
    let all = map (reached_row s f m) (below k) in
    ap (λ (xs : List (List Bool)). flat_map (bits_at xs) (below (length s.resources)) ++ map (is_in xs) (below (length s.resources))) e
    ∙ (ap (λ (xs : List Bool). xs ++ map (is_in all) (below (length s.resources))) (flat_maps_agree (bits_at all) (step_row s f m) (length s.resources)
    (λ r l. map_below (bit_at r) (reached_row s f m) (step_bit s f m r) k (λ t lt. bit_reads s f m r t l)))
    ∙ ap (λ (xs : List Bool). flat_map (step_row s f m) (below (length s.resources)) ++ xs) (maps_agree (is_in all) (cover_bit s f m) (length s.resources)
    (λ r l. any_below (bit_at r) (reached_row s f m) (step_bit s f m r) k (λ t lt. bit_reads s f m r t l))))

-- what a message adds
pub message_more : (s : SpecValue) (f : Bits) (m : ℕ) (rows one two : List (List Bool)) (n k : ℕ) (old mid new : List Bool) → rows ≡ map (reached_row s f m) (below ((message_at s m).limit + 1))
    → one ≡ rows → two ≡ rows → n ≡ length s.resources → k ≡ length s.resources → mid ≡ old ++ flat_map (bits_at one) (below n) → new ≡ mid ++ map (is_in two) (below k)
    → new ≡ old ++ message_bits s f m
message_more s f m rows one two n k old mid new e e1 e2 en ek steps covers =
    covers
    ∙ (ap (λ (xs : List Bool). xs ++ map (is_in two) (below k)) steps
    ∙ (append_assoc old (flat_map (bits_at one) (below n)) (map (is_in two) (below k))
    ∙ ap (λ (xs : List Bool). old ++ xs)
    (ap (λ (xs : List (List Bool)). flat_map (bits_at xs) (below n) ++ map (is_in two) (below k)) e1
    ∙ (ap (λ (xs : List (List Bool)). flat_map (bits_at rows) (below n) ++ map (is_in xs) (below k)) e2
    ∙ (ap (λ (i : ℕ). flat_map (bits_at rows) (below i) ++ map (is_in rows) (below k)) en
    ∙ (ap (λ (i : ℕ). flat_map (bits_at rows) (below (length s.resources)) ++ map (is_in rows) (below i)) ek
    ∙ bits_by_rows s f m rows e))))))

-- a bit for each variable
pub all_bits : (s : SpecValue) (f : Bits) → length (model_list s f) ≡ all_variables s
unfolding all_variables base
all_bits s f = length_model s f ∙ omega (arith, ap (sum_by (further s)) (take_all (length s.messages) s.messages (omega arith)))

-- the first bits are the design's
pub design_part : (s : SpecValue) (design : List Bool) → length design ≡ design_variables s → take (design_variables s) (model_list s (bits_of design)) ≡ design
design_part s design e =
    let n = design_variables s in
    let first = map (bits_of design) (below n) in
    let rest = flat_map (message_bits s (bits_of design)) (below (length s.messages)) in
    let long : length first ≡ n = length-map-range_with_len (bits_of design) 0 n in
    ap (λ (k : ℕ). take k (first ++ rest)) (sym long)
    ∙ (take-append_seam first rest
    ∙ ext_get_or false first design (long ∙ sym e) (λ i l. (let li : i < n = omega (arith, l, long) in get_or-map-range_with_len (bits_of design) 0 n i i false li (omega arith))))
