-- The kinds of design variables, and the words of each kind's line.
use Rattle.std.proofs.Common.{◌≡◌, ℕ, zero, suc, ◌+◌, ◌-◌, ◌*◌, ◌/◌, ◌%◌, ◌<◌, ◌≤◌, List, [], ◌++◌, length, get_or, map, refl, ap, ◌∙◌, arith, ◌⊎◌, inl, inr}
use Rattle.std.specs.List.{flat_map}
use Rattle.std.proofs.Math.Nat.{div-lt_iff_lt-mul}
use Rattle.std.proofs.lemmas.List.{get_or_append_left, get_or-append-add, length-append}
use Rattle.std.proofs.lemmas.List.FromFn.{get_or-map-range_with_len, length-map-range_with_len}
use Rattle.std.proofs.lemmas.Nat.{mul-add-lt}
use Rattle.std.proofs.lemmas.Bool.{cases_lt}
use Rattle.line_words.specs.Rules.{Words}
use Rattle.spec_model.specs.Spec.{SpecValue, below, design_variables, arc_var, resource_var, link_var}
use Rattle.spec_model.proofs.Pieces.{width, piece_of_width}
use Rattle.result_text.specs.Spelling.{bind_words, use_words, alloc_words, wire_words, use_lines, item_lines, item_words}

-- ---- the words of each kind's line

abbrev options_part : SpecValue → List Words
options_part s = map (bind_words s) (below (length s.options))

abbrev arcs_part : SpecValue → List Words
arcs_part s = flat_map (use_lines s) (below (length s.messages))

abbrev resources_part : SpecValue → List Words
resources_part s = map (alloc_words s) (below (length s.resources))

abbrev links_part : SpecValue → List Words
links_part s = map (wire_words s) (below (length s.links))

long_options : (s : SpecValue) → length (options_part s) ≡ length s.options
long_options s = length-map-range_with_len (bind_words s) 0 (length s.options)

long_row : (s : SpecValue) (m : ℕ) → length (use_lines s m) ≡ length s.arcs
long_row s m = length-map-range_with_len (use_words s m) 0 (length s.arcs)

long_arcs : (s : SpecValue) → length (options_part s ++ arcs_part s) ≡ length s.options + length s.messages * length s.arcs
long_arcs s = length-append (options_part s) (arcs_part s) ∙ omega (arith, long_options s, width (use_lines s) (length s.arcs) (length s.messages) (long_row s))

long_resources : (s : SpecValue) → length (options_part s ++ arcs_part s ++ resources_part s) ≡ length s.options + length s.messages * length s.arcs + length s.resources
long_resources s = length-append (options_part s ++ arcs_part s) (resources_part s) ∙ omega (arith, long_arcs s, length-map-range_with_len (alloc_words s) 0 (length s.resources))

first_three : (s : SpecValue) (v : ℕ) → v < length s.options + length s.messages * length s.arcs + length s.resources → item_words s v ≡ get_or (options_part s ++ arcs_part s ++ resources_part s) v []
unfolding item_lines
first_three s v h = get_or_append_left (options_part s ++ arcs_part s ++ resources_part s) (links_part s) [] v (omega (arith, h, long_resources s))

first_two : (s : SpecValue) (v : ℕ) → v < length s.options + length s.messages * length s.arcs → item_words s v ≡ get_or (options_part s ++ arcs_part s) v []
first_two s v h = first_three s v (omega (arith, h)) ∙ get_or_append_left (options_part s ++ arcs_part s) (resources_part s) [] v (omega (arith, h, long_arcs s))

pub item_option : (s : SpecValue) (o : ℕ) → o < length s.options → item_words s o ≡ bind_words s o
item_option s o h =
    first_two s o (omega (arith, h))
    ∙ (get_or_append_left (options_part s) (arcs_part s) [] o (omega (arith, h, long_options s))
    ∙ get_or-map-range_with_len (bind_words s) 0 (length s.options) o o [] h (omega arith))

pub item_arc : (s : SpecValue) (m a : ℕ) → m < length s.messages → a < length s.arcs → item_words s (arc_var s m a) ≡ use_words s m a
item_arc s m a hm ha =
    let inside : m * length s.arcs + a < length s.messages * length s.arcs = omega (arith, mul-add-lt m (length s.arcs) a (length s.messages) hm ha) in
    let place : arc_var s m a ≡ length (options_part s) + (m * length s.arcs + a) = omega (arith, long_options s) in
    first_two s (arc_var s m a) (omega (arith, inside))
    ∙ (ap (λ (k : ℕ). get_or (options_part s ++ arcs_part s) k []) place
    ∙ (get_or-append-add (options_part s) (arcs_part s) (m * length s.arcs + a) []
    ∙ (piece_of_width (use_lines s) (length s.arcs) (length s.messages) m a [] (long_row s) hm ha
    ∙ get_or-map-range_with_len (use_words s m) 0 (length s.arcs) a a [] ha (omega arith))))

pub item_resource : (s : SpecValue) (r : ℕ) → r < length s.resources → item_words s (resource_var s r) ≡ alloc_words s r
item_resource s r h =
    let place : resource_var s r ≡ length (options_part s ++ arcs_part s) + r = omega (arith, long_arcs s) in
    first_three s (resource_var s r) (omega (arith, h))
    ∙ (ap (λ (k : ℕ). get_or (options_part s ++ arcs_part s ++ resources_part s) k []) place
    ∙ (get_or-append-add (options_part s ++ arcs_part s) (resources_part s) r []
    ∙ get_or-map-range_with_len (alloc_words s) 0 (length s.resources) r r [] h (omega arith)))

pub item_link : (s : SpecValue) (l : ℕ) → l < length s.links → item_words s (link_var s l) ≡ wire_words s l
unfolding item_lines
item_link s l h =
    let place : link_var s l ≡ length (options_part s ++ arcs_part s ++ resources_part s) + l = omega (arith, long_resources s) in
    ap (λ (k : ℕ). get_or (options_part s ++ arcs_part s ++ resources_part s ++ links_part s) k []) place
    ∙ (get_or-append-add (options_part s ++ arcs_part s ++ resources_part s) (links_part s) l []
    ∙ get_or-map-range_with_len (wire_words s) 0 (length s.links) l l [] h (omega arith))

-- ---- the kind of a variable, by its place

-- an arc for a message
pub record IsUse (s : SpecValue) (v m a : ℕ) : Type 0 where
  pub message : m < length s.messages
  pub arc : a < length s.arcs
  pub is : v ≡ arc_var s m a

-- a resource
pub record IsAlloc (s : SpecValue) (v r : ℕ) : Type 0 where
  pub there : r < length s.resources
  pub is : v ≡ resource_var s r

-- a link
pub record IsWire (s : SpecValue) (v l : ℕ) : Type 0 where
  pub there : l < length s.links
  pub is : v ≡ link_var s l

pub use_at : (s : SpecValue) (v o u n : ℕ) → o ≡ length s.options → u ≡ length s.messages → n ≡ length s.arcs → o ≤ v → v - o < u * n → IsUse s v ((v - o) / n) ((v - o) % n)
use_at s v o u n eo eu en l h =
    let p = split (v - o) u n h in
    record { message = omega (arith, p.0, eu); arc = omega (arith, p.1, en); is = place }
  where
    -- a number below u * n is that of a place in u rows of n
    split : (x u n : ℕ) → x < u * n → (x / n < u) × (x % n < n)
    split x u zero h = absurd (omega (arith, h))
    split x u (suc n) h = (let k = div-lt_iff_lt-mul {k = suc n} {x = x} {y = u} (omega arith) in k.1 h, omega arith)

    place : v ≡ arc_var s ((v - o) / n) ((v - o) % n)
    place = rw (← eo, ← en) (omega arith)

pub alloc_at : (s : SpecValue) (v o u n r : ℕ) → o ≡ length s.options → u ≡ length s.messages → n ≡ length s.arcs → r ≡ length s.resources → o ≤ v → u * n ≤ v - o → (v - o) - u * n < r
    → IsAlloc s v ((v - o) - u * n)
alloc_at s v o u n r eo eu en er l k h = record { there = omega (arith, h, er); is = place }
  where
    place : v ≡ resource_var s ((v - o) - u * n)
    place = rw (← eo, ← eu, ← en) (omega arith)

pub wire_at : (s : SpecValue) (v o u n r : ℕ) → o ≡ length s.options → u ≡ length s.messages → n ≡ length s.arcs → r ≡ length s.resources → o ≤ v → u * n ≤ v - o → r ≤ (v - o) - u * n
    → v < design_variables s
    → IsWire s v (((v - o) - u * n) - r)
wire_at s v o u n r eo eu en er l k q h = record { there = omega (arith, below_all, l, k, q); is = place }
  where
    below_all : v < o + u * n + r + length s.links
    below_all = rw (eo, eu, en, er) h

    place : v ≡ link_var s (((v - o) - u * n) - r)
    place = rw (← eo, ← eu, ← en, ← er) (omega arith)

pub use_is : (s : SpecValue) (v m a : ℕ) → IsUse s v m a → item_words s v ≡ use_words s m a
use_is s v m a h = ap (item_words s) h.is ∙ item_arc s m a h.message h.arc

pub alloc_is : (s : SpecValue) (v r : ℕ) → IsAlloc s v r → item_words s v ≡ alloc_words s r
alloc_is s v r h = ap (item_words s) h.is ∙ item_resource s r h.there

pub wire_is : (s : SpecValue) (v l : ℕ) → IsWire s v l → item_words s v ≡ wire_words s l
wire_is s v l h = ap (item_words s) h.is ∙ item_link s l h.there

-- a design variable is one of an option, of an arc for a message, of a resource or of a link
pub record UseOf (s : SpecValue) (v : ℕ) : Type 0 where
  pub message : ℕ
  pub arc : ℕ
  pub is : IsUse s v message arc

pub record AllocOf (s : SpecValue) (v : ℕ) : Type 0 where
  pub resource : ℕ
  pub is : IsAlloc s v resource

pub record WireOf (s : SpecValue) (v : ℕ) : Type 0 where
  pub link : ℕ
  pub is : IsWire s v link

abbrev pub Kind : SpecValue → ℕ → Type 0
Kind s v = (v < length s.options) ⊎ (UseOf s v ⊎ (AllocOf s v ⊎ WireOf s v))

pub kind_of : (s : SpecValue) (v : ℕ) → v < design_variables s → Kind s v
kind_of s v h =
    let o = length s.options in
    let u = length s.messages in
    let n = length s.arcs in
    let r = length s.resources in
    elim (cases_lt v (length s.options)) [
      | inl lt ↦ inl lt
      | inr ge ↦ elim (cases_lt (v - length s.options) (length s.messages * length s.arcs)) [
        | inl lt ↦ inr (inl (record { message = (v - o) / n; arc = (v - o) % n; is = use_at s v o u n refl refl refl ge lt }))
        | inr high ↦ elim (cases_lt ((v - length s.options) - length s.messages * length s.arcs) (length s.resources)) [
          | inl lt ↦ inr (inr (inl (record { resource = (v - o) - u * n; is = alloc_at s v o u n r refl refl refl refl ge high lt })))
          | inr past ↦ inr (inr (inr (record { link = ((v - o) - u * n) - r; is = wire_at s v o u n r refl refl refl refl ge high past h })))
        ]
      ]
    ]
