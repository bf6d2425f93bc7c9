-- Lists of lists, one for each number below n, and what a key finds.
use Rattle.std.proofs.Common.{◌≡◌, ℕ, zero, suc, ◌+◌, ◌<◌, ◌≤◌, Bool, true, false, cond, List, [], ◌∷◌, ◌++◌, length, get_or, take, nat_eq, refl, sym, ap, ◌∙◌, subst, arith, add-one, ◌⊎◌, inl, inr}
use Rattle.std.specs.Prelude.{map, All, ◌||◌, ◌&&◌}
use Rattle.std.specs.List.{list_any, filter}
use Rattle.std.proofs.lemmas.List.{take_more, take_all, map-append, get_or_past}
use Rattle.std.proofs.lemmas.Bool.{cases_lt}
use Rattle.std.proofs.lemmas.List.FromFn.{get_or-map-range_with_len, length-map-range_with_len}
use Rattle.std.proofs.Math.Bool.{and_comm}
use Rattle.spec_model.specs.Spec.{SpecValue, Choice, below, those, message_at, choice}
use Rattle.spec_model.specs.WellFormed.{IsWellFormed}
use Rattle.spec_model.proofs.InRange.{option_in, message_in}
use Rattle.spec_graph.specs.declared.numbers.TaskNo.{TaskNo}
use Rattle.spec_graph.specs.Lists.{task_number}
use Rattle.spec_model.specs.Rules.{of_task, of_task_on, goes_into, leaves, of_link, options_of, arcs_into, arcs_from, arcs_of}
use Rattle.spec_model.proofs.Those.{those_more, map-below_more}
use Rattle.spec_model.proofs.Joined.{All-those}
use Rattle.encode_model.specs.Encoding.{on_resource, options_on, option_on, is_number, for_receiver, receiver_options, leads_to, neighbours}
use Rattle.route_encode.specs.Keys.{has_key, with_key, has_arc, joined_to, neighbours_by, is_among, is_receiver, is_for, task_of, resource_of, head_of, tail_of, link_of}

pub row_is : (g : ℕ → List ℕ) (n k : ℕ) (rows : List (List ℕ)) (row : List ℕ) → row ≡ get_or rows k [] → rows ≡ map g (below n) → k < n → row ≡ g k
row_is g n k rows row e h l =
    e ∙ (ap (λ (xs : List (List ℕ)). get_or xs k []) h ∙ get_or-map-range_with_len g 0 n k k [] l (omega arith))

pub length_is : (g : ℕ → List ℕ) (n : ℕ) (rows : List (List ℕ)) → rows ≡ map g (below n) → length rows ≡ n
length_is g n rows h = ap length h ∙ length-map-range_with_len g 0 n

pub ruleset row_steps = (row_is, length_is)

-- a list of numbers, one for each number below n
pub number_is : (g : ℕ → ℕ) (n k : ℕ) (xs : List ℕ) (d x : ℕ) → x ≡ get_or xs k d → xs ≡ map g (below n) → k < n → x ≡ g k
number_is g n k xs d x e h l = e ∙ (ap (λ (ys : List ℕ). get_or ys k d) h ∙ get_or-map-range_with_len g 0 n k k d l (omega arith))

pub length_numbers : (g : ℕ → ℕ) (n : ℕ) (xs : List ℕ) → xs ≡ map g (below n) → length xs ≡ n
length_numbers g n xs h = ap length h ∙ length-map-range_with_len g 0 n

pub ruleset number_steps = (number_is, length_numbers)

-- those that pass one of two tests that agree
pub those_agree : (p q : ℕ → Bool) (n : ℕ) → ((i : ℕ) → i < n → p i ≡ q i) → those p n ≡ those q n
those_agree p q zero h = refl
those_agree p q (suc n) h =
    subst (λ (k : ℕ). those p k ≡ those q k) (add-one n)
    (those_more p n ∙ (ap (λ (b : Bool). those p n ++ cond b (n ∷ []) []) (h n (omega arith)) ∙ (ap (λ (xs : List ℕ). xs ++ cond (q n) (n ∷ []) []) (those_agree p q n (λ i l. h i (omega arith)))
    ∙ sym (those_more q n))))

maps_agree : (f g : ℕ → List ℕ) (n : ℕ) → ((i : ℕ) → i < n → f i ≡ g i) → map f (below n) ≡ map g (below n)
maps_agree f g zero h = refl
maps_agree f g (suc n) h =
    subst (λ (k : ℕ). map f (below k) ≡ map g (below k)) (add-one n)
    (map-below_more f n ∙ (ap (λ (x : List ℕ). map f (below n) ++ x ∷ []) (h n (omega arith)) ∙ (ap (λ (xs : List (List ℕ)). xs ++ g n ∷ []) (maps_agree f g n (λ i l. h i (omega arith)))
    ∙ sym (map-below_more g n))))

-- a key among the values of a function
key_at : (g : ℕ → ℕ) (n k i : ℕ) → i < n → has_key (map g (below n)) k i ≡ nat_eq (g i) k
key_at g n k i l = ap (λ (x : ℕ). nat_eq x k) (get_or-map-range_with_len g 0 n i i 0 l (omega arith))

with_key_is : (g : ℕ → ℕ) (n k : ℕ) → with_key (map g (below n)) k ≡ those (λ i. nat_eq (g i) k) n
with_key_is g n k =
    ap (those (has_key (map g (below n)) k)) (length-map-range_with_len g 0 n) ∙ those_agree (has_key (map g (below n)) k) (λ i. nat_eq (g i) k) n (λ i l. key_at g n k i l)

-- rows by key
rows_by : (g : ℕ → ℕ) (n m : ℕ) (keys : List ℕ) (rows : List (List ℕ)) → keys ≡ map g (below n) → rows ≡ map (with_key keys) (below m) → rows ≡ map (λ k. those (λ i. nat_eq (g i) k) n) (below m)
rows_by g n m keys rows e h =
    h ∙ (ap (λ (ks : List ℕ). map (with_key ks) (below m)) e ∙ maps_agree (with_key (map g (below n))) (λ k. those (λ i. nat_eq (g i) k) n) m (λ k l. with_key_is g n k))

pub rows_by_task : (s : SpecValue) (keys : List ℕ) (rows : List (List ℕ)) → keys ≡ map (task_of s) (below (length s.options)) → rows ≡ map (with_key keys) (below (length s.tasks))
    → rows ≡ map (options_of s) (below (length s.tasks))
unfolding of_task
rows_by_task s keys rows e h = rows_by (task_of s) (length s.options) (length s.tasks) keys rows e h

pub rows_by_resource : (s : SpecValue) (keys : List ℕ) (rows : List (List ℕ)) → keys ≡ map (resource_of s) (below (length s.options)) → rows ≡ map (with_key keys) (below (length s.resources))
    → rows ≡ map (options_on s) (below (length s.resources))
unfolding on_resource
rows_by_resource s keys rows e h = rows_by (resource_of s) (length s.options) (length s.resources) keys rows e h

pub rows_by_head : (s : SpecValue) (keys : List ℕ) (rows : List (List ℕ)) → keys ≡ map (head_of s) (below (length s.arcs)) → rows ≡ map (with_key keys) (below (length s.resources))
    → rows ≡ map (arcs_into s) (below (length s.resources))
unfolding goes_into
rows_by_head s keys rows e h = rows_by (head_of s) (length s.arcs) (length s.resources) keys rows e h

pub rows_by_tail : (s : SpecValue) (keys : List ℕ) (rows : List (List ℕ)) → keys ≡ map (tail_of s) (below (length s.arcs)) → rows ≡ map (with_key keys) (below (length s.resources))
    → rows ≡ map (arcs_from s) (below (length s.resources))
unfolding leaves
rows_by_tail s keys rows e h = rows_by (tail_of s) (length s.arcs) (length s.resources) keys rows e h

pub rows_by_link : (s : SpecValue) (keys : List ℕ) (rows : List (List ℕ)) → keys ≡ map (link_of s) (below (length s.arcs)) → rows ≡ map (with_key keys) (below (length s.links))
    → rows ≡ map (arcs_of s) (below (length s.links))
unfolding of_link
rows_by_link s keys rows e h = rows_by (link_of s) (length s.arcs) (length s.links) keys rows e h

-- the neighbours of a resource
any_agree : (p q : ℕ → Bool) (n : ℕ) (xs : List ℕ) → All (λ x. x < n) xs → ((i : ℕ) → i < n → p i ≡ q i) → list_any p xs ≡ list_any q xs
any_agree p q n [] h e = refl
any_agree p q n (x ∷ xs) h e =
    ap (λ (b : Bool). b || list_any p xs) (e x (h 0 x (omega arith))) ∙ ap (λ (b : Bool). q x || b) (any_agree p q n xs (λ k d l. h (suc k) d (omega (arith, l))) e)

neighbours_are : (s : SpecValue) (q : ℕ) → neighbours_by (map (tail_of s) (below (length s.arcs))) (map (head_of s) (below (length s.arcs))) (length s.resources) q ≡ neighbours s q
unfolding leads_to leaves goes_into
neighbours_are s q =
    ap (λ (arcs : List ℕ). joined_to (map (tail_of s) (below (length s.arcs))) arcs (length s.resources)) (with_key_is (head_of s) (length s.arcs) q)
    ∙ those_agree (has_arc (map (tail_of s) (below (length s.arcs))) (arcs_into s q)) (leads_to s q) (length s.resources)
    (λ p l. any_agree (has_key (map (tail_of s) (below (length s.arcs))) p) (leaves s p) (length s.arcs) (arcs_into s q)
    (All-those (λ a. a < length s.arcs) (goes_into s q) (length s.arcs) (λ i k e. k)) (λ a k. key_at (tail_of s) (length s.arcs) p a k))

pub rows_of_neighbours : (s : SpecValue) (tails heads : List ℕ) (rows : List (List ℕ)) → tails ≡ map (tail_of s) (below (length s.arcs)) → heads ≡ map (head_of s) (below (length s.arcs))
    → rows ≡ map (neighbours_by tails heads (length s.resources)) (below (length s.resources)) → rows ≡ map (neighbours s) (below (length s.resources))
rows_of_neighbours s tails heads rows e g h =
    h ∙ (ap (λ (ts : List ℕ). map (neighbours_by ts heads (length s.resources)) (below (length s.resources))) e
    ∙ (ap (λ (hs : List ℕ). map (neighbours_by (map (tail_of s) (below (length s.arcs))) hs (length s.resources)) (below (length s.resources))) g
    ∙ maps_agree (neighbours_by (map (tail_of s) (below (length s.arcs))) (map (head_of s) (below (length s.arcs))) (length s.resources)) (neighbours s) (length s.resources)
    (λ q l. neighbours_are s q)))

pub ruleset key_steps = (rows_by_task, rows_by_resource, rows_by_head, rows_by_tail, rows_by_link, rows_of_neighbours)

-- each of those that pass is below n
pub those_below : (p : ℕ → Bool) (n : ℕ) (xs : List ℕ) → xs ≡ those p n → All (λ i. i < n) xs
those_below p n xs e = subst (λ (ys : List ℕ). All (λ i. i < n) ys) (sym e) (All-those (λ i. i < n) p n (λ i l t. l))

-- a list that goes along another
pub map_taken : (g : ℕ → ℕ) (xs ys zs : List ℕ) (i x : ℕ) → ys ≡ map g (take i xs) → i < length xs → x ≡ get_or xs i x → zs ≡ ys ++ g x ∷ [] → zs ≡ map g (take (i + 1) xs)
map_taken g xs ys zs i x h l e k =
    k ∙ (ap (λ (ws : List ℕ). ws ++ g x ∷ []) h ∙ sym (ap (map g) (take_more xs i x l ∙ ap (λ (y : ℕ). take i xs ++ y ∷ []) (sym e)) ∙ map-append g (take i xs) (x ∷ [])))

pub map_taken_all : (g : ℕ → ℕ) (xs ys : List ℕ) (n : ℕ) → ys ≡ map g (take n xs) → length xs ≤ n → ys ≡ map g xs
map_taken_all g xs ys n h l = h ∙ ap (map g) (take_all n xs l)

-- one test after another
filter_twice : (p q : ℕ → Bool) (xs : List ℕ) → filter q (filter p xs) ≡ filter (λ x. p x && q x) xs
filter_twice p q [] = refl
filter_twice p q (x ∷ xs) = at (p x) (filter_twice p q xs)
  where
    at : (b : Bool) → filter q (filter p xs) ≡ filter (λ y. p y && q y) xs → filter q (cond b (x ∷ filter p xs) (filter p xs))
        ≡ cond (b && q x) (x ∷ filter (λ y. p y && q y) xs) (filter (λ y. p y && q y) xs)
    at true e = ap (λ (ys : List ℕ). cond (q x) (x ∷ ys) ys) e
    at false e = e

pub option_on_is : (s : SpecValue) (t r : ℕ) (xs ys : List ℕ) → ys ≡ filter (on_resource s r) xs → xs ≡ options_of s t → ys ≡ option_on s t r
unfolding of_task of_task_on on_resource
option_on_is s t r xs ys h e = h ∙ (ap (filter (on_resource s r)) e ∙ filter_twice (of_task s t) (on_resource s r) (below (length s.options)))

pub receiver_options_are : (s : SpecValue) (m r : ℕ) (xs ys : List ℕ) → ys ≡ filter (is_for s m) xs → xs ≡ options_on s r → ys ≡ receiver_options s m r
unfolding for_receiver on_resource is_for
receiver_options_are s m r xs ys h e =
    h ∙ (ap (filter (is_for s m)) e ∙ (filter_twice (on_resource s r) (is_for s m) (below (length s.options))
    ∙ those_agree (λ o. on_resource s r o && is_for s m o) (for_receiver s m r) (length s.options) (λ o l. and_comm (on_resource s r o) (is_for s m o))))

-- a value of a function that is 0 past n
value_at : (g : ℕ → ℕ) (n o : ℕ) → (n ≤ o → g o ≡ 0) → get_or (map g (below n)) o 0 ≡ g o
value_at g n o past =
    elim (cases_lt o n) [
      | inl l ↦ get_or-map-range_with_len g 0 n o o 0 l (omega arith)
      | inr h ↦ get_or_past (map g (below n)) o 0 (omega (arith, h, length-map-range_with_len g 0 n)) ∙ sym (past h)
    ]

-- whether an option is on a resource, also past the last option
pub is_on_is : (s : SpecValue) (r o : ℕ) (keys : List ℕ) (b : Bool) → b ≡ has_key keys r o → keys ≡ map (resource_of s) (below (length s.options)) → b ≡ on_resource s r o
unfolding on_resource
is_on_is s r o keys b h e =
    h ∙ (ap (λ (ks : List ℕ). has_key ks r o) e ∙ ap (λ (x : ℕ). nat_eq x r) (value_at (resource_of s) (length s.options) o
    (λ l. ap (λ (c : Choice). c.resource) (get_or_past s.options o (choice 0 0 0) l))))

among_numbers : (ws : List TaskNo) (t : ℕ) → is_among ws t ≡ list_any (is_number t) (map task_number ws)
among_numbers [] t = refl
among_numbers (w ∷ ws) t = ap (λ (b : Bool). nat_eq w.0 t || b) (among_numbers ws t)

tests_agree : (f g : ℕ → Bool) (n : ℕ) → ((i : ℕ) → i < n → f i ≡ g i) → map f (below n) ≡ map g (below n)
tests_agree f g zero h = refl
tests_agree f g (suc n) h =
    subst (λ (k : ℕ). map f (below k) ≡ map g (below k)) (add-one n)
    (map-below_more f n ∙ (ap (λ (x : Bool). map f (below n) ++ x ∷ []) (h n (omega arith)) ∙ (ap (λ (xs : List Bool). xs ++ g n ∷ []) (tests_agree f g n (λ i l. h i (omega arith)))
    ∙ sym (map-below_more g n))))

pub receivers_are : (s : SpecValue) (m n : ℕ) (ws : List TaskNo) (v : List Bool) → v ≡ map (is_among ws) (below n) → map task_number ws ≡ (message_at s m).receivers
    → v ≡ map (is_receiver s m) (below n)
unfolding is_receiver
receivers_are s m n ws v h e =
    h ∙ tests_agree (is_among ws) (is_receiver s m) n (λ t l. among_numbers ws t ∙ ap (λ (rs : List ℕ). list_any (is_number t) rs) e)

pub is_for_is : (s : SpecValue) (m o task : ℕ) (keys : List ℕ) (flags : List Bool) (b : Bool) → IsWellFormed s → m < length s.messages → keys ≡ map (task_of s) (below (length s.options))
    → flags ≡ map (is_receiver s m) (below (length s.tasks)) → task ≡ get_or keys o 0 → b ≡ get_or flags task false → b ≡ is_for s m o
unfolding is_for is_receiver
is_for_is s m o task keys flags b wf hm ek ef et eb =
    let at : task ≡ task_of s o = et ∙ (ap (λ (ks : List ℕ). get_or ks o 0) ek ∙ value_at (task_of s) (length s.options) o
    (λ l. ap (λ (c : Choice). c.task) (get_or_past s.options o (choice 0 0 0) l))) in
    eb ∙ (ap (λ (fs : List Bool). get_or fs task false) ef ∙ (ap (λ (t : ℕ). get_or (map (is_receiver s m) (below (length s.tasks))) t false) at
    ∙ get_or-map-range_with_len (is_receiver s m) 0 (length s.tasks) (task_of s o) (task_of s o) false (there (cases_lt o (length s.options))) (omega arith)))
  where
    there : ((o < length s.options) ⊎ (length s.options ≤ o)) → task_of s o < length s.tasks
    there (inl l) = (option_in s o wf l).task
    there (inr l) =
        let zero_task : task_of s o ≡ 0 = ap (λ (c : Choice). c.task) (get_or_past s.options o (choice 0 0 0) l) in
        omega (arith, zero_task, (message_in s m wf hm).sender)

pub ruleset test_steps = (is_on_is, receivers_are, is_for_is)

pub ruleset filter_steps = (map_taken, map_taken_all, option_on_is, receiver_options_are)

-- a receiver of a message is one of the tasks
pub receiver_there : (s t : SpecValue) (m : ℕ) (ws : List TaskNo) (i : ℕ) (d : TaskNo) → t ≡ s → IsWellFormed t → m < length s.messages → map task_number ws ≡ (message_at t m).receivers
    → i < length ws → (get_or ws i d).0 < length s.tasks
receiver_there s t m ws i d e wf hm em l =
    let em' : map task_number ws ≡ (message_at s m).receivers = em ∙ ap (λ (x : SpecValue). (message_at x m).receivers) e in
    there ws (subst (λ (xs : List ℕ). All (λ w. w < length s.tasks) xs) (sym em') (message_in s m (subst IsWellFormed e wf) hm).receivers) i l
  where
    there : (vs : List TaskNo) → All (λ w. w < length s.tasks) (map task_number vs) → (k : ℕ) → k < length vs → (get_or vs k d).0 < length s.tasks
    there [] h k h' = absurd (omega (arith, h'))
    there (v ∷ vs) h zero h' = h 0 0 (omega arith)
    there (v ∷ vs) h (suc k) h' = there vs (λ j x q. h (suc j) x (omega (arith, q))) k (omega (arith, h'))
