-- What a plan becomes at its end: the sizes that are tested, and that the specification is well formed.
use Rattle.std.proofs.Common.{◌≡◌, ℕ, ◌+◌, ◌*◌, ◌<◌, ◌≤◌, ◌^◌, Bool, cond, List, ◌++◌, length, get_or, map, take, drop, refl, sym, ap, ◌∙◌, subst, arith, All, ◌⊎◌, inl, inr}
use Rattle.std.specs.Prelude.{◌==◌, Any, IsTrue, ◌↔◌}
use Rattle.std.specs.List.{sum_by, count_by}
use Rattle.std.proofs.Math.Seq.{take-append_seam}
use Rattle.std.proofs.lemmas.Bool.{cases_lt}
use Rattle.std.proofs.lemmas.List.{get_or-map, get_or_default, length-map}
use Rattle.std.proofs.lemmas.List.FromFn.{get_or-map-range_with_len, length-map-range_with_len}
use Rattle.std.proofs.lemmas.List.Sums.{count_by-le-length}
use Rattle.std.proofs.lemmas.List.Elements.{All-weaker, All-map}
use Rattle.spec_model.specs.Spec.{SpecValue, Message, Arc as ArcValue, Choice as ChoiceValue, below, message_at, arc_at, all_variables, further, choice}
use Rattle.spec_model.specs.Rules.{of_task}
use Rattle.spec_model.specs.Vectors.{weight_in}
use Rattle.spec_model.specs.WellFormed.{IsWellFormed, IsArcIn, IsMessageIn, message_size, option_count, size, most_hops, IsPlan}
use Rattle.spec_model.proofs.Sums.{sum_by_map, sum_by_same, count_those}
use Rattle.spec_graph.specs.Lists.{arc_value, choice_value}
use Rattle.spec_graph.specs.Plan.{finished, with_limit_at_most}
use Rattle.spec_graph.specs.Refusals.{IsFinishAccepted, HasBigProduct, CarriesTooMuch}
use Rattle.spec_graph.specs.Sums.{kept_further, kept_terms, options_of_task, is_of_task, count_of, IsCounted}
use Rattle.spec_graph.specs.declared.numbers.Arc.{Arc}
use Rattle.spec_graph.specs.declared.numbers.Choice.{Choice}
use Rattle.spec_graph.specs.declared.messages.Change.TheVariants.{AtMost}
use Rattle.spec_graph.proofs.Changing.{plan_all_changed}
use Rattle.spec_graph.proofs.Mapped.{all_of_map}

pub finished_variables_is : (s : SpecValue) (o m a r l h x : ℕ) (ms : List Message) → o ≡ length s.options → m ≡ length s.messages → a ≡ length s.arcs → r ≡ length s.resources → l ≡ length s.links
    → h ≡ most_hops s → ms ≡ s.messages → x ≡ sum_by (kept_further r h) ms → o + m * a + r + l + x ≡ all_variables (finished s)
unfolding all_variables
finished_variables_is s o m a r l h x ms eo em ea er el eh es ex =
    let sum : x ≡ sum_by (kept_further (length s.resources) (most_hops s)) s.messages = ex ∙ rw (er, eh, es) in
    let long = length-map s.messages (with_limit_at_most (most_hops s)) in
    let mapped = sum_by_map (further (finished s)) (with_limit_at_most (most_hops s)) s.messages in
    rw (eo, em, ea, er, el, sum, long, mapped)

-- ---- the numbers of options

-- the options of a task, counted among those that the code holds
options_counted : (s : SpecValue) (xs : List Choice) (t : ℕ) → map choice_value xs ≡ s.options → option_count (finished s) t ≡ options_of_task xs t
unfolding of_task
options_counted s xs t e =
    count_those (λ (o : ChoiceValue). o.task == t) (choice 0 0 0) (of_task (finished s) t) s.options (λ i. refl)
    ∙ (ap (count_by (λ (o : ChoiceValue). o.task == t)) (sym e)
    ∙ sum_by_map (λ (o : ChoiceValue). cond (o.task == t) 1 0) choice_value xs)

counted_at : (s : SpecValue) (xs : List Choice) (counts : List ℕ) (t : ℕ) → map choice_value xs ≡ s.options → counts ≡ map (options_of_task xs) (below (length s.tasks)) → t < length s.tasks
    → option_count (finished s) t ≡ count_of counts t
counted_at s xs counts t e ec l =
    options_counted s xs t e
    ∙ sym (ap (λ (ns : List ℕ). get_or ns t 0) ec ∙ get_or-map-range_with_len (options_of_task xs) 0 (length s.tasks) t t 0 l (omega arith))

pub few_counted : (s : SpecValue) (xs : List Choice) (counts : List ℕ) → IsPlan s → map choice_value xs ≡ s.options → counts ≡ map (options_of_task xs) (below (length s.tasks))
    → All (λ n. n ≤ 16384) counts
few_counted s xs counts p e ec =
    subst (All (λ n. n ≤ 16384)) (sym ec) (All-map (λ n. n ≤ 16384) (options_of_task xs) (below (length s.tasks))
    (λ k d l. omega (arith, count_by-le-length (is_of_task (get_or (below (length s.tasks)) k d)) xs, long)))
  where
    long : length xs ≤ 16384
    long = omega (arith, p.few_options, ap length e, length-map xs choice_value)

pub all_counted : (s : SpecValue) (counts : List ℕ) (ms : List Message) → IsPlan s → length counts ≡ length s.tasks → ms ≡ s.messages → All (IsCounted counts) ms
all_counted s counts ms p e es = subst (All (IsCounted counts)) (sym es) (All-weaker (IsMessageIn s) (IsCounted counts) (λ m h. record {
  sender = omega (arith, h.sender, e);
  receivers = All-weaker (λ w. w < length s.tasks) (λ w. w < length counts) (λ w l. omega (arith, l, e)) m.receivers h.receivers;
}) s.messages p.messages_in)

pub long_counts : (xs : List Choice) (n : ℕ) (counts : List ℕ) → counts ≡ map (options_of_task xs) (below n) → length counts ≡ n
long_counts xs n counts e = ap length e ∙ length-map-range_with_len (options_of_task xs) 0 n

pub finished_terms_is : (s : SpecValue) (xs : List Choice) (counts : List ℕ) (o r l a h x : ℕ) (ms : List Message) → IsPlan s → map choice_value xs ≡ s.options
    → counts ≡ map (options_of_task xs) (below (length s.tasks)) → o ≡ length s.options → r ≡ length s.resources → l ≡ length s.links → a ≡ length s.arcs → h ≡ most_hops s → ms ≡ s.messages
    → x ≡ sum_by (kept_terms counts r a h) ms → 5 * o + r + l + x ≡ size (finished s)
unfolding size message_size
finished_terms_is s xs counts o r l a h x ms p e ec eo er el ea eh es ex =
    let sum : x ≡ sum_by (kept_terms counts (length s.resources) (length s.arcs) (most_hops s)) s.messages = ex ∙ rw (er, ea, eh, es) in
    let mapped = sum_by_map (message_size (finished s)) (with_limit_at_most (most_hops s)) s.messages in
    let same = sum_by_same (λ (m : Message). message_size (finished s) (with_limit_at_most (most_hops s) m)) (kept_terms counts (length s.resources) (length s.arcs) (most_hops s)) s.messages each in
    rw (eo, er, el, sum, mapped, same)
  where
    -- each message counts the same
    one : (m : Message) → IsMessageIn s m → message_size (finished s) (with_limit_at_most (most_hops s) m) ≡ kept_terms counts (length s.resources) (length s.arcs) (most_hops s) m
    one m q =
        let starts = counted_at s xs counts m.sender e ec q.sender in
        let ends = sum_by_same (option_count (finished s)) (count_of counts) m.receivers (λ k d l'. counted_at s xs counts (get_or m.receivers k d) e ec (q.receivers k d l')) in
        rw (starts, ends)

    each : All (λ m. message_size (finished s) (with_limit_at_most (most_hops s) m) ≡ kept_terms counts (length s.resources) (length s.arcs) (most_hops s) m) s.messages
    each = λ k d l'. one (get_or s.messages k d) (p.messages_in k d l')

-- ---- well formed

-- the traffic weights have a row for each arc's link
pub links_weighted : (s : SpecValue) (xs : List Arc) (rows : List (List ℕ)) → IsPlan s → map arc_value xs ≡ s.arcs → rows ≡ s.traffic_weights → All (λ a. a.link.0 < length rows) xs
links_weighted s xs rows p e er =
    all_of_map arc_value (λ (a : ArcValue). a.link < length rows) xs (subst (All (λ a. a.link < length rows)) (sym e)
    (All-weaker (IsArcIn s) (λ a. a.link < length rows) (λ a h. omega (arith, h.link, p.traffic_rows.one_each, ap length er)) s.arcs p.arcs_in))

-- a test for too big a product, over the lists that the code holds
pub product_tells : (s : SpecValue) (xs : List Arc) (rows : List (List ℕ)) (ms : List Message) (b : Bool) → map arc_value xs ≡ s.arcs → rows ≡ s.traffic_weights → ms ≡ s.messages
    → (IsTrue b ↔ Any (CarriesTooMuch rows (map arc_value xs)) ms) → (IsTrue b ↔ HasBigProduct s)
product_tells s xs rows ms b e er es h =
    subst (λ (ks : List Message). IsTrue b ↔ Any (CarriesTooMuch s.traffic_weights s.arcs) ks) es
    (subst (λ (as' : List ArcValue). IsTrue b ↔ Any (CarriesTooMuch s.traffic_weights as') ms) e
    (subst (λ (rs : List (List ℕ)). IsTrue b ↔ Any (CarriesTooMuch rs (map arc_value xs)) ms) er h))

products_small : (s : SpecValue) → ¬ HasBigProduct s → (m a j : ℕ) → m < length (finished s).messages → a < length s.arcs
    → weight_in s.traffic_weights j (arc_at s a).link * (message_at (finished s) m).quantity ≤ 2 ^ 40
products_small s none m a j hm ha = go (cases_lt (2 ^ 40) (weight_in s.traffic_weights j (arc_at s a).link * (message_at s m).quantity))
  where
    inside : m < length s.messages
    inside = omega (arith, hm, length-map s.messages (with_limit_at_most (most_hops s)))

    same : (message_at (finished s) m).quantity ≡ (message_at s m).quantity
    same =
        ap (λ (k : Message). k.quantity) (get_or-map (with_limit_at_most (most_hops s)) s.messages m (message_at s m) _ inside)
        ∙ ap (λ (k : Message). k.quantity) (get_or_default s.messages m (message_at s m) _ inside)

    go : (2 ^ 40 < weight_in s.traffic_weights j (arc_at s a).link * (message_at s m).quantity) ⊎ (weight_in s.traffic_weights j (arc_at s a).link * (message_at s m).quantity ≤ 2 ^ 40)
        → weight_in s.traffic_weights j (arc_at s a).link * (message_at (finished s) m).quantity ≤ 2 ^ 40
    go (inl b) =
        absurd (none (
          m,
          message_at s m,
          inside,
          get_or_default s.messages m (message_at s m) _ inside,
          (a, arc_at s a, ha, get_or_default s.arcs a (arc_at s a) _ ha, record { objective = j; big = b }),
        ))
    go (inr b) = rw same b

pub finished_well : (s : SpecValue) → IsPlan s → IsFinishAccepted s → IsWellFormed (finished s)
finished_well s p f = record {
  plan = plan_all_changed s (AtMost (most_hops s)) (finished s).messages refl tt p;
  limits = All-map (λ m. m.limit ≤ most_hops s) (with_limit_at_most (most_hops s)) s.messages (λ i d l. omega arith);
  few_variables = f.few_variables;
  few_terms = f.few_terms;
  products = products_small s f.small;
}

-- a whole list that is changed in place
pub put_back : {A : Type 0} (f : A → A) (xs ys zs : List A) (n : ℕ) → n ≡ length xs → zs ≡ xs → ys ≡ map f zs → take n (ys ++ drop (length ys) xs) ≡ map f xs
put_back {A = A} f xs ys zs n en ez ey =
    let e : ys ≡ map f xs = ey ∙ ap (map f) ez in
    let l : n ≡ length ys = omega (arith, ap length e, length-map xs f, en) in
    ap (λ (i : ℕ). take i (ys ++ drop (length ys) xs)) l ∙ take-append_seam ys (drop (length ys) xs) ∙ e
