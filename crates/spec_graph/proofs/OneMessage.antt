-- A plan whose listed messages are one is a plan, and its tasks have the same order.
use Rattle.std.proofs.Common.{◌≡◌, ℕ, zero, suc, ◌+◌, ◌<◌, ◌≤◌, ◌^◌, Bool, true, false, cond, not, List, [], ◌∷◌, ◌++◌, length, get_or, map, refl, sym, ap, ◌∙◌, subst, arith, add-one, length-append, All, Contains, ◌⊎◌, inl, inr}
use Rattle.std.specs.Prelude.{fold, max}
use Rattle.std.specs.List.{list_any}
use Rattle.std.proofs.lemmas.Bool.{false≢true}
use Rattle.std.proofs.lemmas.List.{get_or-map, length-map, map-append, get_or_default}
use Rattle.std.proofs.lemmas.List.Elements.{All-push, All-contains, Contains-get_or, Contains-push, Contains-push_cases, Contains-append_left}
use Rattle.spec_model.specs.Spec.{Name, SpecValue, Message, name_at, those}
use Rattle.spec_model.specs.WellFormed.{AreDistinct, Sends, IsPlan, IsMessageIn}
use Rattle.spec_model.proofs.Chains.{none_within}
use Rattle.spec_model.proofs.Joined.{All-those}
use Rattle.spec_model.proofs.Tests.{Contains-those}
use Rattle.spec_model.proofs.Those.{cases_suc, few_those}
use Rattle.spec_model.proofs.Distinct.{distinct_push}
use Rattle.task_order.specs.Order.{IsOrderOf}
use Rattle.task_order.proofs.Orders.{order_within}
use Rattle.spec_graph.specs.Lists.{message_in}
use Rattle.spec_graph.specs.Merged.{is_number, is_unlisted, unlisted, with_once, with_all_once, with_receivers, messages_at, all_receivers, first_sender, merged, merged_message, merged_messages, merged_names, AreOfOneSender, IsNameOfOther}
use Rattle.spec_graph.proofs.Changing.{plan_messages}
use Rattle.spec_graph.proofs.Keeping.{those_yes, those_no, name_new, name_free}
use Rattle.spec_graph.proofs.Parts.{found, finds}

-- ---- those that aren't listed

-- where one doesn't pass, there are fewer
pub fewer_those : (p : ℕ → Bool) (n i : ℕ) → i < n → p i ≡ false → length (those p n) < n
fewer_those p zero i l e = absurd (omega (arith, l))
fewer_those p (suc n) i l e = subst (λ (k : ℕ). length (those p k) < k) (add-one n) (at (λ h. fewer_those p n i h e) (cases_suc i n l))
  where
    later : length (those p n) < n → (b : Bool) → p n ≡ b → length (those p (n + 1)) < n + 1
    later h true t = omega (arith, ap length (those_yes p n t), length-append (those p n) (n ∷ []), h)
    later h false t = omega (arith, ap length (those_no p n t), h)

    at : (i < n → length (those p n) < n) → (i ≡ n) ⊎ (i < n) → length (those p (n + 1)) < n + 1
    at before (inl same) = omega (arith, ap length (those_no p n (subst (λ (k : ℕ). p k ≡ false) same e)), few_those p n)
    at before (inr h) = later (before h) (p n) refl

-- a listed number is left out
pub fewer_unlisted : (listed : List ℕ) (n i : ℕ) → i < n → Contains listed i → length (unlisted listed n) < n
fewer_unlisted listed n i l h = fewer_those (is_unlisted listed) n i l (ap not (found listed i h))

distinct_those : (names : List Name) (p : ℕ → Bool) (n : ℕ) → n ≤ length names → AreDistinct names → AreDistinct (map (name_at names) (those p n))
distinct_those names p zero l d = λ i j x lt h e. absurd (omega (arith, h))
distinct_those names p (suc n) l d = subst (λ (k : ℕ). AreDistinct (map (name_at names) (those p k))) (add-one n) (go (distinct_those names p n (omega (arith, l)) d) (p n) refl)
  where
    go : AreDistinct (map (name_at names) (those p n)) → (b : Bool) → p n ≡ b → AreDistinct (map (name_at names) (those p (n + 1)))
    go before true e =
        let one : map (name_at names) (those p (n + 1)) ≡ map (name_at names) (those p n) ++ name_at names n ∷ [] = ap (map (name_at names)) (those_yes p n e)
        ∙ map-append (name_at names) (those p n) (n ∷ []) in
        subst AreDistinct (sym one) (distinct_push (map (name_at names) (those p n)) (name_at names n) before (name_new names p n d (omega (arith, l))))
    go before false e = subst (λ (xs : List ℕ). AreDistinct (map (name_at names) xs)) (sym (those_no p n e)) before

-- ---- the receivers of all

once_cases : (xs : List ℕ) (x y : ℕ) → Contains (with_once xs x) y → Contains xs y ⊎ (x ≡ y)
once_cases xs x y h = go (list_any (is_number x) xs) h
  where
    go : (b : Bool) → Contains (cond b xs (xs ++ x ∷ [])) y → Contains xs y ⊎ (x ≡ y)
    go true i = inl i
    go false i = Contains-push_cases xs x y i

once_keeps : (xs : List ℕ) (x y : ℕ) → Contains xs y → Contains (with_once xs x) y
once_keeps xs x y h = go (list_any (is_number x) xs)
  where
    go : (b : Bool) → Contains (cond b xs (xs ++ x ∷ [])) y
    go true = h
    go false = Contains-append_left xs (x ∷ []) y h

once_has : (xs : List ℕ) (x : ℕ) → Contains (with_once xs x) x
once_has xs x = go (list_any (is_number x) xs) refl
  where
    go : (b : Bool) → list_any (is_number x) xs ≡ b → Contains (cond b xs (xs ++ x ∷ [])) x
    go true e = finds xs x e
    go false e = Contains-push xs x

once_distinct : (xs : List ℕ) (x : ℕ) → AreDistinct xs → AreDistinct (with_once xs x)
once_distinct xs x d = go (list_any (is_number x) xs) refl
  where
    go : (b : Bool) → list_any (is_number x) xs ≡ b → AreDistinct (cond b xs (xs ++ x ∷ []))
    go true e = d
    go false e = distinct_push xs x d (λ h. false≢true (sym e ∙ found xs x h))

contains_head : {A : Type 0} (x y : A) (xs : List A) → x ≡ y → Contains (x ∷ xs) y
contains_head x y xs e = (0, omega arith, e)

contains_tail : {A : Type 0} (x y : A) (xs : List A) → Contains xs y → Contains (x ∷ xs) y
contains_tail x y xs h = (suc h.0, omega (arith, h.1), h.2)

-- a member of a list is the first, or one of the others
contains_cases : {A : Type 0} (x y : A) (xs : List A) → Contains (x ∷ xs) y → (x ≡ y) ⊎ Contains xs y
contains_cases x y xs (zero, l, e) = inl e
contains_cases x y xs (suc k, l, e) = inr (k, omega (arith, l), e)

all_once_cases : (ys xs : List ℕ) (y : ℕ) → Contains (with_all_once xs ys) y → Contains xs y ⊎ Contains ys y
all_once_cases [] xs y h = inl h
all_once_cases (x ∷ ys) xs y h = split (all_once_cases ys (with_once xs x) y h)
  where
    split : Contains (with_once xs x) y ⊎ Contains ys y → Contains xs y ⊎ Contains (x ∷ ys) y
    split (inl i) = elim (once_cases xs x y i) [ inl j ↦ inl j | inr e ↦ inr (contains_head x y ys e) ]
    split (inr i) = inr (contains_tail x y ys i)

all_once_keeps : (ys xs : List ℕ) (y : ℕ) → Contains xs y → Contains (with_all_once xs ys) y
all_once_keeps [] xs y h = h
all_once_keeps (x ∷ ys) xs y h = all_once_keeps ys (with_once xs x) y (once_keeps xs x y h)

all_once_has : (ys xs : List ℕ) (y : ℕ) → Contains ys y → Contains (with_all_once xs ys) y
all_once_has [] xs y h = absurd (omega (arith, h.1))
all_once_has (x ∷ ys) xs y h = elim (contains_cases x y ys h) [
  | inl e ↦ all_once_keeps ys (with_once xs x) y (subst (Contains (with_once xs x)) e (once_has xs x))
  | inr i ↦ all_once_has ys (with_once xs x) y i
]

all_once_distinct : (ys xs : List ℕ) → AreDistinct xs → AreDistinct (with_all_once xs ys)
all_once_distinct [] xs d = d
all_once_distinct (x ∷ ys) xs d = all_once_distinct ys (with_once xs x) (once_distinct xs x d)

-- one of the messages has the receiver
record IsReceived (parts : List Message) (y : ℕ) : Type 0 where
  pub part : Message
  pub among : Contains parts part
  pub receives : Contains part.receivers y

gathered_cases : (parts : List Message) (xs : List ℕ) (y : ℕ) → Contains (fold with_receivers xs parts) y → Contains xs y ⊎ IsReceived parts y
gathered_cases [] xs y h = inl h
gathered_cases (m ∷ parts) xs y h = split (gathered_cases parts (with_receivers xs m) y h)
  where
    split : Contains (with_receivers xs m) y ⊎ IsReceived parts y → Contains xs y ⊎ IsReceived (m ∷ parts) y
    split (inl i) = elim (all_once_cases m.receivers xs y i) [ inl j ↦ inl j | inr j ↦ inr (record { part = m; among = contains_head m m parts refl; receives = j }) ]
    split (inr r) = inr (record { part = r.part; among = contains_tail m r.part parts r.among; receives = r.receives })

gathered_keeps : (parts : List Message) (xs : List ℕ) (y : ℕ) → Contains xs y → Contains (fold with_receivers xs parts) y
gathered_keeps [] xs y h = h
gathered_keeps (m ∷ parts) xs y h = gathered_keeps parts (with_receivers xs m) y (all_once_keeps m.receivers xs y h)

gathered_has : (parts : List Message) (xs : List ℕ) (part : Message) (y : ℕ) → Contains parts part → Contains part.receivers y → Contains (fold with_receivers xs parts) y
gathered_has [] xs part y h r = absurd (omega (arith, h.1))
gathered_has (m ∷ parts) xs part y h r = elim (contains_cases m part parts h) [
  | inl e ↦ gathered_keeps parts (with_receivers xs m) y (all_once_has m.receivers xs y (subst (λ (k : Message). Contains k.receivers y) (sym e) r))
  | inr i ↦ gathered_has parts (with_receivers xs m) part y i r
]

gathered_distinct : (parts : List Message) (xs : List ℕ) → AreDistinct xs → AreDistinct (fold with_receivers xs parts)
gathered_distinct [] xs d = d
gathered_distinct (m ∷ parts) xs d = gathered_distinct parts (with_receivers xs m) (all_once_distinct m.receivers xs d)

-- ---- the message that messages become

-- what holds of each member holds of all places
from_members : {A : Type 0} (P : A → Type 0) (xs : List A) → ((x : A) → Contains xs x → P x) → All P xs
from_members P xs h = λ k d l. h (get_or xs k d) (Contains-get_or xs k d l)

greatest_within : (f : Message → ℕ) (b : ℕ) (parts : List Message) (n : ℕ) → n ≤ b → ((m : Message) → Contains parts m → f m ≤ b) → fold (λ k m. max k (f m)) n parts ≤ b
greatest_within f b [] n l h = l
greatest_within f b (m ∷ parts) n l h = greatest_within f b parts (max n (f m)) (omega (arith, l, h m (contains_head m m parts refl))) (λ k i. h k (contains_tail m k parts i))

none_distinct : AreDistinct {A = ℕ} []
none_distinct i j d l h e = absurd (omega (arith, h))

first_planned : (s : SpecValue) (parts : List Message) → 0 < length parts → All (IsMessageIn s) parts → first_sender parts < length s.tasks
first_planned s [] l h = absurd (omega (arith, l))
first_planned s (m ∷ parts) l h = (All-contains (IsMessageIn s) (m ∷ parts) m h (contains_head m m parts refl)).sender

some_received : (s : SpecValue) (parts : List Message) → 0 < length parts → All (IsMessageIn s) parts → 0 < length (all_receivers parts)
some_received s [] l h = absurd (omega (arith, l))
some_received s (m ∷ parts) l h =
    let p = All-contains (IsMessageIn s) (m ∷ parts) m h (contains_head m m parts refl) in
    let w : ℕ = get_or m.receivers 0 0 in
    let i = gathered_has (m ∷ parts) [] m w (contains_head m m parts refl) (Contains-get_or m.receivers 0 0 p.some_receiver) in
    omega (arith, i.1)

pub merged_planned : (s : SpecValue) (parts : List Message) → 0 < length parts → All (IsMessageIn s) parts → IsMessageIn s (merged_message parts)
merged_planned s parts l h = record {
  sender = first_planned s parts l h;
  receivers = from_members (λ w. w < length s.tasks) (all_receivers parts) receives;
  some_receiver = some_received s parts l h;
  each_once = gathered_distinct parts [] none_distinct;
  delay = greatest_within (λ (m : Message). m.delay) (2 ^ 40) parts 0 (omega arith) (λ m i. (All-contains (IsMessageIn s) parts m h i).delay);
  quantity = greatest_within (λ (m : Message). m.quantity) (2 ^ 40) parts 0 (omega arith) (λ m i. (All-contains (IsMessageIn s) parts m h i).quantity);
}
  where
    receives : (w : ℕ) → Contains (all_receivers parts) w → w < length s.tasks
    receives w i = elim (gathered_cases parts [] w i) [
      | inl none ↦ absurd (omega (arith, none.1))
      | inr r ↦ All-contains (λ w. w < length s.tasks) r.part.receivers w (All-contains (IsMessageIn s) parts r.part h r.among).receivers r.receives
    ]

-- ---- who sends to whom

-- the place of a message among those at some places
record IsPlaceOf (ms : List Message) (places : List ℕ) (m : Message) : Type 0 where
  pub place : ℕ
  pub among : Contains places place
  pub same : message_in ms place ≡ m

place_of : (ms : List Message) (places : List ℕ) (m : Message) → Contains (messages_at ms places) m → IsPlaceOf ms places m
place_of ms places m h =
    let l : h.0 < length places = omega (arith, h.1, length-map places (message_in ms)) in
    record { place = get_or places h.0 0; among = Contains-get_or places h.0 0 l; same = sym (get_or-map (message_in ms) places h.0 0 m l) ∙ h.2 }

at_place : (ms : List Message) (places : List ℕ) (k : ℕ) → Contains places k → Contains (messages_at ms places) (message_in ms k)
at_place ms places k h = (h.0, omega (arith, h.1, length-map places (message_in ms)), get_or-map (message_in ms) places h.0 k (message_in ms k) h.1 ∙ ap (message_in ms) h.2)

sends_merged : (ms : List Message) (listed : List ℕ) → All (λ m. m < length ms) listed → AreOfOneSender ms listed → (a b : ℕ) → Sends (merged_messages ms listed) a b → Sends ms a b
sends_merged ms listed there one a b x = elim (Contains-push_cases (messages_at ms (unlisted listed n)) new x.message x.there) [
  | inl i ↦
      let p = place_of ms (unlisted listed n) x.message i in
      let l : p.place < n = All-contains (λ k. k < n) (unlisted listed n) p.place (All-those (λ k. k < n) (is_unlisted listed) n (λ k l e. l)) p.among in
      record { message = x.message; there = subst (Contains ms) p.same (Contains-get_or ms p.place _ l); from = x.from; to = x.to }
  | inr e ↦ elim (gathered_cases parts [] b (subst (λ (k : Message). Contains k.receivers b) (sym e) x.to)) [
    | inl none ↦ absurd (omega (arith, none.1))
    | inr r ↦
        let p = place_of ms listed r.part r.among in
        let l : p.place < n = All-contains (λ k. k < n) listed p.place there p.among in
        record {
          message = r.part;
          there = subst (Contains ms) p.same (Contains-get_or ms p.place _ l);
          from =
              sym (ap (λ (k : Message). k.sender) p.same) ∙ (All-contains (λ k. (message_in ms k).sender ≡ first_sender parts) listed p.place one p.among
              ∙ (ap (λ (k : Message). k.sender) e ∙ x.from));
          to = r.receives;
        }
  ]
]
  where
    n : ℕ
    n = length ms

    parts : List Message
    parts = messages_at ms listed

    new : Message
    new = merged_message parts

sends_to_merged : (ms : List Message) (listed : List ℕ) → AreOfOneSender ms listed → (a b : ℕ) → Sends ms a b → Sends (merged_messages ms listed) a b
sends_to_merged ms listed one a b x = at (list_any (is_number k) listed) refl
  where
    k : ℕ
    k = x.there.0

    m : Message
    m = message_in ms k

    same : m ≡ x.message
    same = get_or_default ms k _ x.message x.there.1 ∙ x.there.2

    parts : List Message
    parts = messages_at ms listed

    kept : List Message
    kept = messages_at ms (unlisted listed (length ms))

    at : (c : Bool) → list_any (is_number k) listed ≡ c → Sends (merged_messages ms listed) a b
    at false e = record {
      message = m;
      there = Contains-append_left kept (merged_message parts ∷ []) m (at_place ms (unlisted listed (length ms)) k (Contains-those (is_unlisted listed) (length ms) k x.there.1 (ap not e)));
      from = ap (λ (u : Message). u.sender) same ∙ x.from;
      to = subst (λ (u : Message). Contains u.receivers b) (sym same) x.to;
    }
    at true e =
        let i = finds listed k e in
        record {
          message = merged_message parts;
          there = Contains-push kept (merged_message parts);
          from = sym (All-contains (λ j. (message_in ms j).sender ≡ first_sender parts) listed k one i) ∙ (ap (λ (u : Message). u.sender) same ∙ x.from);
          to = gathered_has parts [] m b (at_place ms listed k i) (subst (λ (u : Message). Contains u.receivers b) (sym same) x.to);
        }

pub order_merged : (rows : List (List Bool)) (ms : List Message) (listed : List ℕ) → All (λ m. m < length ms) listed → AreOfOneSender ms listed → IsOrderOf rows ms
    → IsOrderOf rows (merged_messages ms listed)
order_merged rows ms listed there one o = order_within rows ms (merged_messages ms listed) (sends_to_merged ms listed one) (sends_merged ms listed there one) o

-- ---- the plan

pub plan_merged : (s : SpecValue) (name : Name) (listed : List ℕ) → IsPlan s → 0 < length listed → All (λ m. m < length s.messages) listed → AreOfOneSender s.messages listed
    → ¬ IsNameOfOther s.message_names name listed → IsPlan (merged s name listed)
plan_merged s name listed p some there one free =
    plan_messages s (merged_names s.message_names name listed) (merged_messages s.messages listed) p
    (omega (arith, long, fewer, p.few_messages))
    (omega (arith, long, names_long, ap (λ (k : ℕ). length (unlisted listed k)) p.named))
    (distinct_push (map (name_at s.message_names) (unlisted listed (length s.message_names))) name (distinct_those s.message_names (is_unlisted listed) (length s.message_names) (omega arith)
    p.messages_distinct) (name_free s.message_names name listed free))
    (All-push (IsMessageIn s) kept (merged_message parts) (from_members (IsMessageIn s) kept kept_planned)
    (merged_planned s parts (omega (arith, some, length-map listed (message_in s.messages))) (from_members (IsMessageIn s) parts part_planned)))
    (none_within (merged_messages s.messages listed) s.messages (sends_merged s.messages listed there one) p.no_cycle)
  where
    n : ℕ
    n = length s.messages

    parts : List Message
    parts = messages_at s.messages listed

    kept : List Message
    kept = messages_at s.messages (unlisted listed n)

    long : length (merged_messages s.messages listed) ≡ length (unlisted listed n) + 1
    long = omega (arith, length-append kept (merged_message parts ∷ []), length-map (unlisted listed n) (message_in s.messages))

    names_long : length (merged_names s.message_names name listed) ≡ length (unlisted listed (length s.message_names)) + 1
    names_long =
        omega (
          arith,
          length-append (map (name_at s.message_names) (unlisted listed (length s.message_names))) (name ∷ []),
          length-map (unlisted listed (length s.message_names)) (name_at s.message_names),
        )

    fewer : length (unlisted listed n) < n
    fewer = fewer_unlisted listed n (get_or listed 0 0) (there 0 0 some) (Contains-get_or listed 0 0 some)

    planned : (k : ℕ) → k < n → IsMessageIn s (message_in s.messages k)
    planned k l = p.messages_in k _ l

    kept_planned : (m : Message) → Contains kept m → IsMessageIn s m
    kept_planned m i =
        let q = place_of s.messages (unlisted listed n) m i in
        subst (IsMessageIn s) q.same (planned q.place (All-contains (λ k. k < n) (unlisted listed n) q.place (All-those (λ k. k < n) (is_unlisted listed) n (λ k l e. l)) q.among))

    part_planned : (m : Message) → Contains parts m → IsMessageIn s m
    part_planned m i =
        let q = place_of s.messages listed m i in
        subst (IsMessageIn s) q.same (planned q.place (All-contains (λ k. k < n) listed q.place there q.among))

-- ---- the same, where the lists are known by equations

pub kept_short : (ms kept : List Message) (list listed : List ℕ) → kept ≡ messages_at ms (unlisted list (length ms)) → list ≡ listed → 0 < length listed → All (λ m. m < length ms) listed
    → length kept < length ms
kept_short ms kept list listed e el some there =
    let fewer = fewer_unlisted listed (length ms) (get_or listed 0 0) (there 0 0 some) (Contains-get_or listed 0 0 some) in
    omega (arith, ap length e, length-map (unlisted list (length ms)) (message_in ms), ap (λ (xs : List ℕ). length (unlisted xs (length ms))) el, fewer)

pub merged_is : (ms kept new : List Message) (message : Message) (list listed : List ℕ) → kept ≡ messages_at ms (unlisted list (length ms)) → list ≡ listed
    → message ≡ merged_message (messages_at ms listed) → new ≡ kept ++ message ∷ [] → new ≡ merged_messages ms listed
merged_is ms kept new message list listed ek el em en =
    en ∙ (ap (λ (m : Message). kept ++ m ∷ []) em ∙ ap (λ (ks : List Message). ks ++ merged_message (messages_at ms listed) ∷ [])
    (ek ∙ ap (λ (xs : List ℕ). messages_at ms (unlisted xs (length ms))) el))

pub plan_merged_at : (s : SpecValue) (name : Name) (listed : List ℕ) (names : List Name) (ms : List Message) → names ≡ merged_names s.message_names name listed
    → ms ≡ merged_messages s.messages listed → IsPlan (merged s name listed) → IsPlan (record s { message_names = names; messages = ms })
plan_merged_at s name listed names ms en em p =
    subst (λ (ns : List Name). IsPlan (record s { message_names = ns; messages = ms })) (sym en)
    (subst (λ (ks : List Message). IsPlan (record s { message_names = merged_names s.message_names name listed; messages = ks })) (sym em) p)
