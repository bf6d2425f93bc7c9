-- A loop that moves the messages that pass to the front, and the names that pass.
use Rattle.std.proofs.Common.{◌≡◌, ℕ, ◌+◌, ◌<◌, ◌≤◌, Bool, true, false, cond, List, [], ◌∷◌, ◌++◌, length, get_or, set, map, take, sym, ap, ◌∙◌, subst, arith, Contains, ◌⊎◌, inl, inr}
use Rattle.std.specs.List.{SwappedAt}
use Rattle.std.proofs.lemmas.Bool.{cases_lt}
use Rattle.std.proofs.lemmas.List.{get_or-map, length-map, map-append, append-nil, take-set-le, take_more_set, length-set}
use Rattle.spec_model.specs.Spec.{Message, Name, name_at, those}
use Rattle.spec_model.specs.WellFormed.{AreDistinct}
use Rattle.spec_model.proofs.Those.{those_more}
use Rattle.spec_model.proofs.Joined.{All-those}
use Rattle.spec_graph.specs.Lists.{message_in}
use Rattle.spec_graph.specs.Merged.{is_unlisted, unlisted, messages_at, IsNameOfOther}

-- those below n + 1, where n passes or doesn't
pub those_yes : (p : ℕ → Bool) (n : ℕ) → p n ≡ true → those p (n + 1) ≡ those p n ++ n ∷ []
those_yes p n e = those_more p n ∙ ap (λ (b : Bool). those p n ++ cond b (n ∷ []) []) e

pub those_no : (p : ℕ → Bool) (n : ℕ) → p n ≡ false → those p (n + 1) ≡ those p n
those_no p n e = those_more p n ∙ (ap (λ (b : Bool). those p n ++ cond b (n ∷ []) []) e ∙ append-nil (those p n))

-- the messages before m that pass stand at the front, and those from m on where they were
pub record Keeping (p : ℕ → Bool) (old now : List Message) (kept m : ℕ) : Type 0 where
  pub long : length now ≡ length old
  pub few : kept ≤ m
  pub done : take kept now ≡ messages_at old (those p m)
  pub rest : (k : ℕ) (d : Message) → m ≤ k → get_or now k d ≡ get_or old k d

pub keeping_no : (p : ℕ → Bool) (old now : List Message) (kept m : ℕ) → p m ≡ false → Keeping p old now kept m → Keeping p old now kept (m + 1)
keeping_no p old now kept m e h = record {
  long = h.long;
  few = omega (arith, h.few);
  done = h.done ∙ ap (messages_at old) (sym (those_no p m e));
  rest = λ k d l. h.rest k d (omega (arith, l));
}

pub keeping_yes : (p : ℕ → Bool) (old now next : List Message) (kept m : ℕ) → p m ≡ true → m < length old → SwappedAt now next kept m → Keeping p old now kept m → Keeping p old next (kept + 1) (m + 1)
keeping_yes p old now next kept m e l s h = record {
  long = ap length now_set ∙ (length-set (set now kept x) m y ∙ (length-set now kept x ∙ h.long));
  few = omega (arith, h.few);
  done = front ∙ (ap (λ (xs : List Message). xs ++ x ∷ []) h.done ∙ (ap (λ (z : Message). messages_at old (those p m) ++ z ∷ []) moved
      ∙ (sym (map-append (message_in old) (those p m) (m ∷ [])) ∙ ap (messages_at old) (sym (those_yes p m e)))));
  rest = λ k d lk. s.2 k d (λ t. absurd (omega (arith, t, lk, h.few))) (λ t. absurd (omega (arith, t, lk))) ∙ h.rest k d (omega (arith, lk));
}
  where
    none : Message
    none = record { sender = 0; receivers = []; limit = 0; delay = 0; quantity = 0 }

    x : Message
    x = get_or now m none

    y : Message
    y = get_or now kept none

    moved : x ≡ message_in old m
    moved = h.rest m none (omega arith)

    now_set : next ≡ set (set now kept x) m y
    now_set = s.3 none

    within : kept < length now
    within = omega (arith, h.few, l, h.long)

    front_cases : (kept < m) ⊎ (m ≤ kept) → take (kept + 1) (set (set now kept x) m y) ≡ take kept now ++ x ∷ []
    front_cases (inl a) = take-set-le (kept + 1) (set now kept x) m y (omega (arith, a)) ∙ take_more_set now kept x within
    front_cases (inr a) =
        let same : m ≡ kept = omega (arith, a, h.few) in
        ap (λ (k : ℕ). take (kept + 1) (set (set now kept x) k y)) same
        ∙ (take_more_set (set now kept x) kept y (omega (arith, within, length-set now kept x))
        ∙ (ap (λ (zs : List Message). zs ++ y ∷ []) (take-set-le kept now kept x (omega arith))
        ∙ ap (λ (k : ℕ). take kept now ++ get_or now k none ∷ []) (sym same)))

    front : take (kept + 1) next ≡ take kept now ++ x ∷ []
    front = ap (take (kept + 1)) now_set ∙ front_cases (cases_lt kept m)

-- ---- names

-- a name that passes is none of the earlier ones that do
pub name_new : (names : List Name) (p : ℕ → Bool) (m : ℕ) → AreDistinct names → m < length names → ¬ Contains (map (name_at names) (those p m)) (name_at names m)
name_new names p m distinct l h =
    let k = h.0 in
    let lk : k < length (those p m) = omega (arith, h.1, length-map (those p m) (name_at names)) in
    let i = get_or (those p m) k 0 in
    let li : i < m = All-those (λ i. i < m) p m (λ i l e. l) k 0 lk in
    let same : name_at names i ≡ name_at names m = sym (get_or-map (name_at names) (those p m) k 0 (name_at names m) lk) ∙ h.2 in
    distinct i m [] li l same

-- a name of none of those that pass
pub name_free : (names : List Name) (name : Name) (listed : List ℕ) → ¬ IsNameOfOther names name listed → ¬ Contains (map (name_at names) (unlisted listed (length names))) name
name_free names name listed free h =
    let n = length names in
    let k = h.0 in
    let lk : k < length (unlisted listed n) = omega (arith, h.1, length-map (unlisted listed n) (name_at names)) in
    let i = get_or (unlisted listed n) k 0 in
    free (record {
      message = i;
      within = All-those (λ i. i < n) (is_unlisted listed) n (λ i l e. l) k 0 lk;
      other = All-those (λ i. is_unlisted listed i ≡ true) (is_unlisted listed) n (λ i l e. e) k 0 lk;
      same = sym (get_or-map (name_at names) (unlisted listed n) k 0 name lk) ∙ h.2;
    })

-- the names that pass, with one more, and without
pub names_yes : (names : List Name) (p : ℕ → Bool) (m : ℕ) (after next : List Name) (x : Name) → p m ≡ true → x ≡ name_at names m → after ≡ map (name_at names) (those p m) → next ≡ after ++ x ∷ []
    → next ≡ map (name_at names) (those p (m + 1))
names_yes names p m after next x e ex en h =
    h ∙ (ap (λ (xs : List Name). xs ++ x ∷ []) en
    ∙ (ap (λ (y : Name). map (name_at names) (those p m) ++ y ∷ []) ex
    ∙ (sym (map-append (name_at names) (those p m) (m ∷ [])) ∙ ap (map (name_at names)) (sym (those_yes p m e)))))

pub names_no : (names : List Name) (p : ℕ → Bool) (m : ℕ) (after next : List Name) → p m ≡ false → after ≡ map (name_at names) (those p m) → next ≡ after → next ≡ map (name_at names) (those p (m + 1))
names_no names p m after next e en h = h ∙ (en ∙ ap (map (name_at names)) (sym (those_no p m e)))

-- the same, where the messages and their number are known by equations
pub keeping_to : (p : ℕ → Bool) (old now now' : List Message) (kept kept' m : ℕ) → now' ≡ now → kept' ≡ kept → Keeping p old now kept m → Keeping p old now' kept' m
keeping_to p old now now' kept kept' m en ek h = subst (λ (xs : List Message). Keeping p old xs kept' m) (sym en) (subst (λ (k : ℕ). Keeping p old now k m) (sym ek) h)
