-- The senders of messages that are named.
use Rattle.std.proofs.Common.{◌≡◌, ℕ, ◌+◌, List, [], length, get_or, sym, ap, subst, ◌∙◌, arith, Contains, ◌<◌, ◌≤◌, Option, None, Some, below_more}
use Rattle.std.proofs.lemmas.List.{get_or_default}
use Rattle.spec_model.specs.Spec.{Name, SpecValue, name_at}
use Rattle.spec_graph.specs.declared.numbers.TaskNo.{TaskNo}
use Rattle.spec_join.specs.Joining.{sender_of}
use Rattle.spec_join.specs.Refusals.{DifferInSender}

-- of the first n names, those of messages that are there have this sender, and there is one
pub record HaveSender (p : SpecValue) (names : List Name) (n : ℕ) (sender : ℕ) : Type 0 where
  pub place : ℕ
  pub before : place < n
  pub there : Contains p.message_names (name_at names place)
  pub sends : sender_of p (name_at names place) ≡ sender
  pub each : (k : ℕ) → k < n → Contains p.message_names (name_at names k) → sender_of p (name_at names k) ≡ sender

-- the sender of those among the first n names that are there, or none where none is
abbrev pub IsSenderOf : SpecValue → List Name → ℕ → Option TaskNo → Type 0
IsSenderOf p names n None = (k : ℕ) → k < n → Contains p.message_names (name_at names k) → ⊥
IsSenderOf p names n (Some t) = HaveSender p names n t.0

-- the name at a place, as the code has it
place_is : (names : List Name) (i : ℕ) (name said : Name) → i < length names → name ≡ get_or names i name → said ≡ name → said ≡ name_at names i
place_is names i name said l en es = es ∙ en ∙ get_or_default names i name [] l

abbrev IsAway : SpecValue → List Name → ℕ → Type 0
IsAway p names k = Contains p.message_names (name_at names k) → ⊥

abbrev HasIt : SpecValue → List Name → ℕ → ℕ → Type 0
HasIt p names sender k = Contains p.message_names (name_at names k) → sender_of p (name_at names k) ≡ sender

-- a name that isn't a message's changes nothing
pub sender_skips : (p : SpecValue) (names : List Name) (i : ℕ) (sender : Option TaskNo) (name said : Name) → i < length names → name ≡ get_or names i name → said ≡ name
    → (Contains p.message_names said → ⊥) → IsSenderOf p names i sender → IsSenderOf p names (i + 1) sender
sender_skips p names i None name said l en es none h =
    below_more (IsAway p names) i h (subst (λ (x : Name). Contains p.message_names x → ⊥) (place_is names i name said l en es) none)
sender_skips p names i (Some t) name said l en es none h =
    let away : IsAway p names i = subst (λ (x : Name). Contains p.message_names x → ⊥) (place_is names i name said l en es) none in
    record {
      place = h.place;
      before = omega (arith, h.before);
      there = h.there;
      sends = h.sends;
      each = below_more (HasIt p names t.0) i h.each (λ c. absurd (away c));
    }

-- the first message that is there
pub sender_first : (p : SpecValue) (names : List Name) (i : ℕ) (from : TaskNo) (name said : Name) → i < length names → name ≡ get_or names i name → said ≡ name → Contains p.message_names said
    → from.0 ≡ sender_of p said → IsSenderOf p names i None → IsSenderOf p names (i + 1) (Some from)
sender_first p names i from name said l en es c e h =
    let at = place_is names i name said l en es in
    let sends : sender_of p (name_at names i) ≡ from.0 = ap (sender_of p) (sym at) ∙ sym e in
    record {
      place = i;
      before = omega arith;
      there = subst (Contains p.message_names) at c;
      sends = sends;
      each = below_more (HasIt p names from.0) i (λ k x d. absurd (h k x d)) (λ d. sends);
    }

-- another message of the same sender
pub sender_again : (p : SpecValue) (names : List Name) (i : ℕ) (first from : TaskNo) (name said : Name) → i < length names → name ≡ get_or names i name → said ≡ name → from.0 ≡ sender_of p said
    → first.0 ≡ from.0 → IsSenderOf p names i (Some first) → IsSenderOf p names (i + 1) (Some first)
sender_again p names i first from name said l en es e same h =
    let at = place_is names i name said l en es in
    let sends : sender_of p (name_at names i) ≡ first.0 = ap (sender_of p) (sym at) ∙ sym e ∙ sym same in
    record {
      place = h.place;
      before = omega (arith, h.before);
      there = h.there;
      sends = h.sends;
      each = below_more (HasIt p names first.0) i h.each (λ d. sends);
    }

-- a listed name by its place
listed_at : (names : List Name) (name : Name) (c : Contains names name) → name_at names c.0 ≡ name
listed_at names name c = get_or_default names c.0 [] name c.1 ∙ c.2

pub all_agree : (p : SpecValue) (names : List Name) (i : ℕ) (sender : Option TaskNo) → length names ≤ i → IsSenderOf p names i sender → DifferInSender p names → ⊥
all_agree p names i None l h d =
    h d.first_listed.0 (omega (arith, d.first_listed.1, l)) (subst (Contains p.message_names) (sym (listed_at names d.first d.first_listed)) d.first_there)
all_agree p names i (Some t) l h d = d.differ (at d.first d.first_listed d.first_there ∙ sym (at d.second d.second_listed d.second_there))
  where
    at : (name : Name) → Contains names name → Contains p.message_names name → sender_of p name ≡ t.0
    at name c there =
        let e = listed_at names name c in
        ap (sender_of p) (sym e) ∙ h.each c.0 (omega (arith, c.1, l)) (subst (Contains p.message_names) (sym e) there)
