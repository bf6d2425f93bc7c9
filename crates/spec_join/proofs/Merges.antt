-- What the builder refuses of a merge is what its statement is refused for.
use Rattle.std.proofs.Common.{◌≡◌, ◌≢◌, ℕ, true, not, List, [], ◌∷◌, length, get_or, map, sym, ap, subst, ◌∙◌, arith, All, Contains, ◌<◌, ◌≤◌, ◌⊎◌, inl, inr}
use Rattle.std.specs.List.{list_any}
use Rattle.std.proofs.lemmas.Bool.{cases_lt, eq-eqb, eqb-true, false≢true, false_from_ne_true}
use Rattle.std.proofs.lemmas.List.Folds.{list_any_at, Any-from_list_any}
use Rattle.std.proofs.lemmas.List.{get_or_default, get_or-map, length-map}
use Rattle.names.specs.Names.{number_by_name}
use Rattle.spec_model.specs.Spec.{Name, SpecValue, name_at}
use Rattle.spec_model.specs.WellFormed.{AreDistinct}
use Rattle.spec_graph.specs.Lists.{message_in}
use Rattle.spec_graph.specs.Merged.{is_number, is_unlisted, AreOfOneSender, IsNameOfOther, IsMergeRepeated, IsMergeRefused}
use Rattle.spec_graph.specs.declared.faults.BuildFault.{BuildFault}
use Rattle.spec_graph.specs.declared.faults.BuildFault.TheVariants.{Repeated, SelfLink, Cyclic, TooBig, Limit, NoMemory}
use Rattle.arch_reader.specs.declared.statement.Statement.TheVariants.{Merge}
use Rattle.spec_join.specs.Joining.{Joining, sender_of}
use Rattle.spec_join.specs.Refusals.{IsRepeated, IsOfOther, DifferInSender}
use Rattle.spec_join.specs.Stops.{stop_for, Refuses, IsAccepted}
use Rattle.spec_join.proofs.Listing.{number_there, same_name, twice_of, twice_by, none_missing, one_number}

-- what the code has found of a merge before the builder tries it
pub record IsGathered (p : SpecValue) (names : List Name) (listed : List ℕ) : Type 0 where
  pub agree : DifferInSender p names → ⊥
  pub known : All (Contains p.message_names) names
  pub is : listed ≡ map (number_by_name p.message_names) names

same_sender : (p : SpecValue) (names : List Name) (a b : Name) → (DifferInSender p names → ⊥) → Contains names a → Contains names b → Contains p.message_names a → Contains p.message_names b
    → sender_of p a ≡ sender_of p b
same_sender p names a b agree x y u v = go (cases_lt (sender_of p a) (sender_of p b)) (cases_lt (sender_of p b) (sender_of p a))
  where
    apart : sender_of p a ≢ sender_of p b → ⊥
    apart d = agree (record { first = a; second = b; first_listed = x; second_listed = y; first_there = u; second_there = v; differ = d })

    go : (sender_of p a < sender_of p b) ⊎ (sender_of p b ≤ sender_of p a) → (sender_of p b < sender_of p a) ⊎ (sender_of p a ≤ sender_of p b) → sender_of p a ≡ sender_of p b
    go (inl l) h = absurd (apart (λ e. omega (arith, l, e)))
    go (inr l) (inl h) = absurd (apart (λ e. omega (arith, h, e)))
    go (inr l) (inr h) = omega (arith, l, h)

among : (names : List Name) (k : ℕ) → k < length names → Contains names (name_at names k)
among names k l = (k, l, get_or_default names k (name_at names k) [] l)

one_sender_of : (p : SpecValue) (names : List Name) → (DifferInSender p names → ⊥) → All (Contains p.message_names) names → AreOfOneSender p.messages (map (number_by_name p.message_names) names)
one_sender_of p [] agree known = λ k d l. absurd (omega (arith, l))
one_sender_of p (n ∷ ns) agree known = λ k d l.
    let w : k < length (n ∷ ns) = omega (arith, l, length-map (n ∷ ns) (number_by_name p.message_names)) in
    let x : Name = name_at (n ∷ ns) k in
    let e : get_or (map (number_by_name p.message_names) (n ∷ ns)) k d ≡ number_by_name p.message_names x = get_or-map (number_by_name p.message_names) (n ∷ ns) k [] d w in
    let s : sender_of p x ≡ sender_of p n = same_sender p (n ∷ ns) x n agree (among (n ∷ ns) k w) (among (n ∷ ns) 0 (omega arith)) (known k [] w) (known 0 [] (omega arith)) in
    ap (λ (m : ℕ). (message_in p.messages m).sender) e ∙ s

pub one_sender : (p : SpecValue) (names : List Name) (listed : List ℕ) → IsGathered p names listed → AreOfOneSender p.messages listed
one_sender p names listed g = subst (AreOfOneSender p.messages) (sym g.is) (one_sender_of p names g.agree g.known)

-- whether a number is listed
unlisted_apart : (listed : List ℕ) (m : ℕ) → is_unlisted listed m ≡ true → Contains listed m → ⊥
unlisted_apart listed m h c = false≢true (ap not (sym (list_any_at (is_number m) listed c.0 m c.1 (eq-eqb (get_or listed c.0 m) m c.2))) ∙ h)

unlisted_by : (listed : List ℕ) (m : ℕ) → (Contains listed m → ⊥) → is_unlisted listed m ≡ true
unlisted_by listed m h = ap not (false_from_ne_true (list_any (is_number m) listed) away)
  where
    away : list_any (is_number m) listed ≡ true → ⊥
    away e =
        let a = Any-from_list_any (is_number m) listed e in
        h (subst (Contains listed) (eqb-true a.1 m a.4) (a.0, a.2, a.3))

-- the name is that of a message that isn't listed, by names or by numbers
other_of : (p : SpecValue) (name : Name) (names : List Name) → AreDistinct p.message_names → IsNameOfOther p.message_names name (map (number_by_name p.message_names) names) → IsOfOther p name names
other_of p name names distinct h =
    let there : Contains p.message_names name = (h.message, h.within, get_or_default p.message_names h.message name [] h.within ∙ h.same) in
    record {
      there = there;
      unlisted = λ c.
          let w : c.0 < length (map (number_by_name p.message_names) names) = omega (arith, c.1, length-map names (number_by_name p.message_names)) in
          let e : get_or (map (number_by_name p.message_names) names) c.0 h.message ≡ number_by_name p.message_names (get_or names c.0 name) =
          get_or-map (number_by_name p.message_names) names c.0 name h.message c.1 in
          let m : h.message ≡ number_by_name p.message_names name = one_number p.message_names name h.message (number_by_name p.message_names name) distinct (number_there p.message_names name there)
          h.within h.same in
          unlisted_apart (map (number_by_name p.message_names) names) h.message h.other (c.0, w, e ∙ ap (number_by_name p.message_names) c.2 ∙ sym m);
    }

other_by : (p : SpecValue) (name : Name) (names : List Name) → All (Contains p.message_names) names → IsOfOther p name names
    → IsNameOfOther p.message_names name (map (number_by_name p.message_names) names)
other_by p name names known h =
    let n = number_there p.message_names name h.there in
    record {
      message = number_by_name p.message_names name;
      within = n.within;
      other = unlisted_by (map (number_by_name p.message_names) names) (number_by_name p.message_names name) (λ c.
          let w : c.0 < length names = omega (arith, c.1, length-map names (number_by_name p.message_names)) in
          let e : number_by_name p.message_names (get_or names c.0 name) ≡ number_by_name p.message_names name =
          sym (get_or-map (number_by_name p.message_names) names c.0 name (number_by_name p.message_names name) w) ∙ c.2 in
          h.unlisted (c.0, w, same_name p.message_names (get_or names c.0 name) name (known c.0 name w) h.there e));
      same = n.same;
    }

repeated_of : (s : Joining) (name : Name) (names : List Name) → AreDistinct s.plan.message_names → All (Contains s.plan.message_names) names
    → IsMergeRepeated s.plan name (map (number_by_name s.plan.message_names) names) → IsRepeated s (Merge name names)
repeated_of s name names distinct known (inl h) = inl (twice_of s.plan.message_names names known h)
repeated_of s name names distinct known (inr h) = inr (other_of s.plan name names distinct h)

repeated_by : (s : Joining) (name : Name) (names : List Name) → All (Contains s.plan.message_names) names → IsRepeated s (Merge name names)
    → IsMergeRepeated s.plan name (map (number_by_name s.plan.message_names) names)
repeated_by s name names known (inl h) = inl (twice_by s.plan.message_names names h)
repeated_by s name names known (inr h) = inr (other_by s.plan name names known h)

pub merge_refused : (s : Joining) (name : Name) (names : List Name) (listed : List ℕ) (fault : BuildFault) → AreDistinct s.plan.message_names → IsGathered s.plan names listed
    → IsMergeRefused s.plan name listed fault → Refuses s (Merge name names) (stop_for fault)
merge_refused s name names listed Repeated d g h =
    (g.agree, none_missing s.plan.message_names names g.known, repeated_of s name names d g.known (subst (IsMergeRepeated s.plan name) g.is h))
merge_refused s name names listed NoMemory d g h = tt
merge_refused s name names listed SelfLink d g h = absurd h
merge_refused s name names listed Cyclic d g h = absurd h
merge_refused s name names listed TooBig d g h = absurd h
merge_refused s name names listed (Limit what) d g h = absurd h

pub merge_accepted : (s : Joining) (name : Name) (names : List Name) (listed : List ℕ) → IsGathered s.plan names listed → (IsMergeRepeated s.plan name listed → ⊥) → IsAccepted s (Merge name names)
merge_accepted s name names listed g h = record {
  good = g.agree;
  known = none_missing s.plan.message_names names g.known;
  once = λ r. h (subst (IsMergeRepeated s.plan name) (sym g.is) (repeated_by s name names g.known r));
  free = λ x. x;
  room = λ what x. x;
}
