-- Chains of messages: what one message more, or a change that keeps who sends to whom, makes of them.
use Rattle.std.proofs.Common.{◌≡◌, ℕ, zero, suc, ◌+◌, ◌<◌, List, [], ◌∷◌, ◌++◌, length, get_or, map, arith, refl, sym, ◌∙◌, ap, subst, Contains, ◌⊎◌, inl, inr}
use Rattle.std.proofs.lemmas.List.{get_or-map, length-map}
use Rattle.std.proofs.lemmas.List.Elements.{Contains-append_left, Contains-push, Contains-push_cases, Contains-get_or}
use Rattle.spec_model.specs.Spec.{Message}
use Rattle.spec_model.specs.WellFormed.{Sends, Chain, Reaches, Leads, Follows, HasCycle}

pub sends_before : (ms : List Message) (m : Message) (a b : ℕ) → Sends ms a b → Sends (ms ++ m ∷ []) a b
sends_before ms m a b x = record { message = x.message; there = Contains-append_left ms (m ∷ []) x.message x.there; from = x.from; to = x.to }

-- a chain is one with a message more
pub chain_before : (ms : List Message) (m : Message) (n a c : ℕ) → Chain ms n a c → Chain (ms ++ m ∷ []) n a c
chain_before ms m zero a c e = e
chain_before ms m (suc n) a c p = (p.0, sends_before ms m a p.0 p.1, chain_before ms m n p.0 c p.2)

-- a task sends to another by an old message or by the new one
pub sends_cases : (ms : List Message) (m : Message) (a b : ℕ) → Sends (ms ++ m ∷ []) a b → (Sends ms a b) ⊎ ((m.sender ≡ a) × Contains m.receivers b)
sends_cases ms m a b x =
    elim (Contains-push_cases ms m x.message x.there) [
      | inl t ↦ inl (record { message = x.message; there = t; from = x.from; to = x.to })
      | inr e ↦ inr (ap (λ (k : Message). k.sender) e ∙ x.from, subst (λ (k : Message). Contains k.receivers b) (sym e) x.to)
    ]

-- a chain goes by old messages alone, or to the new one's sender and on from a receiver
pub chain_cases : (ms : List Message) (m : Message) (n a c : ℕ) → Chain (ms ++ m ∷ []) n a c → (Chain ms n a c) ⊎ (Reaches ms a m.sender × Leads ms m.receivers c)
chain_cases ms m zero a c e = inl e
chain_cases ms m (suc n) a c p = split (sends_cases ms m a p.0 p.1) (chain_cases ms m n p.0 c p.2)
  where
    split : ((Sends ms a p.0) ⊎ ((m.sender ≡ a) × Contains m.receivers p.0)) → ((Chain ms n p.0 c) ⊎ (Reaches ms p.0 m.sender × Leads ms m.receivers c)) → (Chain ms (suc n) a c)
        ⊎ (Reaches ms a m.sender × Leads ms m.receivers c)
    split (inl x) (inl q) = inl (p.0, x, q)
    split (inl x) (inr q) = inr (record { hops = suc q.0.hops; chain = (p.0, x, q.0.chain) }, q.1)
    split (inr x) (inl q) = inr (record { hops = 0; chain = sym x.0 }, record { start = p.0; among = x.1; reaches = record { hops = n; chain = q } })
    split (inr x) (inr q) = inr (record { hops = 0; chain = sym x.0 }, q.1)

pub chain_join : (ms : List Message) (n k a b c : ℕ) → Chain ms n a b → Chain ms k b c → Chain ms (n + k) a c
chain_join ms zero k a b c e q = let z : k ≡ 0 + k = omega arith in subst (λ (d : ℕ). Chain ms (0 + k) d c) (sym e) (subst (λ (i : ℕ). Chain ms i b c) z q)
chain_join ms (suc n) k a b c p q = let z : suc (n + k) ≡ suc n + k = omega arith in subst (λ (i : ℕ). Chain ms i a c) z (p.0, p.1, chain_join ms n k p.0 b c p.2 q)

-- without a cycle before, there is none where no chain leads from a receiver to the sender
pub still_none : (ms : List Message) (m : Message) → ¬ HasCycle ms → ¬ Leads ms m.receivers m.sender → ¬ HasCycle (ms ++ m ∷ [])
still_none ms m none shut x =
    elim (chain_cases ms m (suc x.more) x.task x.task x.chain) [
      | inl p ↦ none (record { task = x.task; more = x.more; chain = p })
      | inr q ↦ shut (record {
        start = q.1.start;
        among = q.1.among;
        reaches = record {
          hops = q.1.reaches.hops + q.0.hops;
          chain =
              chain_join ms q.1.reaches.hops q.0.hops q.1.start x.task m.sender q.1.reaches.chain q.0.chain;
        };
      })
    ]

-- a message closes a cycle where a chain leads from one of its receivers to its sender
pub closes_one : (ms : List Message) (m : Message) → Leads ms m.receivers m.sender → HasCycle (ms ++ m ∷ [])
closes_one ms m x = record {
  task = m.sender;
  more = x.reaches.hops;
  chain = (x.start, record { message = m; there = Contains-push ms m; from = refl; to = x.among }, chain_before ms m x.reaches.hops x.start m.sender x.reaches.chain);
}

-- fewer ways to go, fewer chains and fewer cycles
pub chain_within : (ms ks : List Message) → ((a b : ℕ) → Sends ms a b → Sends ks a b) → (n a c : ℕ) → Chain ms n a c → Chain ks n a c
chain_within ms ks h zero a c e = e
chain_within ms ks h (suc n) a c p = (p.0, h a p.0 p.1, chain_within ms ks h n p.0 c p.2)

-- messages that lead no further than others have no cycle where those have none
pub none_within : (ms ks : List Message) → ((a b : ℕ) → Sends ms a b → Sends ks a b) → ¬ HasCycle ks → ¬ HasCycle ms
none_within ms ks h none x = none (record { task = x.task; more = x.more; chain = chain_within ms ks h (suc x.more) x.task x.task x.chain })

-- a change of a message that keeps its sender and its receivers
pub record KeepsWay (f : Message → Message) : Type 0 where
  pub sender : (m : Message) → (f m).sender ≡ m.sender
  pub receivers : (m : Message) → (f m).receivers ≡ m.receivers

-- what messages send that were changed and kept their way, they sent before,
pub sends_mapped : (f : Message → Message) → KeepsWay f → (ms : List Message) (a b : ℕ) → Sends (map f ms) a b → Sends ms a b
sends_mapped f k ms a b x =
    let i = x.there.0 in
    let l : i < length ms = omega (arith, x.there.1, length-map ms f) in
    let none : Message = x.message in
    let m : Message = get_or ms i none in
    let e : f m ≡ x.message = sym (get_or-map f ms i none x.message l) ∙ x.there.2 in
    record {
      message = m;
      there = Contains-get_or ms i none l;
      from = sym (k.sender m) ∙ ap (λ (u : Message). u.sender) e ∙ x.from;
      to = subst (λ (xs : List ℕ). Contains xs b) (sym (ap (λ (u : Message). u.receivers) e) ∙ k.receivers m) x.to;
    }

-- and send still,
pub sends_to_mapped : (f : Message → Message) → KeepsWay f → (ms : List Message) (a b : ℕ) → Sends ms a b → Sends (map f ms) a b
sends_to_mapped f k ms a b x =
    let i = x.there.0 in
    record {
      message = f x.message;
      there = (i, omega (arith, x.there.1, length-map ms f), get_or-map f ms i x.message (f x.message) x.there.1 ∙ ap f x.there.2);
      from = k.sender x.message ∙ x.from;
      to = subst (λ (xs : List ℕ). Contains xs b) (sym (k.receivers x.message)) x.to;
    }

-- so they have no cycle where there was none
pub none_mapped : (f : Message → Message) → KeepsWay f → (ms : List Message) → ¬ HasCycle ms → ¬ HasCycle (map f ms)
none_mapped f k ms = none_within (map f ms) ms (sends_mapped f k ms)

-- ---- chains of at least one message

-- what a task reaches is the task or follows it
pub reaches_cases : (ms : List Message) (a c : ℕ) → Reaches ms a c → (a ≡ c) ⊎ Follows ms a c
reaches_cases ms a c r = go r.hops r.chain
  where
    go : (n : ℕ) → Chain ms n a c → (a ≡ c) ⊎ Follows ms a c
    go zero e = inl e
    go (suc n) p = inr (record { more = n; chain = p })

-- a task reaches itself,
pub reaches_itself : (ms : List Message) (a : ℕ) → Reaches ms a a
reaches_itself ms a = record { hops = 0; chain = refl }

-- and what follows it
pub reaches_from_follows : (ms : List Message) (a c : ℕ) → Follows ms a c → Reaches ms a c
reaches_from_follows ms a c f = record { hops = suc f.more; chain = f.chain }

-- one message more: who follows then
pub follows_cases : (ms : List Message) (m : Message) (a c : ℕ) → Follows (ms ++ m ∷ []) a c → (Follows ms a c) ⊎ (Reaches ms a m.sender × Leads ms m.receivers c)
follows_cases ms m a c f = elim (chain_cases ms m (suc f.more) a c f.chain) [ inl p ↦ inl (record { more = f.more; chain = p }) | inr q ↦ inr q ]

-- what follows a task follows it with a message more
pub follows_before : (ms : List Message) (m : Message) (a c : ℕ) → Follows ms a c → Follows (ms ++ m ∷ []) a c
follows_before ms m a c f = record { more = f.more; chain = chain_before ms m (suc f.more) a c f.chain }

-- and so does what the new message leads to, where its sender is reached
pub follows_by : (ms : List Message) (m : Message) (a c : ℕ) → Reaches ms a m.sender → Leads ms m.receivers c → Follows (ms ++ m ∷ []) a c
follows_by ms m a c r l =
    let by : Chain (ms ++ m ∷ []) (suc l.reaches.hops) m.sender c = (
      l.start,
      record { message = m; there = Contains-push ms m; from = refl; to = l.among },
      chain_before ms m l.reaches.hops l.start c l.reaches.chain,
    ) in
    let long : r.hops + suc l.reaches.hops ≡ suc (r.hops + l.reaches.hops) = omega arith in
    record {
      more = r.hops + l.reaches.hops;
      chain = subst (λ (n : ℕ). Chain (ms ++ m ∷ []) n a c) long (chain_join (ms ++ m ∷ []) r.hops (suc l.reaches.hops) a m.sender c (chain_before ms m r.hops a m.sender r.chain) by);
    }

-- the same ways to go, the same that follow
pub follows_within : (ms ks : List Message) → ((a b : ℕ) → Sends ms a b → Sends ks a b) → (a c : ℕ) → Follows ms a c → Follows ks a c
follows_within ms ks h a c f = record { more = f.more; chain = chain_within ms ks h (suc f.more) a c f.chain }
