-- The arcs of a graph as messages behind others: they close no cycle, since the arcs of the graph make none.
use Rattle.std.proofs.Common.{◌≡◌, ℕ, zero, suc, ◌+◌, ◌<◌, List, [], ◌∷◌, ◌++◌, length, take, drop, get_or, map, refl, sym, ap, subst, ◌∙◌, arith, inl, inr, Contains, All}
use Rattle.std.proofs.lemmas.List.{get_or-map, length-map, map-append, map_push, take_more, take-append-drop}
use Rattle.std.proofs.lemmas.List.Elements.{All-contains, Contains-append_cases, Contains-append_left}
use Rattle.spec_model.specs.Spec.{Message}
use Rattle.spec_model.specs.WellFormed.{Sends, Chain, Leads, HasCycle}
use Rattle.spec_model.proofs.Chains.{closes_one, none_within}
use Rattle.tgff_reader.specs.Reaching.{messages_of, arc_message as own_message}
use Rattle.tgff_reader.specs.declared.file.TgffArc.{TgffArc}
use Rattle.tgff_reader.proofs.Reached.{among_one}
use Rattle.graph_plan.specs.Graphs.{planned_message}
use Rattle.graph_plan.specs.Room.{SendsBefore}

abbrev no_arc : TgffArc
no_arc = record { name = []; from = 0; to = 0; kind = 0 }

-- a message of the graph's goes where an arc goes
pub record SendsBack (first : ℕ) (arcs : List TgffArc) (a b : ℕ) : Type 0 where
  pub task : ℕ
  pub is : b ≡ first + task
  pub sends : Sends (messages_of arcs) a task

by_arc : (first : ℕ) (arcs : List TgffArc) (a b : ℕ) (m : Message) → Contains (map (planned_message first) arcs) m → m.sender ≡ first + a → Contains m.receivers b → SendsBack first arcs a b
by_arc first arcs a b m t from to =
    let i = t.0 in
    let l : i < length arcs = omega (arith, t.1, length-map arcs (planned_message first)) in
    let arc : TgffArc = get_or arcs i no_arc in
    let e : planned_message first arc ≡ m = sym (get_or-map (planned_message first) arcs i no_arc m l) ∙ t.2 in
    let leaves : first + arc.from ≡ first + a = ap (λ (k : Message). k.sender) e ∙ from in
    let enters : Contains ((first + arc.to) ∷ []) b = subst (λ (k : Message). Contains k.receivers b) (sym e) to in
    record {
      task = arc.to;
      is = sym (among_one (first + arc.to) b enters);
      sends = record {
        message = own_message arc;
        there = (i, omega (arith, l, length-map arcs own_message), get_or-map own_message arcs i no_arc (own_message arc) l);
        from = omega (arith, leaves);
        to = (0, omega arith, refl);
      };
    }

sends_back : (first : ℕ) (older : List Message) (arcs : List TgffArc) (a b : ℕ) → All (SendsBefore first) older → Sends (older ++ map (planned_message first) arcs) (first + a) b
    → SendsBack first arcs a b
sends_back first older arcs a b before x =
    elim (Contains-append_cases older (map (planned_message first) arcs) x.message x.there) [
      | inl t ↦ let low : x.message.sender < first = All-contains (SendsBefore first) older x.message before t in absurd (omega (arith, low, x.from))
      | inr t ↦ by_arc first arcs a b x.message t x.from x.to
    ]

-- a chain from a task of the graph to another goes along its arcs
chain_back : (first : ℕ) (older : List Message) (arcs : List TgffArc) (n a c : ℕ) → All (SendsBefore first) older → Chain (older ++ map (planned_message first) arcs) n (first + a) (first + c)
    → Chain (messages_of arcs) n a c
chain_back first older arcs zero a c before e = omega (arith, e)
chain_back first older arcs (suc n) a c before p =
    let s = sends_back first older arcs a p.0 before p.1 in
    let on : Chain (older ++ map (planned_message first) arcs) n (first + s.task) (first + c) = subst (λ (b : ℕ). Chain (older ++ map (planned_message first) arcs) n b (first + c)) s.is p.2 in
    (s.task, s.sends, chain_back first older arcs n s.task c before on)

sends_more : (ms ks : List Message) (a b : ℕ) → Sends ms a b → Sends (ms ++ ks) a b
sends_more ms ks a b x = record { message = x.message; there = Contains-append_left ms ks x.message x.there; from = x.from; to = x.to }

-- arcs, cut behind one of them
cut : (arcs : List TgffArc) (i : ℕ) (arc : TgffArc) → i < length arcs → arc ≡ get_or arcs i arc → messages_of arcs ≡ (messages_of (take i arcs) ++ own_message arc ∷ [])
    ++ messages_of (drop (i + 1) arcs)
cut arcs i arc l at =
    let rest = messages_of (drop (i + 1) arcs) in
    let front : take (i + 1) arcs ≡ take i arcs ++ arc ∷ [] = take_more arcs i arc l ∙ ap (λ (x : TgffArc). take i arcs ++ x ∷ []) (sym at) in
    ap messages_of (sym (take-append-drop (i + 1) arcs))
    ∙ map-append own_message (take (i + 1) arcs) (drop (i + 1) arcs)
    ∙ ap (λ (xs : List TgffArc). messages_of xs ++ rest) front
    ∙ ap (λ (ms : List Message). ms ++ rest) (map_push own_message (take i arcs) arc)

-- no arc of a graph closes a cycle behind those before it and messages of tasks before the graph's
pub never_closes : (first : ℕ) (older : List Message) (arcs : List TgffArc) (i : ℕ) (arc : TgffArc) → All (SendsBefore first) older → ¬ HasCycle (messages_of arcs) → i < length arcs
    → arc ≡ get_or arcs i arc
    → Leads (older ++ map (planned_message first) (take i arcs)) ((first + arc.to) ∷ []) (first + arc.from) → ⊥
never_closes first older arcs i arc before none l at x =
    let so_far = take i arcs in
    let ms : List Message = messages_of so_far ++ own_message arc ∷ [] in
    let way : Chain (older ++ map (planned_message first) so_far) x.reaches.hops (first + arc.to) (first + arc.from) =
    subst (λ (s : ℕ). Chain (older ++ map (planned_message first) so_far) x.reaches.hops s (first + arc.from)) (sym (among_one (first + arc.to) x.start x.among)) x.reaches.chain in
    let lead : Leads (messages_of so_far) (arc.to ∷ []) arc.from = record {
      start = arc.to;
      among = (0, omega arith, refl);
      reaches = record { hops = x.reaches.hops; chain = chain_back first older so_far x.reaches.hops arc.to arc.from before way };
    } in
    let whole : ¬ HasCycle (ms ++ messages_of (drop (i + 1) arcs)) = subst (λ (ks : List Message). ¬ HasCycle ks) (cut arcs i arc l at) none in
    none_within ms (ms ++ messages_of (drop (i + 1) arcs)) (sends_more ms (messages_of (drop (i + 1) arcs))) whole (closes_one (messages_of so_far) (own_message arc) lead)
