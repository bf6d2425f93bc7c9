-- A search goes on: after a solve, and after a cover and its block.
use Rattle.std.proofs.Common.{◌≡◌, ◌≢◌, ℕ, zero, suc, ◌+◌, ◌-◌, ◌*◌, ◌<◌, ◌≤◌, ◌^◌, Bool, true, false, cond, eqb, ne_eqb, lt-ltb, Some, None, List, [], ◌∷◌, ◌++◌, length, get_or, take, map, drop, refl, sym, ap, ap₂, ◌∙◌, subst, arith}
use Rattle.std.specs.Prelude.{All, Contains}
use Rattle.std.specs.List.{list_all, count_by}
use Rattle.std.proofs.lemmas.Bool.{cases_lt}
use Rattle.std.proofs.lemmas.List.{same_from_push, append_assoc, append-nil, map-append, get_or_push, take_more, length-take, length-map, length_push, length-append}
use Rattle.std.proofs.lemmas.List.Elements.{All-append, All-head, All-tail, All-nil, All-cons}
use Rattle.std.proofs.lemmas.List.Sums.{sum_by-cons, sum_by-append}
use Rattle.pb_rules.specs.declared.Op.{Op}
use Rattle.pb_rules.specs.Linear.{Linear}
use Rattle.pb_rules.specs.Operations.{line_gives, small_number}
use Rattle.pb_rules.specs.Clauses.{contradiction}
use Rattle.pb_rules.specs.Frames.{Line, derived, cover, Frame, Given, context_of, base_of, with_block, with_derived, given_by, given_from, under, blocks_from, blocks_by, derived_from, derived_by, derived_count, is_derived, ids_in, ids_of}
use Rattle.pb_rules.proofs.Given.{under_at, Goes, by_ops, by_block, goes, first_line, given-append, given_front, given-cover, given-ids, derived-append, derived-push}
use Rattle.constraint_store.specs.Live.{Content}
use Rattle.proof_log.specs.Log.{LogValue, next_id}
use Rattle.spec_model.specs.Spec.{SpecValue, bits_of}
use Rattle.spec_model.specs.WellFormed.{IsWellFormed}
use Rattle.encode_model.specs.Encoding.{encoding}
use Rattle.encode_model.specs.Block.{total_weight, IsWithinWeights, block_of, cover_frame}
use Rattle.block_encode.specs.Laws.{variables_to}
use Rattle.block_encode.proofs.Adding.{total_small}
use Rattle.result_text.specs.Answers.{EntryValue, as_seen}
use Rattle.result_text.specs.declared.entries.Entry.{Entry}
use Rattle.front_model.proofs.Exact.{vector_long}
use Rattle.front_model.specs.Proofs.{IsClash, HasBelow, MayStand, Refute}
use Rattle.spec_model.proofs.Vectors.{at_most_itself}
use Rattle.front_model.proofs.Exact.{before_all}
use Rattle.front_model.specs.Fronts.{vector_in}
use Rattle.ordered_solver.specs.Solver.{SolverValue, Agrees, StandsIn, constraints_of, numbered, is_derived_id, IsGivenId}
use Rattle.ordered_solver.proofs.Agreeing.{numbered-push}
use Rattle.ordered_solver.specs.Answers.{IsRefutation, AreHonestSteps}
use Rattle.ordered_solver.proofs.Numbered.{numbered_back}
use Rattle.ordered_solver.proofs.KeptOn.{stands_on}
use Rattle.front_lists.specs.Lists.{FoundPrefix, IsNext, vectors_in, covers_of}
use Rattle.front_lists.specs.Laws.{searched}
use Rattle.front_lists.proofs.Searching.{next_is_found}
use Rattle.front_lists.proofs.Refuting.{vector_within, may_cover}
use Rattle.front_search.specs.Searches.{seen}
use Rattle.front_search.specs.Turns.{IsSearching, IsUnfinished}
use Rattle.proof_log.proofs.Solves.{honest_cover, honest_solve}
use Rattle.proof_log.specs.HonestLog.{EndsASolve, AreHonestSolves, IsHonestLog}

-- ---- covers and blocks of lines after lines

pub covers-append : (ls ms : List Line) → covers_of (ls ++ ms) ≡ covers_of ls ++ covers_of ms
covers-append [] ms = refl
covers-append (derived ops ∷ ls) ms = covers-append ls ms
covers-append (cover v ∷ ls) ms = ap (λ (us : List (List ℕ)). v ∷ us) (covers-append ls ms)

abbrev AllDerived : List Line → Type 0
AllDerived ls = All (λ l. is_derived l ≡ true) ls

pub covers_derived : (ls : List Line) → AllDerived ls → covers_of ls ≡ []
covers_derived [] h = refl
covers_derived (derived ops ∷ ls) h = covers_derived ls (All-tail (λ (l : Line). is_derived l ≡ true) (derived ops) ls h)
covers_derived (cover v ∷ ls) h = absurd (let e = All-head (λ (l : Line). is_derived l ≡ true) (cover v) ls h in cc)

blocks_derived : (f : Frame) (b : ℕ) (ls ms : List Line) → AllDerived ms → blocks_from f b (ls ++ ms) ≡ blocks_from f b ls
blocks_derived f b [] [] h = refl
blocks_derived f b [] (derived ops ∷ ms) h = blocks_derived f b [] ms (All-tail (λ (l : Line). is_derived l ≡ true) (derived ops) ms h)
blocks_derived f b [] (cover v ∷ ms) h = absurd (let e = All-head (λ (l : Line). is_derived l ≡ true) (cover v) ms h in cc)
blocks_derived f b (derived ops ∷ ls) ms h = blocks_derived f b ls ms h
blocks_derived f b (cover v ∷ ls) ms h = ap (λ (cs : List Linear). f.block (b + 1) v ++ cs) (blocks_derived f (b + 1) ls ms h)

blocks-cover : (f : Frame) (b : ℕ) (ls : List Line) (v : List ℕ) → blocks_from f b (ls ++ cover v ∷ []) ≡ blocks_from f b ls ++ f.block (b + length (covers_of ls) + 1) v
blocks-cover f b [] v =
    let e : b + 0 + 1 ≡ b + 1 = omega arith in
    append-nil (f.block (b + 1) v) ∙ sym (ap (λ (n : ℕ). f.block n v) e)
blocks-cover f b (derived ops ∷ ls) v = blocks-cover f b ls v
blocks-cover f b (cover u ∷ ls) v =
    let e : (b + 1) + length (covers_of ls) + 1 ≡ b + length (covers_of (cover u ∷ ls)) + 1 = omega arith in
    ap (λ (cs : List Linear). f.block (b + 1) u ++ cs) (blocks-cover f (b + 1) ls v ∙ ap (λ (n : ℕ). blocks_from f (b + 1) ls ++ f.block n v) e)
    ∙ sym (append_assoc (f.block (b + 1) u) (blocks_from f (b + 1) ls) (f.block (b + length (covers_of (cover u ∷ ls)) + 1) v))

-- how many covers were given
covers_counted : (f : Frame) (g h : Given) (ls : List Line) → given_from f g ls ≡ Some h → h.covers ≡ g.covers + length (covers_of ls)
covers_counted f g h [] e =
    let q : g ≡ h = cc in
    let p : g.covers ≡ h.covers = ap (λ (k : Given). k.covers) q in
    omega (arith, p)
covers_counted f g h (l ∷ ls) e =
    let s = first_line f g h l ls e in
    go l s.0 (goes f g s.0 l s.1) (covers_counted f s.0 h ls s.2)
  where
    go : (l : Line) (m : Given) → Goes f g m l → h.covers ≡ m.covers + length (covers_of ls) → h.covers ≡ g.covers + length (covers_of (l ∷ ls))
    go (derived ops) m (by_ops c q e) ih =
        let p : m.covers ≡ g.covers = ap (λ (k : Given). k.covers) e in
        omega (arith, p, ih)
    go (cover v) m (by_block q e) ih =
        let p : m.covers ≡ g.covers + 1 = ap (λ (k : Given). k.covers) e in
        omega (arith, p, ih)

-- ---- derived lines are counted

derived_count-append : (ls ms : List Line) → derived_count (ls ++ ms) ≡ derived_count ls + derived_count ms
derived_count-append ls ms = sum_by-append (λ (l : Line). cond (is_derived l) 1 0) ls ms

derived_count_all : (ls : List Line) → AllDerived ls → derived_count ls ≡ length ls
derived_count_all [] h = refl
derived_count_all (derived ops ∷ ls) h =
    omega (arith, sum_by-append (λ (l : Line). cond (is_derived l) 1 0) (derived ops ∷ []) ls, derived_count_all ls (All-tail (λ (l : Line). is_derived l ≡ true) (derived ops) ls h))
derived_count_all (cover v ∷ ls) h = absurd (let e = All-head (λ (l : Line). is_derived l ≡ true) (cover v) ls h in cc)

-- ---- after a solve

-- a log that went on by derived lines, in a solver that is else the same
pub record HasSolved (s : SpecValue) (old new : SolverValue) (ls : List Line) : Type 0 where
  pub variables_same : new.variables ≡ old.variables
  pub given_same : new.given ≡ old.given
  pub lines_are : new.log.lines ≡ old.log.lines ++ ls
  pub derived_each : AllDerived ls
  pub agrees : Agrees (cover_frame s) new

pub searching_solved : (s : SpecValue) (found : List EntryValue) (old new : SolverValue) (ls : List Line) → IsSearching s found old → HasSolved s old new ls → IsSearching s found new
searching_solved s found old new ls h x =
    let blocks : blocks_by (cover_frame s) new.log.lines ≡ blocks_by (cover_frame s) old.log.lines = ap (blocks_from (cover_frame s) 0) x.lines_are
    ∙ blocks_derived (cover_frame s) 0 old.log.lines ls x.derived_each in
    record {
      variables_are = x.variables_same ∙ h.variables_are;
      given_are = ap constraints_of x.given_same ∙ (h.given_are ∙ sym (ap (λ (cs : List Linear). encoding s ++ cs) blocks));
      covers_are =
          ap covers_of x.lines_are ∙ (covers-append old.log.lines ls ∙ (ap (λ (us : List (List ℕ)). covers_of old.log.lines ++ us) (covers_derived ls x.derived_each)
          ∙ (append-nil (covers_of old.log.lines) ∙ h.covers_are)));
      agrees = x.agrees;
      prefix = h.prefix;
    }

-- the derived lines so far, of which there were few
pub count_solved : (old new ls : List Line) → new ≡ old ++ ls → AllDerived ls → derived_count new ≡ derived_count old + length ls
count_solved old new ls e h = ap derived_count e ∙ omega (arith, derived_count-append old ls, derived_count_all ls h)

abbrev NoneContradicts : SpecValue → List Line → Type 0
NoneContradicts s ls = All (λ c. c ≢ contradiction) (derived_by (cover_frame s) ls)

none_solved : (s : SpecValue) (old new ls : List Line) (g : Given) → new ≡ old ++ ls → given_by (cover_frame s) old ≡ Some g → NoneContradicts s old
    → All (λ c. c ≢ contradiction) (derived_from (cover_frame s) g ls) → NoneContradicts s new
none_solved s old new ls g e legal h k =
    let f : Frame = cover_frame s in
    let both : derived_by f new ≡ derived_by f old ++ derived_from f g ls = ap (derived_by f) e ∙ derived-append f (base_of f) g old ls legal in
    subst (All (λ (c : Linear). c ≢ contradiction)) (sym both) (All-append (λ (c : Linear). c ≢ contradiction) (derived_by f old) (derived_from f g ls) h k)

-- honest lines of one solve more
pub honest_solved : (s : SpecValue) (budget : ℕ) (old new ls : List Line) (g : Given) → IsUnfinished s budget old → EndsASolve old → new ≡ old ++ ls → given_by (cover_frame s) old ≡ Some g
    → AreHonestSteps (cover_frame s) g (searched s old) ls → NoneContradicts s new × AreHonestSolves (cover_frame s) new
honest_solved s budget old new ls g h starts e legal x =
    (none_solved s old new ls g e legal h.none x.no_contradiction, subst (AreHonestSolves (cover_frame s)) (sym e) (honest_solve (cover_frame s) old ls g h.honest starts legal x.honest))

-- a log whose last derived line doesn't give `0 >= 1`, where none does
pub honest_log : (s : SpecValue) (ls : List Line) → NoneContradicts s ls → AreHonestSolves (cover_frame s) ls → IsHonestLog (cover_frame s) ls
honest_log s ls none honest = record {
  honest = honest;
  last = λ cs c e is.
      (let at : length cs < length (derived_by (cover_frame s) ls) = omega (arith, ap length e, length_push cs c) in
      let read : get_or (derived_by (cover_frame s) ls) (length cs) c ≡ c = ap (λ (ds : List Linear). get_or ds (length cs) c) e ∙ get_or_push cs c c (length cs) refl in
      none (length cs) c at (read ∙ is));
}

same_last : (cs : List Linear) (a b : Linear) → cs ++ a ∷ [] ≡ cs ++ b ∷ [] → a ≡ b
same_last cs a b q = (same_from_push cs cs a b q).1

-- the covers of a log may stand where they are the found vectors
pub covers_stand : (s : SpecValue) (found : List EntryValue) (ls : List Line) → FoundPrefix s found → covers_of ls ≡ vectors_in found → All (MayStand s (vectors_in found)) ls
covers_stand s found ls p covers = go ls (λ v c. subst (λ (us : List (List ℕ)). Contains us v) covers c)
  where
    go : (ms : List Line) → ((v : List ℕ) → Contains (covers_of ms) v → Contains (vectors_in found) v) → All (MayStand s (vectors_in found)) ms
    go [] h = All-nil (MayStand s (vectors_in found))
    go (derived ops ∷ ms) h = All-cons (MayStand s (vectors_in found)) (derived ops) ms tt (go ms h)
    go (cover v ∷ ms) h =
        let c : Contains (vectors_in found) v = h v (0, omega arith, refl) in
        let b : HasBelow (vectors_in found) v = record { vector = v; there = c; below = at_most_itself v } in
        All-cons (MayStand s (vectors_in found)) (cover v) ms (may_cover s found (vectors_in found) v p c b) (go ms (λ w k. h w (before_all v (covers_of ms) w k)))

-- a refutation of what is left refutes
pub refutes : (s : SpecValue) (found : List EntryValue) (old new ls : List Line) (g h : Given) (base : List Linear) → All (MayStand s (vectors_in found)) new → new ≡ old ++ ls → AllDerived ls
    → given_by (cover_frame s) old ≡ Some g → given_by (cover_frame s) new ≡ Some h → IsRefutation (cover_frame s) g base ls → Refute s (vectors_in found) new
refutes s found old new ls g h base stand e each legal whole r = go r.last r.split (at_last r.split)
  where
    at_last : ls ≡ r.steps ++ r.last ∷ [] → is_derived r.last ≡ true
    at_last q =
        let l : length r.steps < length (r.steps ++ r.last ∷ []) = omega (arith, length_push r.steps r.last) in
        let k : AllDerived (r.steps ++ r.last ∷ []) = subst AllDerived q each in
        subst (λ (x : Line). is_derived x ≡ true) (get_or_push r.steps r.last r.last (length r.steps) refl) (k (length r.steps) r.last l)

    go : (l : Line) → ls ≡ r.steps ++ l ∷ [] → is_derived l ≡ true → Refute s (vectors_in found) new
    go (cover v) q d = absurd (cc)
    go (derived ops) q d =
        let split : new ≡ (old ++ r.steps) ++ derived ops ∷ [] = e ∙ (ap (λ (ms : List Line). old ++ ms) q ∙ sym (append_assoc old r.steps (derived ops ∷ []))) in
        let front = given_front (cover_frame s) (base_of (cover_frame s)) h (old ++ r.steps) (derived ops ∷ []) (sym (ap (given_by (cover_frame s)) split) ∙ whole) in
        let mid = given_front (cover_frame s) (base_of (cover_frame s)) front.0 old r.steps front.1 in
        let same : g ≡ mid.0 = some_same g mid.0 (sym legal ∙ mid.1) in
        let steps : given_from (cover_frame s) g r.steps ≡ Some front.0 = subst (λ (k : Given). given_from (cover_frame s) k r.steps ≡ Some front.0) (sym same) mid.2 in
        let one = first_line (cover_frame s) front.0 h (derived ops) [] front.2 in
        last_of ops split front.0 front.1 steps (goes (cover_frame s) front.0 one.0 (derived ops) one.1)
        (subst (λ (ms : List Line). derived_from (cover_frame s) g ms ≡ derived_from (cover_frame s) g r.steps ++ contradiction ∷ []) q r.contradicts)
      where
        some_same : (a b : Given) → Some a ≡ Some b → a ≡ b
        some_same a b q = cc

        last_of : (ops : List Op) → new ≡ (old ++ r.steps) ++ derived ops ∷ [] → (m : Given) → given_by (cover_frame s) (old ++ r.steps) ≡ Some m → given_from (cover_frame s) g r.steps ≡ Some m
            → {k : Given} → Goes (cover_frame s) m k (derived ops) → derived_from (cover_frame s) g (r.steps ++ derived ops ∷ []) ≡ derived_from (cover_frame s) g r.steps ++ contradiction ∷ []
            → Refute s (vectors_in found) new
        last_of ops split m early steps (by_ops c q e) known =
            let push = derived-push (cover_frame s) g m r.steps ops c steps q in
            let is : c ≡ contradiction = same_last (derived_from (cover_frame s) g r.steps) c contradiction (sym push ∙ known) in
            record {
              covers = stand;
              early = old ++ r.steps;
              last = ops;
              whole = split;
              before = m;
              legal = early;
              clash = c;
              gives = q;
              clashes = subst IsClash (sym is) (record { no_terms = refl; asks = omega arith });
            }

-- ---- after a cover and its block

-- constraints that were given last stand under the ids from the next one on
numbered_stand : (g : Given) (id : ℕ) (early cs : List Linear) → g.constraints ≡ early ++ cs → id ≡ length early + 1 → id + length cs ≤ 2 ^ 63 → All (StandsIn (context_of g)) (numbered id cs)
numbered_stand g id early [] is e h k d l = absurd (omega arith)
numbered_stand g id early (c ∷ cs) is e h zero d l = record { small = omega arith; there = ap (λ (xs : List Linear). under xs id) is ∙ under_at early c cs id e }
numbered_stand g id early (c ∷ cs) is e h (suc k) d l =
    let len = length_push early c in
    numbered_stand g (id + 1) (early ++ c ∷ []) cs (is ∙ sym (append_assoc early (c ∷ []) cs)) (omega arith) (omega arith) k d (omega arith)

-- numbers within the weights are small
small_numbers : (s : SpecValue) (v : List ℕ) → IsWellFormed s → IsWithinWeights s v → list_all small_number v ≡ true
small_numbers s v wf within = go v (λ j l. omega (arith, within j l, total_small s j wf))
  where
    go : (v : List ℕ) → ((j : ℕ) → j < length v → get_or v j 0 ≤ 2 ^ 60) → list_all small_number v ≡ true
    go [] h = refl
    go (x ∷ v) h =
        let low : x ≤ 2 ^ 60 = h 0 (omega arith) in
        let here : small_number x ≡ true = lt-ltb x (2 ^ 63) (omega (arith, low)) in
        rw here (go v (λ j l. h (suc j) (omega (arith, l))))

pub mul-suc : (m n : ℕ) → (m + 1) * n ≡ m * n + n
mul-suc m n = grind arith

-- a solver that took a cover and its block
pub record HasCovered (s : SpecValue) (v : List ℕ) (id : ℕ) (old new : SolverValue) : Type 0 where
  pub variables_more : new.variables ≡ old.variables + length s.objectives
  pub next : id ≡ next_id old.log
  pub small : id + length v + 1 ≤ 2 ^ 63
  pub given_more : new.given ≡ old.given ++ numbered id (block_of s (length (covers_of old.log.lines) + 1) v)
  pub log_more : new.log ≡ record old.log { lines = old.log.lines ++ cover v ∷ [] }

pub small_vector : (s : SpecValue) (us : List (List ℕ)) (e : EntryValue) → IsWellFormed s → IsNext s us e → list_all small_number e.vector ≡ true
small_vector s us e wf next = small_numbers s e.vector wf (subst (IsWithinWeights s) next.stated (vector_within s (bits_of e.design)))

pub searching_covered : (s : SpecValue) (found : List EntryValue) (e : EntryValue) (id : ℕ) (old new : SolverValue) → IsWellFormed s → IsSearching s found old → IsNext s (vectors_in found) e
    → HasCovered s e.vector id old new → IsSearching s (found ++ e ∷ []) new
searching_covered s found e id old new wf h next x =
    let f : Frame = cover_frame s in
    let v : List ℕ = e.vector in
    let b : ℕ = length (covers_of old.log.lines) in
    let block : List Linear = block_of s (b + 1) v in
    let a = h.agrees in
    let g : Given = a.given in
    let lines_are : new.log.lines ≡ old.log.lines ++ cover v ∷ [] = ap (λ (l : LogValue). l.lines) x.log_more in
    let small : list_all small_number v ≡ true = small_vector s (vectors_in found) e wf next in
    let covers : g.covers ≡ b = omega (arith, covers_counted f (base_of f) g old.log.lines a.legal) in
    let after : Given = with_block f g v in
    let legal : given_by f (old.log.lines ++ cover v ∷ []) ≡ Some after = given-cover f (base_of f) g old.log.lines v a.legal small in
    let blocks : block_of s (g.covers + 1) v ≡ block = ap (λ (n : ℕ). block_of s (n + 1) v) covers in
    let place : id ≡ length g.constraints + 1 = omega (arith, x.next, a.fits, given-ids f (base_of f) g old.log.lines a.frame a.legal) in
    let sized : length block ≡ length v + 1 = a.frame.sized (b + 1) v in
    let old_stand : All (StandsIn (context_of after)) old.given = stands_on f g after (cover v ∷ []) old.given (given-cover f g g [] v refl small) a.stand in
    let new_there : All (StandsIn (context_of after)) (numbered id block) = numbered_stand after id g.constraints block (ap (λ (cs : List Linear). g.constraints ++ cs) blocks) place
    (omega (arith, x.small, sized)) in
    let len : length (found ++ e ∷ []) ≡ length found + 1 = length_push found e in
    let number : 0 + b + 1 ≡ b + 1 = omega arith in
    record {
      variables_are = x.variables_more ∙ omega (arith, h.variables_are, mul-suc (length found) (length s.objectives), ap (λ (n : ℕ). n * length s.objectives) len);
      given_are =
          ap constraints_of x.given_more ∙ (map-append (λ (c : Content). c.constraint) old.given (numbered id block) ∙ (ap₂ (λ (cs ds : List Linear). cs ++ ds) h.given_are (numbered_back id block)
          ∙ (append_assoc (encoding s) (blocks_by f old.log.lines) block ∙ sym (ap (λ (cs : List Linear). encoding s ++ cs)
          (ap (blocks_from f 0) lines_are ∙ (blocks-cover f 0 old.log.lines v ∙ ap (λ (n : ℕ). blocks_from f 0 old.log.lines ++ block_of s n v) number))))));
      covers_are = ap covers_of lines_are ∙ (covers-append old.log.lines (cover v ∷ []) ∙ (ap (λ (us : List (List ℕ)). us ++ v ∷ []) h.covers_are ∙ sym (map-append vector_in found (e ∷ []))));
      agrees = record {
        frame = a.frame;
        fits = a.fits ∙ sym (ap (λ (l : LogValue). l.first) x.log_more);
        given = after;
        legal = ap (given_by f) lines_are ∙ legal;
        stand = subst (All (StandsIn (context_of after))) (sym x.given_more) (All-append (StandsIn (context_of after)) old.given (numbered id block) old_stand new_there);
      };
      prefix = next_is_found s found e h.prefix next;
    }

pub count_covered : (old new : List Line) (v : List ℕ) → new ≡ old ++ cover v ∷ [] → derived_count new ≡ derived_count old
count_covered old new v e = ap derived_count e ∙ omega (arith, derived_count-append old (cover v ∷ []))

pub unfinished_covered : (s : SpecValue) (budget : ℕ) (v : List ℕ) (old new : List Line) (g : Given) → list_all small_number v ≡ true → given_by (cover_frame s) old ≡ Some g
    → new ≡ old ++ cover v ∷ [] → IsUnfinished s budget old → IsUnfinished s budget new
unfinished_covered s budget v old new g small legal e h = record {
  few = subst (λ (ls : List Line). derived_count ls < budget) (sym e) (omega (arith, h.few, derived_count-append old (cover v ∷ [])));
  none = none_solved s old new (cover v ∷ []) g e legal h.none (λ k d l. absurd (omega (arith, l)));
  honest = subst (AreHonestSolves (cover_frame s)) (sym e) (honest_cover (cover_frame s) old v small h.honest);
}

-- ---- the ids of a block are given ids

derived_past : (first : ℕ) (ls : List Line) (v : List ℕ) (id : ℕ) → first + ids_in ls ≤ id → is_derived_id first (ls ++ cover v ∷ []) id ≡ false
derived_past first [] v id h = refl
derived_past first (l ∷ ls) v id h = go l h (λ k q. derived_past k ls v id q)
  where
    go : (l : Line) → first + ids_in (l ∷ ls) ≤ id → ((k : ℕ) → k + ids_in ls ≤ id → is_derived_id k (ls ++ cover v ∷ []) id ≡ false) → is_derived_id first (l ∷ (ls ++ cover v ∷ [])) id ≡ false
    go (cover u) h r =
        let sum : ids_in (cover u ∷ ls) ≡ ids_of (cover u) + ids_in ls = sum_by-cons ids_of (cover u) ls in
        r (first + ids_of (cover u)) (omega (arith, h, sum))
    go (derived ops) h r =
        let sum : ids_in (derived ops ∷ ls) ≡ 1 + ids_in ls = sum_by-cons ids_of (derived ops) ls in
        let other : eqb id first ≡ false = ne_eqb id first (λ q. absurd (omega (arith, q, h, sum))) in
        rw other (r (first + 1) (omega (arith, h, sum)))

pub block_ids : (log : LogValue) (v : List ℕ) (i : ℕ) → i < length v + 1 → 0 < next_id log → IsGivenId (record log { lines = log.lines ++ cover v ∷ [] }) (next_id log + i)
block_ids log v i l some = record {
  from_one = omega (arith, some);
  before_next = omega (arith, l, sum_by-append ids_of log.lines (cover v ∷ []));
  not_derived = derived_past log.first log.lines v (next_id log + i) (omega arith);
}

-- ---- what the calls leave, said of the solver

next_long : (s : SpecValue) (us : List (List ℕ)) (e : EntryValue) → IsNext s us e → length e.vector ≡ length s.objectives
next_long s us e h = sym (ap length h.stated) ∙ vector_long s (bits_of e.design)

pub vector_fits : (s : SpecValue) (us : List (List ℕ)) (e : EntryValue) (v : List ℕ) → IsNext s us e → v ≡ e.vector → (length v ≡ length s.objectives) × IsWithinWeights s v
vector_fits s us e v h q = (ap length q ∙ next_long s us e h, subst (IsWithinWeights s) (h.stated ∙ sym q) (vector_within s (bits_of e.design)))

pub numbered_next : (first : ℕ) (cs : List Linear) (i id : ℕ) (x : Linear) → i < length cs → x ≡ get_or cs i x → id ≡ first + i
    → numbered first (take (i + 1) cs) ≡ numbered first (take i cs) ++ record { constraint = x; proof_id = id } ∷ []
numbered_next first cs i id x l read e =
    let t : take (i + 1) cs ≡ take i cs ++ x ∷ [] = take_more cs i x l ∙ ap (λ (c : Linear). take i cs ++ c ∷ []) (sym read) in
    let n : first + length (take i cs) ≡ id = omega (arith, l, e, length-take i cs) in
    ap (numbered first) t ∙ (numbered-push first (take i cs) x ∙ ap (λ (m : ℕ). numbered first (take i cs) ++ record { constraint = x; proof_id = m } ∷ []) n)

pub given_next : (start now next : SolverValue) (first : ℕ) (cs : List Linear) (i id : ℕ) (x : Linear) → i < length cs → x ≡ get_or cs i x → id ≡ first + i
    → now ≡ record start { given = start.given ++ numbered first (take i cs) } → next ≡ record now { given = now.given ++ record { constraint = x; proof_id = id } ∷ [] }
    → next ≡ record start { given = start.given ++ numbered first (take (i + 1) cs) }
given_next start now next first cs i id x l read e is step =
    let one : List Content = record { constraint = x; proof_id = id } ∷ [] in
    step ∙ (ap (λ (sv : SolverValue). record sv { given = sv.given ++ one }) is
    ∙ ap (λ (ds : List Content). record start { given = ds }) (append_assoc start.given (numbered first (take i cs)) one
    ∙ ap (λ (ds : List Content). start.given ++ ds) (sym (numbered_next first cs i id x l read e))))

pub block_given : (log new : LogValue) (v : List ℕ) (first i : ℕ) → new ≡ record log { lines = log.lines ++ cover v ∷ [] } → first ≡ next_id log → 0 < next_id log → i < length v + 1
    → IsGivenId new (first + i)
block_given log new v first i e n some l = subst (λ (k : ℕ). IsGivenId new (k + i)) (sym n) (subst (λ (w : LogValue). IsGivenId w (next_id log + i)) (sym e) (block_ids log v i l some))

pub first_some : (s : SpecValue) (solver : SolverValue) → Agrees (cover_frame s) solver → 0 < next_id solver.log
first_some s solver a = omega (arith, a.fits)

pub covered_by : (s : SpecValue) (v : List ℕ) (id k : ℕ) (old one two new : SolverValue) (block : List Linear) → one ≡ record old { log = record old.log { lines = old.log.lines ++ cover v ∷ [] } }
    → two ≡ record one { variables = one.variables + k } → new ≡ record two { given = two.given ++ numbered id block }
    → k ≡ length s.objectives → id ≡ next_id old.log → id + length v + 1 ≤ 2 ^ 63 → block ≡ block_of s (length (covers_of old.log.lines) + 1) v → HasCovered s v id old new
covered_by s v id k old one two new block a b c ek n small e = record {
  variables_more = ap (λ (sv : SolverValue). sv.variables) c ∙ (ap (λ (sv : SolverValue). sv.variables) b ∙ (ap (λ (sv : SolverValue). sv.variables + k) a ∙ ap (λ (m : ℕ). old.variables + m) ek));
  next = n;
  small = small;
  given_more = ap (λ (sv : SolverValue). sv.given) c ∙ (ap (λ (sv : SolverValue). sv.given ++ numbered id block) (b ∙ ap (λ (sv : SolverValue). record sv { variables = sv.variables + k }) a)
      ∙ ap (λ (cs : List Linear). old.given ++ numbered id cs) e);
  log_more = ap (λ (sv : SolverValue). sv.log) c ∙ (ap (λ (sv : SolverValue). sv.log) b ∙ ap (λ (sv : SolverValue). sv.log) a);
}

pub covers_many : (s : SpecValue) (found : List Entry) (solver : SolverValue) → IsSearching s (seen found) solver → length (covers_of solver.log.lines) ≡ length found
covers_many s found solver h = ap length h.covers_are ∙ (length-map (seen found) vector_in ∙ length-map found as_seen)

-- the ids of a block are below 2^63, where the log has room for a further line
pub block_small : (log new : LogValue) (v : List ℕ) (id : ℕ) → new ≡ record log { lines = log.lines ++ cover v ∷ [] } → id ≡ next_id log → next_id new < 2 ^ 63 → id + length v + 1 ≤ 2 ^ 63
block_small log new v id e n room =
    let after : next_id new ≡ next_id (record log { lines = log.lines ++ cover v ∷ [] }) = ap next_id e in
    omega (arith, after, n, room, sum_by-append ids_of log.lines (cover v ∷ []))
