use Rattle.std.proofs.Common.{◌≡◌, ℕ, ◌+◌, ◌<◌, ◌^◌, Bool, true, false, cond, Option, Some, None, List, [], ◌∷◌, ◌++◌, length, refl, sym, ap, ◌∙◌, subst, arith, zero, suc}
use Rattle.std.specs.Prelude.{All, Result, Ok, Err, option_and_then, option_map, slice_get}
use Rattle.std.specs.Result.{result_ok}
use Rattle.std.specs.List.{list_all}
use Rattle.std.proofs.lemmas.List.{append_assoc, append-nil, length-append}
use Rattle.std.proofs.lemmas.List.Elements.{All-append, All-cons, All-head, All-tail, All-nil}
use Rattle.std.proofs.lemmas.List.Sums.{sum_by-cons}
use Rattle.pb_rules.specs.declared.Op.{Op}
use Rattle.pb_rules.specs.Linear.{Linear, Holds, IsModel}
use Rattle.pb_rules.specs.Operations.{Fault, KnowsLive, mentions, line_gives, small_number}
use Rattle.pb_rules.specs.Frames.{Line, derived, cover, Frame, IsFrame, Given, under, any_mentions, context_of, StandsUnder, with_derived, with_block, given_with, given_from, ids_of, ids_in, blocks_from, onto_some, derived_from}
use Rattle.pb_rules.proofs.Sound.{line_sound}
use Rattle.pb_rules.proofs.Closed.{models_front, models_back}

-- how a legal line goes on
pub data Goes (f : Frame) (g h : Given) : Line → Type 0 where
  by_ops : {ops : List Op} (c : Linear) → line_gives (context_of g) ops ≡ Ok c → h ≡ with_derived g c → Goes f g h (derived ops)
  by_block : {v : List ℕ} → list_all small_number v ≡ true → h ≡ with_block f g v → Goes f g h (cover v)

-- a legal line goes by its operations or by its block
pub goes : (f : Frame) (g h : Given) (l : Line) → given_with f g l ≡ Some h → Goes f g h l
goes f g h (derived ops) e = go (line_gives (context_of g) ops) refl e
  where
    go : (r : Result Linear Fault) → line_gives (context_of g) ops ≡ r → option_map (with_derived g) (result_ok r) ≡ Some h → Goes f g h (derived ops)
    go (Err why) q e = absurd (cc)
    go (Ok c) q e = by_ops c q (cc)
goes f g h (cover v) e = go (list_all small_number v) refl e
  where
    go : (o : Bool) → list_all small_number v ≡ o → cond o (Some (with_block f g v)) None ≡ Some h → Goes f g h (cover v)
    go false q e = absurd (cc)
    go true q e = by_block q (cc)

-- what lines give, first line first
pub first_line : (f : Frame) (g h : Given) (l : Line) (ls : List Line) → given_from f g (l ∷ ls) ≡ Some h → (m : Given) × (given_with f g l ≡ Some m) × (given_from f m ls ≡ Some h)
first_line f g h l ls e = go (given_with f g l) refl e
  where
    go : (o : Option Given) → given_with f g l ≡ o → option_and_then (λ k. given_from f k ls) o ≡ Some h → (m : Given) × (given_with f g l ≡ Some m) × (given_from f m ls ≡ Some h)
    go None q e = absurd (cc)
    go (Some m) q e = (m, q, e)

-- lines after lines
pub given-append : (f : Frame) (g h : Given) (ls ms : List Line) → given_from f g ls ≡ Some h → given_from f g (ls ++ ms) ≡ given_from f h ms
given-append f g h [] ms e = let q : g ≡ h = cc in ap (λ k. given_from f k ms) q
given-append f g h (l ∷ ls) ms e =
    let s = first_line f g h l ls e in
    ap (option_and_then (λ k. given_from f k (ls ++ ms))) s.1 ∙ given-append f s.0 h ls ms s.2

-- where lines are legal, those in front are
pub given_front : (f : Frame) (g h : Given) (ls ms : List Line) → given_from f g (ls ++ ms) ≡ Some h → (m : Given) × (given_from f g ls ≡ Some m) × (given_from f m ms ≡ Some h)
given_front f g h [] ms e = (g, refl, e)
given_front f g h (l ∷ ls) ms e =
    let s = first_line f g h l (ls ++ ms) e in
    let r = given_front f s.0 h ls ms s.2 in
    (r.0, ap (option_and_then (λ k. given_from f k ls)) s.1 ∙ r.1, r.2)

-- one derived line more gives one constraint more
pub given-push : (f : Frame) (g h : Given) (ls : List Line) (ops : List Op) (c : Linear) → given_from f g ls ≡ Some h → line_gives (context_of h) ops ≡ Ok c
    → given_from f g (ls ++ derived ops ∷ []) ≡ Some (with_derived h c)
given-push f g h ls ops c e k = given-append f g h ls (derived ops ∷ []) e ∙ ap (λ (r : Result Linear Fault). option_and_then (λ k. given_from f k []) (option_map (with_derived h) (result_ok r))) k

-- one cover more gives its block
pub given-cover : (f : Frame) (g h : Given) (ls : List Line) (v : List ℕ) → given_from f g ls ≡ Some h → list_all small_number v ≡ true → given_from f g (ls ++ cover v ∷ []) ≡ Some (with_block f h v)
given-cover f g h ls v e k = given-append f g h ls (cover v ∷ []) e ∙ ap (λ o. option_and_then (λ k. given_from f k []) (cond o (Some (with_block f h v)) None)) k

-- the derived constraints of lines after lines
pub derived-append : (f : Frame) (g h : Given) (ls ms : List Line) → given_from f g ls ≡ Some h → derived_from f g (ls ++ ms) ≡ derived_from f g ls ++ derived_from f h ms
derived-append f g h [] ms e = let q : g ≡ h = cc in ap (λ k. derived_from f k ms) q
derived-append f g h (l ∷ ls) ms e =
    let s = first_line f g h l ls e in
    go l s.0 (goes f g s.0 l s.1) (derived-append f s.0 h ls ms s.2)
  where
    go : (l : Line) (m : Given) → Goes f g m l → derived_from f m (ls ++ ms) ≡ derived_from f m ls ++ derived_from f h ms
        → derived_from f g (l ∷ (ls ++ ms)) ≡ derived_from f g (l ∷ ls) ++ derived_from f h ms
    go (derived ops) m (by_ops c q e) ih =
        let P : Given → Type 0 = λ m. derived_from f m (ls ++ ms) ≡ derived_from f m ls ++ derived_from f h ms in
        rw q (ap (λ cs. c ∷ cs) (subst P e ih))
    go (cover v) m (by_block q e) ih =
        let P : Given → Type 0 = λ m. derived_from f m (ls ++ ms) ≡ derived_from f m ls ++ derived_from f h ms in
        subst P e ih

-- a derived line more gives its constraint more
pub derived-push : (f : Frame) (g h : Given) (ls : List Line) (ops : List Op) (c : Linear) → given_from f g ls ≡ Some h → line_gives (context_of h) ops ≡ Ok c
    → derived_from f g (ls ++ derived ops ∷ []) ≡ derived_from f g ls ++ c ∷ []
derived-push f g h ls ops c e k =
    derived-append f g h ls (derived ops ∷ []) e ∙ ap (λ (r : Result Linear Fault). derived_from f g ls ++ onto_some (result_ok r) (λ c. [])) k

-- each line takes as many ids as it gives constraints
pub given-ids : (f : Frame) (g h : Given) (ls : List Line) → IsFrame f → given_from f g ls ≡ Some h → length h.constraints ≡ length g.constraints + ids_in ls
given-ids f g h [] frame e = let q : g ≡ h = cc in let n = ap (λ (k : Given). length k.constraints) q in omega arith
given-ids f g h (l ∷ ls) frame e =
    let s = first_line f g h l ls e in
    let a = given-ids f s.0 h ls frame s.2 in
    let b = go l s.0 (goes f g s.0 l s.1) in
    let c = sum_by-cons ids_of l ls in
    omega arith
  where
    go : (l : Line) (m : Given) → Goes f g m l → length m.constraints ≡ length g.constraints + ids_of l
    go (derived ops) m (by_ops c q e) = ap (λ (k : Given). length k.constraints) e ∙ length-append g.constraints (c ∷ [])
    go (cover v) m (by_block q e) =
        ap (λ (k : Given). length k.constraints) e ∙ length-append g.constraints (f.block (g.covers + 1) v) ∙ ap (λ n. length g.constraints + n) (frame.sized (g.covers + 1) v)

-- what was given stays at its place
pub given_grows : (f : Frame) (g h : Given) (ls : List Line) → given_from f g ls ≡ Some h → (more : List Linear) × (h.constraints ≡ g.constraints ++ more)
given_grows f g h [] e = let q : g ≡ h = cc in ([], ap (λ (k : Given). k.constraints) (sym q) ∙ sym (append-nil g.constraints))
given_grows f g h (l ∷ ls) e =
    let s = first_line f g h l ls e in
    let a = given_grows f s.0 h ls s.2 in
    let b = go l s.0 (goes f g s.0 l s.1) in
    (b.0 ++ a.0, a.1 ∙ ap (λ cs. cs ++ a.0) b.1 ∙ append_assoc g.constraints b.0 a.0)
  where
    go : (l : Line) (m : Given) → Goes f g m l → (more : List Linear) × (m.constraints ≡ g.constraints ++ more)
    go (derived ops) m (by_ops c q e) = (c ∷ [], ap (λ (k : Given). k.constraints) e)
    go (cover v) m (by_block q e) = (f.block (g.covers + 1) v, ap (λ (k : Given). k.constraints) e)

slice_front : (cs ds : List Linear) (i : ℕ) (c : Linear) → slice_get cs i ≡ Some c → slice_get (cs ++ ds) i ≡ Some c
slice_front [] ds i c h = absurd (cc)
slice_front (d ∷ cs) ds zero c h = h
slice_front (d ∷ cs) ds (suc i) c h = slice_front cs ds i c h

under_front : (cs ds : List Linear) (id : ℕ) (c : Linear) → under cs id ≡ Some c → under (cs ++ ds) id ≡ Some c
under_front cs ds zero c h = absurd (cc)
under_front cs ds (suc i) c h = slice_front cs ds i c h

-- what stands under an id stays there
pub given_stays : (f : Frame) (g h : Given) (ls : List Line) (id : ℕ) (c : Linear) → given_from f g ls ≡ Some h → StandsUnder (context_of g) id c → StandsUnder (context_of h) id c
given_stays f g h ls id c e k =
    let a = given_grows f g h ls e in
    record { small = k.small; there = ap (λ cs. under cs id) a.1 ∙ under_front g.constraints a.0 id c k.there }

slice_at : (xs : List Linear) (c : Linear) (ys : List Linear) → slice_get (xs ++ c ∷ ys) (length xs) ≡ Some c
slice_at [] c ys = refl
slice_at (x ∷ xs) c ys = slice_at xs c ys

-- the constraint behind others stands under the id that follows theirs
pub under_at : (xs : List Linear) (c : Linear) (ys : List Linear) (id : ℕ) → id ≡ length xs + 1 → under (xs ++ c ∷ ys) id ≡ Some c
under_at xs c ys id e =
    let q : id ≡ suc (length xs) = omega arith in
    ap (under (xs ++ c ∷ ys)) q ∙ slice_at xs c ys

-- a derived line's constraint stands under the next id
pub derived_stands : (g : Given) (c : Linear) (id : ℕ) → id < 2 ^ 63 → id ≡ length g.constraints + 1 → StandsUnder (context_of (with_derived g c)) id c
derived_stands g c id small e = record { small = small; there = under_at g.constraints c [] id e }

-- what stands in a list has what all of it have
pub under_holds : (P : Linear → Type 0) (cs : List Linear) → All P cs → (id : ℕ) (c : Linear) → under cs id ≡ Some c → P c
under_holds P cs all zero c e = absurd (cc)
under_holds P cs all (suc i) c e = go cs i all e
  where
    go : (cs : List Linear) (i : ℕ) → All P cs → slice_get cs i ≡ Some c → P c
    go [] i all e = absurd (cc)
    go (d ∷ cs) zero all e = let q : d ≡ c = cc in subst P q (All-head P d cs all)
    go (d ∷ cs) (suc i) all e = go cs i (All-tail P d cs all) e

-- in the context of what lines gave, each variable of each live constraint is there
pub given_knows : (g : Given) → KnowsLive (context_of g)
given_knows g zero c e x m = absurd (cc)
given_knows g (suc i) c e x m = go g.constraints i e
  where
    or_later : (b d : Bool) → d ≡ true → cond b true d ≡ true
    or_later true d h = refl
    or_later false d h = h

    go : (cs : List Linear) (i : ℕ) → slice_get cs i ≡ Some c → any_mentions cs x ≡ true
    go [] i e = absurd (cc)
    go (d ∷ cs) zero e =
        let q : d ≡ c = cc in
        let m' : mentions x d.terms ≡ true = ap (λ (k : Linear). mentions x k.terms) q ∙ m in
        rw m' refl
    go (d ∷ cs) (suc i) e = or_later (mentions x d.terms) (any_mentions cs x) (go cs i e)

-- a model of what is given and of the blocks to come is one of all that lines give
pub given_sound : (v : ℕ → Bool) (f : Frame) (g h : Given) (ls : List Line) → given_from f g ls ≡ Some h → IsModel g.constraints v → IsModel (blocks_from f g.covers ls) v → IsModel h.constraints v
given_sound v f g h [] e m b = let q : g ≡ h = cc in subst (λ (k : Given). IsModel k.constraints v) q m
given_sound v f g h (l ∷ ls) e m b =
    let s = first_line f g h l ls e in
    let n = go l s.0 (goes f g s.0 l s.1) b in
    given_sound v f s.0 h ls s.2 n.0 n.1
  where
    go : (l : Line) (k : Given) → Goes f g k l → IsModel (blocks_from f g.covers (l ∷ ls)) v → IsModel k.constraints v × IsModel (blocks_from f k.covers ls) v
    go (derived ops) k (by_ops c q e) b = (
      subst (λ (k : Given). IsModel k.constraints v) (sym e) (All-append (Holds v) g.constraints (c ∷ []) m
          (All-cons (Holds v) c [] (line_sound v (context_of g) ops c (under_holds (Holds v) g.constraints m) q) (All-nil (Holds v)))),
      subst (λ (k : Given). IsModel (blocks_from f k.covers ls) v) (sym e) b,
    )
    go (cover w) k (by_block q e) b = (
      subst (λ (k : Given). IsModel k.constraints v) (sym e) (All-append (Holds v) g.constraints (f.block (g.covers + 1) w) m (λ i d lt. front i d lt)),
      subst (λ (k : Given). IsModel (blocks_from f k.covers ls) v) (sym e) (λ i d lt. back i d lt),
    )
      where
        front : IsModel (f.block (g.covers + 1) w) v
        front = models_front v (f.block (g.covers + 1) w) (blocks_from f (g.covers + 1) ls) b

        back : IsModel (blocks_from f (g.covers + 1) ls) v
        back = models_back v (f.block (g.covers + 1) w) (blocks_from f (g.covers + 1) ls) b
