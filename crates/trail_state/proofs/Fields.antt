use Rattle.std.proofs.Common.{◌≡◌, ◌≢◌, ℕ, ◌+◌, ◌<◌, ◌≤◌, ◌^◌, Bool, true, false, cond, eqb, ltb, Option, Some, None, List, [], ◌∷◌, ◌++◌, length, get_or, set, take, refl, sym, ap, ◌∙◌, subst, arith, is_some, is_none, map, replicate, count_by, ◌-◌, length-take, length-set, zero, suc, get_or-set_same, get_or-set_other, inl, inr}
use Rattle.std.proofs.lemmas.List.{length-replicate, take_more, take_more_set, get_or-take, ext_get_or, get_or-map, length-map, length-append, take-append-le, take-take, take_all, get_or_past, get_or_push}
use Rattle.std.proofs.lemmas.List.Sums.{sum_by-set, count_by-le-length, sum_by_push, sum_by-append}
use Rattle.std.proofs.lemmas.List.Folds.{sum_by-replicate}
use Rattle.std.proofs.lemmas.Bool.{cases_eq, cases_lt}
use Rattle.std.proofs.lemmas.Bool.Decides.{nat_tests}
use Rattle.pb_rules.specs.Literal.{Literal}
use Rattle.pb_constraints.specs.declared.ConId.{ConId}
use Rattle.trail_state.specs.Trail.{Entry, is_decision, level_of, level_in, value_in, reason_in, IsDistinct, reasoned, with_reason}
use Rattle.trail_state.specs.Fields.{pair_up, entries_of, IsTrail}
use Rattle.trail_state.proofs.Entries.{value_in-none, value_in_at, reason_none}
use Rattle.trail_state.proofs.Levels.{first_at, level_of-with_reason, level_in-with_reason}

abbrev none_of_ℕ : Option ℕ
none_of_ℕ = None

pub pair_up-push : (ls : List Literal) (rs : List (Option ConId)) (l : Literal) (r : Option ConId) → length ls ≡ length rs
    → pair_up (ls ++ l ∷ []) (rs ++ r ∷ []) ≡ pair_up ls rs ++ record { lit = l; reason = r } ∷ []
pair_up-push [] [] l r e = refl
pair_up-push [] (r' ∷ rs) l r e = absurd (omega arith)
pair_up-push (l' ∷ ls) [] l r e = absurd (omega arith)
pair_up-push (l' ∷ ls) (r' ∷ rs) l r e =
    let h : length ls ≡ length rs = omega arith in
    ap (λ (es : List Entry). record { lit = l'; reason = r' } ∷ es) (pair_up-push ls rs l r h)

pub length-pair_up : (ls : List Literal) (rs : List (Option ConId)) → length ls ≡ length rs → length (pair_up ls rs) ≡ length ls
length-pair_up [] rs e = refl
length-pair_up (l ∷ ls) [] e = absurd (omega arith)
length-pair_up (l ∷ ls) (r ∷ rs) e =
    let h : length ls ≡ length rs = omega arith in
    let g : length (pair_up ls rs) ≡ length ls = length-pair_up ls rs h in omega arith

pub get_or-pair_up : (ls : List Literal) (rs : List (Option ConId)) (k : ℕ) (d : Entry) → length ls ≡ length rs
    → get_or (pair_up ls rs) k d ≡ record { lit = get_or ls k d.lit; reason = get_or rs k d.reason }
get_or-pair_up [] [] k d e = refl
get_or-pair_up [] (r ∷ rs) k d e = absurd (omega arith)
get_or-pair_up (l ∷ ls) [] k d e = absurd (omega arith)
get_or-pair_up (l ∷ ls) (r ∷ rs) zero d e = refl
get_or-pair_up (l ∷ ls) (r ∷ rs) (suc k) d e =
    let h : length ls ≡ length rs = omega arith in get_or-pair_up ls rs k d h

pub length-entries : (ls : List Literal) (rs : List (Option ConId)) (n : ℕ) → n ≤ length ls → n ≤ length rs → length (entries_of ls rs n) ≡ n
length-entries ls rs n h h' =
    let a = length-take n ls in let b = length-take n rs in
    let c : length (take n ls) ≡ length (take n rs) = omega arith in
    let g = length-pair_up (take n ls) (take n rs) c in omega arith

pub get_or-entries : (ls : List Literal) (rs : List (Option ConId)) (n k : ℕ) (d : Entry) → n ≤ length ls → n ≤ length rs → k < n
    → get_or (entries_of ls rs n) k d ≡ record { lit = get_or ls k d.lit; reason = get_or rs k d.reason }
get_or-entries ls rs n k d h h' lt =
    let a = length-take n ls in let b = length-take n rs in
    let c : length (take n ls) ≡ length (take n rs) = omega arith in
    let l = get_or-take n ls k d.lit lt in
    let r = get_or-take n rs k d.reason lt in
    get_or-pair_up (take n ls) (take n rs) k d c ∙ cc

pub entries-push : (ls : List Literal) (rs : List (Option ConId)) (n : ℕ) (l : Literal) (r : Option ConId) → n < length ls → n < length rs
    → entries_of (set ls n l) (set rs n r) (n + 1) ≡ entries_of ls rs n ++ record { lit = l; reason = r } ∷ []
entries-push ls rs n l r h h' =
    let a = length-take n ls in let b = length-take n rs in
    let c : length (take n ls) ≡ length (take n rs) = omega arith in
    let x = take_more_set ls n l h in
    let y = take_more_set rs n r h' in
    let z = pair_up-push (take n ls) (take n rs) l r c in
    rw (x, y) z

-- one entry more, at the end
pub entries_more : (ls : List Literal) (rs : List (Option ConId)) (m : ℕ) (d : Entry) → m < length ls → m < length rs
    → entries_of ls rs (m + 1) ≡ entries_of ls rs m ++ record { lit = get_or ls m d.lit; reason = get_or rs m d.reason } ∷ []
entries_more ls rs m d h h' =
    let a = length-take m ls in let b = length-take m rs in
    let c : length (take m ls) ≡ length (take m rs) = omega arith in
    let x = take_more ls m d.lit h in
    let y = take_more rs m d.reason h' in
    let z = pair_up-push (take m ls) (take m rs) (get_or ls m d.lit) (get_or rs m d.reason) c in
    rw (x, y) z

-- how much the fields of a trail hold
pub record HasRoom (ls : List Literal) (rs : List (Option ConId)) (ps : List (Option ℕ)) (n : ℕ) : Type 0 where
  pub few : n ≤ length ps
  pub lits : n ≤ length ls
  pub reasons : n ≤ length rs
  pub entries : length (entries_of ls rs n) ≡ n

pub room : (ls : List Literal) (rs : List (Option ConId)) (ps : List (Option ℕ)) (n level : ℕ) → IsTrail ls rs ps n level → HasRoom ls rs ps n
room ls rs ps n level t =
    let le = count_by-le-length is_some ps in
    let few : n ≤ length ps = omega (arith, t.counted) in
    let lits : n ≤ length ls = omega (arith, t.lits_room) in
    let reasons : n ≤ length rs = omega (arith, t.reasons_room) in
    record { few = few; lits = lits; reasons = reasons; entries = length-entries ls rs n lits reasons }

-- what a trail's fields say of a variable
pub value_at : (ls : List Literal) (rs : List (Option ConId)) (ps : List (Option ℕ)) (n level : ℕ) → IsTrail ls rs ps n level → (x k : ℕ) (d : Literal) (r : Option ConId)
    → get_or ps x None ≡ Some k → (value_in (entries_of ls rs n) x ≡ Some (get_or ls k d).yes) × (reason_in (entries_of ls rs n) x ≡ get_or rs k r)
value_at ls rs ps n level t x k d r e =
    let f : Entry = record { lit = d; reason = r } in
    let b = room ls rs ps n level t in
    let lt : k < n = t.within x k e in
    let len = b.entries in
    let at : get_or (entries_of ls rs n) k f ≡ record { lit = get_or ls k d; reason = get_or rs k r } = get_or-entries ls rs n k f b.lits b.reasons lt in
    let w = value_in_at (entries_of ls rs n) x k f (omega arith) (ap (λ (g : Entry). g.lit.var) at ∙ t.same_var x k d e) (λ j g l q.
    let at-j = get_or-entries ls rs n j g b.lits b.reasons (omega arith) in
    let p : get_or ps (get_or ls j g.lit).var None ≡ Some j = t.placed j g.lit (omega arith) in
    let v : (get_or ls j g.lit).var ≡ x = sym (ap (λ (g : Entry). g.lit.var) at-j) ∙ q in
    let s : get_or ps x None ≡ Some j = rw (← v) p in
    cc) in
    (w.0 ∙ ap (λ (g : Entry). Some g.lit.yes) at, w.1 ∙ ap (λ (g : Entry). g.reason) at)

pub value_none : (ls : List Literal) (rs : List (Option ConId)) (ps : List (Option ℕ)) (n level : ℕ) → IsTrail ls rs ps n level → (x : ℕ) → get_or ps x None ≡ None
    → (value_in (entries_of ls rs n) x ≡ None)
value_none ls rs ps n level t x e =
    let b = room ls rs ps n level t in
    let len = b.entries in
    value_in-none (entries_of ls rs n) x (λ k d l q.
    let at-k = get_or-entries ls rs n k d b.lits b.reasons (omega arith) in
    let p : get_or ps (get_or ls k d.lit).var None ≡ Some k = t.placed k d.lit (omega arith) in
    let v : (get_or ls k d.lit).var ≡ x = sym (ap (λ (g : Entry). g.lit.var) at-k) ∙ q in
    let s : get_or ps x None ≡ Some k = rw (← v) p in
    cc)

-- a variable that there is not has no value
pub value_past : (ls : List Literal) (rs : List (Option ConId)) (ps : List (Option ℕ)) (n level : ℕ) → IsTrail ls rs ps n level → (x : ℕ) → length ps ≤ x → value_in (entries_of ls rs n) x ≡ None
value_past ls rs ps n level t x h = value_none ls rs ps n level t x (get_or_past ps x None h)

-- a variable without a value has no place
pub place_none : (ls : List Literal) (rs : List (Option ConId)) (ps : List (Option ℕ)) (n level : ℕ) → IsTrail ls rs ps n level → (x : ℕ) (d : Literal) (r : Option ConId)
    → value_in (entries_of ls rs n) x ≡ None → get_or ps x None ≡ None
place_none ls rs ps n level t x d r h =
    elim-place (get_or ps x None) refl
  where
    elim-place : (o : Option ℕ) → get_or ps x None ≡ o → get_or ps x None ≡ None
    elim-place None e = e
    elim-place (Some k) e = let w = value_at ls rs ps n level t x k d r e in cc

-- there is room for a variable without a value
pub room_for : (ps : List (Option ℕ)) (x : ℕ) → x < length ps → get_or ps x None ≡ None → (y : ℕ) → (count_by is_some ps < length ps) × (count_by is_some (set ps x (Some y)) ≡ count_by is_some ps + 1)
room_for ps x h e y =
    let s = sum_by-set (λ (o : Option ℕ). cond (is_some o) 1 0) ps x (Some y) None h in
    let s' = rw e at s in
    let b = count_by-le-length is_some (set ps x (Some y)) in
    let l = length-set ps x (Some y) in
    (omega arith, omega arith)

-- a push keeps a trail's fields tied together
pub IsTrail-push : (ls : List Literal) (rs : List (Option ConId)) (ps : List (Option ℕ)) (n level : ℕ) → IsTrail ls rs ps n level → (l : Literal) (r : Option ConId) (level' : ℕ)
    → l.var < length ps → value_in (entries_of ls rs n) l.var ≡ None → level' ≡ level + cond (is_none r) 1 0 → IsTrail (set ls n l) (set rs n r) (set ps l.var (Some n)) (n + 1) level'
IsTrail-push ls rs ps n level t l r level' in' free e =
    let empty : get_or ps l.var None ≡ None = place_none ls rs ps n level t l.var l r free in
    let more = room_for ps l.var in' empty n in
    let counted : count_by is_some ps ≡ n = t.counted in
    let lt : n < length ps = omega arith in
    let lits_room = t.lits_room in
    let reasons_room = t.reasons_room in
    let few = t.few in
    let len-ls = length-set ls n l in
    let len-rs = length-set rs n r in
    let len-ps = length-set ps l.var (Some n) in
    record {
      few = omega arith;
      lits_room = omega arith;
      reasons_room = omega arith;
      counted = more.1 ∙ ap (λ m. m + 1) counted;
      in_range = λ k d h. elim (cases_eq k n) [
        | inl q ↦ (let s : get_or (set ls n l) k d ≡ l = rw q (get_or-set_same ls n l d (omega arith)) in rw s (omega arith))
        | inr q ↦ (let s : get_or (set ls n l) k d ≡ get_or ls k d = get_or-set_other ls n k l d q in
            let m = t.in_range k d (omega arith) in rw s (omega arith))
      ];
      placed = λ k d h. elim (cases_eq k n) [
        | inl q ↦ (let s : get_or (set ls n l) k d ≡ l = rw q (get_or-set_same ls n l d (omega arith)) in
            rw s (get_or-set_same ps l.var (Some n) None in' ∙ ap (λ (m : ℕ). Some m) (sym q)))
        | inr q ↦ (let s : get_or (set ls n l) k d ≡ get_or ls k d = get_or-set_other ls n k l d q in
            let m = t.placed k d (omega arith) in
            let ne : (get_or ls k d).var ≢ l.var = λ z. (let m' : get_or ps l.var None ≡ Some k = rw (← z) m in absurd (cc)) in
            rw s (get_or-set_other ps l.var (get_or ls k d).var (Some n) None ne ∙ m))
      ];
      within = λ x k h. elim (cases_eq x l.var) [
        | inl q ↦ (let s : get_or (set ps l.var (Some n)) x None ≡ Some n = rw q (get_or-set_same ps l.var (Some n) None in') in
            let same' : k ≡ n = cc in omega arith)
        | inr q ↦ (let s : get_or (set ps l.var (Some n)) x None ≡ get_or ps x None = get_or-set_other ps l.var x (Some n) None q in
            let m = t.within x k (sym s ∙ h) in omega arith)
      ];
      same_var = λ x k d h. elim (cases_eq x l.var) [
        | inl q ↦ (let s : get_or (set ps l.var (Some n)) x None ≡ Some n = rw q (get_or-set_same ps l.var (Some n) None in') in
            let same' : k ≡ n = cc in
            let v : get_or (set ls n l) k d ≡ l = rw same' (get_or-set_same ls n l d (omega arith)) in
            ap (λ (m : Literal). m.var) v ∙ sym q)
        | inr q ↦ (let s : get_or (set ps l.var (Some n)) x None ≡ get_or ps x None = get_or-set_other ps l.var x (Some n) None q in
            let h' = sym s ∙ h in
            let m = t.within x k h' in
            let ne : k ≢ n = omega arith in
            let v : get_or (set ls n l) k d ≡ get_or ls k d = get_or-set_other ls n k l d ne in
            ap (λ (m : Literal). m.var) v ∙ t.same_var x k d h')
      ];
      level_is = e ∙ sym (ap level_of (entries-push ls rs n l r (omega arith) (omega arith)) ∙ sum_by_push (λ (f : Entry). cond (is_decision f) 1 0) (entries_of ls rs n)
          (record { lit = l; reason = r }) ∙ ap (λ m. m + cond (is_none r) 1 0) (sym t.level_is));
    }

pub room_and_level : (ls : List Literal) (rs : List (Option ConId)) (ps : List (Option ℕ)) (n level : ℕ) → IsTrail ls rs ps n level → (x : ℕ) (d : Literal) (r : Option ConId) → x < length ps
    → value_in (entries_of ls rs n) x ≡ None → (n < length ps) × (level ≤ n)
room_and_level ls rs ps n level t x d r in' free =
    let empty : get_or ps x None ≡ None = place_none ls rs ps n level t x d r free in
    let more = room_for ps x in' empty n in
    let b = room ls rs ps n level t in
    let le = count_by-le-length is_decision (entries_of ls rs n) in
    (omega (arith, t.counted), omega (arith, t.level_is, b.entries))

-- the literals of a trail's entries
pub map-pair_up : (ls : List Literal) (rs : List (Option ConId)) → length ls ≡ length rs → map (λ (e : Entry). e.lit) (pair_up ls rs) ≡ ls
map-pair_up [] rs e = refl
map-pair_up (l ∷ ls) [] e = absurd (omega arith)
map-pair_up (l ∷ ls) (r ∷ rs) e =
    let h : length ls ≡ length rs = omega arith in
    ap (λ (ms : List Literal). l ∷ ms) (map-pair_up ls rs h)

-- taking the last literal off keeps a trail's fields tied together
pub IsTrail-pop : (ls : List Literal) (rs : List (Option ConId)) (ps : List (Option ℕ)) (m level : ℕ) (d : Entry) → IsTrail ls rs ps (m + 1) level → (level' : ℕ)
    → level ≡ level' + cond (is_none (get_or rs m d.reason)) 1 0 → IsTrail ls rs (set ps (get_or ls m d.lit).var None) m level'
IsTrail-pop ls rs ps m level d t level' e =
    let x : ℕ = (get_or ls m d.lit).var in
    let here : get_or ps x None ≡ Some m = t.placed m d.lit (omega arith) in
    let in' : x < length ps = t.in_range m d.lit (omega arith) in
    let s = sum_by-set (λ (o : Option ℕ). cond (is_some o) 1 0) ps x None None in' in
    let s' = rw here at s in
    let counted : count_by is_some ps ≡ m + 1 = t.counted in
    let le = count_by-le-length is_some ps in
    let none : Option ℕ = None in
    let len = length-set ps x none in
    let lits_room = t.lits_room in
    let reasons_room = t.reasons_room in
    let few = t.few in
    let more = entries_more ls rs m d (omega arith) (omega arith) in
    record {
      few = omega arith;
      lits_room = omega arith;
      reasons_room = omega arith;
      counted = omega arith;
      in_range = λ k f h. (let b = t.in_range k f (omega arith) in omega arith);
      placed = λ k f h. (let b = t.placed k f (omega arith) in
          let ne : (get_or ls k f).var ≢ x = λ z. (let b' : get_or ps x None ≡ Some k = rw (← z) b in let q : m ≡ k = cc in absurd (omega arith)) in
          get_or-set_other ps x (get_or ls k f).var None None ne ∙ b);
      within = λ y k h. elim (cases_eq y x) [
        | inl q ↦ (let n : get_or (set ps x None) y None ≡ None = rw q (get_or-set_same ps x None None in') in absurd (cc))
        | inr q ↦ (let o = get_or-set_other ps x y None None q in
            let h' : get_or ps y None ≡ Some k = sym o ∙ h in
            let b = t.within y k h' in
            let v = t.same_var y k d.lit h' in
            let ne : k ≢ m = λ z. q (sym v ∙ ap (λ (j : ℕ). (get_or ls j d.lit).var) z) in
            omega arith)
      ];
      same_var = λ y k f h. elim (cases_eq y x) [
        | inl q ↦ (let n : get_or (set ps x None) y None ≡ None = rw q (get_or-set_same ps x None None in') in absurd (cc))
        | inr q ↦ (let o = get_or-set_other ps x y None None q in t.same_var y k f (sym o ∙ h))
      ];
      level_is =
          let count : level_of (entries_of ls rs (m + 1)) ≡ level_of (entries_of ls rs m) + cond (is_none (get_or rs m d.reason)) 1 0 = ap level_of more
          ∙ sum_by_push (λ (f : Entry). cond (is_decision f) 1 0) (entries_of ls rs m) (record { lit = get_or ls m d.lit; reason = get_or rs m d.reason }) in
          let level_is = t.level_is in omega arith;
    }

-- copies of one value, read anywhere, where it is the default too
pub same_at : {T : Type 0} → (v : T) → (n x : ℕ) → get_or (replicate n v) x v ≡ v
same_at v zero x = refl
same_at v (suc n) zero = refl
same_at v (suc n) (suc x) = same_at v n x

abbrev record_at : Literal → Option ConId → Entry
record_at m o = record { lit = m; reason = o }

-- the same from the code's side: l and r are what was read at the last place
pub IsTrail-pop_read : (ls : List Literal) (rs : List (Option ConId)) (ps : List (Option ℕ)) (n level : ℕ) → 0 < n → IsTrail ls rs ps n level → (l : Literal) (r : Option ConId)
    → l ≡ get_or ls (n - 1) l → r ≡ get_or rs (n - 1) r →
    (entries_of ls rs n ≡ entries_of ls rs (n - 1) ++ record { lit = l; reason = r } ∷ []) × (cond (is_none r) 1 0 ≤ level)
    × ((level' : ℕ) → level ≡ level' + cond (is_none r) 1 0 → IsTrail ls rs (set ps l.var None) (n - 1) level')
IsTrail-pop_read ls rs ps n level pos t l r el er =
    let d : Entry = record { lit = l; reason = r } in
    let u : n ≡ (n - 1) + 1 = omega arith in
    let P : ℕ → Type 0 = λ k. IsTrail ls rs ps k level in
    let t' : IsTrail ls rs ps ((n - 1) + 1) level = subst P u t in
    let b = room ls rs ps n level t in
    let lits = b.lits in
    let reasons = b.reasons in
    let more : entries_of ls rs ((n - 1) + 1) ≡ entries_of ls rs (n - 1) ++ record { lit = get_or ls (n - 1) l; reason = get_or rs (n - 1) r } ∷ [] =
    entries_more ls rs (n - 1) d (omega arith) (omega arith) in
    let read : record_at (get_or ls (n - 1) l) (get_or rs (n - 1) r) ≡ record_at l r = cc in
    let more' : entries_of ls rs n ≡ entries_of ls rs (n - 1) ++ record_at l r ∷ [] = ap (entries_of ls rs) u ∙ more ∙ ap (λ (e : Entry). entries_of ls rs (n - 1) ++ e ∷ []) read in
    let count : level_of (entries_of ls rs n) ≡ level_of (entries_of ls rs (n - 1)) + cond (is_none r) 1 0 = ap level_of more'
    ∙ sum_by_push (λ (f : Entry). cond (is_decision f) 1 0) (entries_of ls rs (n - 1)) (record_at l r) in
    let level_is = t.level_is in (
      more',
      omega arith,
      λ level' e.
          (let e' : level ≡ level' + cond (is_none (get_or rs (n - 1) r)) 1 0 = e ∙ ap (λ (o : Option ConId). level' + cond (is_none o) 1 0) er in
          let q = IsTrail-pop ls rs ps (n - 1) level d t' level' e' in
          let Q : Literal → Type 0 = λ m. IsTrail ls rs (set ps m.var None) (n - 1) level' in
          subst Q (sym el) q),
    )

pub used_positive : (ls : List Literal) (rs : List (Option ConId)) (ps : List (Option ℕ)) (n level : ℕ) → IsTrail ls rs ps n level → 0 < length (entries_of ls rs n) → 0 < n
used_positive ls rs ps n level t h = omega (arith, (room ls rs ps n level t).entries)

pub entries_in_range : (ls : List Literal) (rs : List (Option ConId)) (ps : List (Option ℕ)) (n level : ℕ) → IsTrail ls rs ps n level → (k : ℕ) (d : Entry) → k < length (entries_of ls rs n)
    → (get_or (entries_of ls rs n) k d).lit.var < length ps
entries_in_range ls rs ps n level t k d h =
    let b = room ls rs ps n level t in
    let len = b.entries in
    let lt : k < n = omega arith in
    let P : Entry → Type 0 = λ e. e.lit.var < length ps in
    subst P (sym (get_or-entries ls rs n k d b.lits b.reasons lt)) (t.in_range k d.lit lt)

pub distinct : (ls : List Literal) (rs : List (Option ConId)) (ps : List (Option ℕ)) (n level : ℕ) → IsTrail ls rs ps n level → IsDistinct (entries_of ls rs n)
distinct ls rs ps n level t k d h =
    let es : List Entry = entries_of ls rs n in
    let b = room ls rs ps n level t in
    let len-es = b.entries in
    let lt : k < n = omega arith in
    let x : ℕ = (get_or es k d).lit.var in
    let len = length-take k es in
    let at-k = get_or-entries ls rs n k d b.lits b.reasons lt in
    let p-k : get_or ps (get_or ls k d.lit).var None ≡ Some k = t.placed k d.lit lt in
    let v-k : (get_or ls k d.lit).var ≡ x = sym (ap (λ (g : Entry). g.lit.var) at-k) in
    let q-k : get_or ps x None ≡ Some k = rw (← v-k) p-k in
    value_in-none (take k es) x (λ j f l q.
    let l' : j < k = omega arith in
    let g : get_or (take k es) j f ≡ get_or es j f = get_or-take k es j f l' in
    let at-j = get_or-entries ls rs n j f b.lits b.reasons (omega arith) in
    let p-j : get_or ps (get_or ls j f.lit).var None ≡ Some j = t.placed j f.lit (omega arith) in
    let v-j : (get_or ls j f.lit).var ≡ x = sym (ap (λ (g : Entry). g.lit.var) (g ∙ at-j)) ∙ q in
    let q-j : get_or ps x None ≡ Some j = rw (← v-j) p-j in
    let e : j ≡ k = cc in
    omega arith)

-- before the last place its variable has no value
pub none_before_last : (ls : List Literal) (rs : List (Option ConId)) (ps : List (Option ℕ)) (n level : ℕ) → 0 < n → IsTrail ls rs ps n level → (l : Literal) (r : Option ConId)
    → l ≡ get_or ls (n - 1) l → r ≡ get_or rs (n - 1) r → value_in (entries_of ls rs (n - 1)) l.var ≡ None
none_before_last ls rs ps n level pos t l r el er =
    let e : Entry = record { lit = l; reason = r } in
    let es : List Entry = entries_of ls rs n in
    let fs : List Entry = entries_of ls rs (n - 1) in
    let b = room ls rs ps n level t in
    let all = b.entries in
    let lits = b.lits in
    let reasons = b.reasons in
    let len : length fs ≡ n - 1 = length-entries ls rs (n - 1) (omega arith) (omega arith) in
    let more : es ≡ fs ++ e ∷ [] = (IsTrail-pop_read ls rs ps n level pos t l r el er).0 in
    let first : take (n - 1) es ≡ fs = ap (take (n - 1)) more ∙ take-append-le (n - 1) fs (e ∷ []) (omega arith) ∙ take_all (n - 1) fs (omega arith) in
    let last : get_or es (n - 1) e ≡ e = ap (λ (us : List Entry). get_or us (n - 1) e) more ∙ get_or_push fs e e (n - 1) len in
    ap (λ (us : List Entry). value_in us l.var) (sym first) ∙ ap (λ (f : Entry). value_in (take (n - 1) es) f.lit.var) (sym last) ∙ distinct ls rs ps n level t (n - 1) e (omega arith)

-- other lists of literals and reasons with the same entries and room
pub IsTrail-room : (ls ls' : List Literal) (rs rs' : List (Option ConId)) (ps : List (Option ℕ)) (n level : ℕ) → IsTrail ls rs ps n level → length ps ≤ length ls' → length ps ≤ length rs'
    → take n ls' ≡ take n ls → take n rs' ≡ take n rs → IsTrail ls' rs' ps n level
IsTrail-room ls ls' rs rs' ps n level t room-ls room-rs same-ls same-rs =
    let at : (k : ℕ) (d : Literal) → k < n → get_or ls' k d ≡ get_or ls k d = λ k d h. sym (get_or-take n ls' k d h) ∙ ap (λ (ms : List Literal). get_or ms k d) same-ls ∙ get_or-take n ls k d h in
    record {
      few = t.few;
      lits_room = room-ls;
      reasons_room = room-rs;
      counted = t.counted;
      in_range = λ k d h. rw (at k d h) (t.in_range k d h);
      placed = λ k d h. rw (at k d h) (t.placed k d h);
      within = t.within;
      same_var = λ x k d h. rw (at k d (t.within x k h)) (t.same_var x k d h);
      level_is = t.level_is ∙ ap level_of (pair_up-same ls ls' rs rs' n same-ls same-rs);
    }
  where
    pair_up-same : (ls ls' : List Literal) (rs rs' : List (Option ConId)) (n : ℕ) → take n ls' ≡ take n ls → take n rs' ≡ take n rs → entries_of ls rs n ≡ entries_of ls' rs' n
    pair_up-same ls ls' rs rs' n a b = ap (λ (ms : List Literal). pair_up ms (take n rs)) (sym a) ∙ ap (pair_up (take n ls')) (sym b)

-- a list that was cut or filled up has the length asked for, and keeps its first elements
pub resized : {T : Type 0} (xs ys : List T) (d : T) (n m len : ℕ) → len ≡ length xs → ys ≡ take m xs ++ replicate (m - len) d → n ≤ m → n ≤ length xs → (length ys ≡ m) × (take n ys ≡ take n xs)
resized xs ys d n m len l e h h' =
    let a = length-take m xs in
    let b = length-replicate (m - len) d in
    let c = length-append (take m xs) (replicate (m - len) d) in
    let all : length (take m xs ++ replicate (m - len) d) ≡ m = omega arith in
    (ap length e ∙ all, ap (take n) e ∙ take-append-le n (take m xs) (replicate (m - len) d) (omega arith) ∙ take-take n m xs h)

-- more places, all empty, keep a trail's fields tied together
pub IsTrail-places : (ls : List Literal) (rs : List (Option ConId)) (ps : List (Option ℕ)) (n level m : ℕ) → IsTrail ls rs ps n level → length ps + m < 2 ^ 62 → length ps + m ≤ length ls
    → length ps + m ≤ length rs → IsTrail ls rs (ps ++ replicate m none_of_ℕ) n level
IsTrail-places ls rs ps n level m t few room-ls room-rs =
    let qs : List (Option ℕ) = ps ++ replicate m none_of_ℕ in
    let len : length qs ≡ length ps + m = (let a = length-append ps (replicate m none_of_ℕ) in let b = length-replicate m none_of_ℕ in omega arith) in
    let at : (x : ℕ) → get_or qs x None ≡ get_or ps x None = λ x. past ps m x in
    record {
      few = omega arith;
      lits_room = omega arith;
      reasons_room = omega arith;
      counted =
          let a = sum_by-append (λ (o : Option ℕ). cond (is_some o) 1 0) ps (replicate m none_of_ℕ) in
          let b = sum_by-replicate (λ (o : Option ℕ). cond (is_some o) 1 0) m none_of_ℕ in
          omega (arith, t.counted);
      in_range = λ k d h. (let b = t.in_range k d h in omega arith);
      placed = λ k d h. at (get_or ls k d).var ∙ t.placed k d h;
      within = λ x k h. t.within x k (sym (at x) ∙ h);
      same_var = λ x k d h. t.same_var x k d (sym (at x) ∙ h);
      level_is = t.level_is;
    }
  where
    past : (ps : List (Option ℕ)) (m x : ℕ) → get_or (ps ++ replicate m none_of_ℕ) x None ≡ get_or ps x None
    past [] m x = same_at none_of_ℕ m x
    past (p ∷ ps) m zero = refl
    past (p ∷ ps) m (suc x) = past ps m x

-- places that were filled up or, where memory was refused, are as before
pub IsTrail-grown : (ls : List Literal) (rs : List (Option ConId)) (ps qs : List (Option ℕ)) (n level m len : ℕ) (b : Bool) → len ≡ length ps → IsTrail ls rs ps n level → len ≤ m → m < 2 ^ 62
    → m ≤ length ls → m ≤ length rs → qs ≡ cond b (take m ps ++ replicate (m - len) none_of_ℕ) ps → IsTrail ls rs qs n level
IsTrail-grown ls rs ps qs n level m len true l t more few room-ls room-rs e =
    let P : List (Option ℕ) → Type 0 = λ us. IsTrail ls rs us n level in
    let all : take m ps ≡ ps = take_all m ps (omega arith) in
    subst P (sym (e ∙ ap (λ (us : List (Option ℕ)). us ++ replicate (m - len) none_of_ℕ) all)) (IsTrail-places ls rs ps n level (m - len) t (omega arith) (omega arith) (omega arith))
IsTrail-grown ls rs ps qs n level m len false l t more few room-ls room-rs e =
    let P : List (Option ℕ) → Type 0 = λ us. IsTrail ls rs us n level in
    subst P (sym e) t

-- a variable with a reason has a place
pub place_some : (ls : List Literal) (rs : List (Option ConId)) (ps : List (Option ℕ)) (n level : ℕ) → IsTrail ls rs ps n level → (x : ℕ) → is_none (reason_in (entries_of ls rs n) x) ≡ false
    → get_or ps x None ≡ None → ⊥
place_some ls rs ps n level t x some e =
    let r = reason_none (entries_of ls rs n) x (value_none ls rs ps n level t x e) in
    let s = rw r at some in cc

pub place_there : (ls : List Literal) (rs : List (Option ConId)) (ps : List (Option ℕ)) (n level : ℕ) → IsTrail ls rs ps n level → (x : ℕ) → is_none (reason_in (entries_of ls rs n) x) ≡ false
    → x < length ps
place_there ls rs ps n level t x some =
    elim (cases_lt x (length ps)) [
      | inl l ↦ l
      | inr g ↦ absurd (place_some ls rs ps n level t x some (get_or_past ps x None g))
    ]

-- the entries with another reason at the place of a variable
pub entries-reason : (ls : List Literal) (rs : List (Option ConId)) (ps : List (Option ℕ)) (n level : ℕ) → IsTrail ls rs ps n level → (x k : ℕ) (r : ConId) → get_or ps x None ≡ Some k
    → entries_of ls (set rs k (Some r)) n ≡ with_reason x r (entries_of ls rs n)
entries-reason ls rs ps n level t x k r e =
    let b = room ls rs ps n level t in
    let d : Entry = record { lit = record { var = x; yes = true }; reason = None } in
    let rs' : List (Option ConId) = set rs k (Some r) in
    let len-rs = length-set rs k (Some r) in
    let reasons' : n ≤ length rs' = omega (arith, b.reasons) in
    let len' = length-entries ls rs' n b.lits reasons' in
    let len = length-map (entries_of ls rs n) (reasoned x r) in
    ext_get_or d (entries_of ls rs' n) (with_reason x r (entries_of ls rs n)) (omega (arith, b.entries)) (λ i h.
    let lt : i < n = omega arith in
    let new = get_or-entries ls rs' n i d b.lits reasons' lt in
    let old = get_or-entries ls rs n i d b.lits b.reasons lt in
    let mapped = get_or-map (reasoned x r) (entries_of ls rs n) i d d (omega (arith, b.entries)) in
    new ∙ at i lt ∙ ap (reasoned x r) (sym old) ∙ sym mapped)
  where
    at : (i : ℕ) → i < n → record_at (get_or ls i (record { var = x; yes = true })) (get_or (set rs k (Some r)) i None)
        ≡ reasoned x r (record_at (get_or ls i (record { var = x; yes = true })) (get_or rs i None))
    at i lt =
        let d : Literal = record { var = x; yes = true } in
        let b = room ls rs ps n level t in
        elim (cases_eq i k) [
          | inl q ↦ (let s : get_or (set rs k (Some r)) i None ≡ Some r = rw q (get_or-set_same rs k (Some r) None (omega (arith, b.reasons))) in
              let v : (get_or ls i d).var ≡ x = rw q (t.same_var x k d e) in
              let hit : eqb (get_or ls i d).var x ≡ true = grind (arith, nat_tests) in
              rw (s, hit) refl)
          | inr ne ↦ (let s : get_or (set rs k (Some r)) i None ≡ get_or rs i None = get_or-set_other rs k i (Some r) None ne in
              let p = t.placed i d lt in
              let v : (get_or ls i d).var ≢ x = λ z. (let p' : get_or ps x None ≡ Some i = rw (← z) p in ne (cc)) in
              let miss : eqb (get_or ls i d).var x ≡ false = grind (arith, nat_tests) in
              rw (s, miss) refl)
        ]

-- no entry of a variable that has a reason is a decision
was_pushed : (ls : List Literal) (rs : List (Option ConId)) (ps : List (Option ℕ)) (n level : ℕ) → IsTrail ls rs ps n level → (x : ℕ) → is_none (reason_in (entries_of ls rs n) x) ≡ false
    → (j : ℕ) (d : Entry) → j < length (entries_of ls rs n) → (get_or (entries_of ls rs n) j d).lit.var ≡ x → is_decision (get_or (entries_of ls rs n) j d) ≡ false
was_pushed ls rs ps n level t x some j d h v =
    let es : List Entry = entries_of ls rs n in
    let P : ℕ → Type 0 = λ y. value_in (take j es) y ≡ None in
    let first = first_at es x j d h v (subst P v (distinct ls rs ps n level t j d h)) in
    ap is_none (sym first.reason) ∙ some

pub levels_reason : (ls : List Literal) (rs : List (Option ConId)) (ps : List (Option ℕ)) (n level : ℕ) → IsTrail ls rs ps n level → (x k : ℕ) (r : ConId) → get_or ps x None ≡ Some k
    → is_none (reason_in (entries_of ls rs n) x) ≡ false → (y : ℕ) → level_in (entries_of ls (set rs k (Some r)) n) y ≡ level_in (entries_of ls rs n) y
levels_reason ls rs ps n level t x k r e some y =
    ap (λ (es : List Entry). level_in es y) (entries-reason ls rs ps n level t x k r e) ∙ level_in-with_reason x r (entries_of ls rs n) y (was_pushed ls rs ps n level t x some)

-- another reason for a literal that has one keeps a trail's fields tied together
pub IsTrail-reason : (ls : List Literal) (rs : List (Option ConId)) (ps : List (Option ℕ)) (n level : ℕ) → IsTrail ls rs ps n level → (x k : ℕ) (r : ConId) → get_or ps x None ≡ Some k
    → is_none (reason_in (entries_of ls rs n) x) ≡ false → IsTrail ls (set rs k (Some r)) ps n level
IsTrail-reason ls rs ps n level t x k r e some =
    let len-rs = length-set rs k (Some r) in
    let es : List Entry = entries_of ls rs n in
    record {
      few = t.few;
      lits_room = t.lits_room;
      reasons_room = omega (arith, t.reasons_room);
      counted = t.counted;
      in_range = t.in_range;
      placed = t.placed;
      within = t.within;
      same_var = t.same_var;
      level_is = t.level_is ∙ sym (ap level_of (entries-reason ls rs ps n level t x k r e) ∙ level_of-with_reason x r es (was_pushed ls rs ps n level t x some));
    }

-- a variable with a place is among the first entries where its place is
pub among_first : (ls : List Literal) (rs : List (Option ConId)) (ps : List (Option ℕ)) (n level : ℕ) → IsTrail ls rs ps n level → (x k count : ℕ) → get_or ps x None ≡ Some k
    → ltb k count ≡ is_some (value_in (take count (entries_of ls rs n)) x)
among_first ls rs ps n level t x k count e = elim (cases_lt k count) [
  | inl lt ↦ (
      let at : get_or (take count es) k f ≡ get_or es k f = get_or-take count es k f lt in
      let w = value_in_at (take count es) x k f (omega (arith, length-take count es, here)) (ap (λ (g : Entry). g.lit.var) at ∙ var-is f)
      (λ j g l q. only j g (omega (arith, length-take count es, l)) (sym (ap (λ (g : Entry). g.lit.var) (get_or-take count es j g (omega (arith, length-take count es, l)))) ∙ q)) in
      let test : ltb k count ≡ true = grind (arith, nat_tests) in
      test ∙ sym (ap is_some w.0))
  | inr ge ↦ (
      let none = value_in-none (take count es) x (λ j g l q. (
      let z = only j g (omega (arith, length-take count es, l)) (sym (ap (λ (g : Entry). g.lit.var) (get_or-take count es j g (omega (arith, length-take count es, l)))) ∙ q) in
      omega (arith, length-take count es, l, ge, z))) in
      let test : ltb k count ≡ false = grind (arith, nat_tests) in
      test ∙ sym (ap is_some none))
]
  where
    es : List Entry
    es = entries_of ls rs n

    f : Entry
    f = record { lit = record { var = 0; yes = true }; reason = None }

    b : HasRoom ls rs ps n
    b = room ls rs ps n level t

    here : k < length es
    here = omega (arith, t.within x k e, b.entries)

    var-is : (d : Entry) → (get_or es k d).lit.var ≡ x
    var-is d = ap (λ (g : Entry). g.lit.var) (get_or-entries ls rs n k d b.lits b.reasons (t.within x k e)) ∙ t.same_var x k d.lit e

    only : (j : ℕ) (g : Entry) → j < length es → (get_or es j g).lit.var ≡ x → j ≡ k
    only j g l q =
        let lt : j < n = omega (arith, l, b.entries) in
        let at-j = get_or-entries ls rs n j g b.lits b.reasons lt in
        let p : get_or ps (get_or ls j g.lit).var None ≡ Some j = t.placed j g.lit lt in
        let v : (get_or ls j g.lit).var ≡ x = sym (ap (λ (g : Entry). g.lit.var) at-j) ∙ q in
        let s : get_or ps x None ≡ Some j = rw (← v) p in
        cc
