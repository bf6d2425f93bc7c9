-- Lines within bytes.
use Rattle.std.proofs.Common.{◌≡◌, ℕ, suc, ◌+◌, ◌<◌, ◌≤◌, Bool, true, false, List, [], ◌∷◌, ◌++◌, length, take, drop, ◌-◌, refl, sym, ap, ◌∙◌, subst, arith, inl, inr}
use Rattle.std.specs.Prelude.{◌||◌}
use Rattle.std.specs.List.{list_any, position_or_len, onto_first}
use Rattle.std.proofs.lemmas.Bool.{cases_Bool, eqb-true, false≢true}
use Rattle.std.proofs.lemmas.List.{length-append, length-drop, take_all, append-nil}
use Rattle.std.proofs.lemmas.List.Folds.{list_any-append}
use Rattle.line_words.specs.Front.{is_lf}
use Rattle.spelled_lines.specs.Lines.{pieces}
use Rattle.spelled_lines.proofs.FirstPiece.{pieces-nil, pieces_end, pieces_byte, pieces_last}
use Rattle.front_model.specs.Laws.{IsPiece}
use Rattle.check_run.specs.Taking.{HasNoLf, IsCut}

-- the first line and what follows it
pub cut_first : (bs : List ℕ) → position_or_len is_lf bs < length bs → IsCut bs (take (position_or_len is_lf bs) bs) (drop (position_or_len is_lf bs + 1) bs)
cut_first [] lt = absurd (omega (arith, lt))
cut_first (b ∷ bs) lt =
    elim (cases_Bool (is_lf b)) [
      | inl t ↦
          let n : position_or_len is_lf (b ∷ bs) ≡ 0 = rw t refl in
          let lf : b ≡ 10 = eqb-true b 10 t in
          rw n (record { body_only = refl; whole = ap (λ (x : ℕ). x ∷ bs) lf })
      | inr f ↦
          let k = position_or_len is_lf bs in
          let n : position_or_len is_lf (b ∷ bs) ≡ suc k = rw f (omega arith) in
          let next : suc k + 1 ≡ suc (k + 1) = omega arith in
          let cut = cut_first bs (omega (arith, lt, n)) in
          rw (n, next) (record { body_only = ap (λ (x : Bool). x || list_any is_lf (take k bs)) f ∙ cut.body_only; whole = ap (λ (cs : List ℕ). b ∷ cs) cut.whole })
    ]

pub no_lf_joined : (xs ys : List ℕ) → HasNoLf xs → HasNoLf ys → HasNoLf (xs ++ ys)
no_lf_joined xs ys hx hy = list_any-append is_lf xs ys ∙ rw (hx, hy) refl

-- a line is the first piece of what begins with it
pub pieces_line : (body more : List ℕ) → HasNoLf body → pieces (body ++ 10 ∷ more) ≡ (body ++ 10 ∷ []) ∷ pieces more
pieces_line [] more h = pieces_end 10 more refl
pieces_line (b ∷ bs) more h =
    elim (cases_Bool (is_lf b)) [
      | inl t ↦ absurd (let c : list_any is_lf (b ∷ bs) ≡ true = rw t refl in false≢true (sym h ∙ c))
      | inr f ↦
          let later : list_any is_lf bs ≡ false = rw f at h in
          pieces_byte b (bs ++ 10 ∷ more) f ∙ ap (onto_first b) (pieces_line bs more later)
    ]

-- the first LF stands behind bytes without
lf_behind : (body more : List ℕ) → HasNoLf body → length body ≤ position_or_len is_lf (body ++ more)
lf_behind [] more h = omega arith
lf_behind (b ∷ bs) more h =
    elim (cases_Bool (is_lf b)) [
      | inl t ↦ absurd (let c : list_any is_lf (b ∷ bs) ≡ true = rw t refl in false≢true (sym h ∙ c))
      | inr f ↦
          let later : list_any is_lf bs ≡ false = rw f at h in
          let n : position_or_len is_lf (b ∷ (bs ++ more)) ≡ suc (position_or_len is_lf (bs ++ more)) = rw f (omega arith) in
          omega (arith, n, lf_behind bs more later)
    ]

pub line_is_piece : (body : List ℕ) → HasNoLf body → IsPiece (body ++ 10 ∷ [])
line_is_piece body h =
    let long : length (body ++ 10 ∷ []) ≡ length body + 1 = length-append body (10 ∷ []) in
    record { some = omega (arith, long); one_lf = omega (arith, long, lf_behind body (10 ∷ []) h) }

-- bytes without LF are one piece
pub last_is_piece : (bs : List ℕ) → 0 < length bs → HasNoLf bs → IsPiece bs
last_is_piece bs some h =
    let end : length bs ≤ position_or_len is_lf (bs ++ []) = lf_behind bs [] h in
    let same : bs ++ [] ≡ bs = append-nil bs in
    let n : length bs ≤ position_or_len is_lf bs = rw same at end in
    record { some = some; one_lf = omega (arith, n) }

pub pieces_alone : (bs : List ℕ) → 0 < length bs → HasNoLf bs → pieces bs ≡ bs ∷ []
pieces_alone bs some h =
    let end : length bs ≤ position_or_len is_lf (bs ++ []) = lf_behind bs [] h in
    let same : bs ++ [] ≡ bs = append-nil bs in
    let n : length bs ≤ position_or_len is_lf bs = rw same at end in
    pieces_last bs some n ∙ ap (λ (ps : List (List ℕ)). bs ∷ ps) pieces-nil

-- the parts of a slice around the first LF
pub cut_at : (bs : List ℕ) (n : ℕ) → n ≡ position_or_len is_lf bs → (n ≡ length bs → ⊥) → n ≤ length bs → IsCut bs (take n bs) (take (length bs - (n + 1)) (drop (n + 1) bs))
cut_at bs n is inside within =
    let lt : n < length bs = omega (arith, inside, within) in
    let rest : take (length bs - (n + 1)) (drop (n + 1) bs) ≡ drop (n + 1) bs = take_all (length bs - (n + 1)) (drop (n + 1) bs) (omega (arith, length-drop (n + 1) bs)) in
    subst (λ (t : List ℕ). IsCut bs (take n bs) t) (sym rest)
    (subst (λ (k : ℕ). IsCut bs (take k bs) (drop (k + 1) bs)) (sym is) (cut_first bs (omega (arith, lt, is))))
