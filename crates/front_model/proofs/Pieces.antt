-- Pieces that are cut as a text is are the pieces of what they join to.
use Rattle.std.proofs.Common.{◌≡◌, ℕ, suc, ◌≤◌, true, false, List, [], ◌∷◌, ◌++◌, length, refl, sym, ap, ◌∙◌, arith, inl, inr}
use Rattle.std.specs.List.{concat, list_any, position_or_len, onto_first, AllByRecursion}
use Rattle.std.proofs.lemmas.Bool.{cases_Bool, false≢true}
use Rattle.std.proofs.lemmas.List.{append-nil, append_assoc}
use Rattle.std.proofs.lemmas.List.Elements.{All-head, All-tail}
use Rattle.line_words.specs.Front.{is_lf}
use Rattle.spelled_lines.specs.Lines.{pieces}
use Rattle.spelled_lines.proofs.FirstPiece.{pieces-nil, pieces_end, pieces_byte, pieces_last}
use Rattle.proof_log.proofs.Pieces.{Cut}
use Rattle.front_model.specs.Laws.{IsPiece, CutIsPieces, IsEnded, EndedAreFirst}

-- ---- pieces that are handed over one by one

no_lf : (bs : List ℕ) → list_any is_lf bs ≡ false → position_or_len is_lf bs ≡ length bs
no_lf [] h = refl
no_lf (b ∷ bs) h =
    elim (cases_Bool (is_lf b)) [
      | inl t ↦ absurd (let c : list_any is_lf (b ∷ bs) ≡ true = rw t refl in false≢true (sym h ∙ c))
      | inr f ↦
          let later : list_any is_lf bs ≡ false = rw f at h in
          let n : position_or_len is_lf (b ∷ bs) ≡ suc (position_or_len is_lf bs) = rw f (omega arith) in
          omega (arith, n, no_lf bs later)
    ]

piece_alone : (p more : List ℕ) → Cut p → list_any is_lf p ≡ true → pieces (p ++ more) ≡ p ∷ pieces more
piece_alone [] more h has = absurd (let c : false ≡ true = has in cc)
piece_alone (b ∷ p) more h has =
    elim (cases_Bool (is_lf b)) [
      | inl t ↦ (let n : position_or_len is_lf (b ∷ p) ≡ 0 = rw t refl in alone p (omega (arith, h, n)) t)
      | inr f ↦
          let n : position_or_len is_lf (b ∷ p) ≡ suc (position_or_len is_lf p) = rw f (omega arith) in
          let later : list_any is_lf p ≡ true = rw f at has in
          pieces_byte b (p ++ more) f ∙ ap (onto_first b) (piece_alone p more (omega (arith, h, n)) later)
    ]
  where
    alone : (p : List ℕ) → length (b ∷ p) ≤ 1 → is_lf b ≡ true → pieces ((b ∷ p) ++ more) ≡ (b ∷ p) ∷ pieces more
    alone [] l t = pieces_end b more t
    alone (c ∷ p) l t = absurd (omega (arith, l))

last_alone : (p : List ℕ) → IsPiece p → pieces p ≡ p ∷ []
last_alone p h =
    elim (cases_Bool (list_any is_lf p)) [
      | inl t ↦ ap pieces (sym (append-nil p)) ∙ (piece_alone p [] h.one_lf t ∙ ap (λ (ps : List (List ℕ)). p ∷ ps) pieces-nil)
      | inr f ↦ pieces_last p h.some (omega (arith, no_lf p f)) ∙ ap (λ (ps : List (List ℕ)). p ∷ ps) pieces-nil
    ]

pub cut_is_pieces : CutIsPieces
cut_is_pieces [] h = pieces-nil
cut_is_pieces (p ∷ []) h = ap pieces (append-nil p) ∙ last_alone p h
cut_is_pieces (p ∷ q ∷ ps) h = piece_alone p (concat (q ∷ ps)) h.0.one_lf h.1 ∙ ap (λ (qs : List (List ℕ)). p ∷ qs) (cut_is_pieces (q ∷ ps) h.2)

pub ended_are_first : EndedAreFirst
ended_are_first [] more h = refl
ended_are_first (p ∷ ps) more h =
    let here : IsEnded p = All-head IsEnded p ps h in
    ap pieces (append_assoc p (concat ps) more)
    ∙ (piece_alone p (concat ps ++ more) here.piece.one_lf here.ends ∙ ap (λ (qs : List (List ℕ)). p ∷ qs) (ended_are_first ps more (All-tail IsEnded p ps h)))

pub cut_each : (ps : List (List ℕ)) → AllByRecursion IsPiece ps → AllByRecursion Cut ps
cut_each [] h = tt
cut_each (p ∷ ps) h = (h.0.one_lf, cut_each ps h.1)
