-- A line is judged as what it says: a piece that is judged without fault says a legal line that may stand, and the other way round.
use Rattle.std.proofs.Common.{◌≡◌, ℕ, ◌<◌, ◌^◌, Bool, true, false, cond, ltb, List, [], ◌∷◌, length, Option, Some, None, Result, Ok, Err, refl, sym, ap, ◌∙◌, subst, arith}
use Rattle.std.specs.Prelude.{All, codes, ◌==◌, ◌||◌, option_map}
use Rattle.std.specs.Result.{result_ok}
use Rattle.std.specs.List.{list_any, list_all}
use Rattle.std.specs.Str.{bytes_eq}
use Rattle.std.proofs.lemmas.Bool.{eqb-true, ltb-true, lt-ltb, eq-eqb, and_parts}
use Rattle.std.proofs.lemmas.List.Elements.{All-head, All-tail}
use Rattle.line_words.specs.Rules.{Words}
use Rattle.pb_rules.specs.declared.Op.{Op}
use Rattle.pb_rules.specs.declared.Term.{Term}
use Rattle.pb_rules.specs.Linear.{Linear}
use Rattle.pb_rules.specs.Operations.{Fault, and_then, only_one, line_gives, small_number}
use Rattle.pb_rules.specs.Frames.{Line, derived, cover, Given, context_of, with_derived, with_block, given_with}
use Rattle.pb_rules.proofs.Given.{Goes, by_ops, by_block, goes}
use Rattle.proof_words.specs.Words.{op_of, numeral_number}
use Rattle.proof_words.specs.Legal.{IsWritableLine}
use Rattle.spec_model.specs.Spec.{SpecValue}
use Rattle.encode_model.specs.Block.{cover_frame}
use Rattle.spelled_lines.specs.Lines.{words_of, is_empty}
use Rattle.front_model.specs.Proofs.{MayCover, MayStand, IsClash}
use Rattle.proof_log.specs.Files.{each_said, is_misshapen, line_said, line_in}
use Rattle.front_model.specs.declared.refusals.ProofWhy.{ProofWhy}
use Rattle.front_model.specs.declared.refusals.ProofWhy.TheVariants.{BadStep, CoverAboveWeight, CoverNotDominated}
use Rattle.front_model.specs.Judging.{judge_derivation, first_above, is_at_most, judge_numbers, judge_cover, Stand, is_clash, after_derived, after_cover, judge_line, judge_piece}
use Rattle.front_model.proofs.Words.{judged_ops, derives}
use Rattle.front_model.proofs.Covers.{within_of, of_within, below_of_any, any_of_below}
use Rattle.proof_log.proofs.Reading.{SaysLine, says_derived, says_cover, piece_says, line_writable}

-- what is judged of a line
abbrev pub judge_said : SpecValue → List (List ℕ) → Given → Line → Result Stand ProofWhy
judge_said s us g (derived ops) = after_derived g (line_gives (context_of g) ops)
judge_said s us g (cover v) = after_cover s g (judge_numbers s us v)

-- ---- a piece that says a line is judged as the line

words_judged : (s : SpecValue) (us : List (List ℕ)) (g : Given) (ws : Words) (l : Line) → SaysLine ws l → judge_line s us g ws ≡ judge_said s us g l
words_judged s us g ws (derived ops) (says_derived later is e) =
    ap (judge_line s us g) is ∙ ap (λ (o : Result (List Linear) Fault). after_derived g (and_then only_one o)) (judged_ops (context_of g) later ops [] e)
words_judged s us g ws (cover v) (says_cover later is e) =
    ap (judge_line s us g) is ∙ ap (λ (o : Option (List ℕ)). after_cover s g (judge_cover s us o)) e

pub piece_judged : (s : SpecValue) (us : List (List ℕ)) (g : Given) (piece : List ℕ) (l : Line) → line_in piece ≡ Some l → judge_piece s us g piece ≡ judge_said s us g l
piece_judged s us g piece l e =
    let x = piece_says piece l e in
    let shaped : is_misshapen piece ≡ false = ap (λ (b : Bool). b || list_any is_empty (words_of piece)) x.has_lf ∙ x.no_empty in
    ap (λ (b : Bool). cond b (Err BadStep) (judge_line s us g (words_of piece))) shaped ∙ words_judged s us g (words_of piece) l x.says

-- ---- a piece that is judged without fault says a line

said_derived : (s : SpecValue) (us : List (List ℕ)) (g : Given) (stand : Stand) (ws : Words) → after_derived g (judge_derivation (context_of g) ws) ≡ Ok stand → (ops : List Op)
    × (each_said op_of ws ≡ Some ops)
said_derived s us g stand ws e = go (judge_derivation (context_of g) ws) refl e
  where
    go : (o : Result Linear Fault) → judge_derivation (context_of g) ws ≡ o → after_derived g o ≡ Ok stand → (ops : List Op) × (each_said op_of ws ≡ Some ops)
    go (Err fault) q f = absurd cc
    go (Ok c) q f = let d = derives (context_of g) c ws q in (d.ops, d.said)

said_cover : (s : SpecValue) (us : List (List ℕ)) (g : Given) (stand : Stand) (ws : Words) → after_cover s g (judge_cover s us (each_said numeral_number ws)) ≡ Ok stand → (v : List ℕ)
    × (each_said numeral_number ws ≡ Some v)
said_cover s us g stand ws e = go (each_said numeral_number ws) refl e
  where
    go : (o : Option (List ℕ)) → each_said numeral_number ws ≡ o → after_cover s g (judge_cover s us o) ≡ Ok stand → (v : List ℕ) × (each_said numeral_number ws ≡ Some v)
    go None q f = absurd cc
    go (Some v) q f = (v, q)

words_said : (s : SpecValue) (us : List (List ℕ)) (g : Given) (stand : Stand) (ws : Words) → judge_line s us g ws ≡ Ok stand → (l : Line) × (line_said ws ≡ Some l)
words_said s us g stand [] e = absurd cc
words_said s us g stand (k ∷ ws) e = go (bytes_eq k (codes "p")) (bytes_eq k (codes "c")) e
  where
    go : (a b : Bool) → cond a (after_derived g (judge_derivation (context_of g) ws)) (cond b (after_cover s g (judge_cover s us (each_said numeral_number ws))) (Err BadStep)) ≡ Ok stand
        → (l : Line) × (cond a (option_map derived (each_said op_of ws)) (cond b (option_map cover (each_said numeral_number ws)) None) ≡ Some l)
    go true b f = let d = said_derived s us g stand ws f in (derived d.0, ap (option_map derived) d.1)
    go false true f = let d = said_cover s us g stand ws f in (cover d.0, ap (option_map cover) d.1)
    go false false f = absurd cc

pub piece_said : (s : SpecValue) (us : List (List ℕ)) (g : Given) (stand : Stand) (piece : List ℕ) → judge_piece s us g piece ≡ Ok stand → (l : Line) × (line_in piece ≡ Some l)
piece_said s us g stand piece e = go (is_misshapen piece) refl e
  where
    go : (b : Bool) → is_misshapen piece ≡ b → cond b (Err BadStep) (judge_line s us g (words_of piece)) ≡ Ok stand → (l : Line) × (line_in piece ≡ Some l)
    go true q f = absurd cc
    go false q f =
        let x = words_said s us g stand (words_of piece) f in
        (x.0, ap (λ (b : Bool). cond b None (line_said (words_of piece))) q ∙ x.1)

-- ---- a line without fault is legal and may stand

-- a line that derives a clash
pub record Closes (g : Given) (l : Line) : Type 0 where
  pub ops : List Op
  pub is : l ≡ derived ops
  pub clash : Linear
  pub gives : line_gives (context_of g) ops ≡ Ok clash
  pub clashes : IsClash clash

-- a legal line that may stand, and what it leaves
pub record IsLine (s : SpecValue) (us : List (List ℕ)) (g : Given) (stand : Stand) (l : Line) : Type 0 where
  pub stands : MayStand s us l
  pub gives : given_with (cover_frame s) g l ≡ Some stand.given
  pub closes : stand.closed ≡ true → Closes g l

clash_of : (c : Linear) → is_clash c ≡ true → IsClash c
clash_of c h =
    let parts = and_parts (length c.terms == 0) (ltb 0 c.degree) h in
    record { no_terms = none c.terms (eqb-true (length c.terms) 0 parts.0); asks = ltb-true 0 c.degree parts.1 }
  where
    none : {X : Type 0} (xs : List X) → length xs ≡ 0 → xs ≡ []
    none [] e = refl
    none (x ∷ xs) e = absurd (omega (arith, e))

derived_line : (s : SpecValue) (us : List (List ℕ)) (g : Given) (stand : Stand) (ops : List Op) → after_derived g (line_gives (context_of g) ops) ≡ Ok stand → IsLine s us g stand (derived ops)
derived_line s us g stand ops e = go (line_gives (context_of g) ops) refl e
  where
    go : (o : Result Linear Fault) → line_gives (context_of g) ops ≡ o → after_derived g o ≡ Ok stand → IsLine s us g stand (derived ops)
    go (Err fault) q f = absurd cc
    go (Ok c) q f =
        let made : Stand = record { given = with_derived g c; closed = is_clash c } in
        let is : made ≡ stand = cc in
        subst (λ (t : Stand). IsLine s us g t (derived ops)) is (record {
          stands = tt;
          gives = ap (λ (o : Result Linear Fault). option_map (with_derived g) (result_ok o)) q;
          closes = λ t. record { ops = ops; is = refl; clash = c; gives = q; clashes = clash_of c t };
        })

numbers_may : (s : SpecValue) (us : List (List ℕ)) (v w : List ℕ) → judge_numbers s us v ≡ Ok w → (v ≡ w) × MayCover s us v
numbers_may s us v w e = go (length v == length s.objectives) (ltb (first_above s v) (length v)) (list_any (is_at_most v) us) refl refl refl e
  where
    go : (a b c : Bool) → (length v == length s.objectives) ≡ a → ltb (first_above s v) (length v) ≡ b → list_any (is_at_most v) us ≡ c
        → cond a (cond b (Err (CoverAboveWeight (first_above s v))) (cond c (Ok v) (Err (CoverNotDominated v)))) (Err BadStep) ≡ Ok w → (v ≡ w) × MayCover s us v
    go false b c p q r e = absurd cc
    go true true c p q r e = absurd cc
    go true false false p q r e = absurd cc
    go true false true p q r e = (cc, record { one_each = eqb-true (length v) (length s.objectives) p; within = within_of s v q; dominated = below_of_any us v r })

-- the numbers of a cover that is judged without fault may stand
pub cover_may : (s : SpecValue) (us : List (List ℕ)) (w : List ℕ) (ws : Words) → judge_cover s us (each_said numeral_number ws) ≡ Ok w → MayCover s us w
cover_may s us w ws e = go (each_said numeral_number ws) e
  where
    go : (o : Option (List ℕ)) → judge_cover s us o ≡ Ok w → MayCover s us w
    go None f = absurd cc
    go (Some v) f = let m = numbers_may s us v w f in subst (MayCover s us) m.0 m.1

small_all : (v : List ℕ) → All (λ n. n < 2 ^ 63) v → list_all small_number v ≡ true
small_all [] h = refl
small_all (n ∷ v) h = rw (lt-ltb n (2 ^ 63) (All-head (λ n. n < 2 ^ 63) n v h)) (small_all v (All-tail (λ n. n < 2 ^ 63) n v h))

cover_line : (s : SpecValue) (us : List (List ℕ)) (g : Given) (stand : Stand) (v : List ℕ) → All (λ n. n < 2 ^ 63) v → after_cover s g (judge_numbers s us v) ≡ Ok stand → IsLine s us g stand (cover v)
cover_line s us g stand v small e = go (judge_numbers s us v) refl e
  where
    go : (o : Result (List ℕ) ProofWhy) → judge_numbers s us v ≡ o → after_cover s g o ≡ Ok stand → IsLine s us g stand (cover v)
    go (Err why) q f = absurd cc
    go (Ok w) q f =
        let m = numbers_may s us v w q in
        let made : Stand = record { given = with_block (cover_frame s) g w; closed = false } in
        let is : made ≡ stand = cc in
        subst (λ (t : Stand). IsLine s us g t (cover v)) is (record {
          stands = m.1;
          gives = ap (λ (b : Bool). cond b (Some (with_block (cover_frame s) g v)) None) (small_all v small) ∙ ap (λ (x : List ℕ). Some (with_block (cover_frame s) g x)) m.0;
          closes = λ t. absurd (let c : false ≡ true = t in cc);
        })

pub line_legal : (s : SpecValue) (us : List (List ℕ)) (g : Given) (stand : Stand) (l : Line) → IsWritableLine l → judge_said s us g l ≡ Ok stand → IsLine s us g stand l
line_legal s us g stand (derived ops) h e = derived_line s us g stand ops e
line_legal s us g stand (cover v) h e = cover_line s us g stand v h e

-- a piece that is judged without fault, and its line
pub record IsJudged (s : SpecValue) (us : List (List ℕ)) (g : Given) (stand : Stand) (piece : List ℕ) : Type 0 where
  pub line : Line
  pub said : line_in piece ≡ Some line
  pub legal : IsLine s us g stand line

pub line_of_piece : (s : SpecValue) (us : List (List ℕ)) (g : Given) (stand : Stand) (piece : List ℕ) → judge_piece s us g piece ≡ Ok stand → IsJudged s us g stand piece
line_of_piece s us g stand piece e =
    let x = piece_said s us g stand piece e in
    record { line = x.0; said = x.1; legal = line_legal s us g stand x.0 (line_writable piece x.0 x.1) (sym (piece_judged s us g piece x.0 x.1) ∙ e) }

-- ---- and the other way round

numbers_judged : (s : SpecValue) (us : List (List ℕ)) (v : List ℕ) → MayCover s us v → judge_numbers s us v ≡ Ok v
numbers_judged s us v h =
    let one : (length v == length s.objectives) ≡ true = eq-eqb (length v) (length s.objectives) h.one_each in
    rw (one, of_within s v h.within, any_of_below us v h.dominated) refl

-- what a legal line leaves is what is judged of it
pub legal_judged : (s : SpecValue) (us : List (List ℕ)) (g h : Given) (l : Line) → MayStand s us l → given_with (cover_frame s) g l ≡ Some h → (closed : Bool)
    × (judge_said s us g l ≡ Ok (record { given = h; closed = closed }))
legal_judged s us g h l may e = go l may (goes (cover_frame s) g h l e)
  where
    go : (l : Line) → MayStand s us l → Goes (cover_frame s) g h l → (closed : Bool) × (judge_said s us g l ≡ Ok (record { given = h; closed = closed }))
    go (derived ops) may (by_ops c q is) =
        (is_clash c, ap (after_derived g) q ∙ ap (λ (k : Given). Ok (record { given = k; closed = is_clash c })) (sym is))
    go (cover v) may (by_block q is) =
        (false, ap (after_cover s g) (numbers_judged s us v may) ∙ ap (λ (k : Given). Ok (record { given = k; closed = false })) (sym is))

clash_is : (c : Linear) → IsClash c → is_clash c ≡ true
clash_is c h =
    let none : (length c.terms == 0) ≡ true = ap (λ (ts : List Term). length ts == 0) h.no_terms in
    rw (none, lt-ltb 0 c.degree h.asks) refl

-- a line that derives a clash closes
pub clash_judged : (s : SpecValue) (us : List (List ℕ)) (g : Given) (ops : List Op) (c : Linear) → line_gives (context_of g) ops ≡ Ok c → IsClash c
    → judge_said s us g (derived ops) ≡ Ok (record { given = with_derived g c; closed = true })
clash_judged s us g ops c e h = ap (after_derived g) e ∙ ap (λ (b : Bool). Ok (record { given = with_derived g c; closed = b })) (clash_is c h)
