-- Reading line by line finds the least refusal, whatever the kind of file.
use Rattle.std.proofs.Common.{◌≡◌, ℕ, ◌+◌, ◌<◌, ◌≤◌, inl, inr, true, false, List, [], ◌∷◌, ◌++◌, length, take, drop, get_or, Option, Some, None, Ok, Err, refl, sym, ap, subst, ◌∙◌, arith, append_assoc}
use Rattle.std.proofs.lemmas.Bool.{cases_Bool, cases_lt}
use Rattle.std.proofs.lemmas.List.{append-nil, drop_more, take_more, take_all, length-drop, length-take}
use Rattle.line_words.specs.Refused.{rank}
use Rattle.line_words.specs.Rules.{Test, BreaksTests, first_broken, IsRanked, Statement, Rules, at_number, statements_from, statements, tests_after, tests_at, IsLeast, HasNoFault, AreInOrder}
use Rattle.line_words.specs.Run.{Reading, unless_broken, run}
use Rattle.line_words.specs.declared.refusals.Why.{Why}
use Rattle.line_words.proofs.Whys.{some, none, some_is}

-- ---- the first broken rule of a list

-- a broken rule of a list, and no broken one comes before it
pub record IsLeastOf (ts : List Test) (w : Why) : Type 0 where
  pub broken : BreaksTests ts w
  pub least : (v : Why) → BreaksTests ts v → rank w ≤ rank v

above_low : (low : ℕ) (ts : List Test) (v : Why) → IsRanked low ts → BreaksTests ts v → low ≤ rank v
above_low low [] v h i = absurd i
above_low low (t ∷ ts) v h i = elim i [
  | inl e ↦ subst (λ (y : Why). low ≤ rank y) e.0 h.0
  | inr later ↦ let more = above_low (rank t.0) ts v h.1 later in omega (arith, h.0, more)
]

first_here : (t : Test) (ts : List Test) → t.1 ≡ true → first_broken (t ∷ ts) ≡ some t.0
first_here t ts e = rw e refl

-- a rule that isn't broken is passed over
pub first_later : (t : Test) (ts : List Test) → t.1 ≡ false → first_broken (t ∷ ts) ≡ first_broken ts
first_later t ts e = rw e refl

first_is_least : (low : ℕ) (ts : List Test) (w : Why) → IsRanked low ts → first_broken ts ≡ some w → IsLeastOf ts w
first_is_least low [] w h e = absurd cc
first_is_least low (t ∷ ts) w h e =
    elim (cases_Bool t.1) [
      | inl holds ↦
          let is : t.0 ≡ w = some_is t.0 w (sym (first_here t ts holds) ∙ e) in
          record {
            broken = inl (is, holds);
            least = λ v i. subst (λ (y : Why). rank y ≤ rank v) is (elim i [
              | inl d ↦ subst (λ (y : Why). rank t.0 ≤ rank y) d.0 (omega arith)
              | inr later ↦ above_low (rank t.0) ts v h.1 later
            ]);
          }
      | inr fine ↦
          let r = first_is_least (rank t.0) ts w h.1 (sym (first_later t ts fine) ∙ e) in
          record {
            broken = inr r.broken;
            least = λ v i. elim i [
              | inl d ↦ absurd (let c : true ≡ false = sym d.1 ∙ fine in cc)
              | inr later ↦ r.least v later
            ];
          }
    ]

none_broken : (ts : List Test) (v : Why) → first_broken ts ≡ none → BreaksTests ts v → ⊥
none_broken [] v e i = i
none_broken (t ∷ ts) v e i =
    elim (cases_Bool t.1) [
      | inl holds ↦ absurd (let c : some t.0 ≡ none = sym (first_here t ts holds) ∙ e in cc)
      | inr fine ↦ elim i [
        | inl d ↦ absurd (let c : true ≡ false = sym d.1 ∙ fine in cc)
        | inr later ↦ none_broken ts v (sym (first_later t ts fine) ∙ e) later
      ]
    ]

-- rules after rules none of which is broken
pub first_broken-append-none : (xs ys : List Test) → first_broken xs ≡ None → first_broken (xs ++ ys) ≡ first_broken ys
first_broken-append-none [] ys e = refl
first_broken-append-none (x ∷ xs) ys e =
    elim (cases_Bool x.1) [
      | inl holds ↦ absurd (let c : some x.0 ≡ none = sym (first_here x xs holds) ∙ e in cc)
      | inr fine ↦ first_later x (xs ++ ys) fine ∙ first_broken-append-none xs ys (sym (first_later x xs fine) ∙ e)
    ]

-- rules after rules one of which is broken
pub first_broken-append-some : (xs ys : List Test) (w : Why) → first_broken xs ≡ Some w → first_broken (xs ++ ys) ≡ Some w
first_broken-append-some [] ys w e = absurd cc
first_broken-append-some (x ∷ xs) ys w e =
    elim (cases_Bool x.1) [
      | inl holds ↦ first_here x (xs ++ ys) holds ∙ sym (first_here x xs holds) ∙ e
      | inr fine ↦ first_later x (xs ++ ys) fine ∙ first_broken-append-some xs ys w (sym (first_later x xs fine) ∙ e)
    ]

-- ---- the statements of lines

statements_from-append : (rules : Rules) (number : ℕ) (xs ys : List (List ℕ)) → statements_from rules number (xs ++ ys) ≡ statements_from rules number xs
    ++ statements_from rules (number + length xs) ys
statements_from-append rules number [] ys = ap (λ (n : ℕ). statements_from rules n ys) (omega arith)
statements_from-append rules number (x ∷ xs) ys =
    let here = at_number number (rules.stated x) in
    let n : number + 1 + length xs ≡ number + length (x ∷ xs) = omega arith in
    ap (λ (st : List Statement). here ++ st) (statements_from-append rules (number + 1) xs ys ∙ ap (λ (k : ℕ). statements_from rules (number + 1) xs ++ statements_from rules k ys) n)
    ∙ sym (append_assoc here (statements_from rules (number + 1) xs) (statements_from rules (number + length (x ∷ xs)) ys))

-- the statements up to and with the line at a place
statements_more : (rules : Rules) (lines : List (List ℕ)) (n : ℕ) (l : List ℕ) → n < length lines → l ≡ get_or lines n []
    → statements rules (take (n + 1) lines) ≡ statements rules (take n lines) ++ at_number (n + 1) (rules.stated l)
statements_more rules lines n l lt is =
    let number : 1 + length (take n lines) ≡ n + 1 = omega (arith, length-take n lines) in
    ap (statements rules) (take_more lines n [] lt ∙ ap (λ (x : List ℕ). take n lines ++ x ∷ []) (sym is))
    ∙ statements_from-append rules 1 (take n lines) (l ∷ [])
    ∙ ap (λ (k : ℕ). statements rules (take n lines) ++ (at_number k (rules.stated l) ++ [])) number
    ∙ ap (λ (st : List Statement). statements rules (take n lines) ++ st) (append-nil (at_number (n + 1) (rules.stated l)))

-- ---- what a file is

-- a file is refused at its least refusal, or breaks no rule and has these statements
abbrev pub Outcome : Rules → List (List ℕ) → Reading → Type 0
Outcome rules lines (Ok st) = (st ≡ statements rules lines) × HasNoFault rules lines
Outcome rules lines (Err r) = IsLeast rules lines r.line r.why

-- no rule is broken at the first n lines
abbrev FineBelow : Rules → List (List ℕ) → ℕ → Type 0
FineBelow rules lines n = (k : ℕ) (v : Why) → k < n → BreaksTests (tests_at rules lines k) v → ⊥

-- the tests at a line are in order
ranked_at : (rules : Rules) (lines : List (List ℕ)) (n : ℕ) → AreInOrder rules → IsRanked 0 (tests_at rules lines n)
ranked_at rules lines n o = o.at_lines (statements rules (take n lines)) (get_or lines n [])

-- the first broken rule of a line, where the lines before have none
least_here : (rules : Rules) (lines : List (List ℕ)) (n : ℕ) (w : Why) → AreInOrder rules → n < length lines → FineBelow rules lines n
    → first_broken (tests_at rules lines n) ≡ some w → IsLeast rules lines (n + 1) w
least_here rules lines n w o lt fine e =
    let here = first_is_least 0 (tests_at rules lines n) w (ranked_at rules lines n o) e in
    record {
      holds = inl (record { place = n; number_is = refl; within = lt; broken = here.broken });
      least = λ m v h. elim h [
        | inl a ↦ elim (cases_lt a.place n) [
          | inl low ↦ absurd (fine a.place v low a.broken)
          | inr high ↦ elim (cases_lt n a.place) [
            | inl later ↦ inl (omega (arith, later, a.number_is))
            | inr same ↦
                let is : a.place ≡ n = omega (arith, high, same) in
                inr (omega (arith, is, a.number_is), here.least v (subst (λ (k : ℕ). BreaksTests (tests_at rules lines k) v) is a.broken))
          ]
        ]
        | inr b ↦ inl (omega (arith, lt, b.number_is))
      ];
    }

least_at_end : (rules : Rules) (lines : List (List ℕ)) (w : Why) → AreInOrder rules → FineBelow rules lines (length lines)
    → first_broken (rules.end (statements rules lines)) ≡ some w → IsLeast rules lines (length lines + 1) w
least_at_end rules lines w o fine e =
    let here = first_is_least 0 (rules.end (statements rules lines)) w (o.at_end (statements rules lines)) e in
    record {
      holds = inr (record { number_is = refl; broken = here.broken });
      least = λ m v h. elim h [
        | inl a ↦ absurd (fine a.place v a.within a.broken)
        | inr b ↦ inr (omega (arith, b.number_is), here.least v b.broken)
      ];
    }

no_fault : (rules : Rules) (lines : List (List ℕ)) → FineBelow rules lines (length lines) → first_broken (rules.end (statements rules lines)) ≡ none → HasNoFault rules lines
no_fault rules lines fine e = λ m v h. elim h [
  | inl a ↦ fine a.place v a.within a.broken
  | inr b ↦ none_broken (rules.end (statements rules lines)) v e b.broken
]

fine_more : (rules : Rules) (lines : List (List ℕ)) (n : ℕ) → FineBelow rules lines n → first_broken (tests_at rules lines n) ≡ none → FineBelow rules lines (n + 1)
fine_more rules lines n fine e = λ k v lt q.
    elim (cases_lt k n) [
      | inl low ↦ fine k v low q
      | inr high ↦
          let is : k ≡ n = omega (arith, lt, high) in
          none_broken (tests_at rules lines n) v e (subst (λ (j : ℕ). BreaksTests (tests_at rules lines j) v) is q)
    ]

at_end : (rules : Rules) (lines : List (List ℕ)) (broken : Option Why) → AreInOrder rules → first_broken (rules.end (statements rules lines)) ≡ broken
    → FineBelow rules lines (length lines) → Outcome rules lines (unless_broken (length lines + 1) broken (Ok (statements rules lines)))
at_end rules lines None o e fine = (refl, no_fault rules lines fine e)
at_end rules lines (Some w) o e fine = least_at_end rules lines w o fine e

at_line : (rules : Rules) (lines : List (List ℕ)) (n : ℕ) (broken : Option Why) (more : Reading) → AreInOrder rules → n < length lines
    → first_broken (tests_at rules lines n) ≡ broken → FineBelow rules lines n
    → (FineBelow rules lines (n + 1) → Outcome rules lines more) → Outcome rules lines (unless_broken (n + 1) broken more)
at_line rules lines n None more o lt e fine then = then (fine_more rules lines n fine e)
at_line rules lines n (Some w) more o lt e fine then = least_here rules lines n w o lt fine e

-- a run over no lines tries the end
pub run-nil : (rules : Rules) (number : ℕ) (before : List Statement) → run rules number before [] ≡ unless_broken number (first_broken (rules.end before)) (Ok before)
unfolding run
run-nil rules number before = refl

-- a run tries its first line, and then the others after it
pub run-cons : (rules : Rules) (number : ℕ) (before : List Statement) (l : List ℕ) (ls : List (List ℕ))
    → run rules number before (l ∷ ls) ≡ unless_broken number (first_broken (tests_after rules before l)) (run rules (number + 1) (before ++ at_number number (rules.stated l)) ls)
unfolding run
run-cons rules number before l ls = refl

from_here : (rules : Rules) (lines rest : List (List ℕ)) (n : ℕ) → AreInOrder rules → n ≤ length lines → drop n lines ≡ rest → FineBelow rules lines n
    → Outcome rules lines (run rules (n + 1) (statements rules (take n lines)) rest)
from_here rules lines [] n o le e fine =
    let len : n ≡ length lines = omega (arith, ap length e, length-drop n lines) in
    let whole : take n lines ≡ lines = take_all n lines (omega arith) in
    rw (run-nil, whole, len) (at_end rules lines (first_broken (rules.end (statements rules lines))) o refl (subst (FineBelow rules lines) len fine))
from_here rules lines (l ∷ ls) n o le e fine =
    let lt : n < length lines = omega (arith, ap length e, length-drop n lines) in
    let cut : l ∷ ls ≡ get_or lines n [] ∷ drop (n + 1) lines = sym e ∙ drop_more lines n [] lt in
    let is : l ≡ get_or lines n [] = cc in
    let rest : drop (n + 1) lines ≡ ls = cc in
    let before = statements rules (take n lines) in
    let more : statements rules (take (n + 1) lines) ≡ before ++ at_number (n + 1) (rules.stated l) = statements_more rules lines n l lt is in
    let next : FineBelow rules lines (n + 1) → Outcome rules lines (run rules (n + 1 + 1) (before ++ at_number (n + 1) (rules.stated l)) ls)
    = λ f. subst (λ (st : List Statement). Outcome rules lines (run rules (n + 1 + 1) st ls)) more (from_here rules lines ls (n + 1) o (omega arith) rest f) in
    rw run-cons (subst (λ (x : List ℕ). Outcome rules lines (unless_broken (n + 1) (first_broken (tests_after rules before x))
    (run rules (n + 1 + 1) (before ++ at_number (n + 1) (rules.stated l)) ls))) (sym is)
    (at_line rules lines n (first_broken (tests_at rules lines n)) (run rules (n + 1 + 1) (before ++ at_number (n + 1) (rules.stated l)) ls) o lt refl fine next))

-- Reading from the front gives what the file is, for each kind of file whose rules stand in their order.
pub run_is : (rules : Rules) (lines : List (List ℕ)) → AreInOrder rules → Outcome rules lines (run rules 1 [] lines)
run_is rules lines o = from_here rules lines lines 0 o (omega arith) refl (λ k v lt q. absurd (omega (arith, lt)))
