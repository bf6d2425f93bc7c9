-- The rules of cutting planes on constraints, without a bound on their numbers (Cook, Coullard and Turán).
use Rattle.std.specs.Prelude.{ℕ, Bool, true, false, not, ◌+◌, ◌-◌, ◌*◌, ◌==◌, nat_lt, min, List, [], ◌∷◌, map, if◌then◌else◌}
use Rattle.std.specs.Int.{div_ceil}
use Rattle.pb_rules.specs.declared.Term.{Term}
use Rattle.pb_rules.specs.Literal.{Literal}
use Rattle.pb_rules.specs.Linear.{Linear}

-- the axiom of a literal, `l >= 0`
abbrev pub axiom_of : Literal → Linear
axiom_of l = record { terms = record { coef = 1; lit = l } ∷ []; degree = 0 }

-- terms, and what was cancelled on the way
pub record Sum : Type 0 where
  pub terms : List Term
  pub cancelled : ℕ

abbrev pub nothing : Sum
nothing = record { terms = []; cancelled = 0 }

abbrev pub onto : Term → Sum → Sum
onto t s = record { terms = t ∷ s.terms; cancelled = s.cancelled }

-- whether two signs are equal
abbrev pub same_sign : Bool → Bool → Bool
same_sign true b = b
same_sign false b = not b

-- two terms of one variable before a sum: equal literals add up, opposite ones cancel
abbrev pub joined : Term → Term → Sum → Sum
joined t u s =
    if same_sign t.lit.yes u.lit.yes then record { terms = record { coef = t.coef + u.coef; lit = u.lit } ∷ s.terms; cancelled = s.cancelled }
    else (if t.coef == u.coef then record { terms = s.terms; cancelled = s.cancelled + t.coef }
    else (if nat_lt t.coef u.coef then record { terms = record { coef = u.coef - t.coef; lit = u.lit } ∷ s.terms; cancelled = s.cancelled + t.coef }
    else record { terms = record { coef = t.coef - u.coef; lit = t.lit } ∷ s.terms; cancelled = s.cancelled + u.coef }))

-- a term before what a function makes of the rest, merged into a list
abbrev pub merge_one : Term → (List Term → Sum) → List Term → Sum
merge_one t f [] = onto t (f [])
merge_one t f (u ∷ us) =
    if nat_lt t.lit.var u.lit.var then onto t (f (u ∷ us))
    else (if t.lit.var == u.lit.var then joined t u (f us)
    else onto u (merge_one t f us))

-- two lists of terms in the order of their variables, merged
abbrev pub merge : List Term → List Term → Sum
merge [] = λ us. record { terms = us; cancelled = 0 }
merge (t ∷ ts) = merge_one t (merge ts)

-- the sum of two constraints: opposite literals cancel, and what cancels is taken from the degree
abbrev pub add : Linear → Linear → Linear
add a b = record { terms = (merge a.terms b.terms).terms; degree = a.degree + b.degree - (merge a.terms b.terms).cancelled }

abbrev pub multiplied : ℕ → Term → Term
multiplied n t = record { coef = n * t.coef; lit = t.lit }

-- a positive multiple
abbrev pub times : ℕ → Linear → Linear
times n a = record { terms = map (multiplied n) a.terms; degree = n * a.degree }

-- rounded up
abbrev pub up : ℕ → ℕ → ℕ
up n m = div_ceil m n

abbrev pub divided : ℕ → Term → Term
divided n t = record { coef = up n t.coef; lit = t.lit }

-- division, each coefficient and the degree rounded up
abbrev pub divide : ℕ → Linear → Linear
divide n a = record { terms = map (divided n) a.terms; degree = up n a.degree }

-- cut down to a degree; the terms that become 0 fall away
abbrev pub cut : ℕ → List Term → List Term
cut degree [] = []
cut degree (t ∷ ts) = if nat_lt 0 (min t.coef degree) then record { coef = min t.coef degree; lit = t.lit } ∷ cut degree ts else cut degree ts

-- saturation: coefficients cut down to the degree
abbrev pub saturate : Linear → Linear
saturate a = record { terms = cut a.degree a.terms; degree = a.degree }

-- the coefficient of a variable, 0 where it has no term
abbrev pub coef_of : ℕ → List Term → ℕ
coef_of x [] = 0
coef_of x (t ∷ ts) = if t.lit.var == x then t.coef else coef_of x ts

-- the terms but that of a variable
abbrev pub without_var : ℕ → List Term → List Term
without_var x [] = []
without_var x (t ∷ ts) = if t.lit.var == x then ts else t ∷ without_var x ts

-- weakening: a variable's term removed, its coefficient taken from the degree
abbrev pub weaken : ℕ → Linear → Linear
weaken x a = record { terms = without_var x a.terms; degree = a.degree - coef_of x a.terms }
