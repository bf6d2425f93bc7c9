-- What is legal can be written, and reads back.
use Rattle.std.proofs.Common.{◌≡◌, ℕ, ◌<◌, ◌^◌, true, List, [], ◌∷◌, map, Option, Some, refl, ap, ◌∙◌, arith}
use Rattle.std.specs.Prelude.{All, Ok, decimal, nat_lt}
use Rattle.std.specs.List.{list_all}
use Rattle.std.proofs.lemmas.Bool.{and_parts}
use Rattle.std.proofs.lemmas.Bool.Decides.{nat_tests}
use Rattle.std.proofs.lemmas.List.Elements.{All-cons, All-head, All-tail, All-nil}
use Rattle.pb_rules.specs.declared.Op.{Op}
use Rattle.pb_rules.specs.declared.Op.TheVariants.{Id, Axiom, Add, Times, Divide, Saturate, Weaken}
use Rattle.pb_rules.specs.Linear.{Linear}
use Rattle.pb_rules.specs.Operations.{Context, small_number, apply_all}
use Rattle.pb_rules.specs.Frames.{Line, derived, cover, Frame, Given, context_of, given_from}
use Rattle.pb_rules.proofs.Carried.{Carried, by_id, by_axiom, by_factor, by_divisor, by_weakening, carried, first_op, line_stack}
use Rattle.pb_rules.proofs.Given.{Goes, by_ops, by_block, goes, first_line}
use Rattle.proof_words.specs.Words.{op_text, op_of, numeral_number, IsWritable}
use Rattle.proof_words.specs.Legal.{IsWritableLine, ReadsBack}
use Rattle.proof_words.proofs.Spellings.{read_back, numeral_number-decimal}

-- an operation that was carried out can be written
carried_is : (context : Context) (after : List Linear) (op : Op) (st : List Linear) → Carried context after op st → IsWritable op
carried_is context after (Id i) st (by_id c small there is) = small
carried_is context after (Axiom l) st (by_axiom small known is) = small
carried_is context after Add st h = tt
carried_is context after (Times n) [] h = elim h [ ]
carried_is context after (Times n) (a ∷ st) (by_factor positive small fits is) = (positive, small)
carried_is context after (Divide n) [] h = elim h [ ]
carried_is context after (Divide n) (a ∷ st) (by_divisor positive small is) = small
carried_is context after Saturate st h = tt
carried_is context after (Weaken x) [] h = elim h [ ]
carried_is context after (Weaken x) (a ∷ st) (by_weakening small known is) = small

all_are : (context : Context) (ops : List Op) (st after : List Linear) → apply_all context ops st ≡ Ok after → All IsWritable ops
all_are context [] st after e = All-nil IsWritable
all_are context (op ∷ ops) st after e =
    let s = first_op context op ops st after e in
    All-cons IsWritable op ops (carried_is context s.0 op st (carried context op st s.0 s.1)) (all_are context ops s.0 after s.2)

-- numbers that all pass the test are all small
numbers_are : (v : List ℕ) → list_all small_number v ≡ true → All (λ n. n < 2 ^ 63) v
numbers_are [] e = All-nil (λ n. n < 2 ^ 63)
numbers_are (n ∷ v) e =
    let h = and_parts (small_number n) (list_all small_number v) e in
    let t : nat_lt n (2 ^ 63) ≡ true = h.0 in
    All-cons (λ n. n < 2 ^ 63) n v (grind (arith, nat_tests, t)) (numbers_are v h.1)

line_is : (f : Frame) (g h : Given) (l : Line) → Goes f g h l → IsWritableLine l
line_is f g h (derived ops) (by_ops c gives is) = all_are (context_of g) ops [] (c ∷ []) (line_stack (context_of g) ops c gives)
line_is f g h (cover v) (by_block small is) = numbers_are v small

-- legal lines can be written
pub lines_are : (f : Frame) (before after : Given) (ls : List Line) → given_from f before ls ≡ Some after → All IsWritableLine ls
lines_are f before after [] e = All-nil IsWritableLine
lines_are f before after (l ∷ ls) e =
    let s = first_line f before after l ls e in
    All-cons IsWritableLine l ls (line_is f before s.0 l (goes f before s.0 l s.1)) (lines_are f s.0 after ls s.2)

-- what reads back one by one reads back as a list
each_back : {X : Type 0} (write : X → List ℕ) (read : List ℕ → Option X) (P : X → Type 0) → ((x : X) → P x → read (write x) ≡ Some x) → (xs : List X) → All P xs → map read (map write xs) ≡ map Some xs
each_back write read P back [] all = refl
each_back {X} write read P back (x ∷ xs) all =
    ap (λ (o : Option X). o ∷ map read (map write xs)) (back x (All-head P x xs all)) ∙ ap (λ (os : List (Option X)). Some x ∷ os) (each_back write read P back xs (All-tail P x xs all))

pub line_back : (l : Line) → IsWritableLine l → ReadsBack l
line_back (derived ops) h = each_back op_text op_of IsWritable read_back ops h
line_back (cover v) h = each_back decimal numeral_number (λ n. n < 2 ^ 63) numeral_number-decimal v h
