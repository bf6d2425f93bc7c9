-- Words that are no text say nothing.
use Rattle.std.proofs.Common.{◌≡◌, ℕ, zero, suc, ◌<◌, ◌≤◌, ◌^◌, Bool, true, cond, List, [], ◌∷◌, Option, Some, None, Result, Ok, Err, refl, sym, ap, ◌∙◌, subst, arith}
use Rattle.std.proofs.lemmas.Bool.{lt-ltb, le-ltb, and_parts}
use Rattle.std.specs.List.{list_all}
use Rattle.std.specs.Str.{IsAscii, IsUtf8}
use Rattle.std.proofs.lemmas.Bool.Decides.{nat_tests}
use Rattle.std.proofs.lemmas.Str.{IsUtf8-from_ascii}
use Rattle.spelled_lines.specs.Lines.{IsWord, is_word_byte}
use Rattle.pb_rules.specs.declared.Op.{Op}
use Rattle.pb_rules.specs.declared.Op.TheVariants.{Axiom}
use Rattle.pb_rules.specs.Literal.{Literal}
use Rattle.pb_rules.specs.Linear.{Linear}
use Rattle.pb_rules.specs.CuttingPlanes.{axiom_of}
use Rattle.pb_rules.specs.Operations.{Fault, unknown, no_step, if_known}
use Rattle.block_encode.specs.Laws.{KnowsBelow}
use Rattle.proof_words.specs.Words.{op_text, op_of, numeral_number}
use Rattle.proof_words.proofs.Spellings.{says}
use Rattle.spelled_lines.proofs.Decimals.{decimal_word}
use Rattle.front_model.specs.Judging.{judge_op}
use Rattle.proof_log.proofs.Words.{numeral_text}
use Rattle.proof_log.proofs.Reading.{op_named}
use Rattle.proof_checker.specs.Answers.{context_over}

small_byte : (b : ℕ) → is_word_byte b ≡ true → b < 128
small_byte b h = grind (arith, nat_tests)

name_ascii : (w : List ℕ) → list_all is_word_byte w ≡ true → IsAscii w
name_ascii [] h i = omega arith
name_ascii (b ∷ w) h zero = small_byte b (and_parts (is_word_byte b) (list_all is_word_byte w) h).0
name_ascii (b ∷ w) h (suc i) = name_ascii w (and_parts (is_word_byte b) (list_all is_word_byte w) h).1 i

pub name_text : (w : List ℕ) → IsWord w → IsUtf8 w
name_text w h = IsUtf8-from_ascii w (name_ascii w h.bytes)

-- a word that says an operation is text
pub op_is_text : (w : List ℕ) → (IsUtf8 w → ⊥) → op_of w ≡ None
op_is_text w bad = go (op_of w) refl
  where
    go : (o : Option Op) → op_of w ≡ o → o ≡ None
    go None e = refl
    go (Some op) e = (let s = says w op e in absurd (bad (subst IsUtf8 s.spelling (name_text (op_text op) (op_named op s.writable)))))

-- and so is a numeral
pub number_is_text : (w : List ℕ) → (IsUtf8 w → ⊥) → numeral_number w ≡ None
number_is_text w bad = go (numeral_number w) refl
  where
    go : (o : Option ℕ) → numeral_number w ≡ o → o ≡ None
    go None e = refl
    go (Some n) e = (let t = numeral_text w n e in absurd (bad (subst IsUtf8 (sym t.0) (name_text _ (decimal_word n t.1)))))

-- an axiom of a variable that isn't there
pub far_unknown : (cs st : List Linear) (known x : ℕ) (is_yes : Bool) (w : List ℕ) → op_of w ≡ Some (Axiom (record { var = x; yes = is_yes })) → KnowsBelow cs known → known ≤ x
    → judge_op (context_over cs) st (op_of w) ≡ Err (unknown x)
far_unknown cs st known x is_yes w e knows l =
    let l' : Literal = record { var = x; yes = is_yes } in
    let small : x < 2 ^ 63 = (says w (Axiom l') e).writable in
    let made : Result (List Linear) Fault = Ok (axiom_of l' ∷ st) in
    ap (judge_op (context_over cs) st) e
    ∙ (ap (λ (b : Bool). cond b (if_known (context_over cs) x made) (Err no_step)) (lt-ltb x (2 ^ 63) small)
    ∙ ap (λ (b : Bool). cond b made (Err (unknown x))) (knows x ∙ le-ltb x known l))
