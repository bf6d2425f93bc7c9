-- Words that say something one by one, and what the words of a proof file say.
use Rattle.std.proofs.Common.{◌≡◌, ℕ, ◌<◌, ◌^◌, List, [], ◌∷◌, map, Option, Some, None, Result, Ok, Err, refl, sym, ap, ◌∙◌, subst, arith}
use Rattle.std.specs.Prelude.{All, decimal}
use Rattle.std.specs.Result.{result_ok}
use Rattle.std.proofs.lemmas.List.Elements.{All-cons, All-head, All-tail, All-nil}
use Rattle.line_words.specs.Numbers.{plain_whole_of}
use Rattle.line_words.specs.Rules.{Words}
use Rattle.line_words.specs.declared.numbers.NumberFault.{NumberFault}
use Rattle.line_words.proofs.Plain.{decimal_when_read}
use Rattle.pb_rules.specs.declared.Op.{Op}
use Rattle.proof_words.specs.Words.{op_text, op_of, IsWritable, numeral_number}
use Rattle.proof_words.proofs.Spellings.{says, numeral_number-decimal}
use Rattle.proof_log.specs.Files.{onto_said, with_said, each_said}

-- ---- texts that say something one by one

-- the first says something, and so do the others
pub record SaysFirst {X : Type 0} (read : List ℕ → Option X) (w : List ℕ) (ws : List (List ℕ)) (xs : List X) : Type 0 where
  pub first : X
  pub more : List X
  pub said : read w ≡ Some first
  pub others : each_said read ws ≡ Some more
  pub is : first ∷ more ≡ xs

-- what the first word says, and the others
pub first_said : {X : Type 0} (read : List ℕ → Option X) (w : List ℕ) (ws : List (List ℕ)) (xs : List X) → each_said read (w ∷ ws) ≡ Some xs → SaysFirst read w ws xs
first_said {X} read w ws xs e = go (read w) (each_said read ws) refl refl e
  where
    go : (o : Option X) (p : Option (List X)) → read w ≡ o → each_said read ws ≡ p → with_said o p ≡ Some xs → SaysFirst read w ws xs
    go None p a b f = absurd cc
    go (Some x) None a b f = absurd cc
    go (Some x) (Some more) a b f = record { first = x; more = more; said = a; others = b; is = cc }

-- words that are read one by one are read together
pub said_cons : {X : Type 0} (read : List ℕ → Option X) (w : List ℕ) (ws : List (List ℕ)) (x : X) (xs : List X) → read w ≡ Some x → each_said read ws ≡ Some xs
    → each_said read (w ∷ ws) ≡ Some (x ∷ xs)
said_cons {X} read w ws x xs a b = ap (λ (o : Option X). with_said o (each_said read ws)) a ∙ ap (onto_said x) b

-- what is written one by one reads back
pub said_back : {X : Type 0} (write : X → List ℕ) (read : List ℕ → Option X) (P : X → Type 0) → ((x : X) → P x → read (write x) ≡ Some x) → (xs : List X) → All P xs
    → each_said read (map write xs) ≡ Some xs
said_back write read P back [] all = refl
said_back write read P back (x ∷ xs) all = said_cons read (write x) (map write xs) x xs (back x (All-head P x xs all)) (said_back write read P back xs (All-tail P x xs all))

-- what holds of each thing that is said
pub said_each : {X : Type 0} (read : List ℕ → Option X) (P : X → Type 0) → ((w : List ℕ) (x : X) → read w ≡ Some x → P x) → (ws : List (List ℕ)) (xs : List X) → each_said read ws ≡ Some xs → All P xs
said_each {X} read P one [] xs e = go xs cc
  where
    go : (xs : List X) → [] ≡ xs → All P xs
    go [] f = All-nil P
    go (x ∷ xs) f = absurd cc
said_each {X} read P one (w ∷ ws) xs e =
    let s = first_said read w ws xs e in
    subst (All P) s.is (All-cons P s.first s.more (one w s.first s.said) (said_each read P one ws s.more s.others))

-- texts are those of what they say
pub record AreTexts {X : Type 0} (write : X → List ℕ) (P : X → Type 0) (ws : List (List ℕ)) (xs : List X) : Type 0 where
  pub text : ws ≡ map write xs
  pub each : All P xs

pub said_texts : {X : Type 0} (write : X → List ℕ) (read : List ℕ → Option X) (P : X → Type 0) → ((w : List ℕ) (x : X) → read w ≡ Some x → (w ≡ write x) × P x) → (ws : List (List ℕ)) (xs : List X)
    → each_said read ws ≡ Some xs → AreTexts write P ws xs
said_texts {X} write read P one [] xs e = go xs cc
  where
    go : (xs : List X) → [] ≡ xs → AreTexts write P [] xs
    go [] f = record { text = refl; each = All-nil P }
    go (x ∷ xs) f = absurd cc
said_texts {X} write read P one (w ∷ ws) xs e =
    let s = first_said read w ws xs e in
    let here = one w s.first s.said in
    let more = said_texts write read P one ws s.more s.others in
    subst (AreTexts write P (w ∷ ws)) s.is (record {
      text = ap (λ (v : List ℕ). v ∷ ws) here.0 ∙ ap (λ (vs : List (List ℕ)). write s.first ∷ vs) more.text;
      each = All-cons P s.first s.more here.1 more.each;
    })

-- ---- operations and numbers

pub op_text_of : (w : List ℕ) (op : Op) → op_of w ≡ Some op → (w ≡ op_text op) × IsWritable op
op_text_of w op e = let s = says w op e in (sym s.spelling, s.writable)

-- a numeral that is read is the one text of its number
pub numeral_text : (w : List ℕ) (n : ℕ) → numeral_number w ≡ Some n → (w ≡ decimal n) × (n < 2 ^ 63)
numeral_text w n e = go (plain_whole_of w) refl e
  where
    go : (r : Result ℕ NumberFault) → plain_whole_of w ≡ r → result_ok r ≡ Some n → (w ≡ decimal n) × (n < 2 ^ 63)
    go (Err f) q e = absurd cc
    go (Ok m) q e = (let same : m ≡ n = cc in let x = decimal_when_read w m q in (x.0 ∙ ap decimal same, omega (arith, x.1, same)))

abbrev IsSmall : ℕ → Type 0
IsSmall n = n < 2 ^ 63

pub numbers_text : (ws : Words) (v : List ℕ) → each_said numeral_number ws ≡ Some v → AreTexts decimal IsSmall ws v
numbers_text ws v e = said_texts decimal numeral_number IsSmall numeral_text ws v e

pub numbers_back : (v : List ℕ) → All (λ n. n < 2 ^ 63) v → each_said numeral_number (map decimal v) ≡ Some v
numbers_back v h = said_back decimal numeral_number IsSmall numeral_number-decimal v h
