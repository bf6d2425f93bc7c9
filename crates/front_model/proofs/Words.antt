-- The words of a line that are judged without fault are those of legal operations, and the other way round.
use Rattle.std.proofs.Common.{◌≡◌, List, [], ◌∷◌, Option, Some, None, Result, Ok, Err, refl, ap, ◌∙◌, subst}
use Rattle.line_words.specs.Rules.{Words}
use Rattle.pb_rules.specs.declared.Op.{Op}
use Rattle.pb_rules.specs.Linear.{Linear}
use Rattle.pb_rules.specs.Operations.{Context, Fault, and_then, apply, apply_all, only_one, line_gives}
use Rattle.proof_words.specs.Words.{op_of}
use Rattle.proof_log.specs.Files.{each_said}
use Rattle.proof_log.proofs.Words.{first_said, said_cons}
use Rattle.front_model.specs.Judging.{judge_op, judge_words, judge_derivation}

abbrev Stack : Type 0
Stack = List Linear

-- ---- the words of a derived line

-- words are those of operations that lead from one stack to another
pub record LegalWords (context : Context) (st r : Stack) (ws : Words) : Type 0 where
  pub ops : List Op
  pub said : each_said op_of ws ≡ Some ops
  pub legal : apply_all context ops st ≡ Ok r

pub words_legal : (context : Context) (ws : Words) (st r : Stack) → judge_words context ws st ≡ Ok r → LegalWords context st r ws
words_legal context [] st r e = record { ops = []; said = refl; legal = e }
words_legal context (w ∷ ws) st r e = go (λ m. words_legal context ws m r) (op_of w) refl e
  where
    applied : ((m : Stack) → judge_words context ws m ≡ Ok r → LegalWords context m r ws) → (op : Op) → op_of w ≡ Some op → (o : Result Stack Fault) → apply context op st ≡ o
        → and_then (judge_words context ws) o ≡ Ok r → LegalWords context st r (w ∷ ws)
    applied ih op q (Err why) a e = absurd cc
    applied ih op q (Ok m) a e =
        let more = ih m e in
        record { ops = op ∷ more.ops; said = said_cons op_of w ws op more.ops q more.said; legal = ap (and_then (apply_all context more.ops)) a ∙ more.legal }

    go : ((m : Stack) → judge_words context ws m ≡ Ok r → LegalWords context m r ws) → (o : Option Op) → op_of w ≡ o → and_then (judge_words context ws) (judge_op context st o) ≡ Ok r
        → LegalWords context st r (w ∷ ws)
    go ih None q e = absurd cc
    go ih (Some op) q e = applied ih op q (apply context op st) refl e

-- words that say operations do what these do
pub judged_ops : (context : Context) (ws : Words) (ops : List Op) (st : Stack) → each_said op_of ws ≡ Some ops → judge_words context ws st ≡ apply_all context ops st
judged_ops context [] ops st e = go ops cc
  where
    go : (ops : List Op) → [] ≡ ops → judge_words context [] st ≡ apply_all context ops st
    go [] f = refl
    go (op ∷ ops) f = absurd cc
judged_ops context (w ∷ ws) ops st e =
    let s = first_said op_of w ws ops e in
    subst (λ (os : List Op). judge_words context (w ∷ ws) st ≡ apply_all context os st) s.is
    (ap (λ (o : Option Op). and_then (judge_words context ws) (judge_op context st o)) s.said ∙ go s.more (λ m. judged_ops context ws s.more m s.others) (apply context s.first st))
  where
    go : (more : List Op) → ((m : Stack) → judge_words context ws m ≡ apply_all context more m) → (o : Result Stack Fault) → and_then (judge_words context ws) o ≡ and_then (apply_all context more) o
    go more ih (Ok m) = ih m
    go more ih (Err why) = refl

-- what a derived line's words give is what their operations give
pub record Derives (context : Context) (c : Linear) (ws : Words) : Type 0 where
  pub ops : List Op
  pub said : each_said op_of ws ≡ Some ops
  pub gives : line_gives context ops ≡ Ok c

pub derives : (context : Context) (c : Linear) (ws : Words) → judge_derivation context ws ≡ Ok c → Derives context c ws
derives context c ws e = go (judge_words context ws []) refl e
  where
    go : (o : Result Stack Fault) → judge_words context ws [] ≡ o → and_then only_one o ≡ Ok c → Derives context c ws
    go (Err why) q e = absurd cc
    go (Ok st) q e =
        let all = words_legal context ws [] st q in
        record { ops = all.ops; said = all.said; gives = ap (and_then only_one) all.legal ∙ e }
