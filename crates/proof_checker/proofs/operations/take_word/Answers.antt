use Rattle.std.proofs.Common.{ap, sym, ◌∙◌, ◌≡◌, ◌≤◌, ◌^◌, Some, subst, arith, List, ℕ}
use Rattle.pb_rules.specs.declared.Op.TheVariants.{Axiom}
use Rattle.std.specs.Prelude.{option_map}
use Rattle.proof_words.specs.Words.{op_of}
use Rattle.proof_words.specs.Said.{op_in, IsFarWhereSaid}
use Rattle.proof_words.specs.declared.reading.WordOp.{WordOp}
use Rattle.proof_words.proofs.Spellings.{says}
use Rattle.front_model.specs.Judging.{judge_op}
use Rattle.proof_checker.specs.Answers.{context_over}
use Rattle.proof_checker.proofs.Words.{op_is_text, far_unknown}
use Rattle.proof_checker.proofs.operations.take_word.Goals as goal

pub returns-in_default : goal.returns-in_default
returns-in_default c = ap (judge_op (context_over c.args.given.now) c.args.stack.now) (op_is_text c.args.word.now c.in_default.ensures.cases.0)

pub take_op-requires-clause-writable : goal.take_op-requires-clause-writable
take_op-requires-clause-writable c =
    let op = c.in-Some-Operation.op in
    let text = c.in-Ok.text.now in
    let is : op_of text ≡ Some op = sym c.read_op.ensures.value ∙ (ap (option_map op_in) c.in-Some-Operation.is ∙ ap (λ (w : WordOp). option_map op_in (Some w)) c.in-Some-Operation.field-0-is) in
    (says text op is).writable

pub returns-in-Some-FarAxiom : goal.returns-in-Some-FarAxiom
returns-in-Some-FarAxiom c =
    let f = c.in-Some-FarAxiom in
    let text = c.in-Ok.text.now in
    let is : op_of text ≡ Some (Axiom (record { var = f.var; yes = f.field-0-1 })) = sym c.read_op.ensures.value
    ∙ (ap (option_map op_in) f.is ∙ ap (λ (w : WordOp). option_map op_in (Some w)) f.field-0-is) in
    let far : 2 ^ 62 ≤ f.var = subst IsFarWhereSaid f.field-0-is f.ensures.far in
    let same : text ≡ c.args.word.now = c.in-Ok.ensures.cases.0 in
    far_unknown c.args.given.now c.args.stack.now c.args.known f.var f.field-0-1 c.args.word.now (subst (λ (w : List ℕ). op_of w ≡ Some (Axiom (record { var = f.var; yes = f.field-0-1 }))) same
    is) c.requires.known (omega (arith, c.requires.few, far))
