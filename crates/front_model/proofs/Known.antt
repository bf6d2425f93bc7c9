-- The variables that were given are those below a number, at each place of a proof.
use Rattle.std.proofs.Common.{◌≡◌, ℕ, Bool, true, false, cond, eqb, List, refl, sym, ◌∙◌, subst, arith}
use Rattle.std.specs.Prelude.{Option, Some, None, Result, Ok, Err}
use Rattle.std.specs.Str.{bytes_eq}
use Rattle.pb_rules.specs.Frames.{Line, derived, cover, Given, context_of}
use Rattle.pb_rules.proofs.Given.{Goes, by_ops, by_block, goes, given_knows}
use Rattle.pb_rules.proofs.Known.{line_known, derived-knows}
use Rattle.spec_model.specs.Spec.{SpecValue, all_variables}
use Rattle.encode_model.specs.Encoding.{encoding}
use Rattle.encode_model.specs.Block.{cover_frame}
use Rattle.block_encode.specs.Laws.{variables_to, KnowsBelow}
use Rattle.block_encode.proofs.Knowing.{encoding_known, block_known}
use Rattle.front_model.specs.declared.refusals.ProofWhy.{ProofWhy}
use Rattle.front_model.specs.declared.refusals.ProofWhy.TheVariants.{BadStep}
use Rattle.front_model.specs.declared.refusals.Refused.{Refused}
use Rattle.proof_log.specs.Text.{header}
use Rattle.front_model.specs.Proofs.{MayStand}
use Rattle.front_model.specs.Judging.{Stand, judged, judge_header, judge_piece, take_if}
use Rattle.front_model.specs.Laws.{IsKnown, BeginsKnown, StaysKnown}
use Rattle.front_model.proofs.Lines.{line_of_piece}

-- a checker begins with constraints whose variables are known
pub begins_known : BeginsKnown
begins_known s wf =
    let e : all_variables s ≡ variables_to s 0 = omega arith in
    subst (λ (n : ℕ). KnowsBelow (encoding s) n) e (encoding_known s wf)

next_known : (s : SpecValue) (us : List (List ℕ)) (g h : Given) (l : Line) → MayStand s us l → Goes (cover_frame s) g h l → KnowsBelow g.constraints (variables_to s g.covers)
    → KnowsBelow h.constraints (variables_to s h.covers)
next_known s us g h (derived ops) may (by_ops c q e) known =
    subst (λ (k : Given). KnowsBelow k.constraints (variables_to s k.covers)) (sym e) (λ x. derived-knows g c (line_known (context_of g) ops c (given_knows g) q) x ∙ known x)
next_known s us g h (cover v) may (by_block q e) known =
    subst (λ (k : Given). KnowsBelow k.constraints (variables_to s k.covers)) (sym e) (block_known s g.covers v g.constraints may.one_each known)

-- and their variables stay known after one piece more
pub stays_known : StaysKnown
stays_known s us p piece h known = by_refusal p.refused
  where
    by_piece : (o : Result Stand ProofWhy) → judge_piece s us p.given piece ≡ o → IsKnown s (judged p o)
    by_piece (Err why) q = known
    by_piece (Ok stand) q =
        let x = line_of_piece s us p.given stand piece q in
        next_known s us p.given stand.given x.line x.legal.stands (goes (cover_frame s) p.given stand.given x.line x.legal.gives) known

    by_header : (b : Bool) → IsKnown s (judged p (cond b (Ok (record { given = p.given; closed = false })) (Err BadStep)))
    by_header true = known
    by_header false = known

    by_lines : (b : Bool) → IsKnown s (judged p (cond b (judge_header p.given piece) (judge_piece s us p.given piece)))
    by_lines true = by_header (bytes_eq piece header)
    by_lines false = by_piece (judge_piece s us p.given piece) refl

    by_refusal : (o : Option Refused) → IsKnown s (take_if s us p piece o)
    by_refusal None = by_lines (eqb p.lines 0)
    by_refusal (Some r) = known
