use Rattle.std.proofs.Common.{◌≡◌, ◌<◌, ℕ, Bool, List, All, length, vec_len, map, sym, ap, ap₂, ◌∙◌, subst, refl, arith, rules}
use Rattle.sat_decoder.specs.Decoder.{DecoderValue, IsLogOf}
use Rattle.spec_model.specs.Spec.{SpecValue, Bits, design_variables}
use Rattle.front_archive.specs.declared.member.Member.{Member}
use Rattle.evo_explore.specs.Breeding.{HasGenes}
use Rattle.evo_explore.specs.Counts.{RoseBy, RoseAtMost, HasRoom, picked}
use Rattle.evo_explore.specs.Run.{IsFound}
use Rattle.evo_explore.specs.Steps.{CountsSay}
use Rattle.evo_explore.proofs.Counting.{round_more, round_at_most, round_room, all_rounds}
use Rattle.evo_explore.proofs.Rounds.{none_rose}
use Rattle.evo_explore.proofs.Exploring.{found_none_yet, joined, stopped, joins_as, found_more, found_none, done_run, infeasible_run, done_not, infeasible_so, counted_none, counted_all}
use Rattle.evo_explore.proofs.run.explore.Goals as goal

pub loop-round-init : goal.loop-round-init
loop-round-init g c =
    let d = c.in_ok-decoder.ensures in
    record {
      found = found_none_yet _ _ _ _ _ _ _ _ (ap (λ (v : DecoderValue). v.log) d) c.new-2.ensures c.new-3.ensures.empty;
      spec_is = ap (λ (v : DecoderValue). v.spec) d;
      ready = ap (λ (v : DecoderValue). v.spent) d;
      genes = subst (λ (ms : List Member). All (HasGenes (design_variables c.args.spec.now)) ms) (sym c.new-3.ensures.empty) (λ k d l. absurd (omega (arith, l)));
      width = search rules;
      rose = record { each = λ k. omega arith };
      len = refl;
      tags = refl;
      values = λ s f. refl;
    }

pub round-requires : goal.round-requires
round-requires g c =
    let i = c.loop-round.invariant in
    let same = c.deref.ensures.value in
    record {
      laid_out = c.in_ok-objectives.ensures;
      same_spec = i.spec_is;
      genes = i.genes;
      width = omega (arith, i.width, ap length same);
      within =
          subst (λ (ps : List ℕ). All (λ (p : ℕ). p < vec_len c.loop-round.tools) ps) (sym same) (subst (λ (n : ℕ). All (λ (p : ℕ). p < n) c.args.params.now.chosen.items) (sym i.len)
          c.requires.within);
      room =
          subst (λ (ps : List ℕ). HasRoom 1 ps (map (λ t. (goal.Evaluator-dyn g (t.vtable, t.value)).calls t.value) c.loop-round.tools.items)) (sym same)
          (round_room _ _ _ _ _ c.loop-round-test.true i.rose c.requires.room);
    }

pub loop-round-preserved : goal.loop-round-preserved
loop-round-preserved g c =
    let s = c.args.spec.now in
    let i = c.loop-round.invariant in
    let x = c.in_ok-more.ensures in
    let same = c.deref.ensures.value in
    let old : Bits → List ℕ = λ f. picked (map (λ t. (goal.Evaluator-dyn g (t.vtable, t.value)).value t.value s f) c.args.tools.now.items) c.args.params.now.chosen.items in
    let now : Bits → List ℕ = λ f. picked (map (λ t. (goal.Evaluator-dyn g (t.vtable, t.value)).value t.value s f) c.loop-round.tools.items) c.deref.result.now in
    let j = joined s g.W.Words.gives g.W.Words.after now _ _ _ _ c.loop-round.found c.round.new.found c.in_ok-more.more c.if-not-more.false x.round in
    let mid : List ℕ = map (λ t. (goal.Evaluator-dyn g (t.vtable, t.value)).calls t.value) c.loop-round.tools.items in
    let new : List ℕ = map (λ t. (goal.Evaluator-dyn g (t.vtable, t.value)).calls t.value) c.round.new.tools.items in
    let k = joins_as s g.W.Words.gives g.W.Words.after old now _ _ _ _ c.loop-round.found c.round.new.found (λ f. ap₂ picked (i.values s f) same) j in
    record {
      found = found_more s g.W.Words.gives g.W.Words.after old _ _ _ _ _ c.loop-round.found c.round.new.found _ i.found k;
      spec_is = ap (λ (v : DecoderValue). v.spec) x.same ∙ i.spec_is;
      ready = ap (λ (v : DecoderValue). v.spent) x.same ∙ i.ready;
      genes = x.genes;
      width = x.width ∙ i.width;
      rose =
          round_more _ _ _ _ _ i.rose (subst (λ (b : Bool). CountsSay c.args.params.now.chosen.items mid new b) c.if-not-more.false
          (subst (λ (ps : List ℕ). CountsSay ps mid new c.in_ok-more.more) same x.counted));
      len = c.round.ensures.len ∙ i.len;
      tags = c.round.ensures.tags ∙ i.tags;
      values = λ t f. c.round.ensures.values t f ∙ i.values t f;
    }

pub ended-requires : goal.ended-requires
ended-requires g c = ap (λ (v : DecoderValue). v.spent) c.in_ok-more.ensures.same ∙ c.loop-round.invariant.ready

pub ended-requires-2 : goal.ended-requires-2
ended-requires-2 g c = c.loop-round.invariant.ready

-- ---- where memory is wanted

pub returns-in_err-objectives-clause-at_most : goal.returns-in_err-objectives-clause-at_most
returns-in_err-objectives-clause-at_most g c = none_rose _ _ _

pub returns-in_err-decoder-clause-at_most : goal.returns-in_err-decoder-clause-at_most
returns-in_err-decoder-clause-at_most g c = none_rose _ _ _

pub returns-in_err-more-clause-at_most : goal.returns-in_err-more-clause-at_most
returns-in_err-more-clause-at_most g c =
    let mid : List ℕ = map (λ t. (goal.Evaluator-dyn g (t.vtable, t.value)).calls t.value) c.loop-round.tools.items in
    let new : List ℕ = map (λ t. (goal.Evaluator-dyn g (t.vtable, t.value)).calls t.value) c.round.new.tools.items in
    round_at_most _ _ _ _ _ _ c.loop-round-test.true c.loop-round.invariant.rose (subst (λ (ps : List ℕ). RoseAtMost 1 ps mid new) c.deref.ensures.value c.round.ensures.at_most)

pub returns-in_err-more-clause-values : goal.returns-in_err-more-clause-values
returns-in_err-more-clause-values g c = λ t f. c.round.ensures.values t f ∙ c.loop-round.invariant.values t f

-- ---- where no design is valid

pub returns-then-not-more-clause-run : goal.returns-then-not-more-clause-run
returns-then-not-more-clause-run g c =
    let s = c.args.spec.now in
    let old : Bits → List ℕ = λ f. picked (map (λ t. (goal.Evaluator-dyn g (t.vtable, t.value)).value t.value s f) c.args.tools.now.items) c.args.params.now.chosen.items in
    let now : Bits → List ℕ = λ f. picked (map (λ t. (goal.Evaluator-dyn g (t.vtable, t.value)).value t.value s f) c.loop-round.tools.items) c.deref.result.now in
    let none = stopped s g.W.Words.gives g.W.Words.after now _ _ _ _ c.loop-round.found c.round.new.found c.in_ok-more.more c.if-not-more.true c.in_ok-more.ensures.round in
    let found = found_none s g.W.Words.gives g.W.Words.after old _ _ _ _ _ c.loop-round.found c.round.new.found _ _ c.loop-round-test.true c.loop-round.invariant.found none in
    let e = c.ended.ensures in
    infeasible_run s g.W.Words.gives g.W.Words.after old _ _ _ c.ended.result _ c.round.new.found e.history e.archive e.log e.end found

pub returns-then-not-more-clause-infeasible : goal.returns-then-not-more-clause-infeasible
returns-then-not-more-clause-infeasible g c =
    let s = c.args.spec.now in
    let old : Bits → List ℕ = λ f. picked (map (λ t. (goal.Evaluator-dyn g (t.vtable, t.value)).value t.value s f) c.args.tools.now.items) c.args.params.now.chosen.items in
    let now : Bits → List ℕ = λ f. picked (map (λ t. (goal.Evaluator-dyn g (t.vtable, t.value)).value t.value s f) c.loop-round.tools.items) c.deref.result.now in
    let none = stopped s g.W.Words.gives g.W.Words.after now _ _ _ _ c.loop-round.found c.round.new.found c.in_ok-more.more c.if-not-more.true c.in_ok-more.ensures.round in
    let found = found_none s g.W.Words.gives g.W.Words.after old _ _ _ _ _ c.loop-round.found c.round.new.found _ _ c.loop-round-test.true c.loop-round.invariant.found none in
    infeasible_so s g.W.Words.gives g.W.Words.after old _ _ _ _ _ _ c.ended.result.end c.ended.ensures.end found

pub returns-then-not-more-clause-log : goal.returns-then-not-more-clause-log
returns-then-not-more-clause-log g c =
    subst (λ (t : SpecValue). IsLogOf t c.ended.result.log) (ap (λ (v : DecoderValue). v.spec) c.in_ok-more.ensures.same ∙ c.loop-round.invariant.spec_is) c.ended.ensures.log_of

pub returns-then-not-more-clause-counted : goal.returns-then-not-more-clause-counted
returns-then-not-more-clause-counted g c =
    let s = c.args.spec.now in
    let old : Bits → List ℕ = λ f. picked (map (λ t. (goal.Evaluator-dyn g (t.vtable, t.value)).value t.value s f) c.args.tools.now.items) c.args.params.now.chosen.items in
    let now : Bits → List ℕ = λ f. picked (map (λ t. (goal.Evaluator-dyn g (t.vtable, t.value)).value t.value s f) c.loop-round.tools.items) c.deref.result.now in
    let none = stopped s g.W.Words.gives g.W.Words.after now _ _ _ _ c.loop-round.found c.round.new.found c.in_ok-more.more c.if-not-more.true c.in_ok-more.ensures.round in
    let found = found_none s g.W.Words.gives g.W.Words.after old _ _ _ _ _ c.loop-round.found c.round.new.found _ _ c.loop-round-test.true c.loop-round.invariant.found none in
    let mid : List ℕ = map (λ t. (goal.Evaluator-dyn g (t.vtable, t.value)).calls t.value) c.loop-round.tools.items in
    let new : List ℕ = map (λ t. (goal.Evaluator-dyn g (t.vtable, t.value)).calls t.value) c.round.new.tools.items in
    let same = subst (λ (b : Bool). CountsSay c.deref.result.now mid new b) c.if-not-more.true c.in_ok-more.ensures.counted in
    counted_none s g.W.Words.gives g.W.Words.after old _ _ _ _ c.ended.result.history _ _ _ _ _ _ (c.ended.ensures.history ∙ found.no_history) found.refuted.none_valid c.loop-round.invariant.found
    c.loop-round.invariant.rose same

pub returns-then-not-more-clause-at_most : goal.returns-then-not-more-clause-at_most
returns-then-not-more-clause-at_most g c =
    let mid : List ℕ = map (λ t. (goal.Evaluator-dyn g (t.vtable, t.value)).calls t.value) c.loop-round.tools.items in
    let new : List ℕ = map (λ t. (goal.Evaluator-dyn g (t.vtable, t.value)).calls t.value) c.round.new.tools.items in
    round_at_most _ _ _ _ _ _ c.loop-round-test.true c.loop-round.invariant.rose (subst (λ (ps : List ℕ). RoseAtMost 1 ps mid new) c.deref.ensures.value c.round.ensures.at_most)

pub returns-then-not-more-clause-values : goal.returns-then-not-more-clause-values
returns-then-not-more-clause-values g c = λ t f. c.round.ensures.values t f ∙ c.loop-round.invariant.values t f

-- ---- after all rounds

pub returns-clause-run : goal.returns-clause-run
returns-clause-run g c =
    let s = c.args.spec.now in
    let old : Bits → List ℕ = λ f. picked (map (λ t. (goal.Evaluator-dyn g (t.vtable, t.value)).value t.value s f) c.args.tools.now.items) c.args.params.now.chosen.items in
    let all : c.loop-round._round ≡ c.args.params.now.rounds = omega (arith, c.loop-round-test.false, c.loop-round.auto._round-end) in
    let found = subst (λ (n : ℕ). IsFound s g.W.Words.gives g.W.Words.after old c.args.words.now c.loop-round.words c.loop-round.decoder.log c.loop-round.found.history
    c.loop-round.found.archive.members n) all c.loop-round.invariant.found in
    let e = c.ended-2.ensures in
    done_run s g.W.Words.gives g.W.Words.after old _ _ _ c.ended-2.result _ c.loop-round.found e.history e.archive e.log e.end found

pub returns-clause-infeasible : goal.returns-clause-infeasible
returns-clause-infeasible g c =
    let s = c.args.spec.now in
    let old : Bits → List ℕ = λ f. picked (map (λ t. (goal.Evaluator-dyn g (t.vtable, t.value)).value t.value s f) c.args.tools.now.items) c.args.params.now.chosen.items in
    let all : c.loop-round._round ≡ c.args.params.now.rounds = omega (arith, c.loop-round-test.false, c.loop-round.auto._round-end) in
    let found = subst (λ (n : ℕ). IsFound s g.W.Words.gives g.W.Words.after old c.args.words.now c.loop-round.words c.loop-round.decoder.log c.loop-round.found.history
    c.loop-round.found.archive.members n) all c.loop-round.invariant.found in
    done_not s g.W.Words.gives g.W.Words.after old _ _ _ _ _ _ c.ended-2.result.end c.ended-2.ensures.end found

pub returns-clause-log : goal.returns-clause-log
returns-clause-log g c = subst (λ (t : SpecValue). IsLogOf t c.ended-2.result.log) c.loop-round.invariant.spec_is c.ended-2.ensures.log_of

pub returns-clause-counted : goal.returns-clause-counted
returns-clause-counted g c =
    let s = c.args.spec.now in
    let old : Bits → List ℕ = λ f. picked (map (λ t. (goal.Evaluator-dyn g (t.vtable, t.value)).value t.value s f) c.args.tools.now.items) c.args.params.now.chosen.items in
    counted_all s g.W.Words.gives g.W.Words.after old _ _ _ _ c.ended-2.result.history _ _ _ _ _ c.ended-2.ensures.history c.loop-round.invariant.found c.loop-round.invariant.rose

pub returns-clause-at_most : goal.returns-clause-at_most
returns-clause-at_most g c =
    let all : c.loop-round._round ≡ c.args.params.now.rounds = omega (arith, c.loop-round-test.false, c.loop-round.auto._round-end) in
    let before : List ℕ = map (λ t. (goal.Evaluator-dyn g (t.vtable, t.value)).calls t.value) c.args.tools.now.items in
    let mid : List ℕ = map (λ t. (goal.Evaluator-dyn g (t.vtable, t.value)).calls t.value) c.loop-round.tools.items in
    all_rounds _ _ _ _ (subst (λ (n : ℕ). RoseBy n c.args.params.now.chosen.items before mid) all c.loop-round.invariant.rose)

pub returns-clause-values : goal.returns-clause-values
returns-clause-values g c = c.loop-round.invariant.values
