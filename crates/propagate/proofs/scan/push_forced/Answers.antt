use Rattle.std.proofs.Common.{◌≡◌, ◌∙◌, ℕ, ◌-◌, ◌<◌, refl, ap, sym, subst}
use Rattle.std.proofs.lemmas.List.Sorted.{All-permutation}
use Rattle.pb_rules.specs.declared.Term.{Term}
use Rattle.propagate.specs.Attached.{Attached}
use Rattle.propagate.proofs.Scanning.{Progress-none, Progress-step, Progress-stop, Progress-all}
use Rattle.propagate.proofs.scan.push_forced.Goals as goal

pub loop-t-init : goal.loop-t-init
loop-t-init c =
    let a : Attached = record { id = c.args.id; constraint = c.args.c.now } in
    record { variables = refl; progress = Progress-none a c.by_falling-t-items.result.now c.args.trail.now.entries c.args.room c.requires.room }

pub push_if_forced-pushed-requires : goal.push_if_forced-pushed-requires
push_if_forced-pushed-requires c =
    let ts = c.by_falling-t-items.result.now in
    let t = c.t-item.result in
    let n = c.args.trail.now.variables in
    let B : Term → Type 0 = λ u. u.lit.var < n in
    let V : ℕ → Type 0 = λ m. t.lit.var < m in
    let below = All-permutation B c.args.c.now.terms ts c.by_falling-t-items.ensures.moved c.requires.in_range c.loop-t.t-index t c.loop-t-test.true in
    subst V (sym c.loop-t.invariant.variables) (subst B (sym c.t-item.is) below)

pub loop-t-preserved : goal.loop-t-preserved
loop-t-preserved c =
    let a : Attached = record { id = c.args.id; constraint = c.args.c.now } in
    let t = c.t-item.result in
    let ts = c.by_falling-t-items.result.now in
    let e = c.push_if_forced-pushed.ensures in
    let s : c.args.room - c.degree.result ≡ c.args.room - c.args.c.now.degree = ap (λ (n : ℕ). c.args.room - n) c.degree.ensures.value in
    record {
      variables = e.variables ∙ c.loop-t.invariant.variables;
      progress = Progress-step a ts c.args.trail.now.entries c.loop-t.trail.entries c.push_if_forced-pushed.new.trail.entries c.loop-t.t-index c.args.room (c.args.room - c.degree.result) t
          c.push_if_forced-pushed.result c.loop-t.invariant.progress c.degree.ensures.normal c.by_falling-t-items.ensures c.loop-t-test.true c.t-item.is c.requires.no_conflict s e.pushed e.free
          e.beyond e.same e.within;
    }

pub returns-then-t-slack-clause-quiet : goal.returns-then-t-slack-clause-quiet
returns-then-t-slack-clause-quiet c =
    let a : Attached = record { id = c.args.id; constraint = c.args.c.now } in
    let s : c.args.room - c.degree.result ≡ c.args.room - c.args.c.now.degree = ap (λ (n : ℕ). c.args.room - n) c.degree.ensures.value in
    Progress-stop a c.by_falling-t-items.result.now c.args.trail.now.entries c.loop-t.trail.entries c.loop-t.t-index c.args.room (c.args.room - c.degree.result) c.t-item.result
    c.loop-t.invariant.progress c.by_falling-t-items.ensures c.loop-t-test.true c.t-item.is c.requires.no_conflict s c.if-t-slack.true

pub returns-clause-quiet : goal.returns-clause-quiet
returns-clause-quiet c =
    let a : Attached = record { id = c.args.id; constraint = c.args.c.now } in
    Progress-all a c.by_falling-t-items.result.now c.args.trail.now.entries c.loop-t.trail.entries c.loop-t.t-index c.args.room c.loop-t.invariant.progress c.by_falling-t-items.ensures
    c.loop-t-test.false c.requires.no_conflict
