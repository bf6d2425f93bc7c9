use Rattle.std.proofs.Common.{◌≡◌, ◌∙◌, ◌+◌, ◌<◌, List, length, take, drop, sym, ap, subst, arith}
use Rattle.std.proofs.lemmas.List.Elements.{All-head}
use Rattle.std.specs.Prelude.{All}
use Rattle.pb_rules.specs.Literal.{Literal}
use Rattle.propagate.specs.Counters.{AreGivenBack}
use Rattle.propagate.proofs.Backing.{off_at}
use Rattle.propagate.proofs.counters.Counters.wake_upto.Goals as goal

pub wake_for-requires-clause-below : goal.wake_for-requires-clause-below
wake_for-requires-clause-below c =
    let s = c.loop-place.self in
    let i = c.loop-place.invariant in
    let l = c.index-lit.result.now in
    let k = c.loop-place.place in
    let rest = drop (k + 1) (take c.args.top s.lits.items) in
    let len : length s.lits.items ≡ length c.args.self.now.lits.items = ap (λ v. length v.items) i.lits in
    let there = c.requires.there in
    let off = off_at s.lits.items c.args.top k l c.loop-place-test.true (omega (arith, len)) c.index-lit.ensures in
    let B : Literal → Type 0 = λ m. m.var < s.variables in
    let A : List Literal → Type 0 = λ us. All B us in
    All-head B l rest (subst A off i.given.off_below)

pub loop-place-preserved : goal.loop-place-preserved
loop-place-preserved c =
    let s = c.loop-place.self in
    let i = c.loop-place.invariant in
    let e = c.wake_for.ensures in
    let l = c.index-lit.result.now in
    let k = c.loop-place.place in
    let rest = drop (k + 1) (take c.args.top s.lits.items) in
    let len : length s.lits.items ≡ length c.args.self.now.lits.items = ap (λ v. length v.items) i.lits in
    let there = c.requires.there in
    let off = off_at s.lits.items c.args.top k l c.loop-place-test.true (omega (arith, len)) c.index-lit.ensures in
    let G : List Literal → Type 0 = λ us. AreGivenBack us s in
    let woke : AreGivenBack rest c.wake_for.new.self = e.woke rest (subst G off i.given) in
    let N : List Literal → Type 0 = λ us. AreGivenBack us c.wake_for.new.self in
    let same : rest ≡ drop (k + 1) (take c.args.top c.wake_for.new.self.lits.items) = ap (λ v. drop (k + 1) (take c.args.top v.items)) (sym e.lits) in
    record {
      built = e.built;
      given = subst N same woke;
      lits = e.lits ∙ i.lits;
      used = e.used ∙ i.used;
      slots = e.slots ∙ i.slots;
      variables = e.variables ∙ i.variables;
    }
