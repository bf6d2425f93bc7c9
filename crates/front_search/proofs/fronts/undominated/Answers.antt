use Rattle.std.proofs.Common.{arith, sym, ap, ◌∙◌, ◌≡◌, subst, List, ℕ, length, take}
use Rattle.std.proofs.lemmas.List.{take_all}
use Rattle.result_text.specs.Answers.{EntryValue}
use Rattle.front_lists.specs.Lists.{AreLong, vectors_in}
use Rattle.front_search.specs.Searches.{seen}
use Rattle.front_search.specs.Turns.{AreKeptOf}
use Rattle.front_search.proofs.Places.{long_at, seen_more, front_long, vector_new, kept_all}
use Rattle.front_search.proofs.fronts.undominated.Goals as goal

pub keep-requires-clause-long : goal.keep-requires-clause-long
keep-requires-clause-long c =
    let es = c.args.found.now in
    let e = long_at c.requires.long.0 es c.loop-entry.entry-index c.entry-item.result c.requires.long.1 (omega arith) c.entry-item.is in
    subst (λ (n : ℕ). AreLong n (vectors_in (seen es))) (sym e) c.requires.long.1

pub keep-requires-clause-front_long : goal.keep-requires-clause-front_long
keep-requires-clause-front_long c =
    let es = c.args.found.now in
    let e = long_at c.requires.long.0 es c.loop-entry.entry-index c.entry-item.result c.requires.long.1 (omega arith) c.entry-item.is in
    front_long (length c.entry-item.result.vector) (seen es) (seen c.loop-entry.front.items) (subst (λ (n : ℕ). AreLong n (vectors_in (seen es))) (sym e) c.requires.long.1) c.loop-entry.invariant.only

pub loop-entry-preserved : goal.loop-entry-preserved
loop-entry-preserved c =
    let es = c.args.found.now in
    let i = c.loop-entry.entry-index in
    let e = c.entry-item.result in
    let new = vector_new es i e c.requires.distinct (omega arith) c.entry-item.is in
    let kept = c.in_ok-keep.ensures (seen (take i es)) c.loop-entry.invariant new in
    subst (λ (early : List EntryValue). AreKeptOf (seen es) early (seen c.keep.new.front.items)) (sym (seen_more es i e (omega arith) c.entry-item.is)) kept

pub returns : goal.returns
returns c =
    let es = c.args.found.now in
    kept_all (seen es) (seen (take c.loop-entry.entry-index es)) (seen c.loop-entry.front.items) (ap seen (take_all c.loop-entry.entry-index es (omega arith))) c.loop-entry.invariant
