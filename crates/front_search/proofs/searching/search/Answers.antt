use Rattle.std.proofs.Common.{◌≡◌, ℕ, ◌<◌, ◌≤◌, ◌+◌, ◌++◌, ◌∷◌, [], List, length, sym, ap, ◌∙◌, subst, arith, inl}
use Rattle.std.proofs.lemmas.List.{map-append, length_push}
use Rattle.pb_rules.specs.Frames.{derived_count}
use Rattle.proof_log.specs.Log.{LogValue}
use Rattle.result_text.specs.Answers.{EntryValue, as_seen}
use Rattle.result_text.specs.declared.entries.Entry.{Entry}
use Rattle.ordered_solver.specs.Solver.{SolverValue}
use Rattle.front_search.specs.Searches.{EndSays, most_lines, seen}
use Rattle.result_text.specs.Fronts.{front_of}
use Rattle.front_lists.specs.Lists.{FoundPrefix, vectors_in, covers_of}
use Rattle.front_search.proofs.Ends.{exact, accepted, front_shaped}
use Rattle.front_search.specs.Turns.{IsSearching, TurnSays}
use Rattle.front_search.proofs.Turns.{starts_searching, starts_unfinished}
use Rattle.front_search.proofs.searching.search.Goals as goal

pub loop-found-init : goal.loop-found-init
loop-found-init c =
    let s = c.args.spec.now in
    let e = c.in_ok-solver.ensures in
    let lines = ap (λ (v : SolverValue). v.log.lines) e.ok in
    let start = starts_searching s c.in_ok-set.set.variables c.in_ok-set.set.constraints c.in_ok-solver.solver c.facts.ensures c.in_ok-set.ensures.variables c.in_ok-set.ensures.constraints e.few
    e.ok in
    record {
      searching = subst (λ (es : List Entry). IsSearching s (seen es) c.in_ok-solver.solver) (sym c.new-found.ensures.items) start;
      unfinished = starts_unfinished s c.args.budget c.in_ok-solver.solver.log.lines c.requires.some lines;
      starts = inl lines;
      bounded = omega (arith, ap derived_count lines);
      few = omega (arith, ap length c.new-found.ensures.items);
    }

pub loop-found-preserved : goal.loop-found-preserved
loop-found-preserved c =
    let s = c.args.spec.now in
    let x = c.in_ok-cover-in-Found.ensures in
    let says = subst (TurnSays s c.args.budget (seen c.deref.result.now) c.next_turn.new.solver.log.lines) c.in-Found.is c.in_ok-entry.ensures.says in
    let pushed = c.in_ok-push-in-Found.ensures.items in
    let long : seen c.push.new.self.items ≡ seen c.loop-found.found.items ++ as_seen c.in-Found.entry ∷ [] = ap seen pushed ∙ map-append as_seen c.loop-found.found.items (c.in-Found.entry ∷ []) in
    record {
      searching = subst (λ (es : List EntryValue). IsSearching s es c.cover.new.solver) (sym (long))
          (subst (λ (es : List Entry). IsSearching s (seen es ++ as_seen c.in-Found.entry ∷ []) c.cover.new.solver) c.deref-in-Found.ensures.value x.searching);
      unfinished = x.unfinished c.args.budget says.unfinished;
      starts = x.starts;
      bounded = subst (λ (b : ℕ). derived_count c.cover.new.solver.log.lines ≤ most_lines s b b) (ap (λ (es : List Entry). length (seen es) + 1) c.deref-in-Found.ensures.value
          ∙ (sym (length_push (seen c.loop-found.found.items) (as_seen c.in-Found.entry)) ∙ sym (ap length long)))
          (x.bounded (subst (λ (es : List Entry). derived_count c.next_turn.new.solver.log.lines ≤ most_lines s (length (seen es) + 1) (length (seen es))) (sym c.deref-in-Found.ensures.value)
          (subst (λ (es : List Entry). derived_count c.next_turn.new.solver.log.lines ≤ most_lines s (length (seen es) + 1) (length (seen es))) c.deref.ensures.value says.bounded)));
      few = omega (arith, x.few, ap length pushed, length_push c.loop-found.found.items c.in-Found.entry, ap length c.deref-in-Found.ensures.value);
    }

pub ended-requires : goal.ended-requires
ended-requires c = record { prefix = subst (λ (es : List Entry). FoundPrefix c.args.spec.now (seen es)) c.deref.ensures.value c.in_ok-entry.ensures.searching.prefix }

pub returns-in-Ended-clause-prefix : goal.returns-in-Ended-clause-prefix
returns-in-Ended-clause-prefix c =
    let s = c.args.spec.now in
    let r = c.in_ok-searched-in-Ended in
    let x = r.ensures in
    let turn = c.in_ok-entry.ensures in
    let found : r.searched.found ≡ seen c.deref.result.now = x.found ∙ sym (ap seen c.deref.ensures.value) in
    subst (FoundPrefix s) (sym found) turn.searching.prefix

pub returns-in-Ended-clause-covers : goal.returns-in-Ended-clause-covers
returns-in-Ended-clause-covers c =
    let s = c.args.spec.now in
    let r = c.in_ok-searched-in-Ended in
    let x = r.ensures in
    let turn = c.in_ok-entry.ensures in
    let found : r.searched.found ≡ seen c.deref.result.now = x.found ∙ sym (ap seen c.deref.ensures.value) in
    ap (λ (l : LogValue). covers_of l.lines) x.log ∙ (turn.searching.covers_are ∙ sym (ap vectors_in found))

pub returns-in-Ended-clause-first : goal.returns-in-Ended-clause-first
returns-in-Ended-clause-first c =
    ap (λ (l : LogValue). l.first) c.in_ok-searched-in-Ended.ensures.log ∙ sym c.in_ok-entry.ensures.searching.agrees.fits

pub returns-in-Ended-clause-end : goal.returns-in-Ended-clause-end
returns-in-Ended-clause-end c =
    let s = c.args.spec.now in
    let r = c.in_ok-searched-in-Ended in
    let x = r.ensures in
    let turn = c.in_ok-entry.ensures in
    let found : r.searched.found ≡ seen c.deref.result.now = x.found ∙ sym (ap seen c.deref.ensures.value) in
    let said = subst (TurnSays s c.args.budget (seen c.deref.result.now) c.next_turn.new.solver.log.lines) c.in-Ended.is turn.says in
    let by_found : EndSays s c.args.budget r.searched.found c.next_turn.new.solver.log.lines c.in-Ended.end =
    subst (λ (es : List EntryValue). EndSays s c.args.budget es c.next_turn.new.solver.log.lines c.in-Ended.end) (sym found) said in
    let by_log : EndSays s c.args.budget r.searched.found r.searched.log.lines c.in-Ended.end = subst (λ (log : LogValue). EndSays s c.args.budget r.searched.found log.lines c.in-Ended.end)
    (sym x.log) by_found in
    let says : EndSays s c.args.budget r.searched.found r.searched.log.lines r.searched.end = subst (EndSays s c.args.budget r.searched.found r.searched.log.lines) (sym x.end) by_log in
    says

pub returns-in-Ended-clause-exact : goal.returns-in-Ended-clause-exact
returns-in-Ended-clause-exact c is =
    let s = c.args.spec.now in
    let r = c.in_ok-searched-in-Ended in
    let x = r.ensures in
    let turn = c.in_ok-entry.ensures in
    let found : r.searched.found ≡ seen c.deref.result.now = x.found ∙ sym (ap seen c.deref.ensures.value) in
    let said = subst (TurnSays s c.args.budget (seen c.deref.result.now) c.next_turn.new.solver.log.lines) c.in-Ended.is turn.says in
    let by_found : EndSays s c.args.budget r.searched.found c.next_turn.new.solver.log.lines c.in-Ended.end =
    subst (λ (es : List EntryValue). EndSays s c.args.budget es c.next_turn.new.solver.log.lines c.in-Ended.end) (sym found) said in
    let by_log : EndSays s c.args.budget r.searched.found r.searched.log.lines c.in-Ended.end = subst (λ (log : LogValue). EndSays s c.args.budget r.searched.found log.lines c.in-Ended.end)
    (sym x.log) by_found in
    let says : EndSays s c.args.budget r.searched.found r.searched.log.lines r.searched.end = subst (EndSays s c.args.budget r.searched.found r.searched.log.lines) (sym x.end) by_log in
    exact s c.args.budget r.searched.found (front_of r.searched.front) r.searched.log.lines r.searched.end c.facts.ensures (subst (FoundPrefix s) (sym found) turn.searching.prefix) x.front
    x.complete says is

pub returns-in-Ended-clause-accepted : goal.returns-in-Ended-clause-accepted
returns-in-Ended-clause-accepted c is =
    let s = c.args.spec.now in
    let r = c.in_ok-searched-in-Ended in
    let x = r.ensures in
    let turn = c.in_ok-entry.ensures in
    let found : r.searched.found ≡ seen c.deref.result.now = x.found ∙ sym (ap seen c.deref.ensures.value) in
    let said = subst (TurnSays s c.args.budget (seen c.deref.result.now) c.next_turn.new.solver.log.lines) c.in-Ended.is turn.says in
    let by_found : EndSays s c.args.budget r.searched.found c.next_turn.new.solver.log.lines c.in-Ended.end =
    subst (λ (es : List EntryValue). EndSays s c.args.budget es c.next_turn.new.solver.log.lines c.in-Ended.end) (sym found) said in
    let by_log : EndSays s c.args.budget r.searched.found r.searched.log.lines c.in-Ended.end = subst (λ (log : LogValue). EndSays s c.args.budget r.searched.found log.lines c.in-Ended.end)
    (sym x.log) by_found in
    let says : EndSays s c.args.budget r.searched.found r.searched.log.lines r.searched.end = subst (EndSays s c.args.budget r.searched.found r.searched.log.lines) (sym x.end) by_log in
    accepted s c.args.budget r.searched.found (front_of r.searched.front) r.searched.log.lines r.searched.end c.facts.ensures (subst (FoundPrefix s) (sym found) turn.searching.prefix) x.front
    x.complete says is

pub returns-in-Ended-clause-shaped : goal.returns-in-Ended-clause-shaped
returns-in-Ended-clause-shaped c =
    let s = c.args.spec.now in
    let r = c.in_ok-searched-in-Ended in
    let x = r.ensures in
    let turn = c.in_ok-entry.ensures in
    let found : r.searched.found ≡ seen c.deref.result.now = x.found ∙ sym (ap seen c.deref.ensures.value) in
    front_shaped s r.searched.found r.searched.front.entries c.facts.ensures (subst (FoundPrefix s) (sym found) turn.searching.prefix) x.front
