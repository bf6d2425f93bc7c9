-- The first of a statement's conditions is the lowest, and the first statement that is refused stops joining.
use Rattle.std.proofs.Common.{◌≡◌, ℕ, ◌+◌, ◌≤◌, ◌<◌, List, length, get_or, refl, sym, ap, subst, ◌∙◌, arith, ◌⊎◌, inl, inr, [], Err}
use Rattle.std.proofs.lemmas.Bool.{cases_lt}
use Rattle.std.proofs.lemmas.List.{get_or-map, get_or_default, length-map}
use Rattle.std.proofs.lemmas.List.Sums.{fold_more}
use Rattle.line_words.specs.Refused.{rank, fault_at}
use Rattle.line_words.specs.declared.refusals.FileTag.TheVariants.{Arch}
use Rattle.line_words.specs.declared.refusals.Stop.{Stop}
use Rattle.line_words.specs.declared.refusals.Stop.TheVariants.{Broken, NoMemory}
use Rattle.line_words.specs.declared.refusals.Why.{Why}
use Rattle.line_words.specs.declared.refusals.Why.TheVariants.{BadStatement, UnknownName, RepeatedName, Cyclic, Limit}
use Rattle.line_words.specs.declared.refusals.What.{What}
use Rattle.line_words.specs.declared.refusals.ReadFault.{ReadFault}
use Rattle.spec_model.specs.Spec.{SpecValue}
use Rattle.spec_graph.specs.Plan.{finished}
use Rattle.arch_reader.specs.Seen.{seen}
use Rattle.arch_reader.specs.Arch.{ArchValue, statement_of, statements_in}
use Rattle.arch_reader.specs.declared.statement.ArchLine.{ArchLine}
use Rattle.arch_reader.specs.declared.statement.Statement.{Statement}
use Rattle.arch_reader.specs.declared.statement.Statement.TheVariants.{Objective, Clock, Resource, Link, Traffic, Task, Message, Merge, Map, Table, Quantity, QuantityTable, Hops, Delay, Deadline}
use Rattle.spec_join.specs.Joining.{Joining, start}
use Rattle.spec_join.specs.Effects.{effect}
use Rattle.tgff_reader.specs.Facts.{TgffValue}
use Rattle.table_cells.specs.Least.{IsLeast}
use Rattle.spec_join.specs.Refusals.{IsPast, StatementBreaks, BreaksPlain}
use Rattle.spec_join.specs.Reading.{after, after_all, statement_at, NoneBreaks, IsJoined, JoinReads}
use Rattle.spec_join.specs.Stops.{IsFirst, IsAccepted, Accepts, Refuses, RefusesEnd, AcceptsEnd, IsRefused}

-- a statement passes one limit alone
past_one : (s : Joining) (st : Statement) (what other : What) → IsPast s st what → IsPast s st other → what ≡ other
past_one s (Task name) what other x y = x.0 ∙ sym y.0
past_one s (Message name sender receivers) what other x y = x.0 ∙ sym y.0
past_one s (Map task resource time weights) what other x y = x.0 ∙ sym y.0
past_one s _ what other x y = absurd x

least_bad : (s : Joining) (st : Statement) (other : Why) → BreaksPlain s st other → rank BadStatement ≤ rank other
least_bad s st BadStatement h = omega arith
least_bad s st UnknownName h = omega arith
least_bad s st RepeatedName h = omega arith
least_bad s st Cyclic h = omega arith
least_bad s st (Limit what) h = omega arith
least_bad s st _ h = absurd h

least_unknown : (s : Joining) (st : Statement) → IsFirst s st UnknownName → (other : Why) → BreaksPlain s st other → rank UnknownName ≤ rank other
least_unknown s st f BadStatement h = absurd (f.0 h)
least_unknown s st f UnknownName h = omega arith
least_unknown s st f RepeatedName h = omega arith
least_unknown s st f Cyclic h = omega arith
least_unknown s st f (Limit what) h = omega arith
least_unknown s st f _ h = absurd h

least_repeated : (s : Joining) (st : Statement) → IsFirst s st RepeatedName → (other : Why) → BreaksPlain s st other → rank RepeatedName ≤ rank other
least_repeated s st f BadStatement h = absurd (f.0 h)
least_repeated s st f UnknownName h = absurd (f.1 h)
least_repeated s st f RepeatedName h = omega arith
least_repeated s st f Cyclic h = omega arith
least_repeated s st f (Limit what) h = omega arith
least_repeated s st f _ h = absurd h

least_cyclic : (s : Joining) (st : Statement) → IsFirst s st Cyclic → (other : Why) → BreaksPlain s st other → rank Cyclic ≤ rank other
least_cyclic s st f BadStatement h = absurd (f.0 h)
least_cyclic s st f UnknownName h = absurd (f.1 h)
least_cyclic s st f RepeatedName h = absurd (f.2 h)
least_cyclic s st f Cyclic h = omega arith
least_cyclic s st f (Limit what) h = omega arith
least_cyclic s st f _ h = absurd h

least_limit : (s : Joining) (st : Statement) (what : What) → IsFirst s st (Limit what) → (other : Why) → BreaksPlain s st other → rank (Limit what) ≤ rank other
least_limit s st what f BadStatement h = absurd (f.0 h)
least_limit s st what f UnknownName h = absurd (f.1 h)
least_limit s st what f RepeatedName h = absurd (f.2 h)
least_limit s st what f Cyclic h = absurd (f.3 h)
least_limit s st what f (Limit other) h = omega (arith, ap (λ (w : What). rank (Limit w)) (past_one s st what other f.4 h))
least_limit s st what f _ h = absurd h

first_least : (s : Joining) (st : Statement) (why : Why) → IsFirst s st why → IsLeast (BreaksPlain s st) why
first_least s st BadStatement f = record { holds = f; least = least_bad s st }
first_least s st UnknownName f = record { holds = f.1; least = least_unknown s st f }
first_least s st RepeatedName f = record { holds = f.2; least = least_repeated s st f }
first_least s st Cyclic f = record { holds = f.3; least = least_cyclic s st f }
first_least s st (Limit what) f = record { holds = f.4; least = least_limit s st what f }
first_least s st _ f = absurd f

-- a statement that is accepted is refused for nothing that has to do with no table
pub none_plain : (s : Joining) (st : Statement) → IsAccepted s st → (why : Why) → BreaksPlain s st why → ⊥
none_plain s st a BadStatement h = a.good h
none_plain s st a UnknownName h = a.known h
none_plain s st a RepeatedName h = a.once h
none_plain s st a Cyclic h = a.free h
none_plain s st a (Limit what) h = a.room what h
none_plain s st a _ h = h

-- what a statement is refused for is the lowest of what it breaks
least_refused : (s : Joining) (st : Statement) (why : Why) → Refuses s st (Broken why) → IsLeast (StatementBreaks s st) why
least_refused s (Table name index resource keys weights_at) why r = r
least_refused s (QuantityTable name index column rows) why r = r
least_refused s (Objective name scale floor) why r = first_least s (Objective name scale floor) why r
least_refused s (Clock scale floor) why r = first_least s (Clock scale floor) why r
least_refused s (Resource name weights) why r = first_least s (Resource name weights) why r
least_refused s (Link name a b two_way weights) why r = first_least s (Link name a b two_way weights) why r
least_refused s (Traffic link weights) why r = first_least s (Traffic link weights) why r
least_refused s (Task name) why r = first_least s (Task name) why r
least_refused s (Message name sender receivers) why r = first_least s (Message name sender receivers) why r
least_refused s (Merge name messages) why r = first_least s (Merge name messages) why r
least_refused s (Map task resource time weights) why r = first_least s (Map task resource time weights) why r
least_refused s (Quantity message amount) why r = first_least s (Quantity message amount) why r
least_refused s (Hops message limit) why r = first_least s (Hops message limit) why r
least_refused s (Delay message amount) why r = first_least s (Delay message amount) why r
least_refused s (Deadline task at) why r = first_least s (Deadline task at) why r

-- a statement that is accepted breaks nothing
none_breaks : (s : Joining) (st : Statement) → Accepts s st → (why : Why) → StatementBreaks s st why → ⊥
none_breaks s (Table name index resource keys weights_at) a = a
none_breaks s (QuantityTable name index column rows) a = a
none_breaks s (Objective name scale floor) a = none_plain s (Objective name scale floor) a
none_breaks s (Clock scale floor) a = none_plain s (Clock scale floor) a
none_breaks s (Resource name weights) a = none_plain s (Resource name weights) a
none_breaks s (Link name from to two_way weights) a = none_plain s (Link name from to two_way weights) a
none_breaks s (Traffic link weights) a = none_plain s (Traffic link weights) a
none_breaks s (Task name) a = none_plain s (Task name) a
none_breaks s (Message name sender receivers) a = none_plain s (Message name sender receivers) a
none_breaks s (Merge name messages) a = none_plain s (Merge name messages) a
none_breaks s (Map task resource time weights) a = none_plain s (Map task resource time weights) a
none_breaks s (Quantity message amount) a = none_plain s (Quantity message amount) a
none_breaks s (Hops message limit) a = none_plain s (Hops message limit) a
none_breaks s (Delay message amount) a = none_plain s (Delay message amount) a
none_breaks s (Deadline task at) a = none_plain s (Deadline task at) a

-- a line's statement stands at its place
pub stands : (ls : List ArchLine) (k : ℕ) (l : ArchLine) → k < length ls → l ≡ get_or ls k l → statement_at (statements_in ls) k ≡ l.statement
stands ls k l lt e = get_or-map statement_of ls k l (Task []) lt ∙ ap statement_of (sym e)

-- one more statement is carried out
pub after_more : (tgff : TgffValue) (ls : List ArchLine) (k : ℕ) (l : ArchLine) (old new : Joining) → k < length ls → l ≡ get_or ls k l → old ≡ after tgff (statements_in ls) k
    → new ≡ effect old l.statement → new ≡ after tgff (statements_in ls) (k + 1)
after_more tgff ls k l old new lt e eo en =
    let sts = statements_in ls in
    let w : k < length sts = omega (arith, lt, length-map ls statement_of) in
    en
    ∙ ap (λ (s : Joining). effect s l.statement) eo
    ∙ ap (effect (after tgff sts k)) (sym (stands ls k l lt e))
    ∙ sym (fold_more effect (start tgff (seen sts)) sts k (Task []) w)

pub none_more : (tgff : TgffValue) (ls : List ArchLine) (k : ℕ) (l : ArchLine) (old : Joining) → k < length ls → l ≡ get_or ls k l → old ≡ after tgff (statements_in ls) k
    → NoneBreaks tgff (statements_in ls) k → Accepts old l.statement → NoneBreaks tgff (statements_in ls) (k + 1)
none_more tgff ls k l old lt e eo none a = λ i why x b. go i why b (cases_lt i k) x
  where
    sts : List Statement
    sts = statements_in ls

    at : Accepts (after tgff sts k) (statement_at sts k)
    at = subst (λ (st : Statement). Accepts (after tgff sts k) st) (sym (stands ls k l lt e)) (subst (λ (s : Joining). Accepts s l.statement) eo a)

    go : (i : ℕ) (why : Why) → StatementBreaks (after tgff sts i) (statement_at sts i) why → (i < k) ⊎ (k ≤ i) → i < k + 1 → ⊥
    go i why b (inl y) x = none i why y b
    go i why b (inr y) x =
        let same : i ≡ k = omega (arith, x, y) in
        none_breaks (after tgff sts k) (statement_at sts k) at why (subst (λ (j : ℕ). StatementBreaks (after tgff sts j) (statement_at sts j) why) same b)

-- a statement that is refused stops joining at its line
pub stopped : (tgff : TgffValue) (ls : List ArchLine) (k : ℕ) (l : ArchLine) (old : Joining) (stop : Stop) → k < length ls → l ≡ get_or ls k l → old ≡ after tgff (statements_in ls) k
    → NoneBreaks tgff (statements_in ls) k → Refuses old l.statement stop → IsRefused tgff ls (fault_at Arch l.line stop)
stopped tgff ls k l old NoMemory lt e eo none r = tt
stopped tgff ls k l old (Broken why) lt e eo none r =
    let sts = statements_in ls in
    let f : Refuses (after tgff sts k) (statement_at sts k) (Broken why) = subst (λ (st : Statement). Refuses (after tgff sts k) st (Broken why)) (sym (stands ls k l lt e))
    (subst (λ (s : Joining). Refuses s l.statement (Broken why)) eo r) in (
      refl,
      record {
        place = k;
        within = lt;
        line_is = ap (λ (x : ArchLine). x.line) (e ∙ get_or_default ls k l (record { line = 0; statement = Task [] }) lt);
        before = none;
        here = least_refused (after tgff sts k) (statement_at sts k) why f;
      },
    )

-- what stops at the end
pub stopped_at_end : (tgff : TgffValue) (file : ArchValue) (s : Joining) (stop : Stop) → s ≡ after tgff (statements_in file.lines) (length file.lines)
    → NoneBreaks tgff (statements_in file.lines) (length file.lines) → RefusesEnd s.plan stop → JoinReads tgff file (Err (fault_at Arch file.end_line stop))
stopped_at_end tgff file s NoMemory e none r = tt
stopped_at_end tgff file s (Broken why) e none r = (refl, inr (record { line_is = refl; before = none; here = subst (λ (x : Joining). RefusesEnd x.plan (Broken why)) e r }))

-- nothing is refused
pub joined : (tgff : TgffValue) (file : ArchValue) (ls : List ArchLine) (s : Joining) (spec : SpecValue) → ls ≡ file.lines → s ≡ after_all tgff ls → NoneBreaks tgff (statements_in ls) (length ls)
    → AcceptsEnd s.plan → spec ≡ finished s.plan → IsJoined tgff file spec
joined tgff file ls s spec e m none a v =
    let made : s ≡ after_all tgff file.lines = m ∙ ap (after_all tgff) e in
    record {
      none = subst (λ (xs : List ArchLine). NoneBreaks tgff (statements_in xs) (length xs)) e none;
      none_at_end = subst (λ (x : Joining). AcceptsEnd x.plan) made a;
      value = v ∙ ap (λ (x : Joining). finished x.plan) made;
    }

-- the end is refused, in what the code has of the file
pub ended : (tgff : TgffValue) (file : ArchValue) (ls : List ArchLine) (line : ℕ) (s : Joining) (stop : Stop) (fault : ReadFault) → ls ≡ file.lines → line ≡ file.end_line → s ≡ after_all tgff ls
    → NoneBreaks tgff (statements_in ls) (length ls) → RefusesEnd s.plan stop → fault ≡ fault_at Arch line stop → JoinReads tgff file (Err fault)
ended tgff file ls line s stop fault e el m none r ef =
    let h : JoinReads tgff file (Err (fault_at Arch file.end_line stop)) = stopped_at_end tgff file s stop (m ∙ ap (after_all tgff) e)
    (subst (λ (xs : List ArchLine). NoneBreaks tgff (statements_in xs) (length xs)) e none) r in
    subst (λ (f : ReadFault). JoinReads tgff file (Err f)) (sym (ef ∙ ap (λ (n : ℕ). fault_at Arch n stop) el)) h
