use Rattle.std.proofs.Common.{◌≡◌, ◌∙◌, sym, ap, ℕ, Option, Bool, subst}
use Rattle.pb_rules.specs.Linear.{Linear}
use Rattle.conflict_graph.specs.Clauses.{clause_of}
use Rattle.conflict_graph.specs.Learning.{signs}
use Rattle.conflict_graph.specs.Learned.{IsLearned}
use Rattle.conflict_graph.proofs.Ends.{learnt-clause}
use Rattle.conflict_graph.proofs.learn.Goals as goal

pub returns-clause-learned : goal.returns-clause-learned
returns-clause-learned c =
    let f : ℕ → Option Bool = signs c.take_apart.new.clause in
    let made : c.in_ok-made.made ≡ clause_of c.args.trail.now.variables f = c.in_ok-made.ensures ∙ ap (λ (n : ℕ). clause_of n f) (c.take_apart.auto.clause ∙ c.requires.clause_length) in
    let P : Linear → Type 0 = λ d. IsLearned c.args.store.now c.args.trail.now.entries d in
    subst P (sym made) (learnt-clause c.args.store.now c.args.trail.now.entries c.args.trail.now.variables f c.take_apart.new.ops.items c.requires.few c.in_ok-take_apart.ensures)

pub level_below-back_level-requires-clause-false_all : goal.level_below-back_level-requires-clause-false_all
level_below-back_level-requires-clause-false_all c =
    let f : ℕ → Option Bool = signs c.take_apart.new.clause in
    let made : c.in_ok-made.made ≡ clause_of c.args.trail.now.variables f = c.in_ok-made.ensures ∙ ap (λ (n : ℕ). clause_of n f) (c.take_apart.auto.clause ∙ c.requires.clause_length) in
    let P : Linear → Type 0 = λ d. IsLearned c.args.store.now c.args.trail.now.entries d in
    (subst P (sym made) (learnt-clause c.args.store.now c.args.trail.now.entries c.args.trail.now.variables f c.take_apart.new.ops.items c.requires.few c.in_ok-take_apart.ensures)).false_all
