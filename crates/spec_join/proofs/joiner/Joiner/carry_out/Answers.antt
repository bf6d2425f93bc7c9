use Rattle.std.proofs.Common.{List, ap, sym, ◌∙◌}
use Rattle.spec_model.specs.Spec.{Name}
use Rattle.arch_reader.specs.declared.statement.KeyAmount.{KeyAmount}
use Rattle.arch_reader.specs.declared.statement.Statement.TheVariants.{Traffic}
use Rattle.spec_join.specs.Effects.{effect}
use Rattle.spec_join.proofs.joiner.Joiner.carry_out.Goals as goal

pub returns-in-Traffic-clause-done : goal.returns-in-Traffic-clause-done
returns-in-Traffic-clause-done c =
    let s = c.args.self.now in
    c.traffic.ensures
    ∙ ap (λ (x : Name). effect s (Traffic x c.list-in-Traffic-2.result.now)) c.list-in-Traffic.ensures
    ∙ ap (λ (ws : List KeyAmount). effect s (Traffic c.in-Traffic.link ws)) c.list-in-Traffic-2.ensures
    ∙ ap (effect s) (sym c.in-Traffic.is)
