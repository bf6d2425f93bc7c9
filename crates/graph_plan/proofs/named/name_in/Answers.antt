use Rattle.std.proofs.Common.{◌≡◌, IfOk, string_bytes, arith, rules}
use Rattle.graph_plan.specs.Graphs.{name_in}
use Rattle.graph_plan.proofs.Naming.{if_named}
use Rattle.graph_plan.proofs.named.name_in.Goals as goal

pub returns-clause-named : goal.returns-clause-named
returns-clause-named c =
    let bytes : IfOk c.format.result (λ text. string_bytes text ≡ name_in c.args.index c.args.name.now) = search rules in
    if_named string_bytes c.format.result c.args.index c.args.name.now (omega arith) c.requires bytes
