use Rattle.std.proofs.Common.{ap}
use Rattle.constraint_store.specs.Live.{Live}
use Rattle.constraint_store.proofs.LiveSpans.{span_live, span_is, normal_live}
use Rattle.constraint_store.proofs.Store.degree.Goals as goal

pub span_at-requires : goal.span_at-requires
span_at-requires c = span_live c.self.inside.terms.items c.self.inside.spans.items c.deref.result.now c.args.self.now c.args.c c.self.view_is c.requires c.deref.ensures.value

pub returns-clause-value : goal.returns-clause-value
returns-clause-value c =
    ap (λ (e : Live). e.constraint.degree) (span_is c.self.inside.terms.items c.self.inside.spans.items c.deref.result.now c.args.self.now c.args.c c.span_at.result c.self.view_is
    c.deref.ensures.value c.span_at.ensures)

pub returns-clause-normal : goal.returns-clause-normal
returns-clause-normal c = normal_live c.self.inside.terms.items c.self.inside.spans.items c.args.self.now c.args.c c.self.view_is c.requires c.self.invariant.normal
