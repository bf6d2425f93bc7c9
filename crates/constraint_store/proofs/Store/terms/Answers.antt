use Rattle.std.proofs.Common.{◌≡◌, ◌∙◌, ap, arith, sym, length, List, Some, get_or}
use Rattle.pb_rules.specs.declared.Term.{Term}
use Rattle.constraint_store.specs.Live.{Live}
use Rattle.constraint_store.specs.Spans.{part}
use Rattle.constraint_store.proofs.LiveSpans.{empty_span, span_live, span_is, normal_live}
use Rattle.constraint_store.proofs.Parts.{follow_within}
use Rattle.constraint_store.proofs.Store.terms.Goals as goal

pub span_at-requires : goal.span_at-requires
span_at-requires c = span_live c.self.inside.terms.items c.self.inside.spans.items c.deref-2.result.now c.args.self.now c.args.c c.self.view_is c.requires c.deref-2.ensures.value

pub terms_of-requires : goal.terms_of-requires
terms_of-requires c =
    let at : get_or c.self.inside.spans.items c.args.c.0 empty_span ≡ Some c.span_at.result = ap (λ xs. get_or xs c.args.c.0 empty_span) (sym c.deref-2.ensures.value) ∙ c.span_at.ensures in
    let within = follow_within 0 (length c.self.inside.terms.items) c.self.inside.spans.items c.args.c.0 c.span_at.result at c.self.invariant.follow in
    omega (arith, within, ap length c.deref.ensures.value)

pub returns-clause-value : goal.returns-clause-value
returns-clause-value c =
    let live = span_is c.self.inside.terms.items c.self.inside.spans.items c.deref-2.result.now c.args.self.now c.args.c c.span_at.result c.self.view_is c.deref-2.ensures.value c.span_at.ensures in
    c.terms_of.ensures ∙ ap (λ (ts : List Term). part ts c.span_at.result) c.deref.ensures.value ∙ ap (λ (e : Live). e.constraint.terms) live

pub returns-clause-normal : goal.returns-clause-normal
returns-clause-normal c = normal_live c.self.inside.terms.items c.self.inside.spans.items c.args.self.now c.args.c c.self.view_is c.requires c.self.invariant.normal
