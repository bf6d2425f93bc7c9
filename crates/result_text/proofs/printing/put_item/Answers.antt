use Rattle.std.proofs.Common.{arith}
use Rattle.result_text.proofs.ItemWords.{item_option, use_at, use_is, alloc_at, alloc_is, wire_at, wire_is}
use Rattle.result_text.proofs.printing.put_item.Goals as goal

pub returns-then-v-options : goal.returns-then-v-options
returns-then-v-options c = rw (item_option c.args.spec.now c.args.v (omega (arith, c.if-v-options.true, c.options-options.ensures.count))) c.put_bind.ensures

pub returns-then-after-uses : goal.returns-then-after-uses
returns-then-after-uses c =
    let at = use_at c.args.spec.now c.args.v c.options-options.result c.messages.result c.arcs-arcs.result c.options-options.ensures.count c.messages.ensures.count c.arcs-arcs.ensures.count
    (omega arith) (omega arith) in
    rw (use_is c.args.spec.now c.args.v _ _ at) c.put_use.ensures

pub returns-then-after-resources : goal.returns-then-after-resources
returns-then-after-resources c =
    let at = alloc_at c.args.spec.now c.args.v c.options-options.result c.messages.result c.arcs-arcs.result c.resources-resources.result c.options-options.ensures.count c.messages.ensures.count
    c.arcs-arcs.ensures.count c.resources-resources.ensures.count (omega arith) (omega arith) (omega arith) in
    rw (alloc_is c.args.spec.now c.args.v _ at) c.put_alloc.ensures

pub overflow_cast-after-2 : goal.overflow_cast-after-2
overflow_cast-after-2 c =
    let at = wire_at c.args.spec.now c.args.v c.options-options.result c.messages.result c.arcs-arcs.result c.resources-resources.result c.options-options.ensures.count c.messages.ensures.count
    c.arcs-arcs.ensures.count c.resources-resources.ensures.count (omega arith) (omega arith) (omega arith) c.requires in
    omega (arith, at.there, c.facts.ensures.plan.few_links)

pub returns : goal.returns
returns c =
    let at = wire_at c.args.spec.now c.args.v c.options-options.result c.messages.result c.arcs-arcs.result c.resources-resources.result c.options-options.ensures.count c.messages.ensures.count
    c.arcs-arcs.ensures.count c.resources-resources.ensures.count (omega arith) (omega arith) (omega arith) c.requires in
    rw (wire_is c.args.spec.now c.args.v _ at) c.put_wire.ensures
