use Rattle.spec_model.specs.Spec.{bits_of}
use Rattle.encode_views.proofs.Rows.{message_more}
use Rattle.encode_views.proofs.models.add_message.Goals as goal

pub returns : goal.returns
returns c =
    message_more c.args.spec.now (bits_of c.args.design.now) c.args.m.0 c.in_ok-rows.rows.items c.deref.result.now c.deref-2.result.now c.resources.result c.resources-2.result
    c.args.model.now.items c.add_steps.new.model.items c.add_covers.new.model.items c.in_ok-rows.ensures c.deref.ensures.value c.deref-2.ensures.value c.resources.ensures.count
    c.resources-2.ensures.count c.in_ok-add_steps.ensures c.in_ok-add_covers.ensures
