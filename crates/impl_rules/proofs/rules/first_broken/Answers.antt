use Rattle.std.proofs.Common.{rules}
use Rattle.spec_model.specs.Spec.{bits_of}
use Rattle.impl_rules.proofs.Order.{lower_2, lower_3, lower_4, lower_5, lower_6, lower_7, lower_8, first_unbound, first_into_sender, first_two_into, first_no_walk, first_unreached, first_dangling, first_misused, first_miswired, some_not_valid, valid_from}
use Rattle.impl_rules.proofs.rules.first_broken.Goals as goal

pub returns-in-Some : goal.returns-in-Some
returns-in-Some c =
    let s = c.args.spec.now in
    let f = bits_of c.args.design.now in
    let first = first_unbound s f (record { 0 = c.in-Some.t }) c.facts.ensures c.in-Some.ensures in
    record { valid = some_not_valid s f _ first; first = first }

pub returns-in-Some-first_message : goal.returns-in-Some-first_message
returns-in-Some-first_message c =
    let s = c.args.spec.now in
    let f = bits_of c.args.design.now in
    let bound = c.in_default.ensures in
    let lower2 = lower_2 s f bound in
    let first = first_into_sender s f (record { 0 = c.in-Some-first_message.m }) (record { 0 = c.in-Some-first_message.a }) c.facts.ensures bound lower2 c.in-Some-first_message.ensures in
    record { valid = some_not_valid s f _ first; first = first }

pub returns-in-Some-first_message-2 : goal.returns-in-Some-first_message-2
returns-in-Some-first_message-2 c =
    let s = c.args.spec.now in
    let f = bits_of c.args.design.now in
    let bound = c.in_default.ensures in
    let lower3 = lower_3 s f bound c.in_default-first_message.ensures in
    let first = first_two_into s f (record { 0 = c.in-Some-first_message-2.m }) (record { 0 = c.in-Some-first_message-2.r }) c.facts.ensures bound lower3 c.in-Some-first_message-2.ensures in
    record { valid = some_not_valid s f _ first; first = first }

pub returns-in-Some-first_message-3 : goal.returns-in-Some-first_message-3
returns-in-Some-first_message-3 c =
    let s = c.args.spec.now in
    let f = bits_of c.args.design.now in
    let bound = c.in_default.ensures in
    let lower3 = lower_3 s f bound c.in_default-first_message.ensures in
    let lower4 = lower_4 s f lower3 c.in_default-first_message-2.ensures in
    let first = first_no_walk s f (record { 0 = c.in-Some-first_message-3.m }) (record { 0 = c.in-Some-first_message-3.a }) c.facts.ensures bound lower4 c.in-Some-first_message-3.ensures in
    record { valid = some_not_valid s f _ first; first = first }

pub returns-in-Some-first_message-4 : goal.returns-in-Some-first_message-4
returns-in-Some-first_message-4 c =
    let s = c.args.spec.now in
    let f = bits_of c.args.design.now in
    let bound = c.in_default.ensures in
    let lower3 = lower_3 s f bound c.in_default-first_message.ensures in
    let lower4 = lower_4 s f lower3 c.in_default-first_message-2.ensures in
    let lower5 = lower_5 s f lower4 c.in_default-first_message-3.ensures in
    let first = first_unreached s f (record { 0 = c.in-Some-first_message-4.m }) (record { 0 = c.in-Some-first_message-4.t }) c.facts.ensures bound lower5 c.in-Some-first_message-4.ensures in
    record { valid = some_not_valid s f _ first; first = first }

pub returns-in-Some-first_message-5 : goal.returns-in-Some-first_message-5
returns-in-Some-first_message-5 c =
    let s = c.args.spec.now in
    let f = bits_of c.args.design.now in
    let bound = c.in_default.ensures in
    let lower3 = lower_3 s f bound c.in_default-first_message.ensures in
    let lower4 = lower_4 s f lower3 c.in_default-first_message-2.ensures in
    let lower5 = lower_5 s f lower4 c.in_default-first_message-3.ensures in
    let lower6 = lower_6 s f lower5 c.in_default-first_message-4.ensures in
    let first = first_dangling s f (record { 0 = c.in-Some-first_message-5.m }) (record { 0 = c.in-Some-first_message-5.a }) c.facts.ensures bound lower6 c.in-Some-first_message-5.ensures in
    record { valid = some_not_valid s f _ first; first = first }

pub returns-in-Some-misused_resource : goal.returns-in-Some-misused_resource
returns-in-Some-misused_resource c =
    let s = c.args.spec.now in
    let f = bits_of c.args.design.now in
    let bound = c.in_default.ensures in
    let lower3 = lower_3 s f bound c.in_default-first_message.ensures in
    let lower4 = lower_4 s f lower3 c.in_default-first_message-2.ensures in
    let lower5 = lower_5 s f lower4 c.in_default-first_message-3.ensures in
    let lower6 = lower_6 s f lower5 c.in_default-first_message-4.ensures in
    let lower7 = lower_7 s f lower6 c.in_default-first_message-5.ensures in
    let first = first_misused s f (record { 0 = c.in-Some-misused_resource.r }) c.facts.ensures bound lower7 c.in-Some-misused_resource.ensures in
    record { valid = some_not_valid s f _ first; first = first }

pub returns-in-Some-miswired_link : goal.returns-in-Some-miswired_link
returns-in-Some-miswired_link c =
    let s = c.args.spec.now in
    let f = bits_of c.args.design.now in
    let bound = c.in_default.ensures in
    let lower3 = lower_3 s f bound c.in_default-first_message.ensures in
    let lower4 = lower_4 s f lower3 c.in_default-first_message-2.ensures in
    let lower5 = lower_5 s f lower4 c.in_default-first_message-3.ensures in
    let lower6 = lower_6 s f lower5 c.in_default-first_message-4.ensures in
    let lower7 = lower_7 s f lower6 c.in_default-first_message-5.ensures in
    let lower8 = lower_8 s f lower7 c.in_default-misused_resource.ensures in
    let first = first_miswired s f (record { 0 = c.in-Some-miswired_link.l }) c.facts.ensures bound lower8 c.in-Some-miswired_link.ensures in
    record { valid = some_not_valid s f _ first; first = first }

pub returns-clause-valid : goal.returns-clause-valid
returns-clause-valid c =
    let s = c.args.spec.now in
    let f = bits_of c.args.design.now in
    let bound = c.in_default.ensures in
    let lower3 = lower_3 s f bound c.in_default-first_message.ensures in
    let lower4 = lower_4 s f lower3 c.in_default-first_message-2.ensures in
    let lower5 = lower_5 s f lower4 c.in_default-first_message-3.ensures in
    let lower6 = lower_6 s f lower5 c.in_default-first_message-4.ensures in
    let lower7 = lower_7 s f lower6 c.in_default-first_message-5.ensures in
    let lower8 = lower_8 s f lower7 c.in_default-misused_resource.ensures in
    let valid = valid_from s f c.facts.ensures lower8 c.in_default-miswired_link.ensures in
    (λ none. valid, λ v. search rules)
