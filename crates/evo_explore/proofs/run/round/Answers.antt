use Rattle.std.proofs.Common.{refl, ap, arith}
use Rattle.spec_model.specs.Spec.{design_variables}
use Rattle.evo_explore.proofs.Rounds.{first_design, genes_as, genes_kept, whole_width, none_rose, joins, stops}
use Rattle.evo_explore.proofs.run.round.Goals as goal

pub next_genotype-requires : goal.next_genotype-requires
next_genotype-requires g c = genes_as c.design_variables-n.result _ c.members.result.now _ c.design_variables-n.ensures.count c.members.ensures.members c.requires.genes

pub first_valid-requires : goal.first_valid-requires
first_valid-requires g c = omega (arith, c.in_ok-genotype.ensures.len, c.design_variables-n.ensures.count, ap design_variables c.requires.same_spec)

pub measured_vector-requires-clause-bits : goal.measured_vector-requires-clause-bits
measured_vector-requires-clause-bits g c =
    let first = first_design _ _ c.in_ok-genotype.genotype _ c.in-Some.design c.requires.same_spec c.in-Some.is c.in_ok-design.ensures.answer in
    first.one_each

pub measured_vector-requires-clause-valid : goal.measured_vector-requires-clause-valid
measured_vector-requires-clause-valid g c =
    let first = first_design _ _ c.in_ok-genotype.genotype _ c.in-Some.design c.requires.same_spec c.in-Some.is c.in_ok-design.ensures.answer in
    first.first.meets

pub measured_vector-requires-clause-room : goal.measured_vector-requires-clause-room
measured_vector-requires-clause-room g c = c.requires.room

pub keep-requires : goal.keep-requires
keep-requires g c = omega (arith, whole_width _ _ _ _ _ c.in_ok-vector-in-Some.ensures.measured, c.requires.width)

-- ---- where no tool was called

pub returns-in_err-genotype-clause-at_most : goal.returns-in_err-genotype-clause-at_most
returns-in_err-genotype-clause-at_most g c = none_rose 1 _ _

pub returns-in_err-design-clause-at_most : goal.returns-in_err-design-clause-at_most
returns-in_err-design-clause-at_most g c = none_rose 1 _ _

pub returns-in-None-clause-at_most : goal.returns-in-None-clause-at_most
returns-in-None-clause-at_most g c = none_rose 1 _ _

pub returns-in-None-clause-round : goal.returns-in-None-clause-round
returns-in-None-clause-round g c =
    let x = c.in_ok-design.ensures in
    stops _ g.W.Words.gives g.W.Words.after _ c.design_variables-n.result c.members.result.now _ _ _ _ _ _ _ c.in_ok-genotype.genotype
    c.requires.same_spec c.design_variables-n.ensures.count c.members.ensures.members c.in-None.is c.in_ok-genotype.ensures.after x.answer x.log x.shown refl

-- ---- where the tools were called

pub returns-in_err-vector-in-Some-clause-at_most : goal.returns-in_err-vector-in-Some-clause-at_most
returns-in_err-vector-in-Some-clause-at_most g c = c.measured_vector.ensures.at_most

pub returns-in_err-keep-in-Some-clause-at_most : goal.returns-in_err-keep-in-Some-clause-at_most
returns-in_err-keep-in-Some-clause-at_most g c = c.measured_vector.ensures.at_most

pub returns-in_err-vector-in-Some-clause-values : goal.returns-in_err-vector-in-Some-clause-values
returns-in_err-vector-in-Some-clause-values g c = c.measured_vector.ensures.values

pub returns-in_err-keep-in-Some-clause-values : goal.returns-in_err-keep-in-Some-clause-values
returns-in_err-keep-in-Some-clause-values g c = c.measured_vector.ensures.values

pub returns-in_ok-keep-in-Some-clause-round : goal.returns-in_ok-keep-in-Some-clause-round
returns-in_ok-keep-in-Some-clause-round g c =
    let x = c.in_ok-design.ensures in
    let k = c.in_ok-keep-in-Some.ensures in
    joins _ g.W.Words.gives g.W.Words.after _ _ c.design_variables-n.result c.members.result.now _ _ _ _ _ _ _
    (record { genotype = c.in_ok-genotype.genotype; design = c.in-Some.design; vector = c.in_ok-vector-in-Some.vector })
    c.requires.same_spec c.design_variables-n.ensures.count c.members.ensures.members c.in-Some.is c.in_ok-genotype.ensures.drawn c.in_ok-genotype.ensures.after
    x.answer x.log x.shown c.in_ok-vector-in-Some.ensures.measured k.history k.best

pub returns-in_ok-keep-in-Some-clause-counted : goal.returns-in_ok-keep-in-Some-clause-counted
returns-in_ok-keep-in-Some-clause-counted g c = c.in_ok-vector-in-Some.ensures.counted

pub returns-in_ok-keep-in-Some-clause-genes : goal.returns-in_ok-keep-in-Some-clause-genes
returns-in_ok-keep-in-Some-clause-genes g c =
    genes_kept _ c.design_variables-n.result _ _
    (record { genotype = c.in_ok-genotype.genotype; design = c.in-Some.design; vector = c.in_ok-vector-in-Some.vector })
    c.in_ok-keep-in-Some.ensures.members c.in_ok-genotype.ensures.len c.design_variables-n.ensures.count c.requires.genes

pub returns-in_ok-keep-in-Some-clause-at_most : goal.returns-in_ok-keep-in-Some-clause-at_most
returns-in_ok-keep-in-Some-clause-at_most g c = c.measured_vector.ensures.at_most

pub returns-in_ok-keep-in-Some-clause-values : goal.returns-in_ok-keep-in-Some-clause-values
returns-in_ok-keep-in-Some-clause-values g c = c.measured_vector.ensures.values
