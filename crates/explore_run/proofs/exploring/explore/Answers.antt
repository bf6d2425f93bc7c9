use Rattle.explore_run.proofs.exploring.explore.Goals as goal

pub returns-clause-comes : goal.returns-clause-comes
returns-clause-comes g c = λ world loaded. record {
  reading = c.read_spec.result;
  reads = c.read_spec.ensures world.tgff world.arch loaded.tgff loaded.arch;
  rest = c.explore_spec.ensures.comes;
}
