use Rattle.front_run.proofs.fronting.front.Goals as goal

pub returns : goal.returns
returns c = λ world loaded. record {
  reading = c.read_spec.result;
  reads = c.read_spec.ensures world.tgff world.arch loaded.tgff loaded.arch;
  rest = c.front_spec.ensures;
}
