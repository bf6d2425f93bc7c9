use Rattle.dse_run.proofs.decode.decode.Goals as goal

pub returns : goal.returns
returns c = λ world loaded. record {
  reading = c.read_spec.result;
  reads = c.read_spec.ensures world.tgff world.arch loaded.tgff loaded.arch;
  rest = c.decode_spec.ensures world loaded.third;
}
