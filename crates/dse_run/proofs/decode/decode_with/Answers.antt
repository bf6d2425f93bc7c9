use Rattle.dse_run.proofs.decode.decode_with.Goals as goal

pub returns : goal.returns
returns c = λ world third. record {
  reading = c.read_genes.result;
  reads = c.read_genes.ensures.reads world.third third;
  rest = c.decode_genes.ensures;
}
