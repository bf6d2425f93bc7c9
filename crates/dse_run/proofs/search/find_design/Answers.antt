use Rattle.std.proofs.Common.{◌≡◌, ◌+◌, ℕ, ap, length}
use Rattle.spec_model.specs.Spec.{SpecValue}
use Rattle.encode_model.specs.Encoding.{encoding}
use Rattle.sat_decoder.specs.Decoder.{DecoderValue}
use Rattle.dse_run.proofs.Searched.{empty, searched_from}
use Rattle.dse_run.proofs.search.find_design.Goals as goal

pub returns : goal.returns
returns c =
    let s : SpecValue = c.args.spec.now in
    let first : ℕ = length (encoding s) + 1 in
    let spec_is : c.in_ok-decoder.decoder.spec ≡ s = ap (λ (d : DecoderValue). d.spec) c.in_ok-decoder.ensures in
    let log_is : c.in_ok-decoder.decoder.log ≡ empty first = ap (λ (d : DecoderValue). d.log) c.in_ok-decoder.ensures in
    searched_from s c.in_ok-decoder.decoder.spec c.args.genotype.now c.args.budget c.unwrap_or.result c.in_ok-decoded.decoded first c.in_ok-decoder.decoder.log c.decode.new.self.log
    c.into_log-log.result
    spec_is log_is c.into_log-log.ensures.log c.unwrap_or.ensures (c.law_of_frames.ensures.frame s c.facts.ensures)
    c.in_ok-decoded.ensures.answer c.in_ok-decoded.ensures.count c.in_ok-decoded.ensures.log c.in_ok-decoded.ensures.shown
    (rw c.learned-learned.ensures.value at c.learned-learned.ensures.small)
