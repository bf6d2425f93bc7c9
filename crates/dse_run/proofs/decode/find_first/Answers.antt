use Rattle.dse_run.proofs.decode.find_first.Goals as goal

pub outcome_of-requires : goal.outcome_of-requires
outcome_of-requires c = record { searched = c.in_ok-decoded.ensures }
