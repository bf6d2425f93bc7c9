use Rattle.front_archive.proofs.Places.{each_place, by_places, same_both}
use Rattle.front_archive.proofs.laws.law_of_vectors.Goals as goal

pub returns-clause-at_most : goal.returns-clause-at_most
returns-clause-at_most c u v long = (each_place u v, by_places u v long)

pub returns-clause-same : goal.returns-clause-same
returns-clause-same c = same_both
